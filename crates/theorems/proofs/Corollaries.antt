-- What the theorems say of one call of the joint run, in the terms of its contract.
-- Assumes nothing.
use Prim.Native.Nat.{ℕ}
use mathlib.Core.Path.{◌≡◌, ap}
use mathlib.Core.List.{List}
use Rattle.algebra.specs.Ops.{Ops}
use Rattle.algebra.specs.Field.{Field}
use Rattle.field.specs.Words.{ops}
use Rattle.field.proofs.Laws.{laws}
use Rattle.circuit.specs.Verdict.{Accepted}
use Rattle.circuit.specs.Gate.{gates}
use Rattle.protocol.specs.Position.{Point, finished}
use Rattle.protocol.specs.Send.{overwrite}
use Rattle.protocol.specs.Entry.{leave}
use Rattle.protocol.specs.Joint.{Joint}
use Rattle.protocol.specs.Run.{whole}
use Rattle.protocol.specs.JointEntry.{Done, ended, jointly, verdict, joint_answer, joint_outputs}
use Rattle.protocol.specs.Plain.{scores}
use Rattle.protocol.specs.Formula.{round_formula}
use Rattle.theorems.specs.Premises.{Honest}
use Rattle.theorems.specs.Accuracy.{Accurate}
use Rattle.theorems.proofs.Accuracy.{accuracy}

module _ {O : Ops} (F : Field O) (J : Joint) (scratch t o : List ℕ) (honest : Honest O J scratch) (e : verdict O J scratch t o ≡ Accepted) where
  accurate : Accurate O J scratch
  accurate = accuracy F J scratch honest

  -- With good preprocessing a call that is not refused finishes, in the rounds of the formula ..
  pub call_finishes : joint_answer O J scratch t o ≡ Done (round_formula J.circuit)
  unfolding joint_answer jointly ended finished
  call_finishes =
      rw (e, accurate.rounds) (ap (λ (x : Point). ended x.stage x.gate (whole O J scratch).last.blame (round_formula J.circuit)) accurate.finishes)

  -- .. and the outputs that it writes are the scores on plain inputs.
  pub call_writes_scores : joint_outputs O J scratch t o ≡ overwrite (scores O J (gates J.circuit)) o
  unfolding joint_outputs leave
  call_writes_scores = rw e (ap (λ (ws : List ℕ). overwrite ws o) accurate.outputs)

-- Both at the operations that the contract of `joint_run` cites.
pub call_finishes_here : (J : Joint) (scratch t o : List ℕ) → Honest ops J scratch → verdict ops J scratch t o ≡ Accepted
    → joint_answer ops J scratch t o ≡ Done (round_formula J.circuit)
call_finishes_here = call_finishes laws

pub call_writes_scores_here : (J : Joint) (scratch t o : List ℕ) → Honest ops J scratch → verdict ops J scratch t o ≡ Accepted
    → joint_outputs ops J scratch t o ≡ overwrite (scores ops J (gates J.circuit)) o
call_writes_scores_here = call_writes_scores laws
