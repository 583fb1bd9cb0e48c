-- The entry: what is refused leaves all as it was, and what is accepted is run.
-- Assumes nothing.
use Prim.Native.Nat.{ℕ, ◌≤◌}
use mathlib.Core.Path.{◌≡◌, refl, sym, ap, subst, ◌∙◌}
use mathlib.Core.List.{List}
use lib.ListN.{length}
use Rattle.field.specs.Words.{size, ops}
use Rattle.circuit.specs.Verdict.{Verdict, Accepted, Refused}
use Rattle.circuit.specs.Gate.{gates}
use Rattle.circuit.specs.Valid.{Valid}
use Rattle.circuit.specs.Code.{Totalled}
use Rattle.circuit.specs.declared.Totals.{Totals}
use Rattle.circuit.proofs.Verdicts.{then_refused, then_passed}
use Rattle.protocol.specs.Ask.{most_parties}
use Rattle.protocol.specs.Entry.{leave}
use Rattle.protocol.specs.Joint.{Joint}
use Rattle.protocol.specs.JointAsk.{ask_joint}
use Rattle.protocol.specs.JointEntry.{JointAnswer, Refusal, jointly, verdict, joint_answer, joint_scratch, joint_transcript, joint_outputs}
use Rattle.joint.specs.declared.Ending.{Ending}
use Rattle.joint.specs.declared.Frame.{Frame}
use Rattle.joint.specs.Code.{joint_of, ending_of, Placed, Framed, Runnable, Ran}
use Rattle.joint.proofs.Measures.{gates_are}
use Rattle.joint.proofs.Accepting.{setting_of, lent_of, asked, Settled, settled, accepted_runnable}

-- what the entry ensures
abbrev Ensured : Joint → List ℕ → List ℕ → List ℕ → JointAnswer → List ℕ → List ℕ → List ℕ → Type 0
Ensured J l t o a l' t' o' =
    (a ≡ joint_answer ops J l t o)
    × ((l' ≡ joint_scratch ops J l t o) × ((t' ≡ joint_transcript ops J l t o) × (o' ≡ joint_outputs ops J l t o)))

-- what is asked of the frame
pub frame_asked : {n : ℕ} {c : List ℕ} {f : Frame} {m : ℕ} {t : Totals} → Settled n c → Framed n c f → m ≡ gates c → Totalled c m t
    → Valid f.parties size c × (f.parties ≤ most_parties) × Framed f.parties c f × Totalled c f.layout.gates t
frame_asked {c = c} {f = f} {t = t} s framed count all =
    subst (λ (k : ℕ). Valid k size c × (k ≤ most_parties) × Framed k c f × Totalled c f.layout.gates t) (sym framed.parties)
    (s.valid, s.few, framed, rw (gates_are s.valid framed, ← count) all)

module _ (J : Joint) (l t o : List ℕ) where
  entry_refused : {number index : ℕ} → ask_joint size J l (length t) (length o) ≡ Refused number index → Ensured J l t o (Refusal number index) l t o
  unfolding joint_answer joint_scratch joint_transcript joint_outputs verdict jointly leave
  entry_refused e = (rw e, (rw e, (rw e, rw e)))

  entry_ran : ask_joint size J l (length t) (length o) ≡ Accepted → {a : Ending} {l' t' o' : List ℕ} → Ran J l t o a l' t' o'
      → Ensured J l t o (ending_of a) l' t' o'
  unfolding joint_answer joint_scratch joint_transcript joint_outputs verdict jointly leave
  entry_ran e d = (rw e d.answer, (rw e d.scratch, (rw e d.transcript, rw e d.outputs)))

  -- the first group refuses ..
  pub setting_refused : {number index : ℕ} → setting_of J.parties J.circuit ≡ Refused number index → Ensured J l t o (Refusal number index) l t o
  setting_refused e = entry_refused (sym (asked J l (length t) (length o)) ∙ then_refused _ e)

-- .. or accepts. The frame of n parties has that number
module _ (n : ℕ) (c preps inputs coefficients nonces l t o : List ℕ) (s : setting_of n c ≡ Accepted) (f : Frame) (framed : Framed n c f) where
  abbrev J : Joint
  J = joint_of n c preps inputs coefficients nonces

  abbrev lent : Verdict
  lent = lent_of f.parties c preps inputs (length l) coefficients (length nonces) (length t) (length o)

  lent_is : lent ≡ ask_joint size J l (length t) (length o)
  lent_is =
      ap (λ (k : ℕ). lent_of k c preps inputs (length l) coefficients (length nonces) (length t) (length o)) framed.parties
      ∙ sym (then_passed _ s)
      ∙ asked J l (length t) (length o)

  pub lent_refused : {number index : ℕ} → lent ≡ Refused number index → Ensured J l t o (Refusal number index) l t o
  lent_refused e = entry_refused J l t o (sym lent_is ∙ e)

  module _ (e : lent ≡ Accepted) where
    pub entry_runs : {starts : List ℕ} → Placed n c 0 starts → Runnable (joint_of f.parties c preps inputs coefficients nonces) f l t o × Placed f.parties c 0 starts
    entry_runs {starts} places =
        subst (λ (k : ℕ). Runnable (joint_of k c preps inputs coefficients nonces) f l t o × Placed k c 0 starts) (sym framed.parties)
        (accepted_runnable J l (length t) (length o) (settled n c s) accepted f t o framed refl refl, places)
      where
        accepted : lent_of n c preps inputs (length l) coefficients (length nonces) (length t) (length o) ≡ Accepted
        accepted = rw framed.parties at e

    pub entry_left : {a : Ending} {l' t' o' : List ℕ} → Ran (joint_of f.parties c preps inputs coefficients nonces) l t o a l' t' o'
        → Ensured J l t o (ending_of a) l' t' o'
    entry_left {a} {l'} {t'} {o'} d =
        entry_ran J l t o (sym lent_is ∙ e)
        (subst (λ (k : ℕ). Ran (joint_of k c preps inputs coefficients nonces) l t o a l' t' o') framed.parties d)
