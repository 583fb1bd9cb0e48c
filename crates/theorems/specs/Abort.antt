-- Demand 2: "A check stops a run exactly if the revealed words do not sum to zero". Of any preprocessing, good or not. In a joint run every reveal
-- fits its mark, so that "the sum alone decides" and no stop names a party.
-- Assumes nothing.
use Rattle.std.specs.Prelude.{ℕ, suc, ◌≡◌, true, List, ◌++◌}
use Rattle.algebra.specs.Ops.{Ops}
use Rattle.circuit.specs.Round.{Round, is_reveal, reveal_words}
use Rattle.protocol.specs.Position.{Send, finished, aborted}
use Rattle.protocol.specs.Receive.{Blame, Nobody, heard_sum}
use Rattle.protocol.specs.Joint.{Joint}
use Rattle.protocol.specs.Run.{said, run, begun, whole}
use Rattle.protocol.specs.JointEntry.{Aborted, joint_answer}
use Rattle.theorems.specs.Premises.{after}

module _ (O : Ops) (J : Joint) (scratch : List ℕ) where
  -- the sum of the check shares revealed in round r after k rounds
  abbrev pub revealed : ℕ → Round → ℕ
  revealed k r = heard_sum O J.parties reveal_words 0 (said O J (after O J scratch k) r)

  -- round k is a check whose revealed check shares do not sum to zero
  pub record Fails (k : ℕ) (r : Round) : Type 0 where
    pub sending : (after O J scratch k).point.stage ≡ Send r
    pub reveals : is_reveal r ≡ true
    pub nonzero : revealed k r ≡ 0 → ⊥

  -- the run stopped at that check: it names its gate and no party, the failing reveal is the last round of the transcript, and neither the scratch
  -- nor the outputs are written after it
  pub record StopsAt (k : ℕ) (r : Round) : Type 0 where
    pub rounds : (whole O J scratch).rounds ≡ suc k
    pub point : (whole O J scratch).last.point ≡ aborted (after O J scratch k).point.gate
    pub blame : (whole O J scratch).last.blame ≡ Nobody
    pub bands : (i : ℕ) → (whole O J scratch).last.scratch i ≡ (after O J scratch k).scratch i
    pub outputs : (whole O J scratch).outputs ≡ (run O J k (begun O J scratch)).outputs
    pub transcript : (whole O J scratch).transcript ≡ (run O J k (begun O J scratch)).transcript ++ said O J (after O J scratch k) r

  pub record Stops : Type 0 where
    -- a failing check stops the run there
    pub stops : (k : ℕ) (r : Round) → Fails k r → StopsAt k r
    -- and nothing else does: where no check fails, the run finishes
    pub finishes : ((k : ℕ) (r : Round) → Fails k r → ⊥) → (whole O J scratch).last.point ≡ finished J.circuit

-- whatever a joint run is lent, a stop that it answers names no party
abbrev pub NamesNobody : Ops → Type 0
NamesNobody O =
    (J : Joint) (scratch transcript outputs : List ℕ) (gate : ℕ) (blame : Blame) (rounds : ℕ)
    → joint_answer O J scratch transcript outputs ≡ Aborted gate blame rounds
    → blame ≡ Nobody
