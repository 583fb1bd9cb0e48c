-- Document 02's range tool and runs together: where the tool says that a circuit fits, "every score equals the whole-number result for all inputs in
-- range", of a joint run and of parties apart; and the scores of two runs whose inputs differ at one in gate differ by no more than its move.
-- Assumes nothing.
use Rattle.std.specs.Prelude.{ℕ, ◌<◌, ◌≡◌, List, [], ◌∷◌, get_or, replicate}
use Rattle.algebra.specs.Ops.{Ops}
use Rattle.circuit.specs.Verdict.{Accepted}
use Rattle.circuit.specs.Gate.{gates}
use Rattle.circuit.specs.Kind.{alone}
use Rattle.circuit.specs.Count.{out_count}
use Rattle.protocol.specs.Send.{overwrite}
use Rattle.protocol.specs.Joint.{Joint}
use Rattle.protocol.specs.Run.{whole}
use Rattle.protocol.specs.JointEntry.{verdict, joint_outputs}
use Rattle.protocol.specs.Plain.{scores_seen, scores}
use Rattle.protocol.specs.Formula.{round_formula}
use Rattle.protocol.specs.Docket.{circuit, docket, rooms}
use Rattle.ranges.specs.Move.{Change, Nothing, Of}
use Rattle.ranges.specs.Entry.{Leaves, fit_answer}
use Rattle.ranges.specs.Whole.{whole_numbers, InRange, asking, ItFits, Near, Changed, move_told}
use Rattle.theorems.specs.Premises.{Honest}
use Rattle.theorems.specs.Apart.{Apart, outputs_in, apart, jointly, Meets}
use Rattle.theorems.specs.ApartDemands.{GoodApart}

module _ (O : Ops) where
  -- a run with good preprocessing, on inputs in range, of a circuit of which the tool says that it fits; es and ms are the tool's lists
  pub record Sure (J : Joint) (scratch ranges : List ℕ) (change : Change) (es ms : List ℕ) : Type 0 where
    pub honest : Honest O J scratch
    pub inside : InRange J ranges
    pub fits : ItFits O J ranges change es ms

  -- the scores of the joint run are the whole numbers themselves, and so is what a call that is not refused writes
  pub record ScoredWhole (J : Joint) (scratch : List ℕ) : Type 0 where
    pub outputs : (whole O J scratch).outputs ≡ scores whole_numbers J (gates J.circuit)
    pub written : (t o : List ℕ)
        → verdict O J scratch t o ≡ Accepted
        → joint_outputs O J scratch t o ≡ overwrite (scores whole_numbers J (gates J.circuit)) o

  abbrev pub RunsWhole : Type 0
  RunsWhole =
      (J : Joint) (scratch ranges : List ℕ) (change : Change) (es ms : List ℕ)
      → Sure J scratch ranges change es ms
      → ScoredWhole J scratch

  -- two such runs whose inputs differ at gate line alone, by at most amount: score s differs by at most the move that is told of it, whatever the
  -- preprocessing, coefficients, nonces and scratch of each
  abbrev pub RunsMove : Type 0
  RunsMove =
      (J K : Joint) (scratch scratch' ranges : List ℕ) (line amount : ℕ) (es ms : List ℕ)
      → Sure J scratch ranges (Of line amount) es ms
      → Sure K scratch' ranges (Of line amount) es ms
      → Changed J K line amount
      → (s : ℕ)
      → s < out_count J.circuit
      → Near (move_told O J ranges (Of line amount) es ms s) (get_or (whole O J scratch).outputs s 0) (get_or (whole O K scratch').outputs s 0)

  -- parties apart: each releases the whole numbers of the scores that it sees
  abbrev pub ApartWhole : Type 0
  ApartWhole =
      (D : Apart) (coefficients nonces ranges : List ℕ) (change : Change) (es ms : List ℕ)
      → Meets O D coefficients nonces
      → GoodApart O D
      → InRange (jointly D coefficients nonces) ranges
      → ItFits O (jointly D coefficients nonces) ranges change es ms
      → (i : ℕ)
      → i < D.parties
      → outputs_in (apart O D (round_formula D.circuit) i).answers ≡ scores_seen whole_numbers (jointly D coefficients nonces) (alone i) (gates D.circuit)

-- the docket on other inputs
abbrev pub docket_on : ℕ → ℕ → Joint
docket_on x y =
    record {
      parties = docket.parties;
      circuit = docket.circuit;
      preps = docket.preps;
      inputs = x ∷ y ∷ [];
      coefficients = docket.coefficients;
      nonces = docket.nonces;
    }

-- where the first input is from 0 to 100 and the second from 0 to 1000
abbrev pub counts : List ℕ
counts = 0 ∷ 100 ∷ 0 ∷ 1000 ∷ []

-- lists for the intervals and for the one score's move
abbrev pub places : List ℕ
places = replicate 8 0

abbrev pub place : List ℕ
place = replicate 1 0

-- the promises are of something: the docket fits, its score is 30, and on 8 in place of 5 it is 48, which is within the move 5000 that is told of a
-- change by 5. And they need the answer that it fits: on 46341 twice, up to which it does not, the score wraps round
pub record FittedDocket (O : Ops) : Type 0 where
  pub sure : Sure O docket rooms counts (Of 0 5) places place
  pub sure' : Sure O (docket_on 8 6) rooms counts (Of 0 5) places place
  pub changed : Changed docket (docket_on 8 6) 0 5
  pub score : (whole O docket rooms).outputs ≡ 30 ∷ []
  pub score' : (whole O (docket_on 8 6) rooms).outputs ≡ 48 ∷ []
  pub told : move_told O docket counts (Of 0 5) places place 0 ≡ 5000
  pub leaves : fit_answer O.size (asking docket (0 ∷ 46341 ∷ 0 ∷ 46341 ∷ []) Nothing) 8 0 ≡ Leaves 2
  pub wraps : scores O (docket_on 46341 46341) (gates circuit) ≡ 4634 ∷ []
  pub unwrapped : scores whole_numbers (docket_on 46341 46341) (gates circuit) ≡ 2147488281 ∷ []
