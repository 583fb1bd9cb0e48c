-- Where every gate stays, the values of whole numbers lie within the intervals, and are those of the field.
-- Assumes nothing.
use Prim.Native.Nat.{ℕ, zero, suc, ◌<◌, ◌≤◌}
use mathlib.Core.Path.{◌≡◌, refl, ap}
use mathlib.Core.Logic.{⊎_elim}
use mathlib.Core.Bool.{true}
use mathlib.Core.List.{List, [], ◌∷◌, ◌++◌}
use native.Mathlib.Nat.{le_of_suc-le-suc, eq-or-lt_of_le}
use native.Mathlib.Omega.{arith}
use lib.ListN.{length, get_or}
use Rattle.algebra.specs.Ops.{Ops}
use Rattle.circuit.specs.Gate.{gate, gates}
use Rattle.circuit.specs.Kind.{is_in}
use Rattle.circuit.specs.Valid.{Valid}
use Rattle.circuit.proofs.KindLaws.{class_is}
use Rattle.circuit.proofs.Gates.{first_fits, second_fits}
use Rattle.protocol.specs.Joint.{Joint}
use Rattle.protocol.specs.Plain.{value_of, plain_input, values}
use Rattle.ranges.specs.Interval.{interval_at, range_at, reach, intervals, gate_stays}
use Rattle.ranges.specs.Whole.{whole_numbers, Counting, Within}
use Rattle.ranges.proofs.Growing.{one_length, one_earlier, one_last}
use Rattle.ranges.proofs.Reaching.{told, interval_last, interval_earlier}
use Rattle.ranges.proofs.ByKind.{whole_of, Sound, Fine, kind_fine}

-- the whole number of gate j, where the gates before it have those numbers
abbrev pub whole_at : List ℕ → (ℕ → ℕ) → List ℕ → ℕ → ℕ
whole_at c input l j = whole_of (gate c j).kind (input j) (get_or l (gate c j).first 0) (get_or l (gate c j).second 0) (gate c j).constant

-- vs j are the whole numbers of the gates before j, on these inputs
pub record Evaluates (c : List ℕ) (input : ℕ → ℕ) (vs : ℕ → List ℕ) : Type 0 where
  pub none : vs 0 ≡ []
  pub more : (j : ℕ) → vs (suc j) ≡ vs j ++ (whole_at c input (vs j) j ∷ [])

pub evaluates : (J : Joint) {c : List ℕ} → J.circuit ≡ c → Evaluates c (plain_input whole_numbers J) (values whole_numbers J)
unfolding values value_of
evaluates J e = record { none = refl; more = λ j. rw (← e) }

-- every gate of an accepted circuit stays, and the inputs are in range
module _ {O : Ops} (W : Counting O) {n : ℕ} {c : List ℕ} (ranges : List ℕ) (ok : Valid n O.size c)
    (all : (j : ℕ) → j < gates c → gate_stays O.size c ranges j ≡ true) {input : ℕ → ℕ} {vs : ℕ → List ℕ} (ev : Evaluates c input vs)
    (inside : (j : ℕ) → j < gates c → is_in (gate c j) ≡ true → Within (range_at c ranges j) (input j)) where
  open O use {size}

  -- the first j gates are worked out
  pub record Worked (j : ℕ) : Type 0 where
    pub long : length (vs j) ≡ j
    pub within : (x : ℕ) → x < j → Within (interval_at (intervals size c ranges j) x) (get_or (vs j) x 0)
    pub low : (x : ℕ) → x < j → (interval_at (intervals size c ranges j) x).highest < size

  module _ (j : ℕ) (h : j < gates c) (w : Worked j) where
    pub sound : Sound (gate c j).kind (range_at c ranges j) (interval_at (intervals size c ranges j) (gate c j).first) (interval_at (intervals size c ranges j) (gate c j).second) (input j)
        (get_or (vs j) (gate c j).first 0) (get_or (vs j) (gate c j).second 0)
    sound =
        record {
          own = λ e. inside j h (class_is e);
          first = λ e. w.within _ (first_fits ok j h e).earlier;
          second = λ e. w.within _ (second_fits ok j h e).earlier;
        }

    pub made : Fine O (gate c j).kind (told (reach size c ranges (intervals size c ranges j) j)) (input j) (get_or (vs j) (gate c j).first 0) (get_or (vs j) (gate c j).second 0)
        (gate c j).constant
    unfolding reach gate_stays
    made = kind_fine W _ _ _ _ _ _ _ _ (all j h) sound

    worked_more : Worked (suc j)
    worked_more =
        record {
          long = rw (ev.more j) (one_length (vs j) _ w.long);
          within = λ x l. ⊎_elim
              (λ e. rw e (rw (interval_last size c ranges j, ev.more j, one_last (vs j) (whole_at c input (vs j) j) w.long) made.within))
              (λ g. rw (interval_earlier size c ranges j x g, ev.more j, one_earlier (vs j) (whole_at c input (vs j) j) w.long x g) (w.within x g))
              (eq-or-lt_of_le (le_of_suc-le-suc l));
          low = λ x l. ⊎_elim
              (λ e. rw e (rw (interval_last size c ranges j) made.low))
              (λ g. rw (interval_earlier size c ranges j x g) (w.low x g))
              (eq-or-lt_of_le (le_of_suc-le-suc l));
        }

  pub worked : (j : ℕ) → j ≤ gates c → Worked j
  worked zero h = record { long = ap length ev.none; within = λ x l. absurd (omega arith); low = λ x l. absurd (omega arith) }
  worked (suc j) h = worked_more j h (worked j (omega arith))

-- the values of the field
module _ {O : Ops} (W : Counting O) (J : Joint) {n : ℕ} (ranges : List ℕ) (ok : Valid n O.size J.circuit)
    (all : (j : ℕ) → j < gates J.circuit → gate_stays O.size J.circuit ranges j ≡ true)
    (inside : (j : ℕ) → j < gates J.circuit → is_in (gate J.circuit j) ≡ true → Within (range_at J.circuit ranges j) (plain_input whole_numbers J j)) where
  pub values_whole : (j : ℕ) → j ≤ gates J.circuit → values O J j ≡ values whole_numbers J j
  unfolding values value_of plain_input
  values_whole zero h = refl
  values_whole (suc j) h =
      let e = values_whole j (omega arith) in
      let ev = evaluates J refl in
      rw e (ap (λ (a : ℕ). values whole_numbers J j ++ (a ∷ [])) (made W ranges ok all ev inside j h (worked W ranges ok all ev inside j (omega arith))).same)
