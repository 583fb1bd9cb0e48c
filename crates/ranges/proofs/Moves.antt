-- The whole numbers of two runs, whose inputs are near each other, are as near as the moves say.
-- Assumes nothing.
use Prim.Native.Nat.{ℕ, zero, suc, ◌<◌, ◌≤◌}
use mathlib.Core.Path.{◌≡◌, refl, ◌∙◌}
use mathlib.Core.Logic.{⊎_elim}
use mathlib.Core.Bool.{true}
use mathlib.Core.List.{List, [], ◌∷◌, ◌++◌}
use native.Mathlib.Nat.{le_of_suc-le-suc, eq-or-lt_of_le}
use native.Mathlib.Omega.{arith}
use lib.ListN.{length, get_or}
use Rattle.algebra.specs.Ops.{Ops}
use Rattle.circuit.specs.Gate.{gate, gates}
use Rattle.circuit.specs.Kind.{is_in}
use Rattle.circuit.specs.Valid.{Valid}
use Rattle.circuit.proofs.KindLaws.{class_is}
use Rattle.circuit.proofs.Gates.{first_fits, second_fits}
use Rattle.ranges.specs.Interval.{range_at, reach, intervals, gate_stays}
use Rattle.ranges.specs.Move.{Change, change_at, gate_move, moves, score_moves}
use Rattle.ranges.specs.Whole.{Counting, Within, Near}
use Rattle.ranges.proofs.Growing.{one_length, one_earlier, one_last}
use Rattle.ranges.proofs.ByKind.{Close, kind_near, near_capped}
use Rattle.ranges.proofs.Values.{whole_at, Evaluates, Worked, sound, made, worked}
use Rattle.ranges.proofs.Listed.{Listed}

-- the moves of the gates before one stay as they are
module _ (q : ℕ) (c ranges : List ℕ) (change : Change) where
  pub moves_more : (j : ℕ)
      → moves q c ranges change (suc j)
      ≡ moves q c ranges change j ++ (gate_move q c ranges change (intervals q c ranges j) (moves q c ranges change j) j ∷ [])
  unfolding moves
  moves_more j = refl

  pub moves_length : (j : ℕ) → length (moves q c ranges change j) ≡ j
  unfolding moves
  moves_length zero = refl
  moves_length (suc j) = one_length (moves q c ranges change j) _ (moves_length j)

  pub move_last : (j : ℕ)
      → get_or (moves q c ranges change (suc j)) j 0 ≡ gate_move q c ranges change (intervals q c ranges j) (moves q c ranges change j) j
  move_last j = rw moves_more (one_last (moves q c ranges change j) _ (moves_length j))

  pub move_earlier : (j x : ℕ) → x < j → get_or (moves q c ranges change (suc j)) x 0 ≡ get_or (moves q c ranges change j) x 0
  move_earlier j x h = rw moves_more (one_earlier (moves q c ranges change j) _ (moves_length j) x h)

  pub move_kept : (m j x : ℕ) → x < j → j ≤ m → get_or (moves q c ranges change m) x 0 ≡ get_or (moves q c ranges change j) x 0
  move_kept zero j x h l = absurd (omega arith)
  move_kept (suc m) j x h l =
      ⊎_elim (λ e. rw e) (λ g. move_earlier m x (omega arith) ∙ move_kept m j x h (le_of_suc-le-suc g)) (eq-or-lt_of_le l)

  pub score_moves_listed : Listed c (λ j. get_or (moves q c ranges change (gates c)) (gate c j).first 0) (score_moves q c ranges change)
  unfolding score_moves
  score_moves_listed = record { none = refl; more = λ j. refl }

module _ {O : Ops} (W : Counting O) {n : ℕ} {c : List ℕ} (ranges : List ℕ) (ok : Valid n O.size c)
    (all : (j : ℕ) → j < gates c → gate_stays O.size c ranges j ≡ true) (change : Change)
    {input input' : ℕ → ℕ} {vs ws : ℕ → List ℕ} (ev : Evaluates c input vs) (ew : Evaluates c input' ws)
    (inside : (j : ℕ) → j < gates c → is_in (gate c j) ≡ true → Within (range_at c ranges j) (input j))
    (inside' : (j : ℕ) → j < gates c → is_in (gate c j) ≡ true → Within (range_at c ranges j) (input' j))
    (own : (j : ℕ) → j < gates c → is_in (gate c j) ≡ true → Near (change_at change j) (input j) (input' j)) where
  open O use {size}

  abbrev one : (j : ℕ) → j ≤ gates c → Worked W ranges ok all ev inside j
  one = worked W ranges ok all ev inside

  abbrev other : (j : ℕ) → j ≤ gates c → Worked W ranges ok all ew inside' j
  other = worked W ranges ok all ew inside'

  abbrev pub Nearby : ℕ → Type 0
  Nearby j = (x : ℕ) → x < j → Near (get_or (moves size c ranges change j) x 0) (get_or (vs j) x 0) (get_or (ws j) x 0)

  module _ (j : ℕ) (h : j < gates c) (near : Nearby j) where
    low : j ≤ gates c
    low = omega arith

    close : Close (gate c j).kind (change_at change j) (get_or (moves size c ranges change j) (gate c j).first 0)
        (get_or (moves size c ranges change j) (gate c j).second 0) (input j) (input' j)
        (get_or (vs j) (gate c j).first 0) (get_or (ws j) (gate c j).first 0) (get_or (vs j) (gate c j).second 0) (get_or (ws j) (gate c j).second 0)
    close =
        record {
          own = λ e. own j h (class_is e);
          first = λ e. near _ (first_fits ok j h e).earlier;
          second = λ e. near _ (second_fits ok j h e).earlier;
        }

    near_here : Near (gate_move size c ranges change (intervals size c ranges j) (moves size c ranges change j) j) (whole_at c input (vs j) j) (whole_at c input' (ws j) j)
    unfolding gate_move reach gate_stays
    near_here =
        let mine = made W ranges ok all ev inside j h (one j low) in
        let theirs = made W ranges ok all ew inside' j h (other j low) in
        near_capped size _ (omega (arith, mine.within.high, mine.low)) (omega (arith, theirs.within.high, theirs.low))
        (kind_near size _ _ _ _ _ _ _ _ _ _ _ _ _ _ (all j h) (sound W ranges ok all ev inside j h (one j low)) (sound W ranges ok all ew inside' j h (other j low)) close)

    near_more : Nearby (suc j)
    near_more x l =
        ⊎_elim
        (λ e. rw e (rw (
          move_last size c ranges change j,
          ev.more j,
          one_last (vs j) (whole_at c input (vs j) j) (one j low).long,
          ew.more j,
          one_last (ws j) (whole_at c input' (ws j) j) (other j low).long,
        ) near_here))
        (λ g. rw (
          move_earlier size c ranges change j x g,
          ev.more j,
          one_earlier (vs j) (whole_at c input (vs j) j) (one j low).long x g,
          ew.more j,
          one_earlier (ws j) (whole_at c input' (ws j) j) (other j low).long x g,
        ) (near x g))
        (eq-or-lt_of_le (le_of_suc-le-suc l))

  pub nearby : (j : ℕ) → j ≤ gates c → Nearby j
  nearby zero h = λ x l. absurd (omega arith)
  nearby (suc j) h = near_more j h (nearby j (omega arith))
