-- The walk over the gates: what holds before a gate, and how a step past it keeps it.
-- Assumes nothing.
use Prim.Native.Nat.{ℕ, ◌+◌, ◌*◌, ◌<◌, ◌≤◌}
use mathlib.Core.Path.{◌≡◌, refl, sym, ap, ◌∙◌}
use mathlib.Core.Bool.{Bool, true, false, cond, not}
use mathlib.Core.List.{List, [], ◌∷◌, ◌++◌}
use native.Mathlib.Numerals.{add-one}
use native.Mathlib.Omega.{arith}
use lib.Dec.{ltb, eqb}
use lib.ListN.{length, get_or, set, length-set, get_or-eq_default}
use lib.Seq.{get_or-set_same, get_or-set_other}
use borrow.Author.Tests.{ltb-true, ltb-false, eqb-true, eqb-false}
use borrow.Author.Count.{below_more}
use Rattle.algebra.specs.Element.{Is}
use Rattle.field.specs.Words.{size}
use Rattle.circuit.specs.Gate.{gate_size, gate, gates}
use Rattle.circuit.specs.Kind.{is_in, is_out, has_value}
use Rattle.circuit.specs.Count.{total, count, in_count}
use Rattle.circuit.specs.Accept.{most_gates}
use Rattle.circuit.proofs.Tests.{by_cases}
use Rattle.circuit.proofs.Counts.{total_mono, count_more}
use Rattle.ranges.specs.Interval.{interval, interval_size, interval_at, Reach, Stays, Leaves, stays, ends as ends_of, reach, intervals, gate_stays}
use Rattle.ranges.specs.Move as M
use Rattle.ranges.specs.Move.{Of, gate_move, moves, score_moves}
use Rattle.ranges.specs.Entry as E
use Rattle.ranges.specs.Entry.{finding}
use Rattle.ranges.proofs.Growing.{pair_earlier, pair_last}
use Rattle.ranges.proofs.Reaching.{intervals_length}
use Rattle.ranges.proofs.Asked.{finding_all, finding_first}
use Rattle.ranges.proofs.Listed.{listed_length, listed_out, listed_other, count_out, count_other}
use Rattle.ranges.proofs.Moves.{moves_more, moves_length, move_kept, score_moves_listed}
use Rattle.fit.specs.Code.{Fair, Named, Held, interval_room, move_room, Tame, Blank, Tracked, Kept, Stepped}
use Rattle.fit.specs.declared.working.Worked.{Worked}
use Rattle.fit.proofs.Holding.{held_push, held_pair, held_interval}

-- an output is what has no value
pub out_said : (c : List ℕ) (j : ℕ) {r b : Bool} → r ≡ has_value (gate c j) → not r ≡ b → is_out (gate c j) ≡ b
out_said c j {r} e h = sym (not_not (is_out (gate c j))) ∙ ap not (sym e) ∙ h
  where
    not_not : (b : Bool) → not (not b) ≡ b
    not_not true = refl
    not_not false = refl

-- a gate whose numbers are there is one of the circuit's
pub gates_within : (c : List ℕ) (j : ℕ) → gate_size * j + gate_size ≤ length c → j < gates c
unfolding gates
gates_within c j h = omega arith

pub gates_there : (c : List ℕ) → gates c * gate_size ≤ length c
unfolding gates
gates_there c = omega arith

-- one gate --------------------------------------------------------------------------------------------------------------

module _ (c : List ℕ) (line amount : ℕ) (j : ℕ) (some : j < gates c) (few : j < most_gates) (tame : Tame c j) {m : ℕ} (w w' : Worked)
    (made : (ranges : List ℕ) → Is size (gate_move size c ranges (Of line amount) w.ends w.moves j) m) (put : w'.moves ≡ set w.moves j m) where
  -- moves stay elements
  set_low : ((x : ℕ) → get_or w.moves x 0 < size) → (x : ℕ) → get_or w'.moves x 0 < size
  set_low low x =
      rw put
      (by_cases (eqb x j)
      (λ e. by_cases (ltb j (length w.moves)) (λ h. rw (eqb-true x j e) (rw (get_or-set_same w.moves j m 0 (ltb-true j (length w.moves) h)) (made []).below))
      (λ h. rw (eqb-true x j e) (rw (get_or-eq_default (set w.moves j m) 0 {n = j} (rw (length-set w.moves j m) (ltb-false j (length w.moves) h))) (omega arith))))
      (λ e. rw (get_or-set_other w.moves j x m 0 (eqb-false x j e)) (low x)))

  module _ (ranges : List ℕ) (h : Held interval_room w.ends (intervals size c ranges j)) where
    -- the move that is worked out of the lists is that of the definition
    move_is : Held move_room w.moves (moves size c ranges (Of line amount) j)
        → m ≡ gate_move size c ranges (Of line amount) (intervals size c ranges j) (moves size c ranges (Of line amount) j) j
    unfolding gate_move
    move_is t =
        (made ranges).is
        ∙ rw (held_interval h (gate c j).first, held_interval h (gate c j).second, t.at (gate c j).first, t.at (gate c j).second)

    moves_pushed : Held move_room w.moves (moves size c ranges (Of line amount) j) → Held move_room w'.moves (moves size c ranges (Of line amount) (j + 1))
    moves_pushed t =
        rw (put, add-one, moves_more size c ranges (Of line amount) j, sym (move_is t)) (held_push t j m (moves_length size c ranges (Of line amount) j) few)

    -- an output has a score, whose move is that of the gate that it names
    tracked_out : is_out (gate c j) ≡ true → w.outs ≤ j → w'.scores ≡ set w.scores w.outs (get_or w.moves (gate c j).first 0) → w'.outs ≡ w.outs + 1
        → Tracked c ranges line amount w j → Tracked c ranges line amount w' (j + 1)
    tracked_out e low es eo t =
        let listing = score_moves_listed size c ranges (Of line amount) in
        let same : get_or w.moves (gate c j).first 0 ≡ get_or (moves size c ranges (Of line amount) (gates c)) (gate c j).first 0 =
        t.moved.at (gate c j).first ∙ sym (move_kept size c ranges (Of line amount) (gates c) j (gate c j).first (tame.output e) (omega arith)) in
        record {
          moved = moves_pushed t.moved;
          listed =
              rw (es, add-one, listed_out listing j e, same)
              (held_push t.listed w.outs _ (listed_length listing j ∙ sym t.counted) (omega arith));
          counted = rw (eo, add-one j, count_out c j e) (omega (arith, t.counted));
        }

    -- and no other gate
    tracked_other : is_out (gate c j) ≡ false → w'.scores ≡ w.scores → w'.outs ≡ w.outs
        → Tracked c ranges line amount w j → Tracked c ranges line amount w' (j + 1)
    tracked_other e es eo t =
        record {
          moved = moves_pushed t.moved;
          listed = rw (es, add-one, listed_other (score_moves_listed size c ranges (Of line amount)) j e) t.listed;
          counted = rw (eo, add-one j, count_other c j e) t.counted;
        }

  module _ (same : w'.ends ≡ w.ends) (h : w.outs ≤ j) (low : (x : ℕ) → get_or w.moves x 0 < size) where
    pub stepped_out : {first : ℕ} → first ≡ (gate c j).first → is_out (gate c j) ≡ true → w'.scores ≡ set w.scores w.outs (get_or w.moves first 0) → w'.outs ≡ w.outs + 1
        → Stepped c (Of line amount) j w w'
    stepped_out f e es eo =
        record {
          ends = same;
          moves_long = rw put (length-set w.moves j m);
          scores_long = rw es (length-set w.scores w.outs _);
          low = set_low low;
          few = omega (arith, eo);
          kept = λ ranges held t. tracked_out ranges held e h (es ∙ rw f) eo t;
        }

    pub stepped_other : is_out (gate c j) ≡ false → w'.scores ≡ w.scores → w'.outs ≡ w.outs → Stepped c (Of line amount) j w w'
    stepped_other e es eo =
        record {
          ends = same;
          moves_long = rw put (length-set w.moves j m);
          scores_long = rw es;
          low = set_low low;
          few = omega (arith, eo);
          kept = λ ranges held t. tracked_other ranges held e es eo t;
        }

-- without a change nothing is kept
pub stepped_nothing : (c : List ℕ) (j : ℕ) (w : Worked) → w.outs ≤ j → ((x : ℕ) → get_or w.moves x 0 < size) → Stepped c M.Nothing j w w
stepped_nothing c j w h low =
    record { ends = refl; moves_long = refl; scores_long = refl; low = low; few = omega arith; kept = λ ranges held e. e }

-- all gates -------------------------------------------------------------------------------------------------------------

-- the first j gates are gone past
pub record Course (change : M.Change) (c ranges : List ℕ) (w : Worked) (ins j : ℕ) : Type 0 where
  pub upto : j ≤ gates c
  pub counted : ins ≡ count is_in c j
  pub stayed : (i : ℕ) → i < j → gate_stays size c ranges i ≡ true
  pub held : Held interval_room w.ends (intervals size c ranges j)
  pub fair : (x : ℕ) → Fair (interval_at w.ends x)
  pub moves_long : length w.moves ≡ move_room
  pub scores_long : length w.scores ≡ move_room
  pub low : (x : ℕ) → get_or w.moves x 0 < size
  pub few : w.outs ≤ j
  pub kept : Kept change c ranges w j

pub fair_none : (l : List ℕ) (x : ℕ) → length l ≤ interval_size * x → Fair (interval_at l x)
unfolding interval_at
fair_none l x h =
    record {
      ordered = rw (get_or-eq_default l 0 {n = interval_size * x} h) (omega arith);
      low = rw (get_or-eq_default l 0 {n = interval_size * x + 1} (omega arith)) (omega arith);
    }

kept_none : (change : M.Change) (c ranges : List ℕ) {w : Worked} → Blank w → Kept change c ranges w 0
unfolding M.moves M.score_moves count total
kept_none M.Nothing c ranges b = b.none
kept_none (M.Of line amount) c ranges b = record { moved = b.moves; listed = b.scores; counted = b.none }

-- what is kept is not in the intervals
kept_same : (change : M.Change) (c ranges : List ℕ) (w w' : Worked) (j : ℕ) → w'.moves ≡ w.moves → w'.scores ≡ w.scores → w'.outs ≡ w.outs
    → Kept change c ranges w j → Kept change c ranges w' j
kept_same M.Nothing c ranges w w' j m s o k = o ∙ k
kept_same (M.Of line amount) c ranges w w' j m s o k = record { moved = rw m k.moved; listed = rw s k.listed; counted = o ∙ k.counted }

module _ (change : M.Change) (c ranges : List ℕ) where
  pub course_starts : {w : Worked} → Blank w → Course change c ranges w 0 0
  unfolding intervals count total
  course_starts b =
      record {
        upto = omega arith;
        counted = refl;
        stayed = λ i h. absurd (omega arith);
        held = b.ends;
        fair = λ x. rw (held_interval b.ends x) (fair_none [] x (omega arith));
        moves_long = b.moves.long;
        scores_long = b.scores.long;
        low = λ x. rw (b.moves.at x) (omega arith);
        few = omega (arith, b.none);
        kept = kept_none change c ranges b;
      }

  module _ {w : Worked} {ins j : ℕ} (s : Course change c ranges w ins j) (h : j < gates c) where
    -- the numbers of gate j are there, and those of its range
    pub course_gate : gate_size * j + gate_size ≤ length c
    unfolding gates
    course_gate = omega arith

    pub course_range : length ranges ≡ interval_size * in_count c → interval_size * ins ≤ length ranges
    unfolding in_count count
    course_range e = omega (arith, s.counted, total_mono (λ g. cond (is_in g) 1 0) c j (gates c) (omega arith))

    pub course_named : Tame c j → Named c j w.ends
    course_named t = record { first = omega (arith, t.first, s.held.long); second = omega (arith, t.second, s.held.long) }

    -- what gate j comes to is worked out of the intervals before it
    reach_held : reach size c ranges w.ends j ≡ reach size c ranges (intervals size c ranges j) j
    unfolding reach
    reach_held = rw (held_interval s.held (gate c j).first, held_interval s.held (gate c j).second)

    pub course_leaves : Leaves ≡ reach size c ranges w.ends j → E.Leaves j ≡ finding size c ranges (gates c)
    unfolding gate_stays
    course_leaves e = sym (finding_first size c ranges j (gates c) s.stayed (ap stays (sym (e ∙ reach_held))) h)

    module _ {lowest highest : ℕ} (e : Stays lowest highest ≡ reach size c ranges w.ends j) where
      stays_here : gate_stays size c ranges j ≡ true
      unfolding gate_stays
      stays_here = ap stays (sym (e ∙ reach_held))

      intervals_here : intervals size c ranges (j + 1) ≡ intervals size c ranges j ++ (lowest ∷ highest ∷ [])
      unfolding intervals
      intervals_here = rw add-one (ap (λ (r : Reach). intervals size c ranges j ++ ends_of r) (sym (e ∙ reach_held)))

      held_here : gates c ≤ most_gates → Held interval_room (set (set w.ends (interval_size * j) lowest) (interval_size * j + 1) highest) (intervals size c ranges (j + 1))
      held_here g = rw intervals_here (held_pair lowest highest (interval_size * j) s.held (intervals_length size c ranges j) (omega arith))

      fair_here : Fair (interval lowest highest) → (x : ℕ) → Fair (interval_at (intervals size c ranges (j + 1)) x)
      fair_here f x =
          by_cases (ltb x j)
          (λ p. rw (intervals_here, pair_earlier (intervals size c ranges j) lowest highest j (intervals_length size c ranges j) x (ltb-true x j p))
          (rw (held_interval s.held x) at (s.fair x)))
          (λ p. by_cases (eqb x j)
          (λ q. rw (eqb-true x j q) (rw (intervals_here, pair_last (intervals size c ranges j) lowest highest j (intervals_length size c ranges j)) f))
          (λ q.
          let far : j < x = omega (arith, ltb-false x j p, eqb-false x j q) in
          fair_none (intervals size c ranges (j + 1)) x (omega (arith, intervals_length size c ranges (j + 1)))))

      pub course_more : gates c ≤ most_gates → Fair (interval lowest highest) → {w₁ w' : Worked} {more : ℕ} → Stepped c change j w w₁
          → more ≡ cond (is_in (gate c j)) 1 0
          → w'.ends ≡ set (set w₁.ends (interval_size * j) lowest) (interval_size * j + 1) highest
          → (w'.moves ≡ w₁.moves) × (w'.scores ≡ w₁.scores) × (w'.outs ≡ w₁.outs)
          → Course change c ranges w' (ins + more) (j + 1)
      course_more g f {w₁} {w'} t m e' o =
          let held : Held interval_room w'.ends (intervals size c ranges (j + 1)) = rw (e', t.ends) (held_here g) in
          record {
            upto = omega arith;
            counted = omega (arith, count_more is_in c j, s.counted, m);
            stayed = below_more _ _ s.stayed stays_here;
            held = held;
            fair = λ x. rw (held_interval held x) (fair_here f x);
            moves_long = ap length o.0 ∙ t.moves_long ∙ s.moves_long;
            scores_long = ap length o.1 ∙ t.scores_long ∙ s.scores_long;
            low = λ x. rw o.0 (t.low x);
            few = omega (arith, o.2, t.few);
            kept = kept_same change c ranges w₁ w' (j + 1) o.0 o.1 o.2 (t.kept ranges s.held s.kept);
          }

  -- every gate is gone past
  module _ {w : Worked} {ins j : ℕ} (s : Course change c ranges w ins j) (h : gates c ≤ j) where
    pub course_ends : E.Fits ≡ finding size c ranges (gates c)
    course_ends = sym (finding_all size c ranges (gates c) (λ i l. s.stayed i (omega arith)))

    pub course_lists : Held interval_room w.ends (intervals size c ranges (gates c)) × Kept change c ranges w (gates c) × (length w.scores ≡ move_room)
    course_lists = let e : gates c ≡ j = omega (arith, s.upto) in rw e (s.held, s.kept, s.scores_long)
