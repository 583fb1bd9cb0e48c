-- What the code finds of one gate, as the definitions have it.
-- Assumes nothing.
use Prim.Native.Nat.{ℕ, ◌+◌, ◌*◌, ◌<◌, ◌≤◌}
use mathlib.Core.Path.{◌≡◌, sym, ◌∙◌}
use mathlib.Core.List.{List}
use native.Mathlib.Nat.{mul-le-mul}
use native.Mathlib.Omega.{arith}
use lib.ListN.{length, get_or, get_or-eq_default}
use Rattle.field.specs.Words.{size, largest}
use Rattle.algebra.specs.Element.{Is}
use Rattle.circuit.specs.Gate.{Kind, gate}
use Rattle.circuit.specs.Kind.{is_in}
use Rattle.circuit.specs.Count.{count}
use Rattle.ranges.specs.Interval.{Interval, interval, interval_size, interval_at, Reach, kind_reach, range_at, reach}
use Rattle.ranges.specs.Move.{Of, change_at, capped, kind_move, gate_move}
use Rattle.fit.specs.Code.{Fair, FairReach}

-- a product of words fits 64 bits
pub product_low : {x y : ℕ} → x ≤ largest → y ≤ largest → x * y ≤ largest * largest
product_low h g = mul-le-mul h g

-- a product of elements, of which two fit
pub elements_low : {x y : ℕ} → x < size → y < size → x * y ≤ size * size
elements_low h g = mul-le-mul {n₂ = size} {m₂ = size} (omega arith) (omega arith)

-- past the end of the ranges stands nothing
pub range_none : (ranges : List ℕ) (k : ℕ) → length ranges ≤ interval_size * k → interval 0 0 ≡ interval_at ranges k
unfolding interval_at
range_none ranges k h =
    sym (rw (get_or-eq_default ranges 0 {n = interval_size * k} h, get_or-eq_default ranges 0 {n = interval_size * k + 1} (omega arith)))

-- an interval of a list in which all are fair
pub fair_at : (l : List ℕ) {i : Interval} (k : ℕ) → ((x : ℕ) → Fair (interval_at l x)) → i ≡ interval_at l k → Fair i
fair_at l k all e = rw e (all k)

-- the numbers and intervals of gate j, as the code finds them
module _ (c ends : List ℕ) (j : ℕ) {kind : Kind} {f s k : ℕ} {x z : Interval} (ek : kind ≡ (gate c j).kind) (ef : f ≡ (gate c j).first) (es : s ≡ (gate c j).second)
    (ea : k ≡ (gate c j).constant) (ex : x ≡ interval_at ends f) (ez : z ≡ interval_at ends s) where
  pub reach_made : (ranges : List ℕ) {ins : ℕ} {r : Interval} {o : Reach} → ins ≡ count is_in c j → r ≡ interval_at ranges ins
      → (o ≡ kind_reach size kind r x z k) × FairReach o → (o ≡ reach size c ranges ends j) × FairReach o
  unfolding reach range_at
  reach_made ranges ei er o = (o.0 ∙ rw (er, ex, ez, ek, ei, ef, es, ea), o.1)

  pub move_made : (moves : List ℕ) {change m r : ℕ} (line amount : ℕ) → change ≡ change_at (Of line amount) j
      → m ≡ kind_move kind change x z (get_or moves f 0) (get_or moves s 0) k → Is size (capped size m) r
      → (ranges : List ℕ) → Is size (gate_move size c ranges (Of line amount) ends moves j) r
  unfolding gate_move
  move_made moves line amount e m r ranges = record { is = r.is ∙ rw (m, ex, ez, ek, ef, es, ea, e); below = r.below }
