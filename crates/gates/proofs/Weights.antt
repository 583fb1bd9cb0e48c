-- What the weight of gates tells: the counts that it is made of.
-- Assumes nothing.
use Prim.Native.Nat.{ℕ, zero, suc, ◌+◌, ◌*◌, ◌-◌, ◌/◌, ◌%◌, ◌<◌, ◌≤◌}
use mathlib.Core.Path.{◌≡◌, refl, sym, ap, ◌∙◌}
use mathlib.Core.Bool.{true, false, cond}
use mathlib.Core.List.{List}
use native.Mathlib.Omega.{arith}
use borrow.Author.Tests.{eq-eqb, ne_eqb}
use Rattle.circuit.specs.Gate.{Gate, gate}
use Rattle.circuit.specs.Kind.{Owned, is_class, shape, is_out, owned_by}
use Rattle.circuit.specs.Count.{total, count, prep_at, input_at, unchecked}
use Rattle.circuit.specs.Accept.{most_gates}
use Rattle.circuit.specs.Code.{Tallied}
use Rattle.circuit.proofs.Counts.{total_more, prep_le, openings_le, input_le, unchecked_more, unchecked_out, unchecked_valued}
use Rattle.gates.specs.Weight.{opening_unit, input_unit, weight, weight_before}

weight_is : (i : ℕ) (g : Gate) → weight i g ≡ (shape g).prep + opening_unit * (shape g).openings + input_unit * cond (owned_by i g) 1 0
unfolding weight
weight_is i g = refl

-- an input of the party counts as one, and no other gate
module _ (i : ℕ) (g : Gate) {p : ℕ} (e : p ≡ (shape g).prep + opening_unit * (shape g).openings) where
  pub weight_mine : is_class Owned (shape g).class ≡ true → g.first ≡ i → p + input_unit ≡ weight i g
  unfolding weight owned_by
  weight_mine cl f = rw (cl, eq-eqb g.first i f) (omega (arith, e))

  pub weight_others : is_class Owned (shape g).class ≡ true → (g.first ≡ i → ⊥) → p ≡ weight i g
  unfolding weight owned_by
  weight_others cl f = rw (cl, ne_eqb g.first i f) (omega (arith, e))

  pub weight_other : is_class Owned (shape g).class ≡ false → p ≡ weight i g
  unfolding weight owned_by
  weight_other cl = rw cl (omega (arith, e))

pub weight_none : (c : List ℕ) (i : ℕ) → 0 ≡ weight_before c i 0
unfolding total
weight_none c i = refl

-- a weight is made of three counts
weight_parts : (c : List ℕ) (i j : ℕ)
    → weight_before c i j ≡ total (λ g. (shape g).prep) c j + opening_unit * total (λ g. (shape g).openings) c j + input_unit * total (λ g. cond (owned_by i g) 1 0) c j
unfolding total
weight_parts c i zero = refl
weight_parts c i (suc j) = omega (arith, weight_parts c i j, weight_is i (gate c j))

-- no sum of weights comes to this
abbrev weight_room : ℕ
weight_room = input_unit * (most_gates + 1)

-- each of which is small
module _ (c : List ℕ) (i j : ℕ) (h : j ≤ most_gates) where
  pub weight_low : weight_before c i j < weight_room
  unfolding prep_at input_at count
  weight_low = omega (arith, weight_parts c i j, prep_le c j, openings_le c j, input_le c i j)

  pub weight_tallied : {s u : ℕ} → s ≡ weight_before c i j → u ≡ unchecked c j
      → Tallied c i j (record { prep = 1 + s % opening_unit; openings = s / opening_unit % opening_unit; unchecked = u; inputs = s / input_unit })
  unfolding prep_at input_at count
  weight_tallied es eu =
      record {
        prep = omega (arith, es, weight_parts c i j, prep_le c j, openings_le c j, input_le c i j);
        openings = omega (arith, es, weight_parts c i j, prep_le c j, openings_le c j, input_le c i j);
        unchecked = eu;
        inputs = omega (arith, es, weight_parts c i j, prep_le c j, openings_le c j, input_le c i j);
      }

-- one gate more
module _ (c : List ℕ) (i j : ℕ) {s w : ℕ} (es : s ≡ weight_before c i j) (ew : w ≡ weight i (gate c j)) where
  pub weight_more : s + w ≡ weight_before c i (j + 1)
  weight_more = omega (arith, es, ew, total_more (weight i) c j)

  pub weight_room_lem : j < most_gates → s + w < weight_room
  weight_room_lem h = omega (arith, weight_more, weight_low c i (j + 1) (omega arith))

-- what waits before a gate, from the gate before it
module _ (c : List ℕ) (i : ℕ) (h : 0 < i) where
  back : i - 1 + 1 ≡ i
  back = omega arith

  pub unchecked_back_out : is_out (gate c (i - 1)) ≡ true → unchecked c i ≡ 0
  unchecked_back_out h = sym (ap (unchecked c) back) ∙ unchecked_more c (i - 1) ∙ unchecked_out _ _ h

  pub unchecked_back : is_out (gate c (i - 1)) ≡ false → unchecked c i ≡ unchecked c (i - 1) + (shape (gate c (i - 1))).openings
  unchecked_back h = sym (ap (unchecked c) back) ∙ unchecked_more c (i - 1) ∙ unchecked_valued _ _ h

pub unchecked_none : (c : List ℕ) (i : ℕ) → i ≤ 0 → unchecked c i ≡ 0
unfolding unchecked
unchecked_none c zero h = refl
unchecked_none c (suc i) h = absurd (omega arith)
