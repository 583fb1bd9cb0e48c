-- What each step leaves of a scratch: what was worked out and opened, and what the step adds to it.
-- Assumes nothing.
use Prim.Native.Nat.{ℕ, suc, ◌+◌, ◌-◌, ◌<◌, ◌≤◌}
use mathlib.Core.Path.{◌≡◌, refl, ◌∙◌}
use mathlib.Core.Logic.{◌≢◌}
use mathlib.Core.List.{List}
use native.Mathlib.Omega.{arith}
use native.Mathlib.Numerals.{add-one}
use lib.ListN.{length}
use lib.Dec.{eqb}
use borrow.Author.Tests.{eqb-true, eqb-false}
use Rattle.algebra.specs.Ops.{Ops}
use Rattle.algebra.specs.Field.{Field}
use Rattle.circuit.proofs.Tests.{by_cases}
use Rattle.protocol.specs.Part.{Part, part_at, minus, product}
use Rattle.protocol.specs.Scratch.{Layout, slots_size, wire, put_wire, put_opened}
use Rattle.protocol.specs.Party.{a_at, b_at, c_at}
use Rattle.protocol.specs.Send.{masked}
use Rattle.protocol.specs.Receive.{after_input, put_differences, after_opening, after_open_output}
use Rattle.protocol.specs.Holding.{Worked}
use Rattle.protocol.proofs.Slots.{length_opened, length_put, opened_twice, opened_either}
use Rattle.protocol.proofs.Writing.{OpenedTo, Elements, worked_put, opened_put, worked_opened, opened_more, minus_elements, shift_elements, product_elements}
use Rattle.protocol.proofs.Settling.{Keeps, written_keeps}

module _ {O : Ops} (F : Field O) (c : List ℕ) (y : Layout) (l : List ℕ) (j : ℕ) (room : slots_size y ≤ length l)
    (worked : Worked O.size c y l j) where
  open O use {size}

  pub input_keeps : (u i key : ℕ) (m : List ℕ) (e : ℕ)
      → j < y.gates
      → OpenedTo size y l u
      → Keeps size c y u l (suc j) (after_input O i key y l j m e)
  unfolding after_input
  input_keeps u i key m e h o =
      written_keeps c y u l j _ (record { part = _; low = shift_elements F _ _ _ _; is = refl }) room h worked o

  -- the k opened differences are k entries more, one or two
  pub differences_keep : (x z : ℕ) (m : List ℕ) (k u e d : ℕ)
      → 1 ≤ k
      → k ≤ 2
      → u + k ≤ y.capacity
      → e < size
      → d < size
      → OpenedTo size y l u
      → Keeps size c y (u + k) l j (put_differences O y l x z m k u e d)
  unfolding put_differences masked
  differences_keep x z m k u e d some few f le ld o =
      by_cases (eqb k 2)
      (λ h.
      let two : k ≡ 2 = eqb-true k 2 h in
      rw h
      (record {
        len = simp length_opened;
        worked = worked_opened y l₁ (u + 1) d s (omega arith) c j w₁;
        opened =
            λ t lt.
            opened_more y l₁ (u + 1) d s (omega arith) (simp length_opened room) ld (minus_elements F _ _).mac (rw (add-one u) o₁) t (omega arith);
      }))
      (λ h.
      let one : k ≡ 1 = omega (arith, eqb-false k 2 h) in
      rw h (record { len = length_opened y l u e _; worked = w₁; opened = λ t lt. o₁ t (omega arith) }))
    where
      l₁ : List ℕ
      l₁ = put_opened y l u e (minus O (wire y l x) (part_at m a_at)).mac

      s : ℕ
      s = (minus O (wire y l z) (part_at m (b_at k))).mac

      o₁ : OpenedTo size y l₁ (suc u)
      o₁ = opened_more y l u e _ (omega arith) room le (minus_elements F _ _).mac o

      w₁ : Worked size c y l₁ j
      w₁ = worked_opened y l u e _ (omega arith) c j worked

  -- and gate j is worked out
  pub opening_keeps : (i key x z : ℕ) (m : List ℕ) (k u e d : ℕ)
      → 1 ≤ k
      → k ≤ 2
      → j < y.gates
      → u + k ≤ y.capacity
      → e < size
      → d < size
      → OpenedTo size y l u
      → Keeps size c y (u + k) l (suc j) (after_opening O i key y l j x z m k u e d)
  unfolding after_opening
  opening_keeps i key x z m k u e d some few h f le ld o =
      let s = differences_keep x z m k u e d some few f le ld o in
      record {
        len = length_put y _ j _ ∙ s.len;
        worked = worked_put y _ j _ (rw s.len room) h (product_elements F _ _ _ _ _ _ _) c s.worked;
        opened = opened_put y _ j _ h (u + k) s.opened;
      }

  -- the shown value is the only entry
  pub open_output_keeps : (x : Part) (s : ℕ) → 0 < y.capacity → s < size → Elements size x → Keeps size c y 1 l j (after_open_output O y l x s)
  unfolding after_open_output
  open_output_keeps x s h ls k =
      record {
        len = length_opened y l 0 s _;
        worked = worked_opened y l 0 s _ h c j worked;
        opened = opened_more y l 0 s _ h room ls k.mac (λ t z. absurd (omega arith));
      }

-- the entries of one opening or two, from what the calls made: the last entry, and then the first, which may be the same
pub differences_made : (O : Ops) (y : Layout) (l : List ℕ) (x z : ℕ) (m : List ℕ) (k u e d : ℕ) {s t : Part} {l₁ l₂ : List ℕ}
    → 1 ≤ k
    → k ≤ 2
    → u + k ≤ y.capacity
    → s ≡ masked O y l x m a_at
    → t ≡ masked O y l z m (b_at k)
    → l₁ ≡ put_opened y l (u + (k - 1)) d t.mac
    → l₂ ≡ put_opened y l₁ u e s.mac
    → l₂ ≡ put_differences O y l x z m k u e d
unfolding put_differences
differences_made O y l x z m k u e d some few o es et e₁ e₂ =
    by_cases (eqb k 2)
    (λ h.
    let two : k ≡ 2 = eqb-true k 2 h in
    let last : u + (k - 1) ≡ u + 1 = omega arith in
    rw (h, e₂, e₁, et, es, last) (opened_either y l (u + 1) u d _ e _ (omega arith) (omega arith) (omega arith)))
    (λ h.
    let one : k ≡ 1 = let no : k ≢ 2 = eqb-false k 2 h in omega arith in
    let last : u + (k - 1) ≡ u = omega arith in
    rw (h, e₂, e₁, es, last) (opened_twice y l u d _ e _ (omega arith)))

-- what opening values leaves, from what the calls made: the entries and then the product
pub opening_made : (O : Ops) (i key : ℕ) (y : Layout) (l : List ℕ) (j x z : ℕ) (m : List ℕ) (k u e d : ℕ) {r : Part} {l₁ l₂ : List ℕ}
    → r ≡ product O i key (part_at m a_at) (part_at m (b_at k)) (part_at m (c_at k)) e d
    → l₁ ≡ put_differences O y l x z m k u e d
    → l₂ ≡ put_wire y l₁ j r
    → l₂ ≡ after_opening O i key y l j x z m k u e d
unfolding after_opening
opening_made O i key y l j x z m k u e d er e₁ e₂ = rw (e₂, e₁, er)
