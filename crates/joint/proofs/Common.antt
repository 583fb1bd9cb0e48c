-- Opened values are the same to all parties: they are sums of words that all receive.
-- Assumes nothing.
use Prim.Native.Nat.{ℕ, zero, suc, ◌+◌, ◌-◌, ◌<◌, ◌≤◌}
use mathlib.Core.Path.{◌≡◌, refl, sym, ap, ◌∙◌}
use mathlib.Core.Bool.{Bool, true, false, cond}
use mathlib.Core.List.{List}
use native.Mathlib.Decide.{ℕ_discrete}
use native.Mathlib.Omega.{arith}
use lib.Dec.{eqb}
use lib.ListN.{length}
use borrow.Author.Tests.{eqb-true, eqb-false}
use Rattle.algebra.specs.Ops.{Ops}
use Rattle.algebra.specs.Element.{Is}
use Rattle.algebra.proofs.Sums.{sum_ext}
use Rattle.field.specs.Words.{size, ops}
use Rattle.field.proofs.Laws.{laws}
use Rattle.circuit.specs.Gate.{gate, gates}
use Rattle.circuit.specs.Kind.{Owned, Opens, shape, is_linear}
use Rattle.circuit.specs.Count.{capacity, unchecked}
use Rattle.circuit.specs.Round.{Round, Own, Open, is_commit, is_reveal}
use Rattle.circuit.proofs.Counts.{unchecked_within}
use Rattle.circuit.proofs.KindLaws.{opens_facts}
use Rattle.circuit.proofs.Tests.{by_cases}
use Rattle.protocol.specs.Scratch.{Layout, layout, Value, slots_size, read, put_opened, band}
use Rattle.protocol.specs.Party.{key}
use Rattle.protocol.specs.Send.{noted}
use Rattle.protocol.specs.Receive.{after_input, put_differences, after_opening, after_open_output, put_linear, after_linear, settle, onward, own_received, received, left}
use Rattle.protocol.specs.Code.{layout_of}
use Rattle.protocol.specs.Joint.{Joint, party}
use Rattle.protocol.specs.Run.{said, notes, step}
use Rattle.protocol.proofs.Tails.{slots_room}
use Rattle.protocol.proofs.Marks.{ends_other}
use Rattle.protocol.proofs.Slots.{length_opened, value_put, value_opened_same, value_opened_other}
use Rattle.steps.specs.Code.{value_sum}
use Rattle.joint.specs.declared.Frame.{Frame}
use Rattle.joint.specs.Code.{Course, Common, state_of, Going, Moved}
use Rattle.joint.proofs.Going.{within, rooms as whole-rooms}

-- so their weighed sum is, which the code makes of the first party's
pub common_sum : (f : Frame) (l : List ℕ) (k : ℕ) (coefficients : List ℕ) → Common f l k → (i : ℕ) → i < f.parties → {v : ℕ}
    → Is size (value_sum (layout_of f.layout) (band f.scratch l 0) k coefficients) v
    → Is size (value_sum (layout_of f.layout) (band f.scratch l i) k coefficients) v
common_sum f l k coefficients h i l' w =
    record { is = w.is ∙ sym (sum_ext laws k _ _ (λ t q. ap (ops.mul _) (h i l' t q))); below = w.below }

module _ (O : Ops) (y : Layout) {t : ℕ} (w : t < y.capacity) where
  -- a wire that is written leaves opened values, and so do linear gates
  settle_value : (i key : ℕ) (c : List ℕ) (left j : ℕ) (l : List ℕ) → j + left ≤ y.gates → read y (settle O i key c y left j l) (Value t) ≡ read y l (Value t)
  unfolding settle
  settle_value i key c zero j l h = refl
  settle_value i key c (suc left) j l h =
      go (is_linear (gate c j))
      (settle_value i key c left (suc j) (after_linear O i key y l j (gate c j)) (omega arith) ∙ (unfold after_linear put_linear in value_put y l j t _ (omega arith) w))
    where
      go : (b : Bool) → read y (settle O i key c y left (suc j) (after_linear O i key y l j (gate c j))) (Value t) ≡ read y l (Value t)
          → read y (cond b (settle O i key c y left (suc j) (after_linear O i key y l j (gate c j))) l) (Value t) ≡ read y l (Value t)
      go true e = e
      go false e = refl

  -- an opened value is the same, if those before it are
  one_value : (l l' : List ℕ) → slots_size y ≤ length l → slots_size y ≤ length l' → (u e n n' : ℕ) → u < y.capacity
      → (t < u → read y l (Value t) ≡ read y l' (Value t))
      → t < u + 1
      → read y (put_opened y l u e n) (Value t) ≡ read y (put_opened y l' u e n') (Value t)
  one_value l l' room room' u e n n' fits same h = go (ℕ_discrete t u)
    where
      go : Dec (t ≡ u) → read y (put_opened y l u e n) (Value t) ≡ read y (put_opened y l' u e n') (Value t)
      go (yes z) = rw z (value_opened_same y l u e n room fits ∙ sym (value_opened_same y l' u e n' room' fits))
      go (no z) = value_opened_other y l u t e n fits w z ∙ same (omega arith) ∙ sym (value_opened_other y l' u t e n' fits w z)

  -- and so are the values that a gate opens
  opening_value : (l l' : List ℕ) → slots_size y ≤ length l → slots_size y ≤ length l' → (i i' key key' j x z : ℕ) (m m' : List ℕ) (k u e d : ℕ) → j < y.gates → 1 ≤ k
      → k ≤ 2
      → u + k ≤ y.capacity
      → (t < u → read y l (Value t) ≡ read y l' (Value t))
      → t < u + k
      → read y (after_opening O i key y l j x z m k u e d) (Value t) ≡ read y (after_opening O i' key' y l' j x z m' k u e d) (Value t)
  unfolding after_opening put_differences
  opening_value l l' room room' i i' key key' j x z m m' k u e d h some few fits same q =
      value_put y _ j t _ h w
      ∙ by_cases (eqb k 2)
      (λ b. rw b
      (one_value (put_opened y l u e _) (put_opened y l' u e _) (simp length_opened room) (simp length_opened room') (u + 1) d _ _ (omega (arith, eqb-true k 2 b))
      (one_value l l' room room' u e _ _ (omega (arith, eqb-true k 2 b)) same) (omega (arith, eqb-true k 2 b))))
      (λ b. rw b (one_value l l' room room' u e _ _ (omega (arith, eqb-false k 2 b)) same (omega (arith, eqb-false k 2 b))))
      ∙ sym (value_put y _ j t _ h w)

-- what a round that is of no check leaves of each party's band
module _ {J : Joint} {f : Frame} {s : Course} {r : Round} {held l t : List ℕ} {s' : Course} {held' l' t' : List ℕ} (g : Going J f s r held l) (d : Moved J f s r held l t s' held' l' t')
    (no-commit : is_commit r ≡ false) (no-reveal : is_reveal r ≡ false) where
  heard : List ℕ
  heard = said ops J (state_of f s held l) r

  band_is : (i : ℕ) → i < J.parties → band f.scratch l' i ≡ received ops (party J i) (band f.scratch l i) s.point.gate r heard
  unfolding state_of step left notes noted heard
  band_is i h = d.alike.scratch i h ∙ rw (no-commit, ends_other ops J (state_of f s held l) r no-reveal)

  some : 0 < J.parties
  some = omega (arith, g.lent.some)

  same_parties : f.parties ≡ J.parties
  same_parties = g.lent.framed.parties

  -- the first u values are the same afterwards, if they are so by what each party receives
  common_after : (u : ℕ)
      → ((i : ℕ) → i < J.parties → (k : ℕ) → k < u
      → read (layout J.circuit) (received ops (party J i) (band f.scratch l i) s.point.gate r heard) (Value k)
      ≡ read (layout J.circuit) (received ops (party J 0) (band f.scratch l 0) s.point.gate r heard) (Value k))
      → Common f l' u
  common_after u h i q k w =
      let i' : i < J.parties = omega (arith, q, same_parties) in
      rw (g.lent.framed.lay, band_is i i', band_is 0 some) (h i i' k w)

  rooms : (i : ℕ) → i < J.parties → slots_size (layout J.circuit) ≤ length (band f.scratch l i)
  rooms i h = slots_room J.parties J.circuit (whole-rooms J f s r held l g i h)

  before : {u : ℕ} → Common f l u → (i : ℕ) → i < J.parties → (k : ℕ) → k < u
      → read (layout J.circuit) (band f.scratch l i) (Value k) ≡ read (layout J.circuit) (band f.scratch l 0) (Value k)
  before h i q k w = rw g.lent.framed.lay at (h i (omega (arith, q, same_parties)) k w)

  rest_fits : s.point.gate < gates J.circuit → suc s.point.gate + (gates J.circuit - suc s.point.gate) ≤ (layout J.circuit).gates
  unfolding layout
  rest_fits h = omega arith

  in_layout : s.point.gate < gates J.circuit → s.point.gate < (layout J.circuit).gates
  unfolding layout
  in_layout h = h

module _ {J : Joint} {f : Frame} {s : Course} {l t : List ℕ} {held : List ℕ} {s' : Course} {held' l' t' : List ℕ} (g : Going J f s Own held l) (d : Moved J f s Own held l t s' held' l' t') where
  inside : s.point.gate < gates J.circuit
  inside = within J f s Own held l g

  -- an in gate leaves opened values
  input_kept : (shape (gate J.circuit s.point.gate)).class ≡ Owned → (i k : ℕ) → k < (layout J.circuit).capacity
      → read (layout J.circuit) (received ops (party J i) (band f.scratch l i) s.point.gate Own (heard g d refl refl)) (Value k) ≡ read (layout J.circuit) (band f.scratch l i) (Value k)
  unfolding received own_received onward party after_input
  input_kept cl i k fits =
      rw cl
      (settle_value ops (layout J.circuit) fits i _ _ _ _ _ (rest_fits g d refl refl inside)
      ∙ value_put (layout J.circuit) _ _ k _ (in_layout g d refl refl inside) fits)

  pub input_common : (shape (gate J.circuit s.point.gate)).class ≡ Owned → {u : ℕ} → u ≡ unchecked J.circuit s.point.gate → Common f l u → Common f l' u
  unfolding layout
  input_common cl {u} eu h =
      common_after g d refl refl u (λ i q k w.
      let fits : k < (layout J.circuit).capacity = omega (arith, eu, unchecked_within J.circuit s.point.gate inside) in
      input_kept cl i k fits ∙ before g d refl refl h i q k w ∙ sym (input_kept cl 0 k fits))

  -- a gate that opens values adds as many that are the same
  pub opening_common : (shape (gate J.circuit s.point.gate)).class ≡ Opens → {u k : ℕ} → u ≡ unchecked J.circuit s.point.gate → k ≡ (shape (gate J.circuit s.point.gate)).openings
      → Common f l u
      → Common f l' (u + k)
  unfolding received own_received onward party layout
  opening_common cl {u} {k} eu ek h =
      let o = opens_facts (gate J.circuit s.point.gate) cl in
      common_after g d refl refl (u + k) (λ i q e w.
      let fits : e < capacity J.circuit = omega (arith, eu, ek, unchecked_within J.circuit s.point.gate inside) in
      rw cl
      (settle_value ops (layout J.circuit) fits _ _ _ _ _ _ (rest_fits g d refl refl inside)
      ∙ opening_value ops (layout J.circuit) fits _ _ (rooms g d refl refl i q) (rooms g d refl refl 0 (some g d refl refl)) _ _ _ _ _ _ _ _ _ _ _ _ _ inside o.some o.few
      (omega (arith, unchecked_within J.circuit s.point.gate inside)) (λ z. before g d refl refl h i q e (omega (arith, eu, z))) (omega (arith, eu, ek))
      ∙ sym (settle_value ops (layout J.circuit) fits _ _ _ _ _ _ (rest_fits g d refl refl inside))))

-- an output that is opened is the same to all
module _ {J : Joint} {f : Frame} {s : Course} {l t : List ℕ} {held : List ℕ} {s' : Course} {held' l' t' : List ℕ} (g : Going J f s Open held l) (d : Moved J f s Open held l t s' held' l' t') where
  pub show_common : Common f l' 1
  unfolding received after_open_output party layout capacity
  show_common =
      common_after g d refl refl 1 (λ i q k w.
      let z : k ≡ 0 = omega arith in
      rw z
      (value_opened_same (layout J.circuit) _ 0 _ _ (rooms g d refl refl i q) (omega arith)
      ∙ sym (value_opened_same (layout J.circuit) _ 0 _ _ (rooms g d refl refl 0 (some g d refl refl)) (omega arith))))
