-- In whole runs over and times by one constant undo each other, in either order: at every party and on plain inputs.
-- Assumes nothing.
use Prim.Native.Nat.{ℕ, ◌<◌, ◌≤◌}
use mathlib.Core.Path.{◌≡◌, refl, ap, subst, ◌∙◌}
use mathlib.Core.Logic.{inl, inr}
use mathlib.Core.List.{List}
use native.Mathlib.Omega.{arith}
use Rattle.algebra.specs.Ops.{Ops}
use Rattle.algebra.specs.Field.{Field, Inverses}
use Rattle.algebra.proofs.Inverse.{over_times, times_over}
use Rattle.field.specs.Words.{ops}
use Rattle.field.proofs.Laws.{laws}
use Rattle.field.proofs.Euclid.{inverses}
use Rattle.circuit.specs.Gate.{Kind, Times, Over, Gate, gate_of, gate, gates}
use Rattle.circuit.specs.Kind.{Local, kind_shape, shape}
use Rattle.circuit.specs.Valid.{Ref, Fits, Valid}
use Rattle.circuit.proofs.Valid.{valid}
use Rattle.circuit.proofs.KindLaws.{local_no_out}
use Rattle.protocol.specs.Part.{Part, scale}
use Rattle.protocol.specs.Over.{over, Undoes}
use Rattle.protocol.specs.Party.{key}
use Rattle.protocol.specs.Receive.{operand_of, operand, linear}
use Rattle.protocol.specs.Joint.{Joint, party}
use Rattle.protocol.specs.Plain.{kind_value, plain_input, value}
use Rattle.protocol.proofs.Writing.{Elements}
use Rattle.protocol.proofs.Overs.{undoes}
use Rattle.theorems.specs.Premises.{Accepts, InputsPass, Enough, after}
use Rattle.theorems.specs.Undone.{EitherOrder, part_after, Undone, UndoneValues}
use Rattle.theorems.proofs.Given.{input_normed}
use Rattle.theorems.proofs.KindValues.{value_normed}
use Rattle.theorems.proofs.Values.{value_is}
use Rattle.theorems.proofs.Made.{done_after}

-- What a gate that is g names first, and its constant, are what they are for.
module _ {n q : ℕ} {c : List ℕ} (ok : Valid n q c) (u : ℕ) (h : u < gates c) (g : Gate) (e : gate c u ≡ g) where
  first_fits : Fits n q c u (shape g).first g.first
  first_fits = subst (λ (g : Gate). Fits n q c u (shape g).first g.first) e (ok.each u h).first

  constant_fits : Fits n q c u (shape g).constant g.constant
  constant_fits = subst (λ (g : Gate). Fits n q c u (shape g).constant g.constant) e (ok.each u h).constant

module _ {O : Ops} (F : Field O) (J : Joint) (ok : Valid J.parties O.size J.circuit) where
  open O use {norm, mul, inv}

  module _ (scratch : List ℕ) (enough : Enough J scratch) (r i : ℕ) (l : i < J.parties) where
    -- how many gates are worked out after r rounds
    abbrev done : ℕ
    done = (after O J scratch r).point.gate

    -- party i's part of a gate after r rounds
    abbrev part : ℕ → Part
    part = part_after O J scratch r i

    within : done ≤ gates J.circuit
    unfolding party
    within = (done_after F J ok i l scratch enough r).within

    -- What a gate that needs no round comes to, where it is g.
    part_is : (u : ℕ) → u < done → (g : Gate) → gate J.circuit u ≡ g → (shape g).class ≡ Local
        → part u ≡ linear O i (key (party J i)) g.kind (part g.first) (part g.second) (operand_of O g)
    unfolding party
    part_is u h g e k =
        let local : (shape (gate J.circuit u)).class ≡ Local = ap (λ (g : Gate). (shape g).class) e ∙ k in
        ((done_after F J ok i l scratch enough r).made u h (rw (local_no_out local))).is local
        ∙ ap (λ (g : Gate). linear O i (key (party J i)) g.kind (part g.first) (part g.second) (operand_of O g)) e

    part_times : (x u k : ℕ) → u < done → gate J.circuit u ≡ gate_of Times x 0 k → part u ≡ scale O k (part x)
    unfolding linear operand kind_shape
    part_times x u k h e = part_is u h (gate_of Times x 0 k) e refl

    part_over : (x u z k : ℕ) → u < done → gate J.circuit u ≡ gate_of Over x z k → part u ≡ over O k (part x)
    unfolding linear operand kind_shape scale over
    part_over x u z k h e = part_is u h (gate_of Over x z k) e refl

    part_low : (x t : ℕ) → t < done → Ref J.circuit t x → Elements O.size (part x)
    unfolding party
    part_low x t h named = ((done_after F J ok i l scratch enough r).made x (omega (arith, named.earlier)) named.valued).low

  -- The value of a gate that is g.
  value_of : (u : ℕ) → u < gates J.circuit → (g : Gate) → gate J.circuit u ≡ g
      → value O J u ≡ kind_value O g.kind (plain_input O J u) (value O J g.first) (value O J g.second) (operand_of O g)
  value_of u h g e =
      value_is F J ok u h
      ∙ ap (λ (g : Gate). kind_value O g.kind (plain_input O J u) (value O J g.first) (value O J g.second) (operand_of O g)) e

  value_times : (x u k : ℕ) → u < gates J.circuit → gate J.circuit u ≡ gate_of Times x 0 k → value O J u ≡ mul k (value O J x)
  unfolding kind_value operand kind_shape
  value_times x u k h e = value_of u h (gate_of Times x 0 k) e ∙ F.mul_comm _ _

  value_over : (x u k : ℕ) → u < gates J.circuit → gate J.circuit u ≡ gate_of Over x 0 k → value O J u ≡ mul (inv k) (value O J x)
  unfolding kind_value operand kind_shape
  value_over x u k h e = value_of u h (gate_of Over x 0 k) e ∙ F.mul_comm _ _

  -- the two gates of the constant k: each names an earlier gate, and k is "from 1 to p − 1"
  record Pair (x t u k : ℕ) : Type 0 where
    named : Ref J.circuit t x
    earlier : t < u
    low : 0 < k
    high : k < O.size

  paired : {x t u k : ℕ} → u < gates J.circuit → Ref J.circuit u t → (t < gates J.circuit → Ref J.circuit t x × ((0 < k) × (k < O.size)))
      → Pair x t u k
  paired h of-t of-x =
      let f = of-x (omega (arith, of-t.earlier)) in
      record { named = f.0; earlier = of-t.earlier; low = f.1.0; high = f.1.1 }

  pair : (x t u k : ℕ) → u < gates J.circuit → EitherOrder J.circuit x t u k → Pair x t u k
  unfolding kind_shape
  pair x t u k h (inl w) =
      paired h (first_fits ok u h _ w.other_is) (λ ht. (first_fits ok t ht _ w.one_is, constant_fits ok u h _ w.other_is))
  pair x t u k h (inr w) =
      paired h (first_fits ok u h _ w.other_is) (λ ht. (first_fits ok t ht _ w.one_is, constant_fits ok t ht _ w.one_is))

  module _ (I : Inverses O) where
    -- Both gates together give a party's part back,
    parts_back : (scratch : List ℕ) (enough : Enough J scratch) (r i : ℕ) (l : i < J.parties) (x t u k : ℕ) → u < (after O J scratch r).point.gate
        → EitherOrder J.circuit x t u k
        → part_after O J scratch r i u ≡ part_after O J scratch r i x
    parts_back scratch enough r i l x t u k h w = go w
      where
        p : Pair x t u k
        p = pair x t u k (omega (arith, within scratch enough r i l)) w

        ht : t < (after O J scratch r).point.gate
        ht = omega (arith, p.earlier)

        back : Undoes O k (part_after O J scratch r i x)
        back = undoes F I k p.low p.high _ (part_low scratch enough r i l x t ht p.named)

        go : EitherOrder J.circuit x t u k → part_after O J scratch r i u ≡ part_after O J scratch r i x
        go (inl w) =
            part_over scratch enough r i l t u 0 k h w.other_is
            ∙ ap (over O k) (part_times scratch enough r i l x t k ht w.one_is)
            ∙ back.times_then_over
        go (inr w) =
            part_times scratch enough r i l t u k h w.other_is
            ∙ ap (scale O k) (part_over scratch enough r i l x t 0 k ht w.one_is)
            ∙ back.over_then_times

    -- and the value.
    values_back : ((j : ℕ) → norm (plain_input O J j) ≡ plain_input O J j) → UndoneValues O J
    values_back inputs x t u k h w = go w ∙ rw (value_is F J ok x (omega (arith, p.named.earlier, ht))) (value_normed F _ _ _ _ _ (inputs x))
      where
        p : Pair x t u k
        p = pair x t u k h w

        ht : t < gates J.circuit
        ht = omega (arith, p.earlier)

        go : EitherOrder J.circuit x t u k → value O J u ≡ norm (value O J x)
        go (inl w) =
            value_over t u k h w.other_is ∙ ap (mul (inv k)) (value_times x t k ht w.one_is) ∙ over_times F I k p.low p.high _
        go (inr w) =
            value_times t u k h w.other_is ∙ ap (mul k) (value_over x t k ht w.one_is) ∙ times_over F I k p.low p.high _

-- An accepted circuit, whatever the preprocessing, the inputs and the coefficients; of the nonces and of the starting scratch only that they are long
-- enough.
pub undone : {O : Ops} (F : Field O) (I : Inverses O) (J : Joint) (scratch : List ℕ) → Accepts O J.parties J.circuit → Enough J scratch
    → Undone O J scratch
undone {O} F I J scratch accepts enough =
    record {
      divides = λ r i u h l e. part_over F J ok scratch enough r i l _ u _ _ h (ap (λ (k : Kind). gate_of k (gate J.circuit u).first (gate J.circuit u).second (gate J.circuit u).constant) e);
      parts = λ r i x t u k h l w. parts_back F J ok I scratch enough r i l x t u k h w;
    }
  where
    ok : Valid J.parties O.size J.circuit
    ok = valid J.parties O.size J.circuit accepts.circuit

-- On plain inputs that are elements.
pub undone_values : {O : Ops} (F : Field O) (I : Inverses O) (J : Joint) → Accepts O J.parties J.circuit → InputsPass O J.circuit J.inputs
    → UndoneValues O J
undone_values {O} F I J accepts inputs =
    values_back F J (valid J.parties O.size J.circuit accepts.circuit) I (input_normed F J inputs)

-- The same at the field that the code works with.
pub undone_here : (J : Joint) (scratch : List ℕ) → Accepts ops J.parties J.circuit → Enough J scratch → Undone ops J scratch
undone_here = undone laws inverses

pub undone_values_here : (J : Joint) → Accepts ops J.parties J.circuit → InputsPass ops J.circuit J.inputs → UndoneValues ops J
undone_values_here = undone_values laws inverses
