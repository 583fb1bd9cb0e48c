-- The values on plain inputs, gate by gate.
-- Assumes nothing.
use Prim.Native.Nat.{ℕ, zero, suc, ◌<◌}
use mathlib.Core.Path.{◌≡◌, refl, sym, ap₂, ◌∙◌}
use native.Mathlib.Omega.{arith}
use Rattle.algebra.specs.Ops.{Ops}
use Rattle.algebra.specs.Field.{Field}
use Rattle.circuit.specs.Gate.{Gate, gate, gates}
use Rattle.circuit.specs.Kind.{Class, Local, Owned, Opens, Output, shape, factor}
use Rattle.circuit.specs.Valid.{Valid}
use Rattle.circuit.proofs.Gates.{local_named, opens_named, factor_named}
use Rattle.protocol.specs.Joint.{Joint}
use Rattle.protocol.specs.Receive.{operand_of}
use Rattle.protocol.specs.Plain.{kind_value, value_of, plain_input, values, value}
use Rattle.theorems.proofs.Course.{before, before_at, course}
use Rattle.theorems.proofs.KindValues.{local_second, owned_value, output_value, opens_value}

module _ {O : Ops} (F : Field O) (J : Joint) where
  -- how value j is made of the values before it
  value_step : ℕ → (ℕ → ℕ) → ℕ
  value_step j v =
      let g = gate J.circuit j in
      kind_value O g.kind (plain_input O J j) (v g.first) (v g.second) (operand_of O g)

  -- The list of values is that of the recursion on all earlier gates.
  values_are : (j : ℕ) → values O J j ≡ before 0 value_step j
  unfolding values value_of before value_step
  values_are zero = refl
  values_are (suc j) = rw (values_are j)

  -- Value j is entry j of the recursion.
  value_course : (j : ℕ) → j < gates J.circuit → value O J j ≡ course 0 value_step j
  unfolding value
  value_course j l = rw values_are (before_at 0 value_step (gates J.circuit) j l)

  module _ {n q : ℕ} (ok : Valid n q J.circuit) (j : ℕ) (l : j < gates J.circuit) where
    -- The value of a gate depends on the values before it alone.
    value_local : (f h : ℕ → ℕ) → ((x : ℕ) → x < j → f x ≡ h x) → value_step j f ≡ value_step j h
    unfolding value_step
    value_local f h e = go (shape g).class refl
      where
        g : Gate
        g = gate J.circuit j

        go : (k : Class) → (shape g).class ≡ k
            → kind_value O g.kind (plain_input O J j) (f g.first) (f g.second) (operand_of O g)
            ≡ kind_value O g.kind (plain_input O J j) (h g.first) (h g.second) (operand_of O g)
        go Local k =
            ap₂ (λ (x z : ℕ). kind_value O g.kind (plain_input O J j) x z (operand_of O g))
            (e g.first (local_named ok j l k).earlier) (e g.second (local_second F ok j l k).earlier)
        go Owned k = owned_value F g k _ _ _ _ ∙ sym (owned_value F g k _ _ _ _)
        go Opens k =
            opens_value F g k _ _ f
            ∙ ap₂ O.mul (e g.first (opens_named ok j l k).earlier) (e (factor g) (factor_named ok j l k).earlier)
            ∙ sym (opens_value F g k _ _ h)
        go Output k = output_value F g k _ _ _ _ ∙ sym (output_value F g k _ _ _ _)

    -- Value j is made of the values that gate j names.
    pub value_is : value O J j
        ≡ kind_value O (gate J.circuit j).kind (plain_input O J j) (value O J (gate J.circuit j).first) (value O J (gate J.circuit j).second)
        (operand_of O (gate J.circuit j))
    unfolding course value_step
    value_is =
        value_course j l
        ∙ value_local _ (value O J) (λ x h. before_at 0 value_step j x h ∙ sym (value_course x (omega arith)))
