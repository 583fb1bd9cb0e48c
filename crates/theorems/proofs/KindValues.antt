-- What each kind computes. The kinds are gone through here alone; the other proofs go by the class.
-- Assumes nothing.
use Prim.Native.Nat.{ℕ, ◌<◌}
use mathlib.Core.Path.{◌≡◌, refl, subst}
use mathlib.Core.Logic.{◌⊎◌, inl, inr}
use mathlib.Core.Bool.{cond}
use mathlib.Core.List.{List}
use native.Mathlib.Omega.{arith}
use lib.Dec.{eqb}
use Rattle.algebra.specs.Ops.{Ops}
use Rattle.algebra.specs.Field.{Field}
use Rattle.algebra.proofs.Ring.{norm_zero, norm_sub}
use Rattle.circuit.specs.Gate.{Kind, In, Add, Sub, Plus, Times, Mul, Out, Sq, Give, Over, Gate, gate, gates}
use Rattle.circuit.specs.Kind.{Class, Local, Owned, Opens, Output, Wire, Unused, kind_shape, shape, factor}
use Rattle.circuit.specs.Valid.{Ref, Valid}
use Rattle.circuit.proofs.Tests.{by_cases}
use Rattle.circuit.proofs.KindLaws.{owned_no_out}
use Rattle.circuit.proofs.Gates.{gate_zero, second_fits, local_named}
use Rattle.protocol.specs.Part.{Part, plus, minus, scale, shift}
use Rattle.protocol.specs.Receive.{linear}
use Rattle.protocol.specs.Plain.{kind_value}
use Rattle.protocol.proofs.Wires.{Carries, carries_plus, carries_minus, carries_scale, carries_shift}

module _ {O : Ops} (F : Field O) where
  open O use {norm, mul}
  open F use {norm_add, norm_mul, mul_comm}

  -- a kind that needs no round: its second number names a gate or is unused; of parts that carry u and v it writes parts that carry its plain
  -- value; and it writes elements
  pub record Linear (k : Kind) : Type 0 where
    pub second : ((kind_shape k).second ≡ Wire) ⊎ ((kind_shape k).second ≡ Unused)
    pub carries : (n : ℕ) (key : ℕ → ℕ) (x z : ℕ → Part) (u v input constant : ℕ)
        → 0 < n
        → Carries F n key x u
        → Carries F n key z v
        → Carries F n key (λ i. linear O i (key i) k (x i) (z i) constant) (kind_value O k input u v constant)
    pub low : (i key : ℕ) (x z : Part) (constant : ℕ) → norm (linear O i key k x z constant).share ≡ (linear O i key k x z constant).share

  -- the plain value of a kind, by its class
  abbrev pub Computes : Class → Kind → Type 0
  Computes Local k = Linear k
  Computes Owned k = (input x z constant : ℕ) → kind_value O k input x z constant ≡ input
  Computes Opens k = (input x z constant : ℕ) → kind_value O k input x z constant ≡ mul x (cond (eqb (kind_shape k).openings 2) z x)
  Computes Output k = (input x z constant : ℕ) → kind_value O k input x z constant ≡ 0

  -- times and over multiply
  carries_multiple : (n : ℕ) (key : ℕ → ℕ) (x : ℕ → Part) (u k : ℕ) → Carries F n key x u → Carries F n key (λ i. scale O k (x i)) (mul u k)
  carries_multiple n key x u k p = rw (mul_comm u k) (carries_scale F n key k x u p)

  computes : (k : Kind) → Computes (kind_shape k).class k
  unfolding kind_shape kind_value linear plus minus scale shift
  computes In = λ input x z k. refl
  computes Add =
      record {
        second = inl refl;
        carries = λ n key x z u v input k some p q. carries_plus F n key x z u v p q;
        low = λ i key x z k. norm_add _ _;
      }
  computes Sub =
      record {
        second = inl refl;
        carries = λ n key x z u v input k some p q. carries_minus F n key x z u v p q;
        low = λ i key x z k. norm_sub F _ _;
      }
  computes Plus =
      record {
        second = inr refl;
        carries = λ n key x z u v input k some p q. carries_shift F n key some x u k p;
        low = λ i key x z k. norm_add _ _;
      }
  computes Times =
      record {
        second = inr refl;
        carries = λ n key x z u v input k some p q. carries_multiple n key x u k p;
        low = λ i key x z k. norm_mul _ _;
      }
  computes Mul = λ input x z k. refl
  computes Out = λ input x z k. refl
  computes Sq = λ input x z k. refl
  computes Give = λ input x z k. refl
  computes Over =
      record {
        second = inr refl;
        carries = λ n key x z u v input k some p q. carries_multiple n key x u k p;
        low = λ i key x z k. norm_mul _ _;
      }

  -- A plain value is an element where the input is.
  pub value_normed : (k : Kind) (input x z constant : ℕ) → norm input ≡ input → norm (kind_value O k input x z constant) ≡ kind_value O k input x z constant
  unfolding kind_value
  value_normed In input x z k e = e
  value_normed Add input x z k e = norm_add _ _
  value_normed Sub input x z k e = norm_sub F _ _
  value_normed Plus input x z k e = norm_add _ _
  value_normed Times input x z k e = norm_mul _ _
  value_normed Mul input x z k e = norm_mul _ _
  value_normed Out input x z k e = norm_zero F
  value_normed Sq input x z k e = norm_mul _ _
  value_normed Give input x z k e = norm_zero F
  value_normed Over input x z k e = norm_mul _ _

  module _ (g : Gate) where
    gate_computes : {k : Class} → (shape g).class ≡ k → Computes k g.kind
    gate_computes e = subst (λ (k : Class). Computes k g.kind) e (computes g.kind)

    pub local_computes : (shape g).class ≡ Local → Linear g.kind
    local_computes = gate_computes

    pub owned_value : (shape g).class ≡ Owned → (input x z k : ℕ) → kind_value O g.kind input x z k ≡ input
    owned_value = gate_computes

    pub output_value : (shape g).class ≡ Output → (input x z k : ℕ) → kind_value O g.kind input x z k ≡ 0
    output_value = gate_computes

    -- a gate that opens values is the product of its first and of its second factor
    pub opens_value : (shape g).class ≡ Opens → (input k : ℕ) (v : ℕ → ℕ)
        → kind_value O g.kind input (v g.first) (v g.second) k ≡ mul (v g.first) (v (factor g))
    unfolding factor
    opens_value e input k v =
        let f : Computes Opens g.kind = gate_computes e in
        let p = f input (v g.first) (v g.second) k in
        by_cases (eqb (shape g).openings 2) (λ h. rw h (rw h at p)) (λ h. rw h (rw h at p))

-- What a gate that needs no round names second is there too: where it is unused it is 0, and gate 0 is an input.
pub local_second : {O : Ops} (F : Field O) {n q : ℕ} {c : List ℕ} (v : Valid n q c) (j : ℕ) → j < gates c → (shape (gate c j)).class ≡ Local → Ref c j (gate c j).second
local_second F {c = c} v j h e = go (local_computes F (gate c j) e).second
  where
    go : ((shape (gate c j)).second ≡ Wire) ⊎ ((shape (gate c j)).second ≡ Unused) → Ref c j (gate c j).second
    go (inl w) = second_fits v j h w
    go (inr w) =
        let z : (gate c j).second ≡ 0 = second_fits v j h w in
        rw z (record { earlier = omega (arith, (local_named v j h e).earlier); valued = rw (owned_no_out (gate_zero v)) })
