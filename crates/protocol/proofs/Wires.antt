-- A value shared among the parties with its MAC, and that what the parties do to their parts is done to the value.
-- Assumes nothing.
use Prim.Native.Nat.{ℕ, ◌<◌}
use mathlib.Core.Path.{◌≡◌, sym, ap, ap₂, ◌∙◌}
use Rattle.algebra.specs.Ops.{Ops}
use Rattle.algebra.specs.Field.{Field}
use Rattle.algebra.specs.Sum.{sum}
use Rattle.algebra.proofs.Ring.{add_norm_r, mul_norm_r, mul_left_comm, mul_sub}
use Rattle.algebra.proofs.Solver.{beaver}
use Rattle.algebra.proofs.Sums.{sum_add, sum_sub, mul_sum, sum_mul, sum_at_zero}
use Rattle.protocol.specs.Part.{Part, plus, minus, scale, known, shift, product}

-- n parties with their key shares
module _ {O : Ops} (F : Field O) (n : ℕ) (key : ℕ → ℕ) where
  open O use {norm, add, sub, mul}
  open F use {mul-add}

  -- the parts of w, one a party, carry the value v: the shares sum to v, and the MAC shares to the key times v
  pub record Carries (w : ℕ → Part) (v : ℕ) : Type 0 where
    pub shares : sum O n (λ i. (w i).share) ≡ v
    pub macs : sum O n (λ i. (w i).mac) ≡ mul (sum O n key) v

  module _ (x y : ℕ → Part) (u v : ℕ) (p : Carries x u) (q : Carries y v) where
    pub carries_plus : Carries (λ i. plus O (x i) (y i)) (add u v)
    unfolding plus
    carries_plus =
        record {
          shares = sum_add F n _ _ ∙ ap₂ add p.shares q.shares;
          macs = sum_add F n _ _ ∙ ap₂ add p.macs q.macs ∙ sym (mul-add _ u v);
        }

    pub carries_minus : Carries (λ i. minus O (x i) (y i)) (sub u v)
    unfolding minus
    carries_minus =
        record {
          shares = sum_sub F n _ _ ∙ ap₂ sub p.shares q.shares;
          macs = sum_sub F n _ _ ∙ ap₂ sub p.macs q.macs ∙ sym (mul_sub F _ u v);
        }

  pub carries_scale : (k : ℕ) (x : ℕ → Part) (u : ℕ) → Carries x u → Carries (λ i. scale O k (x i)) (mul k u)
  unfolding scale
  carries_scale k x u p =
      record {
        shares = mul_sum F n k _ ∙ ap (mul k) p.shares;
        macs = mul_sum F n k _ ∙ ap (mul k) p.macs ∙ mul_left_comm F k _ u;
      }

  module _ (some : 0 < n) where
    -- a number that all know
    pub carries_known : (k : ℕ) → Carries (λ i. known O i (key i) k) (norm k)
    unfolding known
    carries_known k =
        record { shares = sum_at_zero F n k some; macs = sum_mul F n k key ∙ sym (mul_norm_r F _ k) }

    pub carries_shift : (x : ℕ → Part) (u k : ℕ) → Carries x u → Carries (λ i. shift O i (key i) (x i) k) (add u k)
    unfolding shift
    carries_shift x u k p =
        rw (← (add_norm_r F u k)) (carries_plus x (λ i. known O i (key i) k) u (norm k) p (carries_known k))

    -- Beaver's product: the triple hides x and y in the two differences
    pub carries_product : (a b c : ℕ → Part) (u v x y : ℕ)
        → Carries a u
        → Carries b v
        → Carries c (mul u v)
        → Carries (λ i. product O i (key i) (a i) (b i) (c i) (sub x u) (sub y v)) (mul x y)
    unfolding product
    carries_product a b c u v x y p q r =
        rw (beaver F x y u v)
        (carries_shift _ _ (mul (sub x u) (sub y v))
        (carries_plus _ _ _ _ (carries_plus _ _ _ _ r (carries_scale (sub x u) b v q)) (carries_scale (sub y v) a u p)))
