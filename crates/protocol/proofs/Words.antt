-- The words of all parties in one round, joined in party order.
-- Assumes nothing.
use Prim.Native.Nat.{ℕ, zero, suc, ◌+◌, ◌*◌, ◌<◌, ◌≤◌}
use mathlib.Core.Path.{◌≡◌, refl, ap₂, ◌∙◌}
use mathlib.Core.List.{List, ◌++◌}
use native.Mathlib.Nat.{mul-le-mul_right}
use native.Mathlib.Decide.{ℕ_discrete}
use native.Mathlib.Omega.{arith}
use lib.ListN.{length, get_or, drop, length-append, length-take, length-drop, get_or-append}
use lib.Seq.{get_or-append-add}
use Rattle.algebra.specs.Ops.{Ops}
use Rattle.algebra.specs.Field.{Field}
use Rattle.algebra.specs.Sum.{sum}
use Rattle.algebra.proofs.Sums.{sum_ext}
use Rattle.protocol.specs.Receive.{heard_sum}
use Rattle.protocol.specs.Scratch.{band}
use Rattle.protocol.specs.Joint.{joined}

-- Each party's part of a list that is long enough has k numbers.
pub length_band : (k n : ℕ) (l : List ℕ) → n * k ≤ length l → (i : ℕ) → i < n → length (band k l i) ≡ k
unfolding band
length_band k n l h i li =
    length-take k (drop (i * k) l)
    ∙ omega (arith, length-drop (i * k) l, mul-le-mul_right {m = suc i} {n = n} k (omega arith))

-- Equal lists joined are equal.
pub joined_ext : (n : ℕ) (f g : ℕ → List ℕ) → ((i : ℕ) → i < n → f i ≡ g i) → joined n f ≡ joined n g
unfolding joined
joined_ext zero f g e = refl
joined_ext (suc n) f g e = ap₂ {C = List ℕ} (λ x y. x ++ y) (joined_ext n f g (λ i l. e i (omega arith))) (e n (omega arith))

-- n lists of k numbers, joined, are n times k numbers.
pub length_joined : (n k : ℕ) (f : ℕ → List ℕ) → ((i : ℕ) → i < n → length (f i) ≡ k) → length (joined n f) ≡ n * k
unfolding joined
length_joined zero k f e = omega arith
length_joined (suc n) k f e =
    length-append (joined n f) (f n)
    ∙ omega (arith, length_joined n k f (λ i l. e i (omega arith)), e n (omega arith))

-- Number t of list i stands at t after the i lists before it.
pub get_d_joined : (n k : ℕ) (f : ℕ → List ℕ) → ((i : ℕ) → i < n → length (f i) ≡ k) → (i t : ℕ) → i < n → t < k
    → get_or (joined n f) (i * k + t) 0 ≡ get_or (f i) t 0
unfolding joined
get_d_joined zero k f e i t li lt = absurd (omega arith)
get_d_joined (suc n) k f e i t li lt = go (ℕ_discrete i n) (λ l. get_d_joined n k f (λ j lj. e j (omega arith)) i t l lt)
  where
    len : length (joined n f) ≡ n * k
    len = length_joined n k f (λ j lj. e j (omega arith))

    go : Dec (i ≡ n) → (i < n → get_or (joined n f) (i * k + t) 0 ≡ get_or (f i) t 0) → get_or (joined n f ++ f n) (i * k + t) 0 ≡ get_or (f i) t 0
    go (yes q) earlier = rw (q, ← len) (get_or-append-add (joined n f) (f n) t 0)
    go (no q) earlier =
        get_or-append (joined n f) (f n) 0 (i * k + t)
        (omega (arith, len, mul-le-mul_right {m = suc i} {n = n} k (omega arith)))
        ∙ earlier (omega arith)

-- What is heard of word t, where each party sent k, is the sum of the words t.
pub heard_sum_lem : {O : Ops} (F : Field O) (n k t : ℕ) (f : ℕ → List ℕ) → ((i : ℕ) → i < n → length (f i) ≡ k) → t < k
    → heard_sum O n k t (joined n f) ≡ sum O n (λ i. get_or (f i) t 0)
unfolding heard_sum
heard_sum_lem F n k t f e l = sum_ext F n _ _ (λ i li. get_d_joined n k f e i t li l)
