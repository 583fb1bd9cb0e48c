-- The laws of sums over every field.
-- Assumes nothing.
use Prim.Native.Nat.{ℕ, zero, suc, ◌<◌}
use mathlib.Core.Path.{◌≡◌, refl, ap, ap₂, sym, ◌∙◌}
use mathlib.Core.Bool.{cond}
use mathlib.Core.Logic.{◌≢◌}
use native.Mathlib.Decide.{ℕ_discrete}
use native.Mathlib.Omega.{arith}
use lib.Dec.{eqb, eqb-suc-zero}
use Rattle.algebra.specs.Ops.{Ops}
use Rattle.algebra.specs.Field.{Field}
use Rattle.algebra.specs.Sum.{sum}
use Rattle.algebra.proofs.Ring.{norm_norm, norm_zero, add_norm_r, zero-add, add_left_comm, add_injective_r, add_lt}
use Rattle.algebra.proofs.Ring.{add_mul, mul_zero, zero_mul, neg_sum, neg_zero, sub_self, add_sub_add}

module _ {O : Ops} (F : Field O) where
  open O use {size, norm, add, neg, sub, mul}
  open F use {one_lt, norm_add, add_comm, add_assoc, add-zero, mul-add}

  -- A sum of no terms is zero.
  pub sum_zero : (f : ℕ → ℕ) → sum O 0 f ≡ 0
  unfolding sum
  sum_zero f = refl

  -- A sum of one term more adds the last.
  pub sum_suc : (n : ℕ) (f : ℕ → ℕ) → sum O (suc n) f ≡ add (sum O n f) (f n)
  unfolding sum
  sum_suc n f = refl

  -- A sum of one term is its element.
  pub sum_one : (f : ℕ → ℕ) → sum O 1 f ≡ norm (f 0)
  unfolding sum
  sum_one f = F.add_comm 0 (f 0) ∙ F.add-zero (f 0)

  -- A sum is an element.
  pub norm_sum : (n : ℕ) (f : ℕ → ℕ) → norm (sum O n f) ≡ sum O n f
  unfolding sum
  norm_sum zero f = norm_zero F
  norm_sum (suc n) f = norm_add (sum O n f) (f n)

  -- A sum is below size.
  pub sum_lt : (n : ℕ) (f : ℕ → ℕ) → sum O n f < size
  unfolding sum
  sum_lt zero f = omega (arith, one_lt)
  sum_lt (suc n) f = add_lt F (sum O n f) (f n)

  -- Sums of equal terms are equal.
  pub sum_ext : (n : ℕ) (f g : ℕ → ℕ) → ((i : ℕ) → i < n → f i ≡ g i) → sum O n f ≡ sum O n g
  unfolding sum
  sum_ext zero f g h = refl
  sum_ext (suc n) f g h = ap₂ add (sum_ext n f g (λ i l. h i (omega arith))) (h n (omega arith))

  -- A sum depends on the terms' elements alone.
  pub sum_norm : (n : ℕ) (f : ℕ → ℕ) → sum O n (λ i. norm (f i)) ≡ sum O n f
  sum_norm zero f = simp sum_zero
  sum_norm (suc n) f = simp (sum_suc, sum_norm n f, add_norm_r F)

  -- A sum of zeros is zero.
  pub sum_zeros : (n : ℕ) → sum O n (λ i. 0) ≡ 0
  sum_zeros zero = sum_zero _
  sum_zeros (suc n) = simp (sum_suc, sum_zeros n, add-zero, norm_zero F)

  -- Two rows added term by term sum to the sum of their sums.
  pub sum_add : (n : ℕ) (f g : ℕ → ℕ) → sum O n (λ i. add (f i) (g i)) ≡ add (sum O n f) (sum O n g)
  sum_add zero f g = simp (sum_zero, add-zero, norm_zero F)
  sum_add (suc n) f g = simp (sum_suc, sum_add n f g, add_assoc, add_left_comm F)

  -- Two rows subtracted term by term sum to the difference of their sums.
  pub sum_sub : (n : ℕ) (f g : ℕ → ℕ) → sum O n (λ i. sub (f i) (g i)) ≡ sub (sum O n f) (sum O n g)
  sum_sub zero f g = simp (sum_zero, sub_self F)
  sum_sub (suc n) f g = simp (sum_suc, sum_sub n f g, add_sub_add F)

  -- A sum of opposites is the sum's opposite.
  pub sum_neg : (n : ℕ) (f : ℕ → ℕ) → sum O n (λ i. neg (f i)) ≡ neg (sum O n f)
  sum_neg zero f = simp (sum_zero, neg_zero F)
  sum_neg (suc n) f = simp (sum_suc, sum_neg n f, neg_sum F)

  -- A factor on the left of every term is one of the sum.
  pub mul_sum : (n a : ℕ) (f : ℕ → ℕ) → sum O n (λ i. mul a (f i)) ≡ mul a (sum O n f)
  mul_sum zero a f = simp (sum_zero, mul_zero F)
  mul_sum (suc n) a f = simp (sum_suc, mul_sum n a f, mul-add)

  -- A factor on the right of every term is one of the sum.
  pub sum_mul : (n a : ℕ) (f : ℕ → ℕ) → sum O n (λ i. mul (f i) a) ≡ mul (sum O n f) a
  sum_mul zero a f = simp (sum_zero, zero_mul F)
  sum_mul (suc n) a f = simp (sum_suc, sum_mul n a f, add_mul F)

  -- The order of two sums can be changed.
  pub sum_swap : (m n : ℕ) (f : ℕ → ℕ → ℕ) → sum O m (λ i. sum O n (λ j. f i j)) ≡ sum O n (λ j. sum O m (λ i. f i j))
  sum_swap zero n f = simp (sum_zero, sum_zeros)
  sum_swap (suc m) n f = simp (sum_suc, sum_swap m n f, sum_add)

  -- A row that is c at 0, and 0 elsewhere, sums to c.
  pub sum_at_zero : (n c : ℕ) → 0 < n → sum O n (λ i. cond (eqb i 0) c 0) ≡ norm c
  sum_at_zero zero c h = absurd (omega arith)
  sum_at_zero (suc zero) c h = sum_suc 0 _ ∙ simp (sum_zero, zero-add F)
  sum_at_zero (suc (suc n)) c h =
      sum_suc (suc n) _ ∙ simp (sum_at_zero (suc n) c (omega arith), eqb-suc-zero, add-zero, norm_norm F)

  -- Of two rows that differ at h only, each sum with the other row's term at h is the same.
  pub sum_change : (n h : ℕ) (f g : ℕ → ℕ) → h < n → ((i : ℕ) → i < n → i ≢ h → f i ≡ g i)
      → add (sum O n f) (g h) ≡ add (sum O n g) (f h)
  unfolding sum
  sum_change zero h f g lt e = absurd (omega arith)
  sum_change (suc n) h f g lt e = go (ℕ_discrete n h) (λ l. sum_change n h f g l (λ i k. e i (omega arith)))
    where
      go : Dec (n ≡ h) → (h < n → add (sum O n f) (g h) ≡ add (sum O n g) (f h))
          → add (add (sum O n f) (f n)) (g h) ≡ add (add (sum O n g) (g n)) (f h)
      go (yes here) earlier =
          rw (sum_ext n f g (λ i l. e i (omega arith) (omega arith)), here) (simp (add_assoc, add_comm, add_left_comm F))
      go (no there) earlier =
          let both : add (add (sum O n f) (g h)) (f n) ≡ add (add (sum O n g) (f h)) (g n) =
          ap₂ add (earlier (omega arith)) (e n (omega arith) there) in
          simp (add_assoc, add_comm, add_left_comm F) (simp (add_assoc, add_comm, add_left_comm F) at both)

  -- Two rows that differ at h only, and have one sum, do not differ there either.
  pub sum_pin : (n h : ℕ) (f g : ℕ → ℕ) → h < n → ((i : ℕ) → i < n → i ≢ h → f i ≡ g i) → sum O n f ≡ sum O n g
      → norm (f h) ≡ norm (g h)
  sum_pin n h f g lt e s =
      add_injective_r F (f h) (g h) (sum O n g)
      (add_comm (f h) (sum O n g)
      ∙ sym (sum_change n h f g lt e)
      ∙ ap (λ (t : ℕ). add t (g h)) s
      ∙ add_comm (sum O n g) (g h))

  -- Where one row is the other with d added at h, so is its sum.
  pub sum_moved : (n h d : ℕ) (f g : ℕ → ℕ) → h < n → ((i : ℕ) → i < n → i ≢ h → f i ≡ g i) → f h ≡ add (g h) d
      → sum O n f ≡ add (sum O n g) d
  sum_moved n h d f g lt e m =
      sym (norm_sum n f)
      ∙ add_injective_r F (sum O n f) (add (sum O n g) d) (g h)
      (sum_change n h f g lt e ∙ ap (add (sum O n g)) m ∙ simp (add_assoc, add_comm, add_left_comm F))
      ∙ norm_add (sum O n g) d
