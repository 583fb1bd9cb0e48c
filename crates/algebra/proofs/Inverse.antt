-- What follows from the law of inverses.
-- Assumes nothing.
use Prim.Native.Nat.{ℕ, ◌<◌}
use mathlib.Core.Path.{◌≡◌, ap, sym, ◌∙◌}
use Rattle.algebra.specs.Ops.{Ops}
use Rattle.algebra.specs.Field.{Field, Inverses}
use Rattle.algebra.proofs.Ring.{one_mul, mul_left_comm, inv_lt}

module _ {O : Ops} (F : Field O) (I : Inverses O) (k : ℕ) (low : 0 < k) (high : k < O.size) where
  open O use {norm, mul, inv}
  open F use {norm_of_lt, mul_comm, mul_assoc}

  -- Dividing by k undoes the product with k.
  pub over_times : (x : ℕ) → mul (inv k) (mul k x) ≡ norm x
  over_times x =
      sym (mul_assoc (inv k) k x)
      ∙ ap (λ (w : ℕ). mul w x) (mul_comm (inv k) k ∙ I.mul_inv k low high)
      ∙ one_mul F x

  -- The product with k undoes dividing by k.
  pub times_over : (x : ℕ) → mul k (mul (inv k) x) ≡ norm x
  times_over x = mul_left_comm F k (inv k) x ∙ over_times x

  -- The inverse is the only element whose product with k is 1.
  pub inv_unique : (x : ℕ) → x < O.size → mul k x ≡ 1 → x ≡ inv k
  inv_unique x lt h =
      sym (norm_of_lt lt)
      ∙ sym (over_times x)
      ∙ ap (mul (inv k)) (h ∙ sym (I.mul_inv k low high))
      ∙ over_times (inv k)
      ∙ norm_of_lt (inv_lt F k)
