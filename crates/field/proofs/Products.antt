-- The elements of sums of products, which are reduced once at the end.
-- Assumes nothing.
use Prim.Native.Nat.{ℕ, ◌+◌, ◌*◌, ◌/◌, ◌%◌}
use native.Mathlib.Omega.{arith}
use mathlib.Core.Path.{◌≡◌, ap, sym, ◌∙◌}
use Rattle.field.specs.Prime.{norm, add, mul}
use Rattle.field.specs.Prime.Laws.{norm_eq, norm_of_lt, add_eq, mul_eq, add_norm}
use Rattle.field.proofs.Laws.{laws}
use Rattle.algebra.proofs.Ring.{add_norm_r}

-- The element of a product of numbers is the product.
pub norm_product : (x y : ℕ) → norm (x * y) ≡ mul x y
norm_product x y = norm_eq (x * y) ∙ sym (mul_eq x y)

-- A sum of numbers stands for the sum of the elements.
pub norm_sum : (s z : ℕ) → norm (s + z) ≡ add (norm s) (norm z)
norm_sum s z = norm_eq (s + z) ∙ sym (add_eq s z) ∙ sym (add_norm s z) ∙ sym (add_norm_r laws (norm s) z)

-- A number with a product added stands for the element with the product added.
pub norm_more : (s x y : ℕ) → norm (s + x * y) ≡ add (norm s) (mul x y)
norm_more s x y = norm_sum s (x * y) ∙ ap (add (norm s)) (norm_product x y)

-- A number with three products added stands for the sum with each.
pub norm_three : (c e b d a k m : ℕ)
    → norm (c + e * b + d * a + k * m)
    ≡ add (add (add c (mul e b)) (mul d a)) (mul k m)
norm_three c e b d a k m = rw (norm_more _ k m, norm_more _ d a, norm_more c e b, add_norm c)

-- A product with an even factor is twice that with half of it.
pub product_twice : (x w : ℕ) → w % 2 ≡ 0 → x * w ≡ 2 * (x * (w / 2))
product_twice x w e = let d : w ≡ 2 * (w / 2) = omega arith in omega (arith, ap (λ (n : ℕ). x * n) d)

-- what a product, or a sum of them, stands for
pub ruleset sums = (norm_product, norm_sum, norm_three, norm_of_lt)
