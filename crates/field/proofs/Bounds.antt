-- Bounds on products of elements of the prime field, and on sums of them.
-- Assumes nothing.
use Prim.Native.Nat.{ℕ, ◌+◌, ◌*◌, ◌-◌, ◌<◌, ◌≤◌}
use native.Mathlib.Nat.{mul-le-mul}
use native.Mathlib.Omega.{arith}
use mir.Syntax.{w64}
use mir.Val.{Fits}
use Rattle.field.specs.Prime.{p}

-- The product of two elements is at most that of the largest element with itself.
pub product_le : {x y : ℕ} → x < p → y < p → x * y ≤ (p - 1) * (p - 1)
product_le hx hy = mul-le-mul {n₂ = p - 1} {m₂ = p - 1} (omega arith) (omega arith)

-- The product of two elements is below p * p.
pub product_lt : {x y : ℕ} → x < p → y < p → x * y < p * p
product_lt hx hy = omega (arith, product_le hx hy)

-- The product of two elements fits 64 bits.
pub product_fits : {x y : ℕ} → x < p → y < p → Fits w64 (x * y)
product_fits hx hy = record { fits = omega (arith, product_le hx hy) }

-- A number below p * p and a product fit 64 bits.
pub more_fits : {s x y : ℕ} → s < p * p → x < p → y < p → Fits w64 (s + x * y)
more_fits h hx hy = record { fits = omega (arith, product_le hx hy) }

-- An element and a product fit 64 bits.
pub one_fits : {c e b : ℕ} → c < p → e < p → b < p → Fits w64 (c + e * b)
one_fits hc he hb = record { fits = omega (arith, product_le he hb) }

module _ {c e b d a : ℕ} (hc : c < p) (he : e < p) (hb : b < p) (hd : d < p) (ha : a < p) where
  -- An element and two products fit 64 bits.
  pub two_fit : Fits w64 (c + e * b + d * a)
  two_fit = record { fits = omega (arith, product_le he hb, product_le hd ha) }

  -- An element and three products fit 64 bits.
  pub three_fit : {k m : ℕ} → k < p → m < p → Fits w64 (c + e * b + d * a + k * m)
  three_fit hk hm = record { fits = omega (arith, product_le he hb, product_le hd ha, product_le hk hm) }

-- what bounds a product, or a sum of them
pub ruleset fits = (product_lt, product_fits, one_fits, two_fit, three_fit)
