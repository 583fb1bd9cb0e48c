-- Sums of field elements.
-- Assumes nothing.
use Rattle.std.specs.Prelude.{ℕ, zero, suc}
use Rattle.algebra.specs.Ops.{Ops}

-- The sum of f 0, .., f (n - 1).
unfoldable pub sum : Ops → ℕ → (ℕ → ℕ) → ℕ
sum O zero f = 0
sum O (suc n) f = O.add (sum O n f) (f n)
