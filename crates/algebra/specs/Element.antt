-- What a function ensures of an element.
-- Assumes nothing.
use Rattle.std.specs.Prelude.{ℕ, ◌<◌, ◌≡◌}

-- a result r is v, and it is below q, the size of the field
pub record Is (q v r : ℕ) : Type 0 where
  pub is : r ≡ v
  pub below : r < q
