-- A text's bytes as the numbers of a list.
-- Assumes nothing.
use Rattle.std.specs.Prelude.{ℕ, ◌%◌, Bool, List, map, leb}
use Rattle.std.specs.List.{list_all}

-- "each number is 0 to 255"
abbrev pub bytes_in : List ℕ → Bool
bytes_in xs = list_all (λ x. leb x 255) xs

-- the low byte of each number, which is the number where it is a byte
abbrev pub lows : List ℕ → List ℕ
lows xs = map (λ x. x % 256) xs
