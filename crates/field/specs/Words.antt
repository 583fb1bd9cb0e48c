-- The field that stands below, by names that tell nothing of which it is: the crates above know it by these alone.
-- Assumes nothing.
use Rattle.std.specs.Prelude.{ℕ, ◌*◌}
use Rattle.algebra.specs.Ops.{Ops}
use Rattle.field.specs.Prime.{p, prime}

-- a word is an element if it is below this
abbrev pub size : ℕ
size = p

abbrev pub ops : Ops
ops = prime

-- a folded sum of products is below this
abbrev pub sum_size : ℕ
sum_size = p * p

-- a running sum may be below this when a product is added
abbrev pub sum_room : ℕ
sum_room = 9223372036854775808

-- each product adds less than this to it
abbrev pub term_size : ℕ
term_size = 4294967296

-- the largest number that a word can be
abbrev pub largest : ℕ
largest = 4294967295
