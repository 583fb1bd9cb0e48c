-- The field of the prime p, which the code works with. Its operations are shut: outside this module and the module below it nothing
-- is known of them but what Laws says.
-- Assumes nothing.
use Rattle.std.specs.Prelude.{ℕ, zero, suc, ◌+◌, ◌*◌, ◌-◌, ◌/◌, ◌%◌}
use Rattle.algebra.specs.Ops.{Ops}
pub mod Laws

-- The size of the field, the prime 2^31 - 1 of document 01.
abbrev pub p : ℕ
p = 2147483647

-- The element that x stands for.
pub norm : ℕ → ℕ
norm x = x % p

-- The sum of x and y.
pub add : ℕ → ℕ → ℕ
add x y = (x + y) % p

-- The element whose sum with x is 0.
pub neg : ℕ → ℕ
neg x = (p - x % p) % p

-- The difference of x and y.
pub sub : ℕ → ℕ → ℕ
sub x y = (x + (p - y % p)) % p

-- The product of x and y.
pub mul : ℕ → ℕ → ℕ
mul x y = (x * y) % p

-- Euclid's rule on the rests x and y, where s times a number is x and t times it is y, by these differences and products: the factor of the
-- last rest other than 0. At most n divisions are made.
unfoldable pub euclid : (ℕ → ℕ → ℕ) → (ℕ → ℕ → ℕ) → ℕ → ℕ → ℕ → ℕ → ℕ → ℕ
euclid sub mul zero x y s t = s
euclid sub mul (suc n) x zero s t = s
euclid sub mul (suc n) x (suc y) s t = euclid sub mul n (suc y) (x % suc y) t (sub s (mul (x / suc y) t))

-- how many divisions are enough: each halves the product of the rests, which is below 2^62 at first
abbrev pub turns : ℕ
turns = 62

-- The inverse of k: the element whose product with k is 1, as is proved. Of 0 it is 0.
pub inv : ℕ → ℕ
inv k = euclid sub mul turns p k 0 1

-- These operations as the arithmetic of a theorem.
abbrev pub prime : Ops
prime = record { size = p; norm = norm; add = add; neg = neg; sub = sub; mul = mul; inv = inv }

-- The same operations written out, so that they compute: for worked examples only.
unfoldable pub modular : Ops
modular =
    record {
      size = p;
      norm = λ x. x % p;
      add = λ x y. (x + y) % p;
      neg = λ x. (p - x % p) % p;
      sub = λ x y. (x + (p - y % p)) % p;
      mul = λ x y. (x * y) % p;
      inv = λ k. euclid (λ x y. (x + (p - y % p)) % p) (λ x y. (x * y) % p) turns p k 0 1;
    }
