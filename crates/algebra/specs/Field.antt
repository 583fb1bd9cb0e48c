-- The laws of the arithmetic, which every theorem is proved over.
-- Assumes nothing.
use Rattle.std.specs.Prelude.{ℕ, ◌<◌, ◌≡◌}
use Rattle.algebra.specs.Ops.{Ops}

-- The operations are those of a commutative ring whose elements are the numbers below size, of which there are at least two. The laws
-- hold of all natural numbers, since each operation reduces its result. Of inv nothing else is said here: rounds, accuracy and secrecy need no more.
pub record Field (O : Ops) : Type 0 where
  pub one_lt : 1 < O.size
  pub norm_lt : (x : ℕ) → O.norm x < O.size
  pub norm_of_lt : {x : ℕ} → x < O.size → O.norm x ≡ x
  pub norm_add : (x y : ℕ) → O.norm (O.add x y) ≡ O.add x y
  pub norm_neg : (x : ℕ) → O.norm (O.neg x) ≡ O.neg x
  pub norm_mul : (x y : ℕ) → O.norm (O.mul x y) ≡ O.mul x y
  pub norm_inv : (x : ℕ) → O.norm (O.inv x) ≡ O.inv x
  pub add_norm : (x y : ℕ) → O.add (O.norm x) y ≡ O.add x y
  pub neg_norm : (x : ℕ) → O.neg (O.norm x) ≡ O.neg x
  pub mul_norm : (x y : ℕ) → O.mul (O.norm x) y ≡ O.mul x y
  pub add_comm : (x y : ℕ) → O.add x y ≡ O.add y x
  pub add_assoc : (x y z : ℕ) → O.add (O.add x y) z ≡ O.add x (O.add y z)
  pub add-zero : (x : ℕ) → O.add x 0 ≡ O.norm x
  pub add_neg : (x : ℕ) → O.add x (O.neg x) ≡ 0
  pub mul_comm : (x y : ℕ) → O.mul x y ≡ O.mul y x
  pub mul_assoc : (x y z : ℕ) → O.mul (O.mul x y) z ≡ O.mul x (O.mul y z)
  pub mul_one : (x : ℕ) → O.mul x 1 ≡ O.norm x
  pub mul-add : (x y z : ℕ) → O.mul x (O.add y z) ≡ O.add (O.mul x y) (O.mul x z)
  pub sub_neg : (x y : ℕ) → O.sub x y ≡ O.add x (O.neg y)

-- The law of inv, which dividing rests on: an element other than 0 times its inverse is 1. It stands by itself, for fields with kind 10 alone.
pub record Inverses (O : Ops) : Type 0 where
  pub mul_inv : (k : ℕ) → 0 < k → k < O.size → O.mul k (O.inv k) ≡ 1
