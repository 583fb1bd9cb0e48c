-- The numbers below p are a field, by what is promised of their operations.
-- Assumes nothing.
use native.Mathlib.Omega.{arith}
use Rattle.algebra.specs.Field.{Field}
use Rattle.field.specs.Words.{ops}
use Rattle.field.specs.Prime.Laws as prime

-- The laws hold of the operations that stand below.
pub laws : Field ops
laws =
    record {
      one_lt = omega arith;
      norm_lt = prime.norm_lt;
      norm_of_lt = prime.norm_of_lt;
      norm_add = prime.norm_add;
      norm_neg = prime.norm_neg;
      norm_mul = prime.norm_mul;
      norm_inv = prime.norm_inv;
      add_norm = prime.add_norm;
      neg_norm = prime.neg_norm;
      mul_norm = prime.mul_norm;
      add_comm = prime.add_comm;
      add_assoc = prime.add_assoc;
      add-zero = prime.add-zero;
      add_neg = prime.add_neg;
      mul_comm = prime.mul_comm;
      mul_assoc = prime.mul_assoc;
      mul_one = prime.mul_one;
      mul-add = prime.mul-add;
      sub_neg = prime.sub_neg;
    }
