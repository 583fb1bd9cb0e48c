-- `field::mul_twice` meets its contract: what is multiplied is twice the product, so that its upper half and half of its lower half are
-- what one fold of the product adds.
-- Assumes nothing.
use Prim.Native.Nat.{◌*◌, ◌/◌, ◌<◌}
use mathlib.Core.Path.{◌≡◌, refl, ◌∙◌}
use native.Mathlib.Omega.{arith}
use Rattle.field.specs.Prime.{p}
use Rattle.field.proofs.Bounds.{product_lt}
use Rattle.field.proofs.Folding.{high_fits, lower_fits, halves_fit, next_fits, more_fits, twice_element}
use Rattle.field.proofs.Products.{norm_product, product_twice}
use Rattle.field.proofs.mul_twice.Reads as reads
use Rattle.field.proofs.mul_twice.Lts as lts
use Rattle.field.proofs.mul_twice.Goals as goal

module _ (c : lts.Start reads.Pre reads.Post) where
  double : c.args.x * c.args.twice ≡ 2 * (c.args.x * (c.args.twice / 2))
  double = product_twice c.args.x c.args.twice c.requires.1

  few : c.args.x * (c.args.twice / 2) < p * p
  few = product_lt c.requires.0 c.requires.2

pub overflow_mul-wide : goal.overflow_mul-wide
overflow_mul-wide c =
    record { fits = omega (arith, double c, few c) }

pub overflow_cast-s : goal.overflow_cast-s
overflow_cast-s c =
    high_fits (double c) (few c)

pub overflow_cast-s-2 : goal.overflow_cast-s-2
overflow_cast-s-2 c =
    lower_fits (double c) (few c)

pub overflow_add-s : goal.overflow_add-s
overflow_add-s c =
    halves_fit (double c) (few c)

pub overflow_add-result : goal.overflow_add-result
overflow_add-result c =
    next_fits (double c) (few c) refl

pub overflow_add-result-2 : goal.overflow_add-result-2
overflow_add-result-2 c =
    more_fits (double c) (few c) refl

pub returns : goal.returns
returns c =
    let d = twice_element (double c) (few c) refl in record { is = d.is ∙ norm_product _ _; below = d.below }
