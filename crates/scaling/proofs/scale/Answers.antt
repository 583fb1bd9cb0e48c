-- `scaling::scale` meets its contract: the loop scales one number after another, by a factor that is given twice.
-- Assumes nothing.
use Prim.Native.Nat.{ℕ, ◌+◌, ◌/◌}
use mathlib.Core.Path.{◌≡◌, ap, ◌∙◌}
use native.Mathlib.Omega.{arith}
use borrow.Author.Rules.{rules}
use Rattle.field.specs.Prime.{mul}
use Rattle.scaling.proofs.Scaling.{scaling_starts, scaling_again, scaling_ends}
use Rattle.scaling.proofs.scale.Goals as goal

-- half of twice a factor is the factor
half : {t : ℕ} (k x : ℕ) → t ≡ k + k → mul x (t / 2) ≡ mul x k
half {t} k x h = let e : t / 2 ≡ k = omega (arith, h) in ap (λ (n : ℕ). mul x n) e

pub overflow_add-twice : goal.overflow_add-twice
overflow_add-twice c =
    record { fits = omega (arith, c.requires.0) }

pub loop-x-init : goal.loop-x-init
loop-x-init c =
    scaling_starts _ _ c.requires.1

pub mul_twice-requires : goal.mul_twice-requires
mul_twice-requires c =
    (c.loop-x.invariant.low _, omega arith, omega (arith, c.requires.0))

pub loop-x-preserved : goal.loop-x-preserved
loop-x-preserved c =
    scaling_again _ _ c.loop-x.invariant (omega arith) (c.mul_twice.ensures.is ∙ half c.args.by _ (search rules))

pub returns : goal.returns
returns c =
    scaling_ends _ _ c.loop-x.invariant (omega arith)
