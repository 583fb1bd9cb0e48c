-- `steps::sending::weigh` meets its contract: after each pass the running sum stands for the products up to its end; one product is its own sum.
-- Assumes nothing.
use mathlib.Core.Path.{sym, ◌∙◌}
use native.Mathlib.Omega.{arith}
use Rattle.field.proofs.Laws.{laws}
use Rattle.algebra.proofs.Sums.{sum_zero}
use Rattle.steps.proofs.Weighing.{weighed_one, weighed_on}
use Rattle.steps.proofs.sending.weigh.Goals as goal

pub returns-then-k-eq1 : goal.returns-then-k-eq1
returns-then-k-eq1 c =
    record { is = c.mul.ensures.is ∙ weighed_one _ _ c.if-k-eq1.true; below = c.mul.ensures.below }

pub loop-t-init : goal.loop-t-init
loop-t-init c =
    record { upto = omega arith; below = omega arith; is = laws.norm_of_lt {x = 0} (omega arith) ∙ sym (sum_zero laws _) }

pub loop-t-preserved : goal.loop-t-preserved
loop-t-preserved c =
    let h = c.requires in
    let e = c.pass_end-to.ensures in
    record {
      upto = e.1;
      below = c.weigh_on-acc.ensures.0;
      is = c.weigh_on-acc.ensures.1 ∙ rw c.loop-t.invariant.is (weighed_on _ _ _ _ (omega (arith, e.0)) h.0 e.1);
    }
