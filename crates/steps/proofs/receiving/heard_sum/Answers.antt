-- `steps::receiving::heard_sum` meets its contract: after i turns the sum is that of the first i parties' words.
-- Assumes nothing.
use mathlib.Core.Path.{◌≡◌, refl}
use native.Mathlib.Omega.{arith}
use Rattle.field.proofs.Laws.{laws}
use Rattle.protocol.specs.Receive.{heard_sum}
use Rattle.protocol.proofs.Summing.{added_start, added_more}
use Rattle.steps.proofs.receiving.heard_sum.Goals as goal

pub loop-i-init : goal.loop-i-init
loop-i-init c =
    added_start laws _

pub loop-i-preserved : goal.loop-i-preserved
loop-i-preserved c =
    added_more laws _ _ _ c.loop-i.invariant refl c.add-acc.ensures.is

pub returns : goal.returns
unfolding heard_sum
returns c =
    let e : c.loop-i.i ≡ c.args.n = omega arith in
    record { is = rw (← e) c.loop-i.invariant.is; below = c.loop-i.invariant.below }
