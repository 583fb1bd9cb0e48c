-- `sha256::block::extend` meets its contract: the loop keeps that the words so far extend to what is asked for.
-- Assumes nothing.
use Rattle.std.proofs.Common.{rules}
use Rattle.sha256.proofs.Filling.{filled_start, filled_again, filled_done}
use Rattle.sha256.proofs.block.extend.Goals as goal

pub loop-i-init : goal.loop-i-init
loop-i-init c =
    filled_start _ _ (search rules) (search rules)

pub loop-i-preserved : goal.loop-i-preserved
loop-i-preserved c =
    filled_again (search rules) c.next.ensures c.loop-i.invariant

pub returns : goal.returns
returns c =
    filled_done (search rules) c.loop-i.invariant
