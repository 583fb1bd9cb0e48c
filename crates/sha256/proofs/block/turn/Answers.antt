-- `sha256::block::turn` meets its contract: the rounds that are left give what all eight give from the start.
-- Assumes nothing.
use Rattle.std.proofs.Common.{rules}
use Rattle.sha256.proofs.Turns.{turn_more, turn_done}
use Rattle.sha256.proofs.block.turn.Goals as goal

pub loop-i-preserved : goal.loop-i-preserved
loop-i-preserved c =
    turn_more _ _ c.requires.0 c.requires.1 _ _ (search rules) c.loop-i.invariant c.round-next.ensures

pub returns : goal.returns
returns c =
    turn_done _ _ c.requires.0 c.requires.1 _ _ (search rules) c.loop-i.invariant
