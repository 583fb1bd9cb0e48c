-- `fit::asking::outs_of` meets its contract: each gate before j has a kind, and is counted if it is an output.
-- Assumes nothing.
use Rattle.std.proofs.Common.{arith}
use Rattle.fit.proofs.Walks.{gates_there}
use Rattle.fit.proofs.asking.outs_of.Goals as goal

pub has_value_at-requires : goal.has_value_at-requires
has_value_at-requires c =
    (omega (arith, gates_there c.args.c.now), c.requires.1 _ (omega arith))
