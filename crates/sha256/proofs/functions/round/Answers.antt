-- `sha256::functions::round` meets its contract, by those of the functions that it calls.
-- Assumes nothing.
use Rattle.sha256.proofs.Turns.{round_is}
use Rattle.sha256.proofs.functions.round.Goals as goal

pub returns : goal.returns
returns c =
    round_is _ _ _ c.temp1-t1.ensures c.temp2-t2.ensures c.plus.ensures c.plus-2.ensures
