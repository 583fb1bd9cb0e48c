-- `sha256::functions::temp2` meets its contract, by those of the functions that it calls.
-- Assumes nothing.
use Rattle.sha256.specs.Sha256.{T₂}
use Rattle.sha256.proofs.functions.temp2.Goals as goal

pub returns : goal.returns
unfolding T₂
returns c =
    cc
