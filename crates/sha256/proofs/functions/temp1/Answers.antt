-- `sha256::functions::temp1` meets its contract, by those of the functions that it calls.
-- Assumes nothing.
use Rattle.sha256.specs.Sha256.{T₁}
use Rattle.sha256.proofs.functions.temp1.Goals as goal

pub returns : goal.returns
unfolding T₁
returns c =
    cc
