-- `sha256::block::compress` meets its contract, by those of the functions that it calls.
-- Assumes nothing.
use Rattle.std.proofs.Common.{refl, ◌∙◌, ap₂}
use Rattle.sha256.specs.Sha256.{sums, compress}
use Rattle.sha256.proofs.block.compress.Goals as goal

pub returns : goal.returns
unfolding compress
returns c =
    let r = c.rounds.ensures in record { value = c.sums.ensures ∙ ap₂ sums r.value refl; w_after = r.w_after }
