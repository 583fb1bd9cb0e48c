-- `tokens::numbers::read_number` meets its contract: digits that are a number that fits are read to it, and all else is read slowly.
-- Assumes nothing.
use mathlib.Core.Path.{sym}
use Rattle.tokens.proofs.Written.{written_fits}
use Rattle.tokens.proofs.numbers.read_number.Goals as goal

pub returns : goal.returns
returns c =
    written_fits _ _ _ _ _ _ c.in-Some.ensures (rw c.index.ensures at (sym c.if-fits.ensures))
