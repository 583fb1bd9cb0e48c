-- `replay::sheets::read_in` meets its contract: the reader is called on the bytes of the numbers.
-- Assumes nothing.
use Rattle.replay.proofs.sheets.read_in.Goals as goal

pub returns : goal.returns
returns c = rw (← c.to_bytes.ensures) c.read_sheet.ensures
