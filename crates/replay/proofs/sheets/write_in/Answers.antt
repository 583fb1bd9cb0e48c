-- `replay::sheets::write_in` meets its contract: the writer is called on the bytes of the numbers, and what it leaves is put back.
-- Assumes nothing.
use mathlib.Core.Path.{ap, ◌∙◌}
use lib.ListN.{length}
use Rattle.std.proofs.lemmas.List.{length-map}
use Rattle.replay.proofs.sheets.write_in.Goals as goal

pub returns : goal.returns
returns c =
    let put = c.to_bytes.ensures in
    let written = c.write_sheet-answer.ensures in
    (rw (← ap length put ∙ length-map _ _) written.0, rw (← put) (c.to_numbers.ensures ∙ written.1))
