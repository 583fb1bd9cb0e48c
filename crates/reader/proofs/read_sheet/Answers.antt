-- `reader::read_sheet` meets its contract: the parties are asked, then the text, and the rest of the circuit that was read.
-- Assumes nothing.
use Rattle.reader.proofs.Entering.{entered_refused, entered_no, entered_settled}
use Rattle.reader.proofs.read_sheet.Goals as goal

pub returns-in_err-ask_parties : goal.returns-in_err-ask_parties
returns-in_err-ask_parties c =
    entered_refused _ _ _ _ _ c.from_residual.ensures.1 c.in_err-ask_parties.ensures

pub returns-in_err-count : goal.returns-in_err-count
returns-in_err-count c =
    entered_no _ _ _ c.in_ok-ask_parties.ensures _ _ c.from_residual-in_err-count.ensures.1 c.in_err-count.ensures

pub returns : goal.returns
returns c =
    entered_settled _ _ _ c.in_ok-ask_parties.ensures _ c.in_ok-count.ensures c.settle.ensures
