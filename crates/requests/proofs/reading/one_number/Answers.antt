-- `requests::reading::one_number` meets its contract: one law for each answer of the numbers read.
-- Assumes nothing.
use Rattle.std.proofs.Common.{◌∙◌, ap, rules}
use Rattle.std.specs.Prelude.{Ok}
use Rattle.std.proofs.lemmas.Result.{err_from_is_err_and}
use Rattle.requests.proofs.Lines.{one_number, not_one, faulty}
use Rattle.requests.proofs.reading.one_number.Goals as goal

pub returns-in_err-read_numbers : goal.returns-in_err-read_numbers
returns-in_err-read_numbers c =
    let p = err_from_is_err_and c.from_residual.result c.from_residual.ensures.1 in
    rw (p.1, p.2) (faulty _ c.read_numbers.ensures.told c.in_err-read_numbers.was)

pub returns-in-1 : goal.returns-in-1
returns-in-1 c = one_number _ c.read_numbers.ensures.told c.read_numbers.ensures.list (c.in_ok-read_numbers.was ∙ ap Ok c.in-1.is)

pub returns-in_default : goal.returns-in_default
returns-in_default c = not_one _ c.read_numbers.ensures.told c.in_ok-read_numbers.was (search rules)
