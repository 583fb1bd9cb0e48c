-- `tokens::numbers::read_name` meets its contract: a row that is named is there, and its entry holds its gate.
-- Assumes nothing.
use mathlib.Core.Path.{sym}
use native.Mathlib.Omega.{arith}
use Rattle.forms.specs.Form.{closing}
use Rattle.tokens.proofs.Onward.{at_inside}
use Rattle.tokens.proofs.Tables.{length_known, named_low}
use Rattle.tokens.proofs.numbers.read_name.Goals as goal

pub bounds-table-v : goal.bounds-table-v
bounds-table-v c =
    omega (arith, named_low _ _ (sym c.if-not-is_named.ensures), length_known c.args.table.now)

pub overflow_add-result : goal.overflow_add-result
overflow_add-result c =
    let d = c.in_ok-number.ensures in
    omega (arith, at_inside _ _ closing d.digits.closes)
