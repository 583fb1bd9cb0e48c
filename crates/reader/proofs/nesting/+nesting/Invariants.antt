-- The measure is three times the forms that may still be open, and 1 more at a form, 2 more at an operand.
-- Assumes nothing.
use Rattle.std.proofs.Common.{◌+◌, ◌*◌}
use Rattle.reader.proofs.nesting.+nesting.Given as goal

abbrev pub decreases-read_form : goal.decreases-read_form
decreases-read_form l = 3 * l.left + 1

abbrev pub decreases-read_one : goal.decreases-read_one
decreases-read_one l = 3 * l.left

abbrev pub decreases-read_operand : goal.decreases-read_operand
decreases-read_operand l = 3 * l.left + 2

abbrev pub decreases-read_scaled : goal.decreases-read_scaled
decreases-read_scaled l = 3 * l.left

abbrev pub decreases-read_two : goal.decreases-read_two
decreases-read_two l = 3 * l.left
