-- `circuit::counting::coefficients_of` meets its contract: an output takes one for each entry that was unchecked and one for the shown value.
-- Assumes nothing.
use mathlib.Core.Path.{sym, ◌∙◌}
use Rattle.circuit.proofs.RoundLaws.{coefficients_all, coefficients_valued}
use Rattle.circuit.proofs.KindLaws.{is_class_lem}
use Rattle.circuit.proofs.counting.coefficients_of.Goals as goal

pub returns-then-is_out : goal.returns-then-is_out
returns-then-is_out c =
    rw (is_class_lem _ (sym c.is_out.ensures ∙ c.if-is_out.true)) (sym (coefficients_all _))

pub returns-else-is_out : goal.returns-else-is_out
returns-else-is_out c =
    sym (coefficients_valued _ _ (sym c.is_out.ensures ∙ c.if-is_out.false))
