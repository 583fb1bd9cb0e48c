-- `circuit::counting::unchecked_after` meets its contract: a gate with a value adds what it opens, and an output leaves nothing.
-- Assumes nothing.
use mathlib.Core.Path.{sym, ◌∙◌}
use Rattle.circuit.proofs.Counts.{unchecked_valued, unchecked_out}
use Rattle.circuit.specs.Code.{shape_of}
use Rattle.circuit.proofs.counting.unchecked_after.Goals as goal

pub returns-then-is_out : goal.returns-then-is_out
unfolding shape_of
returns-then-is_out c =
    sym (unchecked_out _ _ (sym c.is_out.ensures ∙ c.if-is_out.true))

pub returns-else-is_out : goal.returns-else-is_out
unfolding shape_of
returns-else-is_out c =
    sym (unchecked_valued _ _ (sym c.is_out.ensures ∙ c.if-is_out.false))
