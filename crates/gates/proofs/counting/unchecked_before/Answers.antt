-- `gates::counting::unchecked_before` meets its contract: the gates passed on the way back are no outputs, and what they open is counted; at an output or at the start nothing is unchecked.
-- Assumes nothing.
use mathlib.Core.Path.{sym, ap, ◌∙◌}
use native.Mathlib.Omega.{arith}
use Rattle.circuit.specs.Kind.{Output, is_class}
use Rattle.circuit.proofs.Counts.{unchecked_few}
use Rattle.circuit.proofs.KindLaws.{shape_class, shape_openings, shape_small}
use Rattle.gates.proofs.Weights.{unchecked_back, unchecked_back_out, unchecked_none}
use Rattle.gates.proofs.counting.unchecked_before.Goals as goal

pub loop-i-init : goal.loop-i-init
loop-i-init c =
    (omega arith, omega arith)

pub returns-then-is_out : goal.returns-then-is_out
returns-then-is_out c =
    omega (arith, c.loop-i.invariant.1, unchecked_back_out c.args.c.now c.loop-i.i c.loop-i-test.true (sym (c.is_out.ensures ∙ ap (is_class Output) (shape_class _ _ c.shape_at-s.ensures)) ∙ c.if-is_out.true))

pub overflow_add-waiting : goal.overflow_add-waiting
overflow_add-waiting c =
    omega (arith, c.loop-i.invariant.1, c.requires.1, c.loop-i.invariant.0, unchecked_few c.args.c.now c.args.j, shape_small _ _ c.shape_at-s.ensures)

pub loop-i-preserved : goal.loop-i-preserved
loop-i-preserved c =
    (omega (arith, c.loop-i.invariant.0), omega (arith, c.loop-i.invariant.1, shape_openings _ _ c.shape_at-s.ensures, unchecked_back c.args.c.now c.loop-i.i c.loop-i-test.true (sym (c.is_out.ensures ∙ ap (is_class Output) (shape_class _ _ c.shape_at-s.ensures)) ∙ c.if-is_out.false)))

pub returns : goal.returns
returns c =
    omega (arith, c.loop-i.invariant.1, unchecked_none c.args.c.now c.loop-i.i c.loop-i-test.false)
