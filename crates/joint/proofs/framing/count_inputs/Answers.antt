-- `joint::framing::count_inputs` meets its contract. The loop's invariant: the inputs before gate j are counted. The measure is the number of gates left.
-- Assumes nothing.
use mathlib.Core.Path.{sym}
use native.Mathlib.Omega.{arith}
use Rattle.joint.proofs.Arrays.{counted_none, counted_small, counted_on, counted_upto}
use Rattle.joint.proofs.framing.count_inputs.Goals as goal

pub loop-j-init : goal.loop-j-init
loop-j-init c =
    (omega arith, counted_none _ _)

pub count_input-requires : goal.count_input-requires
count_input-requires c =
    (c.requires.0, c.requires.2, omega (arith, c.loop-j-test.true, c.requires.1), counted_small c.loop-j.invariant.1 (omega (arith, c.loop-j-test.true, c.requires.1, c.requires.0.few)))

pub loop-j-preserved : goal.loop-j-preserved
loop-j-preserved c =
    (omega (arith, c.loop-j-test.true), counted_on c.loop-j.invariant.1 c.count_input.ensures)

pub returns : goal.returns
returns c =
    counted_upto c.loop-j.invariant.1 c.loop-j.invariant.0 c.loop-j-test.false
