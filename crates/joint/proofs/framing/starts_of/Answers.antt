-- `joint::framing::starts_of` meets its contract. The loop's invariant: the starts of the parties before i are there. The measure is the number of parties left.
-- Assumes nothing.
use mathlib.Core.Path.{refl}
use native.Mathlib.Omega.{arith}
use Rattle.joint.proofs.Arrays.{starting, starting_small, starting_again, starting_done}
use Rattle.joint.proofs.framing.starts_of.Goals as goal

pub loop-i-init : goal.loop-i-init
loop-i-init c =
    starting _ _ refl

pub overflow_add-at : goal.overflow_add-at
overflow_add-at c =
    omega (arith, starting_small _ _ c.requires.0 c.requires.1 c.count_inputs-counts.ensures c.loop-i.invariant c.loop-i-test.true)

pub loop-i-preserved : goal.loop-i-preserved
loop-i-preserved c =
    starting_again _ _ c.requires.0 c.requires.1 c.count_inputs-counts.ensures c.loop-i.invariant c.loop-i-test.true c.requires.2

pub returns : goal.returns
returns c =
    starting_done _ _ c.loop-i.invariant c.loop-i-test.false
