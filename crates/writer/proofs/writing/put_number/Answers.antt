-- `writer::writing::put_number` meets its contract: with the digits that are left the number would be whole.
-- Assumes nothing.
use native.Mathlib.Omega.{arith}
use Rattle.forms.proofs.Lengths.{length_some}
use Rattle.writer.proofs.Digits.{left_all, left_inside, left_before, left_more, left_done}
use Rattle.writer.proofs.writing.put_number.Goals as goal

pub overflow_add-end : goal.overflow_add-end
overflow_add-end c =
    omega (arith, c.places.ensures.counted, c.requires)

pub overflow_sub-i : goal.overflow_sub-i
overflow_sub-i c =
    omega (arith, c.places.ensures.counted, length_some c.args.n)

pub loop-rest-init : goal.loop-rest-init
loop-rest-init c =
    left_all _ _ _ (omega (arith, c.places.ensures.counted))

pub bounds-text-i : goal.bounds-text-i
bounds-text-i c =
    left_inside _ _ _ c.requires c.loop-rest.invariant

pub overflow_sub-i-in-loop-rest : goal.overflow_sub-i-in-loop-rest
overflow_sub-i-in-loop-rest c =
    left_before _ _ _ c.requires c.loop-rest.invariant c.loop-rest-test.true

pub loop-rest-preserved : goal.loop-rest-preserved
loop-rest-preserved c =
    left_more _ _ _ c.requires c.loop-rest.invariant c.loop-rest-test.true

pub bounds-text-i-2 : goal.bounds-text-i-2
bounds-text-i-2 c =
    left_inside _ _ _ c.requires c.loop-rest.invariant

pub returns : goal.returns
returns c =
    left_done _ _ _ c.requires c.loop-rest.invariant (omega (
      arith,
      c.places.ensures.counted,
    )) c.loop-rest-test.false
