-- `text::read_numbers` meets its contract: what is read so far, and the bytes to come, come to what the whole text does.
-- Assumes nothing.
use Rattle.std.proofs.Common.{rules}
use Rattle.text.proofs.Steps.{starts, ends, spaces, faulted, digits}
use Rattle.text.proofs.read_numbers.Goals.{then-is_space, else-is_space+in_ok-with_digit}
use Rattle.text.proofs.read_numbers.Goals as goal

pub loop-b-init : goal.loop-b-init
loop-b-init c =
    starts _ _

pub returns-in_err-with_digit : goal.returns-in_err-with_digit
returns-in_err-with_digit c =
    let (told, list) = faulted _ _ _ _ _ _ c.loop-b.invariant c.loop-b-test.true c.is_space.ensures c.if-is_space.false c.with_digit.ensures c.in_err-with_digit.was in
    record { told = search (rules, told); list = list }

pub loop-b-preserved : goal.loop-b-preserved
loop-b-preserved c =
    elim c.if-is_space.branch [
      | then-is_space w ↦
          let bound = w.put-count.ensures.lower_bound in
          rw (w.list-is, w.count-is, w.begun-is) (spaces _ _ _ _ _ _ c.loop-b.invariant c.loop-b-test.true _ _ c.is_space.ensures w.if-is_space.true w.put-count.ensures.list_after bound.0 bound.1 (search rules) bound.2)
      | else-is_space+in_ok-with_digit w ↦
          rw (w.list-is, w.count-is, w.begun-is) (digits _ _ _ _ _ _ c.loop-b.invariant c.loop-b-test.true c.is_space.ensures w.if-is_space.false w.with_digit.ensures w.in_ok-with_digit.was)
    ]

pub returns : goal.returns
returns c =
    let bound = c.put.ensures.lower_bound in
    let (told, list) = ends _ _ _ _ _ _ c.loop-b.invariant c.put.new.list c.put.result c.loop-b-test.false c.put.ensures.list_after bound.0 bound.1 bound.2 in
    record { told = told; list = list }
