-- `tokens::numbers::read_digits` meets its contract: the invariant is that the digits so far are the decimal of the value (`Written`).
-- Assumes nothing.
use native.Mathlib.Omega.{arith}
use mathlib.Core.Path.{◌≡◌, sym}
use lib.ListN.{get_or}
use borrow.Author.Tests.{leb-true}
use Rattle.std.proofs.lemmas.List.{get_or_read}
use Rattle.tokens.proofs.Numerals.{digit_small}
use Rattle.tokens.proofs.Written.{first_written, written_closes, written_more}
use Rattle.tokens.proofs.numbers.read_digits.Goals as goal

pub loop-i-init : goal.loop-i-init
loop-i-init c =
    let k = c.in_ok-get.ensures.lookup in
    let e : c.in_ok-get.field-0.now ≡ get_or c.args.text.now c.args.from 0 = get_or_read _ _ _ k.3.0 k.1 0 in
    first_written _ _ k.3.0 (rw e at c.in_ok-so_far.ensures)

pub returns-then-b-eq-CLOSING : goal.returns-then-b-eq-CLOSING
returns-then-b-eq-CLOSING c =
    written_closes _ _ _ _ c.loop-i.invariant c.loop-i-test.true c.if-b-eq-CLOSING.true

pub overflow_add-larger : goal.overflow_add-larger
overflow_add-larger c =
    omega (arith, c.loop-i.invariant.small, digit_small _ c.in_ok-d.ensures)

pub loop-i-preserved : goal.loop-i-preserved
loop-i-preserved c =
    written_more _ _ _ _ c.loop-i.invariant c.loop-i-test.true c.in_ok-d.ensures c.if-so_far-eq0.false (leb-true _ _ (sym c.if-not-is_word.ensures))
