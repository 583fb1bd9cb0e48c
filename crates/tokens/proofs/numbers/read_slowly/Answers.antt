-- `tokens::numbers::read_slowly` meets its contract: the invariant is that the digits so far keep pace with the machine (`Reached`).
-- Assumes nothing.
use mathlib.Core.Path.{sym}
use native.Mathlib.Omega.{arith}
use Rattle.tokens.proofs.Numerals.{empty, no_digit, no_number, first_digit, digit_small, closes_here, unfit, other, leading, large, more, ended_here}
use Rattle.tokens.proofs.numbers.read_slowly.Goals as goal

pub returns-then-text-from : goal.returns-then-text-from
returns-then-text-from c =
    empty _ _ _ _ c.if-text-from.true

pub returns-in_default : goal.returns-in_default
returns-in_default c =
    no_digit _ _ _ _ c.if-text-from.false c.in_default.ensures

pub returns-then-not-lives : goal.returns-then-not-lives
returns-then-not-lives c =
    no_number _ _ _ _ c.if-text-from.false c.in-Some.ensures (sym c.if-not-lives.ensures)

pub loop-i-init : goal.loop-i-init
loop-i-init c =
    first_digit _ _ _ _ c.if-text-from.false c.in-Some.ensures c.requires.1 (sym c.if-not-lives.ensures)

pub returns-then-not-fits : goal.returns-then-not-fits
returns-then-not-fits c =
    unfit _ _ _ _ _ _ c.loop-i.invariant c.loop-i-test.true c.if-b-eq-CLOSING.true (sym c.if-not-fits.ensures)

pub returns-then-b-eq-CLOSING : goal.returns-then-b-eq-CLOSING
returns-then-b-eq-CLOSING c =
    closes_here _ _ _ _ _ _ c.loop-i.invariant c.loop-i-test.true c.if-b-eq-CLOSING.true (sym c.if-not-fits.ensures)

pub returns-in_default-digit : goal.returns-in_default-digit
returns-in_default-digit c =
    other _ _ _ _ _ _ c.loop-i.invariant c.loop-i-test.true c.if-b-eq-CLOSING.false c.in_default-digit.ensures

pub returns-then-value-eq0 : goal.returns-then-value-eq0
returns-then-value-eq0 c =
    leading _ _ _ _ _ _ c.loop-i.invariant c.loop-i-test.true c.if-b-eq-CLOSING.false c.in-Some-digit.ensures c.if-value-eq0.true

pub overflow_mul-larger : goal.overflow_mul-larger
overflow_mul-larger c =
    omega (arith, c.loop-i.invariant.small)

pub overflow_add-larger : goal.overflow_add-larger
overflow_add-larger c =
    omega (arith, c.loop-i.invariant.small, digit_small _ c.in-Some-digit.ensures)

pub returns-then-not-lives-2 : goal.returns-then-not-lives-2
returns-then-not-lives-2 c =
    large _ _ _ _ _ _ c.loop-i.invariant c.loop-i-test.true c.if-b-eq-CLOSING.false c.in-Some-digit.ensures c.if-value-eq0.false
    (sym c.if-not-lives-2.ensures)

pub loop-i-preserved : goal.loop-i-preserved
loop-i-preserved c =
    more _ _ _ _ _ _ c.loop-i.invariant c.loop-i-test.true c.if-b-eq-CLOSING.false c.in-Some-digit.ensures c.if-value-eq0.false c.requires.1
    (sym c.if-not-lives-2.ensures)

pub returns : goal.returns
returns c =
    ended_here _ _ _ _ _ _ c.loop-i.invariant c.loop-i-test.false
