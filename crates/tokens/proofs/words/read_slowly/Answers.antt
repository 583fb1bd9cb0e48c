-- `tokens::words::read_slowly` meets its contract: the invariant is that the letters so far keep pace with the machine (`Spelled`).
-- Assumes nothing.
use mathlib.Core.Path.{sym}
use Rattle.tokens.proofs.Lettering.{is_word, found_stands, no_word, no_letter, letter, ended_here}
use Rattle.tokens.proofs.words.read_slowly.Goals as goal

pub returns-in_default : goal.returns-in_default
returns-in_default c =
    no_word _ _ _ _ _ c.loop-i.invariant c.loop-i-test.true c.if-text-i-eq-SPACE.true c.in_default.ensures

pub returns-then-text-i-eq-SPACE : goal.returns-then-text-i-eq-SPACE
returns-then-text-i-eq-SPACE c =
    is_word _ _ _ _ _ c.loop-i.invariant _ (found_stands _ _ _ _ c.in-Some.ensures) c.loop-i-test.true c.if-text-i-eq-SPACE.true c.in-Some.ensures

pub returns-then-not-word_lives : goal.returns-then-not-word_lives
returns-then-not-word_lives c =
    no_letter _ _ _ _ _ c.loop-i.invariant c.loop-i-test.true c.if-text-i-eq-SPACE.false (sym c.if-not-word_lives.ensures)

pub loop-i-preserved : goal.loop-i-preserved
loop-i-preserved c =
    letter _ _ _ _ _ c.loop-i.invariant c.loop-i-test.true c.if-text-i-eq-SPACE.false (sym c.if-not-word_lives.ensures)

pub returns : goal.returns
returns c =
    ended_here _ _ _ _ _ c.loop-i.invariant c.loop-i-test.false
