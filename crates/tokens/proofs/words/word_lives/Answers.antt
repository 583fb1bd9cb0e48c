-- `tokens::words::word_lives` meets its contract: the words before this one do not serve, so this and those behind it decide.
-- Assumes nothing.
use mathlib.Core.Path.{sym, ◌∙◌}
use Rattle.tokens.proofs.Wording.{starts_told, left_no, right_no, lives_next, lives_here, lives_nowhere}
use Rattle.tokens.proofs.words.word_lives.Goals.{else-starts_with-via-then-starts_with+else-may_stand, else-starts_with-via-else-starts_with}
use Rattle.tokens.proofs.words.word_lives.Goals as goal

pub returns-then-may_stand : goal.returns-then-may_stand
returns-then-may_stand c =
    sym (c.loop-h.invariant
    ∙ lives_here _ _ _ _ _ c.loop-h-test.true (starts_told _ c.letters.ensures c.if-starts_with.ensures.value) (sym c.if-may_stand.ensures))

pub loop-h-preserved : goal.loop-h-preserved
loop-h-preserved c =
    c.loop-h.invariant
    ∙ lives_next _ _ _ _ _ c.loop-h-test.true (elim c.else-starts_with.branch [
      | else-starts_with-via-then-starts_with+else-may_stand w ↦ right_no _ (sym w.if-may_stand.ensures)
      | else-starts_with-via-else-starts_with w ↦ left_no _ (starts_told _ c.letters.ensures w.if-starts_with.ensures.value)
    ])

pub returns : goal.returns
returns c =
    sym (c.loop-h.invariant ∙ lives_nowhere _ _ _ _ c.loop-h-test.false)
