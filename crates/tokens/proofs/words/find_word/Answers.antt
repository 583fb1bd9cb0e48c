-- `tokens::words::find_word` meets its contract: the words before this one do not serve, so this and those behind it decide.
-- Assumes nothing.
use mathlib.Core.Path.{sym, ◌∙◌}
use Rattle.tokens.proofs.Wording.{same_told, left_no, right_no, is_next, is_here, is_nowhere}
use Rattle.tokens.proofs.words.find_word.Goals.{else-eq-via-then-eq+else-may_stand, else-eq-via-else-eq}
use Rattle.tokens.proofs.words.find_word.Goals as goal

pub returns-then-may_stand : goal.returns-then-may_stand
returns-then-may_stand c =
    sym (c.loop-h.invariant
    ∙ is_here _ _ _ _ _ c.loop-h-test.true (same_told _ c.letters.ensures c.if-eq.ensures) (sym c.if-may_stand.ensures))

pub loop-h-preserved : goal.loop-h-preserved
loop-h-preserved c =
    c.loop-h.invariant
    ∙ is_next _ _ _ _ _ c.loop-h-test.true (elim c.else-eq.branch [
      | else-eq-via-then-eq+else-may_stand w ↦ right_no _ (sym w.if-may_stand.ensures)
      | else-eq-via-else-eq w ↦ left_no _ (same_told _ c.letters.ensures w.if-eq.ensures)
    ])

pub returns : goal.returns
returns c =
    sym (c.loop-h.invariant ∙ is_nowhere _ _ _ _ c.loop-h-test.false)
