-- `tokens::numbers::name_lives` meets its contract: the rows before j do not serve, so the rows from j on decide.
-- Assumes nothing.
use mathlib.Core.Path.{sym, ◌∙◌}
use Rattle.tokens.proofs.Naming.{lives_next, lives_here, lives_nowhere}
use Rattle.tokens.proofs.numbers.name_lives.Goals as goal

pub returns-then-row_lives : goal.returns-then-row_lives
returns-then-row_lives c =
    sym (c.loop-j.invariant ∙ lives_here _ _ _ c.loop-j-test.true c.row_lives.ensures c.if-row_lives.true)

pub loop-j-preserved : goal.loop-j-preserved
loop-j-preserved c =
    c.loop-j.invariant ∙ lives_next _ _ _ c.loop-j-test.true c.row_lives.ensures c.if-row_lives.false

pub returns : goal.returns
returns c =
    sym (c.loop-j.invariant ∙ lives_nowhere _ _ _ c.loop-j-test.false)
