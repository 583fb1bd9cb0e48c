-- `requests::reading::position_in` meets its contract: each word is found by its number.
-- Assumes nothing.
use Rattle.requests.proofs.Lines.{followed, position_read}
use Rattle.requests.proofs.reading.position_in.Goals as goal

pub returns-then-last : goal.returns-then-last
returns-then-last c =
    followed c.nth_word-first.ensures c.nth_word-second.ensures c.nth_word-third.ensures c.nth_word-last.ensures c.if-last.true

pub returns : goal.returns
returns c =
    position_read c.nth_word-first.ensures c.nth_word-second.ensures c.nth_word-third.ensures c.nth_word-last.ensures c.if-last.false c.one_number-gate.ensures c.stage_named-stage.ensures c.one_number-held.ensures c.position_of.ensures
