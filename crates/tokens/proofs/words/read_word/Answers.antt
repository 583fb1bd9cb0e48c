-- `tokens::words::read_word` meets its contract: the word that the first two letters suggest is read at once where it stands, and else letter by letter.
-- Assumes nothing.
use mathlib.Core.Path.{sym}
use Rattle.tokens.proofs.Lettering.{standing_word, may_more}
use Rattle.tokens.proofs.words.read_word.Goals as goal

pub returns-then-may_stand : goal.returns-then-may_stand
returns-then-may_stand c =
    rw c.row-row.ensures.length_is
    (standing_word _ _ _ _ _ c.requires.0 (may_more _ _ _ (sym c.if-may_stand.ensures)) (sym c.if-word_stands.ensures))
