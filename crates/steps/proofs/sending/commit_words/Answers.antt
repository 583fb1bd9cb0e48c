-- `steps::sending::commit_words` meets its contract: the message is what a reveal sends, and no more.
-- Assumes nothing.
use mathlib.Core.Path.{refl}
use Rattle.steps.proofs.Marking.{mark_written}
use Rattle.steps.proofs.sending.commit_words.Goals as goal

pub returns : goal.returns
returns c =
    mark_written _ _ _ c.requires.0 _ _ refl c.reveal_words.ensures c.hash_into.ensures
