-- `field::inverse` meets its contract: with the rest 0 the inverse is found.
-- Assumes nothing.
use borrow.Author.Rules.{rules}
use Rattle.field.proofs.Turns.{turning_done}
use Rattle.field.proofs.inverse.Goals as goal

pub returns : goal.returns
returns c =
    search (rules, turning_done)
