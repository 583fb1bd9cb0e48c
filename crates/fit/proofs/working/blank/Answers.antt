-- `fit::working::blank` meets its contract: a list of zeros holds nothing.
-- Assumes nothing.
use mathlib.Core.Path.{refl}
use Rattle.fit.proofs.Holding.{held_blank}
use Rattle.fit.proofs.working.blank.Goals as goal

pub returns : goal.returns
returns c =
    record { ends = held_blank _; moves = held_blank _; scores = held_blank _; none = refl }
