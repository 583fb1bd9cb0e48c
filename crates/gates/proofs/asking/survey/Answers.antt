-- `gates::asking::survey` meets its contract: the questions are asked as in `accept`, and of an accepted circuit the pass has counted or else the counts are made.
-- Assumes nothing.
use mathlib.Core.Path.{sym}
use Rattle.circuit.proofs.Valid.{valid}
use Rattle.gates.proofs.asking.survey.Goals as goal

pub counted-requires : goal.counted-requires
counted-requires c =
    (valid _ _ _ (sym c.in_ok-ask_all.ensures)).few
