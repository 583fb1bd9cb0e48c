-- `gates::counting::tally_of` meets its contract: the counts of which a weight is made are taken apart.
-- Assumes nothing.
use Rattle.gates.proofs.Weights.{weight_tallied}
use Rattle.gates.proofs.counting.tally_of.Goals as goal

pub returns : goal.returns
returns c =
    λ d i j h es eu. weight_tallied d i j h es eu
