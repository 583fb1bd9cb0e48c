-- `gates::asking::accept` meets its contract: where the pass says yes all gates are valid, and the questions are asked with that known.
-- Assumes nothing.
use Rattle.gates.proofs.asking.accept.Goals as goal

pub ask_all-requires : goal.ask_all-requires
ask_all-requires c =
    c.all_well-yes.ensures
