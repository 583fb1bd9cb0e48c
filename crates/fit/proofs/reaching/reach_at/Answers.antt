-- `fit::reaching::reach_at` meets its contract: the numbers and intervals that the gate names are found, and its kind decides.
-- Assumes nothing.
use Rattle.fit.proofs.Ends.{fair_at, reach_made}
use Rattle.fit.proofs.reaching.reach_at.Goals as goal

pub kind_reach-requires : goal.kind_reach-requires
kind_reach-requires c =
    (fair_at _ _ c.requires.4 c.range_at-r.ensures, fair_at _ _ c.requires.5 c.interval_at-x.ensures, fair_at _ _ c.requires.5 c.interval_at-z.ensures)

pub returns : goal.returns
returns c =
    reach_made _ _ _ c.kind_at-kind.ensures c.first_at.ensures c.second_at.ensures c.constant_at.ensures c.interval_at-x.ensures c.interval_at-z.ensures _ c.requires.1 c.range_at-r.ensures c.kind_reach.ensures
