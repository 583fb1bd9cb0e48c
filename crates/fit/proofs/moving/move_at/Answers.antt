-- `fit::moving::move_at` meets its contract: the numbers, intervals and moves that the gate names are found, and its kind decides.
-- Assumes nothing.
use Rattle.fit.proofs.Ends.{fair_at, move_made}
use Rattle.fit.proofs.moving.move_at.Goals as goal

pub kind_move-requires : goal.kind_move-requires
kind_move-requires c =
    (fair_at _ _ c.requires.1 c.interval_at-x.ensures, fair_at _ _ c.requires.1 c.interval_at-z.ensures, c.requires.2 _, c.requires.2 _)

pub returns : goal.returns
returns c =
    move_made _ _ _ c.kind_at-kind.ensures c.first_at-first.ensures c.second_at-second.ensures c.constant_at-k.ensures c.interval_at-x.ensures c.interval_at-z.ensures _ _ _ c.change_at.ensures c.kind_move.ensures c.capped.ensures
