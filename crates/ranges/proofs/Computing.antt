-- To unfold this name is to unfold every definition of this crate and of those below it, so that a closed term computes.
-- Assumes nothing.
use Rattle.protocol.proofs.Computing.{computing as below}
use Rattle.ranges.specs.Interval.{interval_at, up_to, kind_reach, range_at, reach, intervals, gate_stays}
use Rattle.ranges.specs.Move.{kind_move, capped, gate_move, moves, score_moves}
use Rattle.ranges.specs.Entry.{answer, is_in_line, ask_change, ask_rooms, finding, moves_told, range_ok, ask_ranges, ask_fit, fit_answer, fit_intervals, fit_moves}

unfoldable pub computing : Unit {0}
unfolding below interval_at up_to kind_reach range_at reach intervals gate_stays kind_move capped gate_move moves score_moves answer is_in_line ask_change ask_rooms finding moves_told range_ok ask_ranges ask_fit fit_answer fit_intervals fit_moves
computing = tt
