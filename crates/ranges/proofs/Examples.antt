-- The examples, computed.
-- Assumes nothing.
use mathlib.Core.Path.{refl}
use Rattle.ranges.specs.Example.{Examples}
use Rattle.ranges.proofs.Computing.{computing}

pub examples : Examples
unfolding computing
examples =
    record {
      fits = refl;
      intervals = refl;
      moves = refl;
      unchanged = refl;
      unwritten = refl;
      each_kind = refl;
      each_interval = refl;
      each_move = refl;
      just_fits = refl;
      leaves = refl;
      intervals_stay = refl;
      moves_stay = refl;
      capped = refl;
      one_number = refl;
      two_numbers = refl;
      over = refl;
      last_end = refl;
      past_end = refl;
      reversed = refl;
      one_short = refl;
      no_in = refl;
      no_gate = refl;
      ranges_first = refl;
      no_room = refl;
      no_place = refl;
      whole = refl;
    }
