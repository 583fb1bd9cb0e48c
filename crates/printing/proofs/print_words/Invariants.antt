-- `printing::print_words`: what is to be written ends within the text.
-- Assumes nothing.
use Rattle.std.proofs.Common.{◌≤◌}
use Rattle.printing.proofs.print_words.Given as goal

abbrev pub invariant-loop-n : goal.invariant-loop-n
invariant-loop-n g l = l.end ≤ 4096
