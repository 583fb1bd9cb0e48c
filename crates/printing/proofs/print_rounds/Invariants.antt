-- `printing::print_rounds` meets its contract: two entries a gate are unchecked at most.
-- Assumes nothing.
use Rattle.std.proofs.Common.{◌*◌, ◌≤◌}
use Rattle.printing.proofs.print_rounds.Given as goal

abbrev pub invariant-loop-j : goal.invariant-loop-j
invariant-loop-j g l = (l.unchecked ≤ 2 * l.j) × (l.outs ≤ l.j)
