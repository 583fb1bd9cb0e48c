use Rattle.std.proofs.Common.{◌*◌}
use Rattle.sha256.proofs.Ahead.{Turning}
use Rattle.sha256.proofs.block.rounds.Given as goal

abbrev pub invariant-loop-i : goal.invariant-loop-i
invariant-loop-i l = Turning l.initial.w l.initial.v l.w l.v (8 * l.i)
