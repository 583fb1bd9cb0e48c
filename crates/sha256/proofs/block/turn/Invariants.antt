use Rattle.std.proofs.Common.{◌≡◌, drop}
use Rattle.sha256.specs.Sha256.{rounds}
use Rattle.sha256.proofs.block.turn.Given as goal

abbrev pub invariant-loop-i : goal.invariant-loop-i
invariant-loop-i l = rounds l.k l.w l.initial.v ≡ rounds (drop l.i l.k) (drop l.i l.w) l.v
