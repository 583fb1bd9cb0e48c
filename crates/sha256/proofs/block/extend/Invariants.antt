use Rattle.sha256.proofs.Filling.{Filled}
use Rattle.sha256.proofs.block.extend.Given as goal

abbrev pub invariant-loop-i : goal.invariant-loop-i
invariant-loop-i l = Filled l.initial.w l.t l.w l.i
