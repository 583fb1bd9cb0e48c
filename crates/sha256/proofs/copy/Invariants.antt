use Rattle.sha256.proofs.Written.{Written}
use Rattle.sha256.proofs.copy.Given as goal

abbrev pub invariant-loop-i : goal.invariant-loop-i
invariant-loop-i l = Written l.from l.initial.to l.to l.i
