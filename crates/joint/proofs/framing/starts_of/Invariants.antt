use Rattle.joint.proofs.Arrays.{Starting}
use Rattle.joint.proofs.framing.starts_of.Given as goal

abbrev pub invariant-loop-i : goal.invariant-loop-i
invariant-loop-i l = Starting l.parties l.c l.starts l.at l.i
