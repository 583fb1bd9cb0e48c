use Rattle.joint.proofs.Parting.{PartsDone}
use Rattle.joint.proofs.parts.each_part.Given as goal

abbrev pub invariant-loop-i : goal.invariant-loop-i
invariant-loop-i g l =
    PartsDone g.F.Fn l.visit l.k l.initial.xs l.xs l.i
