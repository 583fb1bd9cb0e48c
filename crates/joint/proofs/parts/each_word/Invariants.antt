use Rattle.joint.proofs.Parting.{WordsDone}
use Rattle.joint.proofs.parts.each_word.Given as goal

abbrev pub invariant-loop-i : goal.invariant-loop-i
invariant-loop-i g l = WordsDone g.F.Fn l.give l.initial.out l.out l.i
