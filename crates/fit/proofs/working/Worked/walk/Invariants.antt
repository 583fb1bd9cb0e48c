use Rattle.fit.specs.Code.{change_of}
use Rattle.fit.proofs.Walks.{Course}
use Rattle.fit.proofs.working.Worked.walk.Given as goal

abbrev pub invariant-loop-j : goal.invariant-loop-j
invariant-loop-j l = Course (change_of l.change) l.c l.ranges l.self l.ins l.j
