use Rattle.joint.proofs.ReceiveTurns.{SettlingAll}
use Rattle.joint.proofs.receiving.settle.Given as goal

abbrev pub invariant-loop-j : goal.invariant-loop-j
invariant-loop-j l = SettlingAll l.f l.c l.preps l.from l.initial.scratch l.j l.scratch
