use Rattle.field.specs.Words.{ops}
use Rattle.protocol.specs.Code.{layout_of}
use Rattle.protocol.proofs.Settling.{Settling, Reaching}
use Rattle.steps.proofs.receiving.settle.Given as goal

abbrev pub invariant-loop-j : goal.invariant-loop-j
invariant-loop-j l = Settling ops l.c (layout_of l.y) l.me l.key l.from l.initial.l l.j l.l × Reaching l.c l.y.gates l.from l.j
