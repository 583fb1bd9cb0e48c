use Rattle.scaling.proofs.Scaling.{Scaling}
use Rattle.scaling.proofs.scale.Given as goal

abbrev pub invariant-loop-x : goal.invariant-loop-x
invariant-loop-x l = Scaling l.by l.initial.values l.values l.x-index
