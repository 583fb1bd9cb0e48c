use Rattle.field.proofs.Turns.{Turning}
use Rattle.field.proofs.inverse.Given as goal

abbrev pub invariant-loop-y : goal.invariant-loop-y
invariant-loop-y l = Turning l.k l.x l.y l.s l.t

abbrev pub decreases-loop-y : goal.decreases-loop-y
decreases-loop-y l = l.y
