use Rattle.text.proofs.Steps.{SoFar}
use Rattle.text.proofs.read_numbers.Given as goal

abbrev pub invariant-loop-b : goal.invariant-loop-b
invariant-loop-b l = SoFar l.text l.initial.list l.list l.count l.begun l.b-index
