use Rattle.writer.proofs.Putting.{Begun}
use Rattle.writer.proofs.writing.put_begin.Given as goal

abbrev pub invariant-loop-b : goal.invariant-loop-b
invariant-loop-b l = Begun l.initial.text l.at l.b-items l.text l.end l.b-index
