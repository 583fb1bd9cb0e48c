use Rattle.field.specs.Words.{size}
use Rattle.circuit.proofs.Loops.{Sifted}
use Rattle.party.proofs.asking.all_elements.Given as goal

abbrev pub invariant-loop-x : goal.invariant-loop-x
invariant-loop-x l = Sifted size l.xs l.x-index l.all
