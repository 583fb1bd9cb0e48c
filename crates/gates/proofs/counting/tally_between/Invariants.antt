use Rattle.circuit.specs.Code.{Tallied}
use Rattle.gates.proofs.counting.tally_between.Given as goal

abbrev pub invariant-loop-j : goal.invariant-loop-j
invariant-loop-j l = Tallied l.c l.i l.j l.t
