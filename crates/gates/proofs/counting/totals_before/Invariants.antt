use mathlib.Core.Path.{◌≡◌}
use Rattle.circuit.specs.Count.{unchecked}
use Rattle.circuit.specs.Code.{Totalled}
use Rattle.gates.proofs.counting.totals_before.Given as goal

abbrev pub invariant-loop-j : goal.invariant-loop-j
invariant-loop-j l = (l.waiting ≡ unchecked l.c l.j) × Totalled l.c l.j l.t
