use mathlib.Core.Path.{◌≡◌}
use Rattle.circuit.specs.Kind.{is_in}
use Rattle.circuit.specs.Count.{count}
use Rattle.fit.proofs.asking.ins_of.Given as goal

abbrev pub invariant-loop-j : goal.invariant-loop-j
invariant-loop-j l = l.ins ≡ count is_in l.c l.j
