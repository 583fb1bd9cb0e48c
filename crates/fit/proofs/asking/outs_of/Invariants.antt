use mathlib.Core.Path.{◌≡◌}
use Rattle.circuit.specs.Kind.{is_out}
use Rattle.circuit.specs.Count.{count}
use Rattle.fit.proofs.asking.outs_of.Given as goal

abbrev pub invariant-loop-j : goal.invariant-loop-j
invariant-loop-j l = l.outs ≡ count is_out l.c l.j
