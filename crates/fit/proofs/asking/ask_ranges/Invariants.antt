use mathlib.Core.Path.{◌≡◌}
use Rattle.circuit.specs.Verdict.{Accepted, each}
use Rattle.fit.proofs.Questions.{asks_range}
use Rattle.fit.proofs.asking.ask_ranges.Given as goal

abbrev pub invariant-loop-k : goal.invariant-loop-k
invariant-loop-k l = each l.k (asks_range l.ranges) ≡ Accepted
