use mathlib.Core.Path.{◌≡◌}
use Rattle.forms.specs.Machine.{begins}
use Rattle.tokens.proofs.numbers.begins_with.Given as goal

abbrev pub invariant-loop-k : goal.invariant-loop-k
invariant-loop-k l = begins l.j l.v l.j ≡ begins l.k l.v l.k

abbrev pub decreases-loop-k : goal.decreases-loop-k
decreases-loop-k l = l.k
