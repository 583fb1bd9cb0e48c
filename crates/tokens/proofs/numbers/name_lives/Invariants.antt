use mathlib.Core.Path.{◌≡◌}
use lib.ListN.{drop}
use Rattle.forms.specs.Machine.{name_lives}
use Rattle.tokens.specs.Code.{known}
use Rattle.tokens.proofs.numbers.name_lives.Given as goal

abbrev pub invariant-loop-j : goal.invariant-loop-j
invariant-loop-j l = name_lives (known l.table) 0 l.v ≡ name_lives (known (drop l.j l.table)) l.j l.v
