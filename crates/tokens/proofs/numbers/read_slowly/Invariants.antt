use Rattle.tokens.proofs.Numerals.{Reached}
use Rattle.tokens.proofs.numbers.read_slowly.Given as goal

abbrev pub invariant-loop-i : goal.invariant-loop-i
invariant-loop-i l = Reached l.text l.table l.naming l.from l.value l.i
