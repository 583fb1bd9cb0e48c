use Rattle.tokens.proofs.Written.{Written}
use Rattle.tokens.proofs.numbers.read_digits.Given as goal

abbrev pub invariant-loop-i : goal.invariant-loop-i
invariant-loop-i l = Written l.text l.from l.so_far l.i
