use Rattle.tokens.proofs.Lettering.{Spelled}
use Rattle.tokens.proofs.words.read_slowly.Given as goal

abbrev pub invariant-loop-i : goal.invariant-loop-i
invariant-loop-i l = Spelled l.text l.any l.outermost l.from l.i
