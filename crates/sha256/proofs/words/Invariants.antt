use Rattle.sha256.specs.Sha256.{words_of}
use Rattle.sha256.proofs.Written.{Written}
use Rattle.sha256.proofs.words.Given as goal

abbrev pub invariant-loop-i : goal.invariant-loop-i
invariant-loop-i l = Written (words_of l.bytes) l.initial.out l.out l.i
