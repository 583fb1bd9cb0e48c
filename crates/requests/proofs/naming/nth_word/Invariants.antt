use Rattle.text.specs.Code.{Word}
use Rattle.requests.specs.Words.{ends}
use Rattle.requests.proofs.naming.nth_word.Given as goal

abbrev pub invariant-loop-i : goal.invariant-loop-i
invariant-loop-i l = Word l.words (ends l.i l.words) l.found
