use mathlib.Core.Path.{◌≡◌}
use lib.ListN.{drop}
use Rattle.forms.specs.Words.{heads}
use Rattle.forms.specs.Machine.{word_is}
use Rattle.tokens.proofs.words.find_word.Given as goal

abbrev pub invariant-loop-h : goal.invariant-loop-h
invariant-loop-h l = word_is heads l.any l.outermost l.spelt ≡ word_is (drop l.h-index heads) l.any l.outermost l.spelt
