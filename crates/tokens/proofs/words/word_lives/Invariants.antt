use mathlib.Core.Path.{◌≡◌}
use lib.ListN.{drop}
use Rattle.forms.specs.Words.{heads}
use Rattle.forms.specs.Machine.{word_lives}
use Rattle.tokens.proofs.words.word_lives.Given as goal

abbrev pub invariant-loop-h : goal.invariant-loop-h
invariant-loop-h l = word_lives heads l.any l.outermost l.spelt ≡ word_lives (drop l.h-index heads) l.any l.outermost l.spelt
