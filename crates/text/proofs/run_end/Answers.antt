-- `text::run_end` meets its contract: the bytes that are taken are the run.
-- Assumes nothing.
use Rattle.std.proofs.Common.{◌+◌, ◌≡◌, Bool, true, false, cond, not, refl, ap, ◌∙◌, drop, arith, rules}
use mathlib.Core.Bool.{beq}
use Rattle.std.proofs.lemmas.Iterator.{YieldsList-from_slice}
use Rattle.std.proofs.lemmas.Iterator.Consumers.{count_from_yields_List}
use Rattle.std.proofs.lemmas.Iterator.Search.{YieldsList-from_take_while}
use Rattle.std.proofs.lemmas.List.{length-drop, take_rest}
use Rattle.std.proofs.lemmas.List.Folds.{length-prefix_len}
use Rattle.std.proofs.lemmas.List.Sums.{prefix_len-le-length}
use Rattle.std.specs.Slice.Iter.{iter_rest}
use Rattle.text.specs.Text.{is_space, belongs}
use Rattle.text.proofs.run_end.Goals as goal

same_kind : (r spaces : Bool) → beq r spaces ≡ cond spaces r (not r)
same_kind true true = refl
same_kind true false = refl
same_kind false true = refl
same_kind false false = refl

pub returns : goal.returns
unfolding belongs
returns c =
    let line = c.args.line.now in
    let spaces = c.args.spaces in
    let rest = drop c.args.from line in
    let source = ap iter_rest c.take_while.ensures.source ∙ c.iter-rest.ensures.rest ∙ take_rest line c.args.from in
    let count = count_from_yields_List c.take_while.result _ c.count.ensures.ran (YieldsList-from_take_while _ (belongs spaces) (YieldsList-from_slice rest source) c.take_while.ensures.closure c.take_while.ensures.done (λ x b q k. search (rules, same_kind (is_space x.now) spaces))) ∙ length-prefix_len (belongs spaces) rest in
    (ap (λ n. c.args.from + n) count, omega (arith, count, prefix_len-le-length (belongs spaces) rest, length-drop c.args.from line))
