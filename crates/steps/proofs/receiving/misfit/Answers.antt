-- `steps::receiving::misfit` meets its contract: the parties before the first that does not fit do, so it is the lowest.
-- Assumes nothing.
use mathlib.Core.Path.{◌≡◌}
use mathlib.Core.Bool.{true, false}
use borrow.Author.Rules.{rules}
use borrow.Author.Tests.{tests}
use native.Mathlib.Omega.{arith}
use Rattle.std.proofs.lemmas.Iterator.{first_from_Range}
use Rattle.protocol.specs.Receive.{fits}
use Rattle.steps.proofs.Marking.{first_misfit}
use Rattle.steps.proofs.receiving.misfit.Goals as goal

pub returns : goal.returns
returns c =
    let a = c.args in
    first_misfit a.marks.now a.heard.now a.parties c.find.result
    (first_from_Range _ _ _ _ (λ i. fits a.marks.now a.heard.now i ≡ false) (λ i. fits a.marks.now a.heard.now i ≡ true) c.find.ensures.ran
    (λ x q k. grind (arith, tests))
    (λ x q k. (search rules, grind (arith, tests))))
