-- `steps::receiving::reach` meets its contract: the gates before the first that is not linear are.
-- Assumes nothing.
use mathlib.Core.Path.{◌≡◌, ◌∙◌}
use mathlib.Core.Bool.{true, false}
use borrow.Author.Rules.{rules}
use borrow.Author.Tests.{tests}
use native.Mathlib.Omega.{arith}
use Rattle.std.proofs.lemmas.Iterator.{first_from_Range}
use Rattle.circuit.specs.Gate.{gate}
use Rattle.circuit.specs.Kind.{is_linear}
use Rattle.protocol.proofs.Settling.{first_stop}
use Rattle.steps.proofs.receiving.reach.Goals as goal

pub returns : goal.returns
returns c =
    let a = c.args in
    c.unwrap_or.ensures
    ∙ first_stop a.c.now a.count a.from c.requires.1 c.find.result
    (first_from_Range _ _ _ _ (λ i. is_linear (gate a.c.now i) ≡ false) (λ i. is_linear (gate a.c.now i) ≡ true) c.find.ensures.ran
    (λ x q k. grind (arith, tests))
    (λ x q k. (search rules, grind (arith, tests))))
