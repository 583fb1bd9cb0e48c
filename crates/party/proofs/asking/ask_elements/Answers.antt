-- `party::asking::ask_elements` meets its contract: where all numbers are elements no question is refused, and else the first that is none is.
-- Assumes nothing.
use mathlib.Core.Path.{sym, ◌∙◌}
use borrow.Author.Tests.{lt-ltb}
use Rattle.circuit.specs.Verdict.{elements}
use Rattle.circuit.proofs.Verdicts.{ask_yes, each_all}
use Rattle.party.proofs.Elements.{first_refused, none_refused}
use Rattle.party.proofs.asking.ask_elements.Goals as goal

pub returns-then-all_elements : goal.returns-then-all_elements
unfolding elements
returns-then-all_elements c =
    sym (each_all _ _ (λ k l. ask_yes _ _ (lt-ltb _ _ (c.all_elements.ensures.0 c.if-all_elements.true k l))))

pub returns-in-Some : goal.returns-in-Some
returns-in-Some c =
    first_refused _ _ (sym c.no_element.ensures ∙ c.in-Some.is)

pub returns-in-None : goal.returns-in-None
returns-in-None c =
    none_refused _ _ (sym c.no_element.ensures ∙ c.in-None.is)
