-- `party::asking::ask_place` meets its contract: 1 to 12 are asked of all that is lent, then 13 of the position.
-- Assumes nothing.
use mathlib.Core.Path.{sym, ap, ◌∙◌}
use borrow.Author.Rules.{rules}
use Rattle.circuit.specs.Question.{verdict_of}
use Rattle.circuit.proofs.Verdicts.{asked_on, asked_last, ask_true}
use Rattle.party.specs.Code.{place_of}
use Rattle.party.proofs.Halves.{can_asks}
use Rattle.party.proofs.asking.ask_place.Goals as goal

pub can_occur-can-requires : goal.can_occur-can-requires
can_occur-can-requires c =
    can_asks _ _ _ _ _ c.in_ok-lent.ensures.accepted

pub returns-in_err-ask-clause-asked : goal.returns-in_err-ask-clause-asked
unfolding place_of
returns-in_err-ask-clause-asked c =
    rw (← c.can_occur-can.ensures) (asked_on _ c.ask_lent.ensures.asked c.in_ok-lent.was (search rules ∙ sym (ap verdict_of c.in_err-ask.was) ∙ c.ask.ensures))

pub returns : goal.returns
unfolding place_of
returns c =
    record {
      asked = rw (← c.can_occur-can.ensures) (asked_on _ c.ask_lent.ensures.asked c.in_ok-lent.was (asked_last c.ask.ensures c.in_ok-ask.was));
      accepted = record { lent = c.in_ok-lent.ensures.accepted; can = sym c.can_occur-can.ensures ∙ ask_true 13 0 _ (sym c.ask.ensures ∙ ap verdict_of c.in_ok-ask.was) };
    }
