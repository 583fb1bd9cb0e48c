-- `party::asking::ask_receive` meets its contract: 1 to 13 are asked, then 14 of the position's half, then the questions of its round.
-- Assumes nothing.
use mathlib.Core.Path.{sym, ap, ◌∙◌}
use borrow.Author.Rules.{rules}
use Rattle.circuit.specs.Question.{verdict_of}
use Rattle.circuit.proofs.Verdicts.{asked_no}
use Rattle.protocol.specs.Code.{stage_of}
use Rattle.protocol.specs.Ask.{ask_receive}
use Rattle.party.specs.Code.{position_of}
use Rattle.protocol.proofs.Entries.{half_decides}
use Rattle.party.proofs.Halves.{placed, receives_nothing, scratch_laid, round_asks, few_parties, receive_asked, receivable}
use Rattle.party.proofs.asking.ask_receive.Goals as goal

pub invariant_of-scratch : goal.invariant_of-scratch
invariant_of-scratch c =
    record { laid = scratch_laid _ _ _ _ _ c.in_ok-layout.ensures.accepted }

pub ask_receive_round-requires : goal.ask_receive_round-requires
ask_receive_round-requires c =
    (round_asks _ _ _ _ _ c.in_ok-layout.ensures.accepted _, few_parties _ _ _ _ _ c.in_ok-layout.ensures.accepted.lent)

pub returns-in_err-layout-clause-asked : goal.returns-in_err-layout-clause-asked
unfolding ask_receive
returns-in_err-layout-clause-asked c =
    placed _ _ _ _ (asked_no _ c.ask_place.ensures.asked c.in_err-layout.was (search rules))

pub returns-in_err-ask_receive_round-clause-asked : goal.returns-in_err-ask_receive_round-clause-asked
returns-in_err-ask_receive_round-clause-asked c =
    receive_asked _ _ _ _ _ c.in_ok-layout.ensures.accepted _ (ap stage_of c.in-Receive.is) _ (search rules ∙ sym (ap verdict_of c.in_err-ask_receive_round.was) ∙ c.ask_receive_round.ensures)

pub returns : goal.returns
returns c =
    let place = c.in_ok-layout.ensures.accepted in
    let stage = ap stage_of c.in-Receive.is in
    let told = ap verdict_of c.in_ok-ask_receive_round.was in
    record { asked = receive_asked _ _ _ _ _ place _ stage _ (sym told ∙ c.ask_receive_round.ensures); accepted = receivable _ _ _ _ _ place _ stage _ (sym c.ask_receive_round.ensures ∙ told) }

pub returns-in_default : goal.returns-in_default
unfolding ask_receive position_of
returns-in_default c =
    let place = c.in_ok-layout.ensures.accepted in
    record { asked = half_decides _ _ _ _ _ place.lent.accepted place.can (receives_nothing _ _ _ c.in_default.not-Receive); accepted = tt }
