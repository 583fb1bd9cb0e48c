-- `party::asking::ask_send` meets its contract: 1 to 13 are asked, then 14 of the position's half, then the questions of its round.
-- Assumes nothing.
use mathlib.Core.Path.{sym, ap, ◌∙◌}
use borrow.Author.Rules.{rules}
use Rattle.circuit.specs.Question.{verdict_of}
use Rattle.circuit.proofs.Verdicts.{asked_no}
use Rattle.protocol.specs.Code.{stage_of}
use Rattle.protocol.specs.Ask.{ask_send}
use Rattle.party.specs.Code.{position_of}
use Rattle.protocol.proofs.Entries.{half_decides}
use Rattle.party.proofs.Halves.{placed, sends_nothing, scratch_laid, round_asks, send_asked, sendable}
use Rattle.party.proofs.asking.ask_send.Goals as goal

pub invariant_of-scratch : goal.invariant_of-scratch
invariant_of-scratch c =
    record { laid = scratch_laid _ _ _ _ _ c.in_ok-layout.ensures.accepted }

pub ask_send_round-requires : goal.ask_send_round-requires
ask_send_round-requires c =
    round_asks _ _ _ _ _ c.in_ok-layout.ensures.accepted _

pub returns-in_err-layout-clause-asked : goal.returns-in_err-layout-clause-asked
unfolding ask_send
returns-in_err-layout-clause-asked c =
    placed _ _ _ _ (asked_no _ c.ask_place.ensures.asked c.in_err-layout.was (search rules))

pub returns-in_err-ask_send_round-clause-asked : goal.returns-in_err-ask_send_round-clause-asked
returns-in_err-ask_send_round-clause-asked c =
    send_asked _ _ _ _ _ c.in_ok-layout.ensures.accepted _ (ap stage_of c.in-Send.is) _ _ _ (search rules ∙ sym (ap verdict_of c.in_err-ask_send_round.was) ∙ c.ask_send_round.ensures)

pub returns : goal.returns
returns c =
    let place = c.in_ok-layout.ensures.accepted in
    let stage = ap stage_of c.in-Send.is in
    let told = ap verdict_of c.in_ok-ask_send_round.was in
    record { asked = send_asked _ _ _ _ _ place _ stage _ _ _ (sym told ∙ c.ask_send_round.ensures); accepted = sendable _ _ _ _ _ place _ stage _ _ _ (sym c.ask_send_round.ensures ∙ told) }

pub returns-in_default : goal.returns-in_default
unfolding ask_send position_of
returns-in_default c =
    let place = c.in_ok-layout.ensures.accepted in
    record { asked = half_decides _ _ _ _ _ place.lent.accepted place.can (sends_nothing _ _ _ c.in_default.not-Send); accepted = tt }
