-- `party::send` meets its contract: what its questions accept, the step sends.
-- Assumes nothing.
use mathlib.Core.Path.{sym, ap, ◌∙◌}
use borrow.Author.Rules.{rules}
use Rattle.field.specs.Words.{ops}
use Rattle.circuit.specs.Question.{verdict_of}
use Rattle.protocol.proofs.Entries.{send_refused}
use Rattle.party.specs.Code.{answer_of, outcome_is, position_of}
use Rattle.party.proofs.Halves.{sent_done}
use Rattle.party.proofs.send.Goals as goal

pub send_step-held-requires : goal.send_step-held-requires
send_step-held-requires c =
    c.in_ok-layout.ensures.accepted.sends

pub returns-in_err-layout : goal.returns-in_err-layout
unfolding answer_of
returns-in_err-layout c =
    let told = send_refused ops _ _ _ _ _ _ (sym c.ask_send.ensures.asked ∙ ap verdict_of c.in_err-layout.was) in
    record { answer = search rules ∙ told.0; out = told.1.0; scratch = told.1.1 }

pub returns : goal.returns
unfolding answer_of outcome_is position_of
returns c =
    let told = sent_done _ _ _ _ _ _ _ _ _ c.in_ok-layout.ensures.accepted (sym c.ask_send.ensures.asked ∙ ap verdict_of c.in_ok-layout.was)
    c.send_step-held.ensures.held.is c.send_step-held.ensures.out c.send_step-held.ensures.scratch in
    record { answer = told.0; out = told.1.0; scratch = told.1.1 }
