-- `party::receive` meets its contract: what its questions accept, the step receives, and what it concludes tells the answer.
-- Assumes nothing.
use mathlib.Core.Path.{sym, ap, ◌∙◌}
use borrow.Author.Rules.{rules}
use Rattle.field.specs.Words.{ops}
use Rattle.circuit.specs.Question.{verdict_of}
use Rattle.protocol.proofs.Entries.{receive_refused}
use Rattle.protocol.proofs.Readiness.{gate_there}
use Rattle.party.specs.Code.{answer_of}
use Rattle.party.proofs.Halves.{told_asks, received_done}
use Rattle.party.proofs.receive.Goals as goal

pub is_told-told-requires : goal.is_told-told-requires
is_told-told-requires c =
    gate_there _ _ _ _ _ c.in_ok-layout.ensures.accepted.receives.ready

pub output_at-output-requires : goal.output_at-output-requires
output_at-output-requires c =
    told_asks _ _ _ _ c.in_ok-layout.ensures.accepted.receives.ready c.is_told-told.ensures

pub receive_step-x-requires : goal.receive_step-x-requires
receive_step-x-requires c =
    c.in_ok-layout.ensures.accepted.receives

pub returns-in_err-layout : goal.returns-in_err-layout
unfolding answer_of
returns-in_err-layout c =
    let told = receive_refused ops _ _ _ _ (sym c.ask_receive.ensures.asked ∙ ap verdict_of c.in_err-layout.was) in
    record { answer = search rules ∙ told.0; scratch = told.1 }

pub returns : goal.returns
unfolding answer_of
returns c =
    let told = received_done _ _ _ _ _ _ _ c.in_ok-layout.ensures.accepted (sym c.ask_receive.ensures.asked ∙ ap verdict_of c.in_ok-layout.was)
    c.is_told-told.ensures c.output_at-output.ensures c.receive_step-x.ensures.ruling c.receive_step-x.ensures.point c.outcome_of.ensures c.receive_step-x.ensures.scratch in
    record { answer = told.0; scratch = told.1 }
