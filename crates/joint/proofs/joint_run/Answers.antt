-- `joint::joint_run` meets its contract. A refusal leaves all as it was, and what is accepted gives what the run asks.
-- Assumes nothing.
use mathlib.Core.Path.{◌≡◌, sym, ap, ◌∙◌}
use borrow.Author.Rules.{rules}
use Rattle.std.specs.Prelude.{Err}
use Rattle.circuit.specs.Question.{verdict_of}
use Rattle.joint.specs.Code.{joint_answer_of}
use Rattle.joint.proofs.Measures.{count_is, count_fits, count_few}
use Rattle.joint.proofs.Accepting.{settled}
use Rattle.joint.proofs.Entering.{setting_refused, frame_asked, lent_refused, entry_runs, entry_left}
use Rattle.joint.proofs.joint_run.Goals as goal

pub returns-in_err-ask_setting : goal.returns-in_err-ask_setting
unfolding joint_answer_of
returns-in_err-ask_setting c =
    let e : c.from_residual.result ≡ Err c.in_err-ask_setting.field-0.0 = search rules in
    let told = setting_refused _ _ _ _ (sym c.ask_setting.ensures ∙ ap verdict_of c.in_err-ask_setting.was) in
    record { answer = rw e told.0; scratch = told.1.0; transcript = told.1.1.0; outputs = told.1.1.1 }

pub totals_before-totals-requires : goal.totals_before-totals-requires
totals_before-totals-requires c =
    let s = settled _ _ (sym c.ask_setting.ensures ∙ ap verdict_of c.in_ok-ask_setting.was) in (count_fits s.valid, count_few s.valid)

pub frame_of-f-requires : goal.frame_of-f-requires
frame_of-f-requires c =
    let s = settled _ _ (sym c.ask_setting.ensures ∙ ap verdict_of c.in_ok-ask_setting.was) in (s.valid, s.few, count_is s.valid, c.totals_before-totals.ensures)

pub ask_lent-requires : goal.ask_lent-requires
ask_lent-requires c =
    let s = settled _ _ (sym c.ask_setting.ensures ∙ ap verdict_of c.in_ok-ask_setting.was) in frame_asked s c.frame_of-f.ensures (count_is s.valid) c.totals_before-totals.ensures

pub returns-in_err-ask_lent : goal.returns-in_err-ask_lent
unfolding joint_answer_of
returns-in_err-ask_lent c =
    let e : c.from_residual-in_err-ask_lent.result ≡ Err c.in_err-ask_lent.field-0.0 = search rules in
    let told = lent_refused _ _ _ _ _ _ _ _ _ (sym c.ask_setting.ensures ∙ ap verdict_of c.in_ok-ask_setting.was) _ c.frame_of-f.ensures (sym c.ask_lent.ensures ∙ ap verdict_of c.in_err-ask_lent.was) in
    record { answer = rw e told.0; scratch = told.1.0; transcript = told.1.1.0; outputs = told.1.1.1 }

pub starts_of-places-requires : goal.starts_of-places-requires
starts_of-places-requires c =
    let s = settled _ _ (sym c.ask_setting.ensures ∙ ap verdict_of c.in_ok-ask_setting.was) in (s.valid, count_is s.valid, s.few)

pub run-requires : goal.run-requires
run-requires c =
    entry_runs _ _ _ _ _ _ _ _ _ (sym c.ask_setting.ensures ∙ ap verdict_of c.in_ok-ask_setting.was) _ c.frame_of-f.ensures (sym c.ask_lent.ensures ∙ ap verdict_of c.in_ok-ask_lent.was) c.starts_of-places.ensures

pub returns : goal.returns
unfolding joint_answer_of
returns c =
    let told = entry_left _ _ _ _ _ _ _ _ _ (sym c.ask_setting.ensures ∙ ap verdict_of c.in_ok-ask_setting.was) _ c.frame_of-f.ensures (sym c.ask_lent.ensures ∙ ap verdict_of c.in_ok-ask_lent.was) c.run.ensures in
    record { answer = told.0; scratch = told.1.0; transcript = told.1.1.0; outputs = told.1.1.1 }
