-- `party::asking::ask_lent` meets its contract: 1 to 7 are asked first; what was counted along the circuit gives the lengths that 8 to 12 ask for, and the site of the gate.
-- Assumes nothing.
use lib.ListN.{length}
use mathlib.Core.Path.{refl, sym, ap, ◌∙◌}
use native.Mathlib.Omega.{arith}
use borrow.Author.Rules.{rules}
use Rattle.circuit.specs.Question.{verdict_of}
use Rattle.circuit.proofs.Verdicts.{asked_on, asked_no, asked_last}
use Rattle.protocol.specs.Ask.{ask_lent}
use Rattle.party.proofs.Lending.{lists_counted, survey_said, survey_valid, gates_are, layout_is, capacity_low, site_is, parties_low, lent_to}
use Rattle.party.proofs.asking.ask_lent.Goals as goal

pub returns-in_err-survey-clause-asked : goal.returns-in_err-survey-clause-asked
unfolding ask_lent
returns-in_err-survey-clause-asked c =
    let said = survey_said c.args.parties c.index.result c.args.c.now c.index.ensures c.survey.ensures.asked in
    asked_on _ c.ask_parties.ensures c.in_ok-ask_parties.was (asked_on _ c.ask.ensures c.in_ok-ask.was (asked_no _ said c.in_err-survey.was (search rules)))

pub overflow_add-layout : goal.overflow_add-layout
overflow_add-layout c =
    omega (arith, capacity_low _ _ c.in_ok-survey.ensures.accepted.all (survey_valid c.args.parties c.index.result c.args.c.now c.index.ensures c.survey.ensures.asked c.in_ok-survey.was))

pub size_of-size-requires : goal.size_of-size-requires
size_of-size-requires c =
    let valid = survey_valid c.args.parties c.index.result c.args.c.now c.index.ensures c.survey.ensures.asked c.in_ok-survey.was in
    (parties_low _ c.ask_parties.ensures c.in_ok-ask_parties.was, omega (arith, valid.few, gates_are c.args.c.now), omega (arith, capacity_low _ _ c.in_ok-survey.ensures.accepted.all valid))

pub returns-in_err-ask_lists-clause-asked : goal.returns-in_err-ask_lists-clause-asked
unfolding ask_lent
returns-in_err-ask_lists-clause-asked c =
    let counted = c.in_ok-survey.ensures.accepted in
    let said = survey_said c.args.parties c.index.result c.args.c.now c.index.ensures c.survey.ensures.asked in
    let layout = layout_is _ _ _ counted.all (gates_are c.args.c.now) refl in
    let lists = c.ask_lists.ensures ∙ lists_counted _ _ _ counted.all c.args.prep.now c.args.inputs.now (length c.args.l.now) c.args.parties _ layout c.size_of-size.ensures in
    asked_on _ c.ask_parties.ensures c.in_ok-ask_parties.was (asked_on _ c.ask.ensures c.in_ok-ask.was (asked_on _ said c.in_ok-survey.was (search rules ∙ sym (ap verdict_of c.in_err-ask_lists.was) ∙ lists)))

pub returns : goal.returns
unfolding ask_lent
returns c =
    let counted = c.in_ok-survey.ensures.accepted in
    let said = survey_said c.args.parties c.index.result c.args.c.now c.index.ensures c.survey.ensures.asked in
    let layout = layout_is _ _ _ counted.all (gates_are c.args.c.now) refl in
    let lists = c.ask_lists.ensures ∙ lists_counted _ _ _ counted.all c.args.prep.now c.args.inputs.now (length c.args.l.now) c.args.parties _ layout c.size_of-size.ensures in
    let told = lent_to _ _ _ _ _ (asked_on _ c.ask_parties.ensures c.in_ok-ask_parties.was (asked_on _ c.ask.ensures c.in_ok-ask.was (asked_on _ said c.in_ok-survey.was (asked_last lists c.in_ok-ask_lists.was)))) layout refl (λ h. site_is _ _ _ (counted.here (omega (arith, h))) h refl refl refl refl) in
    record { asked = told.0; accepted = told.1 }
