-- `fit::will_fit` meets its contract: a refusal is told; else the walk is made, and only where nothing leaves its lists are handed over.
-- Assumes nothing.
use mathlib.Core.Path.{sym}
use lib.Seq.{length-take-le}
use Rattle.std.proofs.Common.{rules, arith}
use Rattle.circuit.proofs.Verdicts.{asked_last}
use Rattle.fit.specs.Code.{answer_of, found_of}
use Rattle.fit.proofs.Told.{refused_told, told_few, told_tame, told_long, told_fair, leaves_told, ends_long, front_fits, scores_long, scores_fit, fits_told}
use Rattle.fit.proofs.will_fit.Goals as goal

pub returns-in_err-ask : goal.returns-in_err-ask
unfolding answer_of
returns-in_err-ask c =
    let told = refused_told _ _ _ _ _ _ (rw c.in_err-ask.was at c.ask.ensures) in
    record { answer = search (rules, told.0); intervals = told.1.0; moves = told.1.1 }

pub walk-requires : goal.walk-requires
walk-requires c =
    let e = asked_last c.ask.ensures c.in_ok-ask.was in
    (told_few _ _ _ _ _ _ e, told_tame _ _ _ _ _ _ e, told_long _ _ _ _ _ _ e, told_fair _ _ _ _ _ _ e, c.blank-worked.ensures)

pub overflow_mul-numbers : goal.overflow_mul-numbers
overflow_mul-numbers c =
    omega (arith, told_few _ _ _ _ _ _ (asked_last c.ask.ensures c.in_ok-ask.was))

pub shared_ref_as_front-copy : goal.shared_ref_as_front-copy
shared_ref_as_front-copy c =
    omega (arith, told_few _ _ _ _ _ _ (asked_last c.ask.ensures c.in_ok-ask.was))

pub slice_bounds-copy-end : goal.slice_bounds-copy-end
unfolding found_of
slice_bounds-copy-end c =
    sym (length-take-le _ _ (ends_long _ _ _ _ _ _ (asked_last c.ask.ensures c.in_ok-ask.was) _ _ c.gates_of-numbers.ensures c.in-Ok.ensures.found c.in-Ok.ensures.lists))

pub copy-requires : goal.copy-requires
unfolding found_of
copy-requires c =
    front_fits _ _ _ _ _ _ (asked_last c.ask.ensures c.in_ok-ask.was) _ _ c.gates_of-numbers.ensures c.in-Ok.ensures.found c.in-Ok.ensures.lists

pub shared_ref_as_front-copy-in-Ok : goal.shared_ref_as_front-copy-in-Ok
unfolding found_of
shared_ref_as_front-copy-in-Ok c =
    omega (arith, c.in-Ok.ensures.lists.2, scores_long _ _ _ _ _ _ (asked_last c.ask.ensures c.in_ok-ask.was) _ _ c.gates_of-numbers.ensures c.in-Ok.ensures.found c.in-Ok.ensures.lists)

pub slice_bounds-copy-end-in-Ok : goal.slice_bounds-copy-end-in-Ok
unfolding found_of
slice_bounds-copy-end-in-Ok c =
    sym (length-take-le _ _ (scores_long _ _ _ _ _ _ (asked_last c.ask.ensures c.in_ok-ask.was) _ _ c.gates_of-numbers.ensures c.in-Ok.ensures.found c.in-Ok.ensures.lists))

pub copy-requires-in-Ok : goal.copy-requires-in-Ok
unfolding found_of
copy-requires-in-Ok c =
    scores_fit _ _ _ _ _ _ (asked_last c.ask.ensures c.in_ok-ask.was) _ _ c.gates_of-numbers.ensures c.in-Ok.ensures.found c.in-Ok.ensures.lists

pub returns-in-Ok : goal.returns-in-Ok
unfolding found_of answer_of
returns-in-Ok c =
    let told = fits_told _ _ _ _ _ _ (asked_last c.ask.ensures c.in_ok-ask.was) _ _ c.gates_of-numbers.ensures c.in-Ok.ensures.found c.in-Ok.ensures.lists c.copy.ensures c.copy-in-Ok.ensures in
    record { answer = told.0; intervals = told.1.0; moves = told.1.1 }

pub returns-in-Err : goal.returns-in-Err
unfolding found_of answer_of
returns-in-Err c =
    let told = leaves_told _ _ _ _ _ _ (asked_last c.ask.ensures c.in_ok-ask.was) c.in-Err.ensures.found in
    record { answer = told.0; intervals = told.1.0; moves = told.1.1 }
