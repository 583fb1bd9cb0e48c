-- `steps::receiving::receive_own` meets its contract: the record and the words are the gate's, the class tells an input from an opening, and the linear gates after it are done.
-- Assumes nothing.
use mathlib.Core.Path.{sym, ◌∙◌}
use native.Mathlib.Omega.{arith}
use Rattle.field.specs.Words.{ops}
use Rattle.field.proofs.Laws.{laws}
use Rattle.protocol.proofs.Readiness.{tail_part, prep_some, record_fits, own_owned, own_opens, input_settles, opening_settles, opening_asks}
use Rattle.protocol.proofs.Received.{input_asks, input_made, opening_received}
use Rattle.steps.proofs.receiving.receive_own.Goals as goal

pub bounds-prep-0 : goal.bounds-prep-0
bounds-prep-0 c =
    prep_some _ _ _ _ _ c.requires.0.ready

pub offset_bounds-prep-start : goal.offset_bounds-prep-start
offset_bounds-prep-start c =
    omega (arith, record_fits _ _ _ _ _ c.requires.0.ready, c.well_formed)

pub slice_bounds-after_input-count : goal.slice_bounds-after_input-count
slice_bounds-after_input-count c =
    omega (arith, record_fits _ _ _ _ _ c.requires.0.ready, c.well_formed)

pub slice_bounds-after_input-start : goal.slice_bounds-after_input-start
slice_bounds-after_input-start c =
    omega (arith, record_fits _ _ _ _ _ c.requires.0.ready, c.well_formed)

pub after_input-requires : goal.after_input-requires
after_input-requires c =
    input_asks _ _ _ _ c.requires.0.ready (own_owned c.requires.0.ready c.requires.2 (sym c.is_in.ensures ∙ c.if-is_in.true)) c.requires.4.first.below (tail_part c.args.at.prep c.args.prep.now)

pub settle-requires : goal.settle-requires
settle-requires c =
    (input_settles laws _ _ _ _ c.requires.0.ready _ _ _ c.after_input.ensures, c.requires.1)

pub returns-then-is_in : goal.returns-then-is_in
returns-then-is_in c =
    input_made ops _ _ _ _ _ c.requires.0.ready (own_owned c.requires.0.ready c.requires.2 (sym c.is_in.ensures ∙ c.if-is_in.true)) (tail_part c.args.at.prep c.args.prep.now) c.requires.4.first.is c.after_input.ensures c.settle.ensures

pub offset_bounds-prep-start-2 : goal.offset_bounds-prep-start-2
offset_bounds-prep-start-2 c =
    omega (arith, record_fits _ _ _ _ _ c.requires.0.ready, c.well_formed)

pub slice_bounds-after_opening-count : goal.slice_bounds-after_opening-count
slice_bounds-after_opening-count c =
    omega (arith, record_fits _ _ _ _ _ c.requires.0.ready, c.well_formed)

pub slice_bounds-after_opening-start : goal.slice_bounds-after_opening-start
slice_bounds-after_opening-start c =
    omega (arith, record_fits _ _ _ _ _ c.requires.0.ready, c.well_formed)

pub after_opening-requires : goal.after_opening-requires
after_opening-requires c =
    (opening_asks _ _ _ _ c.requires.0.ready (own_opens c.requires.0.ready c.requires.2 (sym c.is_in.ensures ∙ c.if-is_in.false)) (tail_part c.args.at.prep c.args.prep.now) c.requires.3 c.requires.4.first.below c.requires.4.second.below)

pub settle-requires-2 : goal.settle-requires-2
settle-requires-2 c =
    (opening_settles laws _ _ _ _ c.requires.0.ready _ _ _ _ _ _ _ (opening_asks _ _ _ _ c.requires.0.ready (own_opens c.requires.0.ready c.requires.2 (sym c.is_in.ensures ∙ c.if-is_in.false)) (tail_part c.args.at.prep c.args.prep.now) c.requires.3 c.requires.4.first.below c.requires.4.second.below) c.after_opening.ensures, c.requires.1)

pub returns : goal.returns
returns c =
    opening_received ops _ _ _ _ _ c.requires.0.ready (own_opens c.requires.0.ready c.requires.2 (sym c.is_in.ensures ∙ c.if-is_in.false)) (tail_part c.args.at.prep c.args.prep.now) c.requires.3 c.requires.4 c.after_opening.ensures c.settle-2.ensures
