-- `joint::rounds::input_round` meets its contract: the words are put into the transcript, and the owner's is received by all.
-- Assumes nothing.
use mathlib.Core.Path.{refl}
use native.Mathlib.Omega.{arith}
use Rattle.joint.proofs.Rounding.{round_gate}
use Rattle.joint.proofs.Turns.{next_small, input_end, input_sends, input_place, input_few, input_placed, input_waits, input_long, input_hears, input_asked, input_settles, input_moved}
use Rattle.joint.proofs.rounds.input_round.Goals as goal

pub overflow_add-end : goal.overflow_add-end
overflow_add-end c =
    omega (arith, c.well_formed, input_end c.requires.0 c.requires.2)

pub first_at-x-requires : goal.first_at-x-requires
first_at-x-requires c =
    round_gate c.requires.0

pub offset_bounds-transcript-start : goal.offset_bounds-transcript-start
offset_bounds-transcript-start c =
    omega (arith, c.well_formed, input_end c.requires.0 c.requires.2)

pub slice_bounds-input_words-end : goal.slice_bounds-input_words-end
slice_bounds-input_words-end c =
    input_end c.requires.0 c.requires.2

pub input_words-requires : goal.input_words-requires
input_words-requires c =
    input_sends c.requires.0 c.requires.2 c.args.g c.requires.1 c.first_at-x.ensures c.requires.4

pub offset_bounds-transcript-start-2 : goal.offset_bounds-transcript-start-2
offset_bounds-transcript-start-2 c =
    omega (arith, c.well_formed, input_end c.requires.0 c.requires.2, input_long c.requires.0 c.requires.2 c.args.g c.requires.1 c.first_at-x.ensures c.requires.4 c.input_words.ensures)

pub slice_bounds-heard_first-end : goal.slice_bounds-heard_first-end
slice_bounds-heard_first-end c =
    omega (arith, input_end c.requires.0 c.requires.2, input_long c.requires.0 c.requires.2 c.args.g c.requires.1 c.first_at-x.ensures c.requires.4 c.input_words.ensures)

pub heard_first-e-requires : goal.heard_first-e-requires
heard_first-e-requires c =
    input_hears c.requires.0 c.requires.2 c.args.g c.requires.1 c.first_at-x.ensures c.requires.4 c.input_words.ensures

pub receive_inputs-requires : goal.receive_inputs-requires
receive_inputs-requires c =
    input_asked c.requires.0 c.requires.2 c.args.g c.requires.1 c.first_at-x.ensures c.requires.4 c.input_words.ensures c.heard_first-e.ensures

pub offset_bounds-places-x : goal.offset_bounds-places-x
offset_bounds-places-x c =
    omega (arith, c.well_formed, input_place c.requires.0 c.requires.2 c.args.g c.requires.1 c.first_at-x.ensures c.requires.4)

pub bounds-places-x : goal.bounds-places-x
bounds-places-x c =
    input_place c.requires.0 c.requires.2 c.args.g c.requires.1 c.first_at-x.ensures c.requires.4

pub overflow_add-places : goal.overflow_add-places
overflow_add-places c =
    omega (arith, input_few c.requires.0 c.requires.2 c.args.g c.requires.1 c.first_at-x.ensures c.requires.4)

pub bounds-places-x-2 : goal.bounds-places-x-2
bounds-places-x-2 c =
    input_place c.requires.0 c.requires.2 c.args.g c.requires.1 c.first_at-x.ensures c.requires.4

pub overflow_add-result : goal.overflow_add-result
overflow_add-result c =
    omega (arith, c.well_formed, next_small c.requires.0 c.args.g c.requires.1, c.requires.0.rounds_few, c.requires.0.going.lent.valid.few, (input_asked c.requires.0 c.requires.2 c.args.g c.requires.1 c.first_at-x.ensures c.requires.4 c.input_words.ensures c.heard_first-e.ensures).2)

pub overflow_add-result-2 : goal.overflow_add-result-2
overflow_add-result-2 c =
    omega (arith, c.well_formed, next_small c.requires.0 c.args.g c.requires.1, c.requires.0.rounds_few, c.requires.0.going.lent.valid.few, (input_asked c.requires.0 c.requires.2 c.args.g c.requires.1 c.first_at-x.ensures c.requires.4 c.input_words.ensures c.heard_first-e.ensures).2)

pub overflow_add-result-3 : goal.overflow_add-result-3
overflow_add-result-3 c =
    omega (arith, c.well_formed, next_small c.requires.0 c.args.g c.requires.1, c.requires.0.rounds_few, c.requires.0.going.lent.valid.few, (input_asked c.requires.0 c.requires.2 c.args.g c.requires.1 c.first_at-x.ensures c.requires.4 c.input_words.ensures c.heard_first-e.ensures).2)

pub returns : goal.returns
returns c = (
  input_moved c.requires.0 c.requires.2 c.args.g c.requires.1 c.first_at-x.ensures c.requires.4 c.input_words.ensures c.heard_first-e.ensures c.receive_inputs.ensures refl refl refl refl refl refl,
  record { used = refl; released = refl },
  record { gate = refl; waiting = input_waits c.requires.0 c.requires.2 c.args.g c.requires.1 c.first_at-x.ensures c.requires.4 c.requires.3 },
  input_settles c.requires.0 c.requires.2 c.args.g c.requires.1 c.first_at-x.ensures c.requires.4 c.input_words.ensures c.heard_first-e.ensures c.receive_inputs.ensures,
  input_placed c.requires.0 c.requires.2 c.args.g c.requires.1 c.first_at-x.ensures c.requires.4,
)
