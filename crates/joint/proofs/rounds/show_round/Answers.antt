-- `joint::rounds::show_round` meets its contract: what each party shows is put into the transcript, summed, and the sum is opened by all.
-- Assumes nothing.
use mathlib.Core.Path.{refl}
use native.Mathlib.Omega.{arith}
use Rattle.circuit.proofs.KindLaws.{shape_gives}
use Rattle.joint.proofs.Rounding.{round_gate}
use Rattle.joint.proofs.Turns.{show_end, show_sends, show_long, show_sums, show_asks, show_moved}
use Rattle.joint.proofs.rounds.show_round.Goals as goal

pub overflow_add-end : goal.overflow_add-end
overflow_add-end c =
    omega (arith, c.well_formed, show_end c.requires.0)

pub first_at-x-requires : goal.first_at-x-requires
first_at-x-requires c =
    round_gate c.requires.0

pub offset_bounds-transcript-start : goal.offset_bounds-transcript-start
offset_bounds-transcript-start c =
    omega (arith, c.well_formed, show_end c.requires.0)

pub slice_bounds-output_words-end : goal.slice_bounds-output_words-end
slice_bounds-output_words-end c =
    show_end c.requires.0

pub output_words-requires : goal.output_words-requires
output_words-requires c =
    show_sends c.requires.0 c.first_at-x.ensures (shape_gives _ _ c.requires.1 c.is_give-give.ensures)

pub offset_bounds-transcript-start-2 : goal.offset_bounds-transcript-start-2
offset_bounds-transcript-start-2 c =
    omega (arith, c.well_formed, show_end c.requires.0, show_long c.requires.0 c.first_at-x.ensures (shape_gives _ _ c.requires.1 c.is_give-give.ensures) c.output_words.ensures)

pub slice_bounds-heard_sum-end : goal.slice_bounds-heard_sum-end
slice_bounds-heard_sum-end c =
    omega (arith, show_end c.requires.0, show_long c.requires.0 c.first_at-x.ensures (shape_gives _ _ c.requires.1 c.is_give-give.ensures) c.output_words.ensures)

pub heard_sum-e-requires : goal.heard_sum-e-requires
heard_sum-e-requires c =
    show_sums c.requires.0 c.first_at-x.ensures (shape_gives _ _ c.requires.1 c.is_give-give.ensures) c.output_words.ensures

pub receive_outputs-requires : goal.receive_outputs-requires
receive_outputs-requires c =
    show_asks c.requires.0 c.first_at-x.ensures (shape_gives _ _ c.requires.1 c.is_give-give.ensures) c.output_words.ensures

pub returns : goal.returns
returns c =
    (show_moved c.requires.0 c.first_at-x.ensures (shape_gives _ _ c.requires.1 c.is_give-give.ensures) c.output_words.ensures c.heard_sum-e.ensures c.receive_outputs.ensures refl refl refl refl refl refl, record { used = refl; released = refl }, refl, refl)
