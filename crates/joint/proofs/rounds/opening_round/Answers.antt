-- `joint::rounds::opening_round` meets its contract: the words are put into the transcript and summed, and what they come to is received by all.
-- Assumes nothing.
use mathlib.Core.Path.{refl}
use native.Mathlib.Omega.{arith}
use Rattle.joint.proofs.Rounding.{round_gate}
use Rattle.joint.proofs.Turns.{next_small, opening_few, opening_end, opening_gate, opening_waits, opening_sends, opening_asked, opening_settled, opening_moved}
use Rattle.joint.proofs.rounds.opening_round.Goals as goal

pub overflow_mul-end : goal.overflow_mul-end
overflow_mul-end c =
    omega (arith, c.well_formed, opening_end c.requires.0 c.args.g c.requires.1 c.requires.2 c.requires.3)

pub overflow_add-end : goal.overflow_add-end
overflow_add-end c =
    omega (arith, c.well_formed, opening_end c.requires.0 c.args.g c.requires.1 c.requires.2 c.requires.3)

pub first_at-x-requires : goal.first_at-x-requires
first_at-x-requires c =
    round_gate c.requires.0

pub factor_at-z-requires : goal.factor_at-z-requires
factor_at-z-requires c =
    opening_gate c.requires.0 c.args.g c.requires.1 c.requires.2 c.requires.3

pub offset_bounds-transcript-start : goal.offset_bounds-transcript-start
offset_bounds-transcript-start c =
    omega (arith, c.well_formed, opening_end c.requires.0 c.args.g c.requires.1 c.requires.2 c.requires.3)

pub slice_bounds-opening_words-end : goal.slice_bounds-opening_words-end
slice_bounds-opening_words-end c =
    opening_end c.requires.0 c.args.g c.requires.1 c.requires.2 c.requires.3

pub opening_words-sums-requires : goal.opening_words-sums-requires
opening_words-sums-requires c =
    opening_sends c.requires.0 c.args.g c.requires.1 c.requires.2 c.requires.3 c.first_at-x.ensures c.factor_at-z.ensures

pub receive_openings-requires : goal.receive_openings-requires
receive_openings-requires c =
    opening_asked c.requires.0 c.args.g c.requires.1 c.requires.2 c.requires.3 c.first_at-x.ensures c.factor_at-z.ensures c.opening_words-sums.ensures.out c.opening_words-sums.ensures.sums.0 c.opening_words-sums.ensures.sums.1

pub overflow_add-result : goal.overflow_add-result
overflow_add-result c =
    omega (arith, c.well_formed, next_small c.requires.0 c.args.g c.requires.1, opening_few c.requires.0 c.args.g c.requires.1 c.requires.2 c.requires.3, c.requires.0.rounds_few, c.requires.0.going.lent.valid.few, (opening_gate c.requires.0 c.args.g c.requires.1 c.requires.2 c.requires.3).0)

pub overflow_add-result-2 : goal.overflow_add-result-2
overflow_add-result-2 c =
    omega (arith, c.well_formed, next_small c.requires.0 c.args.g c.requires.1, opening_few c.requires.0 c.args.g c.requires.1 c.requires.2 c.requires.3, c.requires.0.rounds_few, c.requires.0.going.lent.valid.few, (opening_gate c.requires.0 c.args.g c.requires.1 c.requires.2 c.requires.3).0)

pub overflow_add-result-3 : goal.overflow_add-result-3
overflow_add-result-3 c =
    omega (arith, c.well_formed, next_small c.requires.0 c.args.g c.requires.1, opening_few c.requires.0 c.args.g c.requires.1 c.requires.2 c.requires.3, c.requires.0.rounds_few, c.requires.0.going.lent.valid.few, (opening_gate c.requires.0 c.args.g c.requires.1 c.requires.2 c.requires.3).0)

pub overflow_add-result-4 : goal.overflow_add-result-4
overflow_add-result-4 c =
    omega (arith, c.well_formed, next_small c.requires.0 c.args.g c.requires.1, opening_few c.requires.0 c.args.g c.requires.1 c.requires.2 c.requires.3, c.requires.0.rounds_few, c.requires.0.going.lent.valid.few, (opening_gate c.requires.0 c.args.g c.requires.1 c.requires.2 c.requires.3).0)

pub returns : goal.returns
returns c = (
  opening_moved c.requires.0 c.args.g c.requires.1 c.requires.2 c.requires.3 c.first_at-x.ensures c.factor_at-z.ensures c.opening_words-sums.ensures.out c.opening_words-sums.ensures.sums.0 c.opening_words-sums.ensures.sums.1 c.receive_openings.ensures refl refl refl refl refl refl,
  record { used = refl; released = refl },
  record { gate = refl; waiting = opening_waits c.requires.0 c.args.g c.requires.1 c.requires.2 c.requires.3 },
  opening_settled c.requires.0 c.args.g c.requires.1 c.requires.2 c.requires.3 c.first_at-x.ensures c.factor_at-z.ensures c.opening_words-sums.ensures.out c.opening_words-sums.ensures.sums.0 c.opening_words-sums.ensures.sums.1 c.receive_openings.ensures,
)
