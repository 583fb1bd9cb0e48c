-- `joint::rounds::check` meets its contract: each party's nonce is noted, the marks are put and received, and then what is revealed is put and summed.
-- Assumes nothing.
use mathlib.Core.Path.{refl}
use native.Mathlib.Omega.{arith}
use Rattle.joint.proofs.Checking.{held_room, begun_few, nonces_end, nonces_cut, words_end, noted_banded, held_enough, marked_long, heard_long, reveal_room, marked_banded, revealed_long, reveals_sum, checked}
use Rattle.joint.proofs.Rounding.{part_long}
use Rattle.joint.proofs.rounds.check.Goals as goal

pub overflow_mul-first : goal.overflow_mul-first
overflow_mul-first c =
    omega (arith, c.well_formed, nonces_end c.args.f.parties c.args.s.checks c.args.nonces.now c.requires.0.nonce_count)

pub overflow_mul-first-2 : goal.overflow_mul-first-2
overflow_mul-first-2 c =
    omega (arith, c.well_formed, nonces_end c.args.f.parties c.args.s.checks c.args.nonces.now c.requires.0.nonce_count)

pub overflow_mul-last : goal.overflow_mul-last
overflow_mul-last c =
    omega (arith, c.well_formed, nonces_end c.args.f.parties c.args.s.checks c.args.nonces.now c.requires.0.nonce_count)

pub overflow_add-last : goal.overflow_add-last
overflow_add-last c =
    omega (arith, c.well_formed, nonces_end c.args.f.parties c.args.s.checks c.args.nonces.now c.requires.0.nonce_count)

pub check_shares-requires : goal.check_shares-requires
check_shares-requires c =
    (c.requires.0.few, c.requires.0.keys, c.requires.0.banded, c.requires.0.has_coefficient_count, c.requires.0.coefficients_low, c.requires.0.opened, c.requires.0.some, c.requires.0.entries, c.requires.0.common, held_room c.args.f.parties c.requires.0.few)

pub slice_bounds-put_nonces-end : goal.slice_bounds-put_nonces-end
slice_bounds-put_nonces-end c =
    nonces_end c.args.f.parties c.args.s.checks c.args.nonces.now c.requires.0.nonce_count

pub put_nonces-requires : goal.put_nonces-requires
put_nonces-requires c =
    (c.requires.0.banded, nonces_cut c.args.f.parties c.args.s.checks c.args.nonces.now c.requires.0.nonce_count)

pub commit_words-requires : goal.commit_words-requires
commit_words-requires c =
    (c.requires.0.few, held_enough c.requires.0 c.put_nonces.ensures c.check_shares.ensures, noted_banded c.requires.0 c.put_nonces.ensures, part_long _ _ c.args.transcript.now (words_end c.requires.0))

pub offset_bounds-transcript-start-2 : goal.offset_bounds-transcript-start-2
offset_bounds-transcript-start-2 c =
    omega (arith, c.well_formed, c.requires.0.words_fit, marked_long c.requires.0 c.put_nonces.ensures c.check_shares.ensures c.commit_words.ensures)

pub slice_bounds-receive_marks-end : goal.slice_bounds-receive_marks-end
slice_bounds-receive_marks-end c =
    omega (arith, marked_long c.requires.0 c.put_nonces.ensures c.check_shares.ensures c.commit_words.ensures, words_end c.requires.0)

pub receive_marks-requires : goal.receive_marks-requires
receive_marks-requires c =
    (noted_banded c.requires.0 c.put_nonces.ensures, heard_long c.requires.0 c.put_nonces.ensures c.check_shares.ensures c.commit_words.ensures)

pub offset_bounds-transcript-middle : goal.offset_bounds-transcript-middle
offset_bounds-transcript-middle c =
    omega (arith, c.well_formed, c.requires.0.words_fit, marked_long c.requires.0 c.put_nonces.ensures c.check_shares.ensures c.commit_words.ensures)

pub reveal_words-requires : goal.reveal_words-requires
reveal_words-requires c =
    (c.requires.0.few, held_enough c.requires.0 c.put_nonces.ensures c.check_shares.ensures, marked_banded c.requires.0 c.put_nonces.ensures c.check_shares.ensures c.commit_words.ensures c.receive_marks.ensures, reveal_room c.requires.0 c.put_nonces.ensures c.check_shares.ensures c.commit_words.ensures)

pub offset_bounds-transcript-middle-2 : goal.offset_bounds-transcript-middle-2
offset_bounds-transcript-middle-2 c =
    omega (arith, c.well_formed, c.requires.0.words_fit, revealed_long c.requires.0 c.put_nonces.ensures c.check_shares.ensures c.commit_words.ensures c.receive_marks.ensures c.reveal_words.ensures)

pub slice_bounds-heard_sum-end : goal.slice_bounds-heard_sum-end
slice_bounds-heard_sum-end c =
    omega (arith, c.requires.0.words_fit, revealed_long c.requires.0 c.put_nonces.ensures c.check_shares.ensures c.commit_words.ensures c.receive_marks.ensures c.reveal_words.ensures)

pub heard_sum-sum-requires : goal.heard_sum-sum-requires
heard_sum-sum-requires c =
    reveals_sum c.requires.0 c.put_nonces.ensures c.check_shares.ensures c.commit_words.ensures c.receive_marks.ensures c.reveal_words.ensures

pub overflow_add-result-2 : goal.overflow_add-result-2
overflow_add-result-2 c =
    omega (arith, c.well_formed, begun_few c.requires.0)

pub returns : goal.returns
returns c =
    (checked c.requires.0 c.put_nonces.ensures c.check_shares.ensures c.commit_words.ensures c.receive_marks.ensures c.reveal_words.ensures c.heard_sum-sum.ensures, refl)
