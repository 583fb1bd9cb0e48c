-- `steps::receiving::receive_reveal` meets its contract: the marks' part of the scratch is what the definition reads, and each arm is the definition's.
-- Assumes nothing.
use native.Mathlib.Omega.{arith}
use Rattle.field.specs.Words.{ops}
use Rattle.protocol.specs.Scratch.{nonce_at, marks_at}
use Rattle.protocol.specs.Receive.{received, check_passed}
use Rattle.protocol.proofs.Readiness.{tail_there}
use Rattle.protocol.proofs.Received.{first_received}
use Rattle.steps.proofs.Concluding.{judge_asks, judged, concludes_passed, concludes_stopped}
use Rattle.steps.proofs.receiving.receive_reveal.Goals as goal

pub marks_at-start-requires : goal.marks_at-start-requires
unfolding marks_at nonce_at
marks_at-start-requires c =
    omega (arith, tail_there _ _ _ _ _ c.requires.ready, c.well_formed)

pub overflow_mul-end : goal.overflow_mul-end
overflow_mul-end c =
    omega (arith, tail_there _ _ _ _ _ c.requires.ready, c.well_formed)

pub overflow_add-end : goal.overflow_add-end
overflow_add-end c =
    omega (arith, tail_there _ _ _ _ _ c.requires.ready, c.marks_at-start.ensures, c.well_formed)

pub offset_bounds-l-start : goal.offset_bounds-l-start
offset_bounds-l-start c =
    omega (arith, tail_there _ _ _ _ _ c.requires.ready, c.marks_at-start.ensures, c.well_formed)

pub slice_bounds-judge-end : goal.slice_bounds-judge-end
slice_bounds-judge-end c =
    omega (arith, tail_there _ _ _ _ _ c.requires.ready, c.marks_at-start.ensures)

pub judge-ruling-requires : goal.judge-ruling-requires
judge-ruling-requires c =
    judge_asks _ _ _ _ _ c.requires c.marks_at-start.ensures

pub returns-in-Err : goal.returns-in-Err
returns-in-Err c =
    concludes_stopped _ _ _ _ _ (judged _ _ _ _ _ c.requires c.marks_at-start.ensures c.judge-ruling.ensures) c.in-Err.is c.aborted_at.ensures

pub returns-in-First : goal.returns-in-First
returns-in-First c =
    let found = judged _ _ _ _ _ c.requires c.marks_at-start.ensures c.judge-ruling.ensures in
    rw c.in-First.is (concludes_passed _ _ _ _ _ (rw c.in-First.is at found) c.in-Ok.is (rw c.in-First.is at c.requires.ready.occurs) c.sending_at.ensures (first_received ops _ _ _ _))

pub returns-in-Second : goal.returns-in-Second
unfolding received check_passed
returns-in-Second c =
    let found = judged _ _ _ _ _ c.requires c.marks_at-start.ensures c.judge-ruling.ensures in
    rw c.in-Second.is (concludes_passed _ _ _ _ _ (rw c.in-Second.is at found) c.in-Ok.is (rw c.in-Second.is at c.requires.ready.occurs) c.release.ensures.point c.release.ensures.scratch)
