-- `capi::spdz_receive` meets its contract: an answer that has room is the entry's, and where there is none the questions alone are asked.
-- Assumes nothing.
use mathlib.Core.Path.{sym}
use native.Mathlib.Omega.{arith}
use Rattle.field.specs.Words.{ops}
use Rattle.capi.proofs.Calling.{answer_told, short_returned, short_kept, long_returned, long_left, receive_verdict, receive_left, scratch_left}
use Rattle.capi.proofs.Naming.{receive_tells}
use Rattle.capi.proofs.spdz_receive.Goals as goal

pub returns-then-answer-lt-PLACES : goal.returns-then-answer-lt-PLACES
returns-then-answer-lt-PLACES c =
    record { returned = rw (sym c.position_at-at.ensures) (short_returned _ _ (omega arith) c.ask_receive.ensures.asked c.without_room.ensures); answer = rw (sym c.position_at-at.ensures) (short_kept _ _ (omega arith) _ _); scratch = rw (sym c.position_at-at.ensures) (short_kept _ _ (omega arith) _ _) }

pub put_answer-requires : goal.put_answer-requires
put_answer-requires c =
    (omega arith, rw c.receive-a.ensures.answer (receive_tells ops _ _ (omega arith) _ _))

pub returns : goal.returns
returns c =
    record { returned = rw (sym c.position_at-at.ensures) (long_returned _ _ (omega arith) (answer_told c.receive-a.result c.receive-a.ensures.answer (receive_verdict ops _ _ _ _)) c.returned_of.ensures); answer = rw (sym c.position_at-at.ensures) (long_left _ _ (omega arith) _ _ (receive_left ops _ _ _ _ _) (rw (sym c.receive-a.ensures.answer) c.put_answer.ensures)); scratch = rw (sym c.position_at-at.ensures) (long_left _ _ (omega arith) _ _ (scratch_left ops _ _ _ _) c.receive-a.ensures.scratch) }
