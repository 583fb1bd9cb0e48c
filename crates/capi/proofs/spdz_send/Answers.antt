-- `capi::spdz_send` meets its contract: an answer that has room is the entry's, and where there is none the questions alone are asked.
-- Assumes nothing.
use mathlib.Core.Path.{sym}
use native.Mathlib.Omega.{arith}
use Rattle.field.specs.Words.{ops}
use Rattle.capi.proofs.Calling.{answer_told, short_returned, short_kept, long_returned, long_left, send_verdict, send_left, out_left, noted_left}
use Rattle.capi.proofs.Naming.{send_tells}
use Rattle.capi.proofs.spdz_send.Goals as goal

pub returns-then-answer-lt-PLACES : goal.returns-then-answer-lt-PLACES
returns-then-answer-lt-PLACES c =
    record { returned = rw (sym c.position_at-at.ensures) (short_returned _ _ (omega arith) c.ask_send.ensures.asked c.without_room.ensures); answer = rw (sym c.position_at-at.ensures) (short_kept _ _ (omega arith) _ _); out = rw (sym c.position_at-at.ensures) (short_kept _ _ (omega arith) _ _); scratch = rw (sym c.position_at-at.ensures) (short_kept _ _ (omega arith) _ _) }

pub put_answer-requires : goal.put_answer-requires
put_answer-requires c =
    (omega arith, rw c.send-a.ensures.answer (send_tells ops _ _ (omega arith) _ _ _ _))

pub returns : goal.returns
returns c =
    let sent = c.send-a.ensures in
    record { returned = rw (sym c.position_at-at.ensures) (long_returned _ _ (omega arith) (answer_told c.send-a.result sent.answer (send_verdict ops _ _ _ _ _ _)) c.returned_of.ensures); answer = rw (sym c.position_at-at.ensures) (long_left _ _ (omega arith) _ _ (send_left ops _ _ _ _ _ _ _) (rw (sym sent.answer) c.put_answer.ensures)); out = rw (sym c.position_at-at.ensures) (long_left _ _ (omega arith) _ _ (out_left ops _ _ _ _ _ _) sent.out); scratch = rw (sym c.position_at-at.ensures) (long_left _ _ (omega arith) _ _ (noted_left ops _ _ _ _ _ _) sent.scratch) }
