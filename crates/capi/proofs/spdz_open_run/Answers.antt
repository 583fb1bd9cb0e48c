-- `capi::spdz_open_run` meets its contract: an answer that has room is the entry's, and where there is none the questions alone are asked.
-- Assumes nothing.
use mathlib.Core.Path.{sym}
use native.Mathlib.Omega.{arith}
use Rattle.field.specs.Words.{ops}
use Rattle.capi.proofs.Calling.{answer_told, short_returned, short_kept, long_returned, long_left, open_verdict, open_left}
use Rattle.capi.proofs.Naming.{open_tells}
use Rattle.capi.proofs.spdz_open_run.Goals as goal

pub returns-then-answer-lt-PLACES : goal.returns-then-answer-lt-PLACES
returns-then-answer-lt-PLACES c =
    record { returned = short_returned _ _ (omega arith) (answer_told c.open_run-a.result c.open_run-a.ensures (open_verdict ops _ _)) c.without_room.ensures; answer = short_kept _ _ (omega arith) _ _ }

pub put_answer-requires : goal.put_answer-requires
put_answer-requires c =
    (omega arith, rw c.open_run-a.ensures (open_tells ops _ _ (omega arith)))

pub returns : goal.returns
returns c =
    record { returned = long_returned _ _ (omega arith) (answer_told c.open_run-a.result c.open_run-a.ensures (open_verdict ops _ _)) c.returned_of.ensures; answer = long_left _ _ (omega arith) _ _ (open_left ops _ _ _) (rw (sym c.open_run-a.ensures) c.put_answer.ensures) }
