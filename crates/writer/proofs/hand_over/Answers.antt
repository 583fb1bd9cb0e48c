-- `writer::hand_over` meets its contract: the rows are put, 18 is asked of their bytes, and only then something is written.
-- Assumes nothing.
use mathlib.Core.Path.{sym}
use lib.Seq.{length-take-le}
use borrow.Author.Tests.{leb-true}
use Rattle.std.proofs.Common.{rules, arith}
use Rattle.circuit.proofs.Verdicts.{asked_last, ask_true}
use Rattle.writer.proofs.Sheets.{short_handed, rows_handed}
use Rattle.writer.proofs.hand_over.Goals as goal

pub returns-in_err-ask : goal.returns-in_err-ask
returns-in_err-ask c =
    short_handed _ _ _ c.put_rows-count.ensures.0 c.ask.ensures c.in_err-ask.was (search rules)

pub put_bytes-requires : goal.put_bytes-requires
put_bytes-requires c =
    omega (arith, length-take-le c.put_rows-count.result c.put_rows-count.new.text (omega arith), leb-true _ _ (ask_true 18 0 _ (sym (asked_last c.ask.ensures c.in_ok-ask.was))))

pub returns : goal.returns
returns c =
    rows_handed _ _ _ c.put_rows-count.ensures.0 (leb-true _ _ (ask_true 18 0 _ (sym (asked_last c.ask.ensures c.in_ok-ask.was)))) c.put_bytes.ensures
