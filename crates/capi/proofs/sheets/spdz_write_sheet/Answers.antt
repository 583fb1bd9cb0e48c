-- `capi::sheets::spdz_write_sheet` meets its contract: an answer that has room is the entry's, and where there is none the questions alone are asked.
-- Assumes nothing.
use Prim.Native.Nat.{◌≤◌}
use mathlib.Core.Path.{ap, ◌∙◌}
use native.Mathlib.Omega.{arith}
use lib.ListN.{length}
use Rattle.protocol.specs.Send.{overwrite}
use Rattle.forms.specs.Entry.{Answer}
use Rattle.capi.specs.Numbers.{places}
use Rattle.capi.specs.Sheets.{sheet_written, sheet_numbers}
use Rattle.capi.proofs.Calling.{short_refused, short_kept, long_returned, long_left}
use Rattle.capi.proofs.SheetCalls.{sheet_told, no_text, write_verdict, write_left, text_left, text_kept}
use Rattle.capi.proofs.sheets.spdz_write_sheet.Goals as goal

pub returns-then-answer-lt-PLACES : goal.returns-then-answer-lt-PLACES
returns-then-answer-lt-PLACES c =
    let run = c.write_sheet.ensures in
    record { returned = short_refused _ _ (omega arith) (sheet_told c.write_sheet.result run.0 (write_verdict _ _ _) ∙ no_text _ _ _) c.returned_of.ensures; answer = short_kept _ _ (omega arith) _ _; text = rw (run.1 ∙ text_kept _ _) (short_kept _ _ (omega arith) _ _) }

pub returns : goal.returns
returns c =
    let run = c.write_sheet-written.ensures in
    let long : places ≤ length c.args.answer.now = omega arith in
    record {
      returned = long_returned _ _ long (sheet_told c.write_sheet-written.result run.0 (write_verdict _ _ _)) c.returned_of-2.ensures;
      answer = long_left _ _ long _ _ (write_left _ _ _ _)
          (c.put_sheet.ensures ∙ ap (λ (a : Answer). overwrite (sheet_numbers sheet_written a) c.args.answer.now) run.0);
      text = long_left _ _ long _ _ (text_left _ _ _) run.1;
    }
