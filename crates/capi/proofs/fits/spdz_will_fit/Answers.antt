-- `capi::fits::spdz_will_fit` meets its contract: an answer that has room is the entry's, and where there is none the questions alone are asked.
-- Assumes nothing.
use Prim.Native.Nat.{◌≤◌}
use mathlib.Core.Path.{sym, ap, ◌∙◌}
use native.Mathlib.Omega.{arith}
use lib.ListN.{length}
use Rattle.protocol.specs.Send.{overwrite}
use Rattle.ranges.specs.Entry.{Answer}
use Rattle.capi.specs.Numbers.{places}
use Rattle.capi.specs.Fits.{fit_numbers}
use Rattle.capi.proofs.Calling.{short_refused, short_kept, long_returned, long_left}
use Rattle.capi.proofs.FitCalls.{fit_told, no_intervals, fit_verdict_lem, fit_left, intervals_left, moves_left, intervals_kept, moves_kept}
use Rattle.capi.proofs.fits.spdz_will_fit.Goals as goal

pub returns-then-answer-lt-PLACES : goal.returns-then-answer-lt-PLACES
returns-then-answer-lt-PLACES c =
    let run = c.will_fit.ensures in
    record { returned = rw (sym c.change_at-change.ensures) (short_refused _ _ (omega arith) (fit_told c.will_fit.result run.answer (fit_verdict_lem _ _ _) ∙ no_intervals _ _ _) c.returned_of.ensures); answer = rw (sym c.change_at-change.ensures) (short_kept _ _ (omega arith) _ _); intervals = rw (sym c.change_at-change.ensures) (rw (run.intervals ∙ intervals_kept _ _) (short_kept _ _ (omega arith) _ _)); moves = rw (sym c.change_at-change.ensures) (run.moves ∙ moves_kept _ _ ∙ short_kept _ _ (omega arith) _ _) }

pub returns : goal.returns
returns c =
    let run = c.will_fit-a.ensures in
    let long : places ≤ length c.args.answer.now = omega arith in
    record {
      returned = rw (sym c.change_at-change.ensures) (long_returned _ _ long (fit_told c.will_fit-a.result run.answer (fit_verdict_lem _ _ _)) c.returned_of-2.ensures);
      answer = rw (sym c.change_at-change.ensures) (long_left _ _ long _ _ (fit_left _ _ _ _)
          (c.put_fit.ensures ∙ ap (λ (a : Answer). overwrite (fit_numbers a) c.args.answer.now) run.answer));
      intervals = rw (sym c.change_at-change.ensures) (long_left _ _ long _ _ (intervals_left _ _ _) run.intervals);
      moves = rw (sym c.change_at-change.ensures) (long_left _ _ long _ _ (moves_left _ _ _) run.moves);
    }
