-- `fit::asking::ask_ranges` meets its contract: the ranges before k are asked and passed, and one that is refused is the first.
-- Assumes nothing.
use mathlib.Core.Path.{sym}
use Rattle.std.proofs.Common.{rules, arith}
use borrow.Author.Tests.{eqb-true}
use Rattle.circuit.proofs.Verdicts.{each_none, ask_true, each_done}
use Rattle.fit.proofs.Questions.{asks_range, range_passed, range_refused, ranges_on}
use Rattle.fit.proofs.asking.ask_ranges.Goals as goal

pub loop-k-init : goal.loop-k-init
loop-k-init c =
    each_none (asks_range c.args.ranges.now)

pub interval_at-r-requires : goal.interval_at-r-requires
interval_at-r-requires c =
    omega (arith, eqb-true _ _ (ask_true 26 0 _ (sym c.in_ok-ask.ensures)))

pub returns-in_err-ask-2 : goal.returns-in_err-ask-2
returns-in_err-ask-2 c =
    ranges_on _ _ c.ins_of-ins.ensures c.ask.ensures c.in_ok-ask.was (range_refused _ _ c.range_ok.ensures c.interval_at-r.ensures _ c.ask-in-loop-k.ensures c.loop-k.invariant _ c.loop-k-test.true c.in_err-ask-2.was (search rules))

pub loop-k-preserved : goal.loop-k-preserved
loop-k-preserved c =
    range_passed _ _ c.range_ok.ensures c.interval_at-r.ensures _ c.ask-in-loop-k.ensures c.loop-k.invariant c.in_ok-ask-2.was

pub returns : goal.returns
returns c =
    ranges_on _ _ c.ins_of-ins.ensures c.ask.ensures c.in_ok-ask.was (sym (each_done _ c.loop-k.k _ (omega arith) (omega arith) c.loop-k.invariant))
