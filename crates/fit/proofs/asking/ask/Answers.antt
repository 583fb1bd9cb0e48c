-- `fit::asking::ask` meets its contract: the questions about the setting stand in brackets of their own.
-- Assumes nothing.
use Rattle.std.proofs.Common.{rules}
use Rattle.ranges.specs.Entry.{ask_fit}
use Rattle.circuit.proofs.Verdicts.{asked_on}
use Rattle.fit.proofs.Questions.{setting_on, setting_no}
use Rattle.fit.proofs.asking.ask.Goals as goal

pub returns-in_err-ask_setting : goal.returns-in_err-ask_setting
unfolding ask_fit
returns-in_err-ask_setting c =
    setting_no _ _ _ c.ask_setting.ensures c.in_err-ask_setting.was (search rules)

pub returns : goal.returns
unfolding ask_fit
returns c =
    setting_on _ _ _ c.ask_setting.ensures c.in_ok-ask_setting.was (asked_on _ c.ask_ranges.ensures c.in_ok-ask_ranges.was (asked_on _ c.ask_change.ensures c.in_ok-ask_change.was c.ask_rooms.ensures))
