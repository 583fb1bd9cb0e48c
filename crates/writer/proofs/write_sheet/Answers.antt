-- `writer::write_sheet` meets its contract: the setting is asked; where there is room whatever the rows are, they are put; else they are handed over.
-- Assumes nothing.
use Rattle.std.proofs.Common.{rules, arith}
use Rattle.writer.proofs.Sheets.{rows_put, setting_refused, gates_few, handed_written}
use Rattle.writer.proofs.write_sheet.Goals as goal

pub returns-in_err-ask_setting : goal.returns-in_err-ask_setting
returns-in_err-ask_setting c =
    setting_refused c.args.parties c.args.c.now c.args.text.now c.ask_setting.ensures c.in_err-ask_setting.was (search rules)

pub overflow_mul-gates : goal.overflow_mul-gates
overflow_mul-gates c =
    omega (arith, gates_few c.args.parties c.args.c.now c.args.text.now c.ask_setting.ensures c.in_ok-ask_setting.was)

pub returns-then-gates-text : goal.returns-then-gates-text
returns-then-gates-text c =
    handed_written _ _ _ c.ask_setting.ensures c.in_ok-ask_setting.was _ (rows_put _ _ _ c.put_rows.ensures.0 (omega (arith, c.put_rows.ensures.1)))

pub returns-then-gates-le-FEW_GATES : goal.returns-then-gates-le-FEW_GATES
returns-then-gates-le-FEW_GATES c =
    handed_written _ _ _ c.ask_setting.ensures c.in_ok-ask_setting.was _ c.hand_over.ensures

pub hand_over-requires-2 : goal.hand_over-requires-2
hand_over-requires-2 c =
    let few = gates_few c.args.parties c.args.c.now c.args.text.now c.ask_setting.ensures c.in_ok-ask_setting.was in
    (omega arith, omega arith)

pub returns : goal.returns
returns c =
    handed_written _ _ _ c.ask_setting.ensures c.in_ok-ask_setting.was _ c.hand_over-2.ensures
