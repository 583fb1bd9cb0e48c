-- `writer::writing::put_rows` meets its contract: before each turn the rows of the gates before j are put.
-- Assumes nothing.
use Rattle.std.proofs.Common.{rules, arith}
use Rattle.writer.proofs.Sheets.{rowed_none, rowed_fits, rowed_more, rowed_all}
use Rattle.writer.proofs.writing.put_rows.Goals as goal

pub loop-j-init : goal.loop-j-init
loop-j-init c =
    rowed_none _ _ _

pub put_row-at-requires : goal.put_row-at-requires
put_row-at-requires c =
    rowed_fits _ _ _ c.requires.1 c.loop-j.invariant c.loop-j-test.true _ c.form_at.ensures.0 c.form_at.ensures.1

pub loop-j-preserved : goal.loop-j-preserved
loop-j-preserved c =
    rowed_more _ _ _ c.requires.1 c.loop-j.invariant c.loop-j-test.true _ c.form_at.ensures.0 c.form_at.ensures.1 (search rules) c.put_row-at.ensures

pub returns : goal.returns
returns c =
    rowed_all _ _ _ c.loop-j.invariant (omega arith)
