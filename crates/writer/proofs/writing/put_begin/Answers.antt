-- `writer::writing::put_begin` meets its contract: before each turn the first bytes of what the form begins with are put.
-- Assumes nothing.
use Rattle.writer.proofs.Putting.{begun_none, begun_fits, begun_more, begun_all}
use Rattle.writer.proofs.writing.put_begin.Goals as goal

pub loop-b-init : goal.loop-b-init
loop-b-init c =
    begun_none _ _ _

pub put_byte-end-requires : goal.put_byte-end-requires
put_byte-end-requires c =
    begun_fits _ _ _ (rw c.begin-b-items.ensures c.requires) c.loop-b.invariant c.loop-b-test.true

pub loop-b-preserved : goal.loop-b-preserved
loop-b-preserved c =
    begun_more _ _ _ (rw c.begin-b-items.ensures c.requires) c.loop-b.invariant c.loop-b-test.true c.put_byte-end.ensures

pub returns : goal.returns
returns c =
    rw c.begin-b-items.ensures at (begun_all _ _ _ (rw c.begin-b-items.ensures c.requires) c.loop-b.invariant c.loop-b-test.false)
