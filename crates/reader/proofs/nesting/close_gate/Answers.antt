-- `reader::nesting::close_gate` meets its contract: the gate is put behind the gates so far, by the table's row.
-- Assumes nothing.
use Rattle.std.proofs.Common.{refl, arith}
use borrow.Author.Tests.{ltb-true, ltb-false}
use Rattle.reader.specs.Code.{Full}
use Rattle.reader.proofs.Pushing.{pushed_gate}
use Rattle.reader.proofs.Told.{said_yes, said_no, closes_on}
use Rattle.reader.proofs.nesting.close_gate.Goals as goal

pub returns-in_err-ask : goal.returns-in_err-ask
returns-in_err-ask c =
    closes_on _ _ _ _ _ _ c.from_residual.ensures.1
    (said_no (Full c.args.at c.args.count) _ _ c.in_err-ask.field-0.0 c.in_err-ask.ensures
    (λ b. record { number_is = refl; index_is = refl; full = omega (arith, ltb-false _ _ b, c.requires.0) }))

pub slice_bounds-copy_from_slice-end : goal.slice_bounds-copy_from_slice-end
slice_bounds-copy_from_slice-end c =
    omega (arith, ltb-true _ _ (said_yes _ _ c.in_ok-ask.ensures), c.requires.1)

pub returns : goal.returns
returns c =
    pushed_gate _ _ _ c.args.h _ _ _ c.row-row.ensures (ltb-true _ _ (said_yes _ _ c.in_ok-ask.ensures)) c.requires.1 (omega arith)
    c.copy_from_slice.ensures.after
