-- `reader::settle` meets its contract: the rest of the questions in their order, and nothing is written before all are passed.
-- Assumes nothing.
use native.Mathlib.Omega.{arith}
use lib.ListN.{length-take}
use borrow.Author.Tests.{leb-true}
use Rattle.protocol.specs.Send.{overwrite}
use Rattle.reader.proofs.Told.{said_yes}
use Rattle.reader.proofs.Entering.{settled_refused, settled_full, settled_done}
use Rattle.reader.proofs.settle.Goals as goal

pub returns-in_err-ask_circuit : goal.returns-in_err-ask_circuit
returns-in_err-ask_circuit c =
    settled_refused _ _ _ _ _ c.from_residual.ensures.1 c.in_err-ask_circuit.ensures

pub returns-in_err-ask : goal.returns-in_err-ask
returns-in_err-ask c =
    settled_full _ _ _ c.in_ok-ask_circuit.ensures _ _ c.from_residual-in_err-ask.ensures.1 c.in_err-ask.ensures

pub slice_bounds-copy_from_slice-end : goal.slice_bounds-copy_from_slice-end
slice_bounds-copy_from_slice-end c =
    leb-true _ _ (said_yes _ _ c.in_ok-ask.ensures)

pub slice_bounds-copy_from_slice-end-2 : goal.slice_bounds-copy_from_slice-end-2
slice_bounds-copy_from_slice-end-2 c =
    let l = leb-true _ _ (said_yes _ _ c.in_ok-ask.ensures) in
    simp length-take (omega arith)

pub copy_from_slice-requires : goal.copy_from_slice-requires
copy_from_slice-requires c =
    let l = leb-true _ _ (said_yes _ _ c.in_ok-ask.ensures) in
    simp length-take (omega arith)

pub returns : goal.returns
unfolding overwrite
returns c =
    settled_done _ _ _ c.in_ok-ask_circuit.ensures c.in_ok-ask.ensures (rw c.copy_from_slice.ensures.after)
