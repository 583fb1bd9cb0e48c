-- `party::asking::all_elements` meets its contract: the loop asks every number and remembers whether each so far is an element.
-- Assumes nothing.
use native.Mathlib.Omega.{arith}
use Rattle.circuit.proofs.Loops.{sifted_starts, sifted_yes, sifted_no, sifted_ends}
use Rattle.party.proofs.asking.all_elements.Goals as goal
use Rattle.party.proofs.asking.all_elements.Goals.{else-x-ge-SIZE, then-x-ge-SIZE}

pub loop-x-init : goal.loop-x-init
loop-x-init c =
    sifted_starts _ _

pub loop-x-preserved : goal.loop-x-preserved
loop-x-preserved c =
    let before = c.loop-x.invariant in
    elim c.if-x-ge-SIZE.branch [ then-x-ge-SIZE w ↦ rw w.all-is (sifted_no _ _ _ _ before (omega arith) w.if-x-ge-SIZE.true) | else-x-ge-SIZE w ↦ rw w.all-is (sifted_yes _ _ _ _ before (omega arith) w.if-x-ge-SIZE.false) ]

pub returns : goal.returns
returns c =
    sifted_ends _ _ _ _ c.loop-x.invariant (omega arith)
