-- `gates::asking::well` meets its contract: the gates before j are valid, and the sum is their weight.
-- Assumes nothing.
use native.Mathlib.Omega.{arith}
use borrow.Author.Count.{below_more}
use Rattle.circuit.proofs.Valid.{is_kind_lem, gate_accepted}
use Rattle.gates.proofs.Weights.{weight_more, weight_room_lem}
use Rattle.gates.proofs.asking.well.Goals as goal

pub gate_well-requires : goal.gate_well-requires
gate_well-requires c =
    (omega (arith, c.requires.1), λ i l. is_kind_lem _ _ _ i (gate_accepted _ _ _ i (c.loop-j.invariant.0 i l)))

pub overflow_add-sum : goal.overflow_add-sum
overflow_add-sum c =
    omega (arith, weight_room_lem _ _ _ c.loop-j.invariant.1 c.in_ok-sum.ensures.weight (omega (arith, c.requires.2)))

pub loop-j-preserved : goal.loop-j-preserved
loop-j-preserved c =
    (below_more _ _ c.loop-j.invariant.0 c.in_ok-sum.ensures.valid, weight_more _ _ _ c.loop-j.invariant.1 c.in_ok-sum.ensures.weight)
