-- `gates::asking::all_well` meets its contract: the gates are valid if their weight is told.
-- Assumes nothing.
use native.Mathlib.Omega.{arith}
use Rattle.gates.proofs.Weights.{weight_none}
use Rattle.gates.proofs.asking.all_well.Goals as goal

pub well-requires : goal.well-requires
well-requires c =
    (omega arith, omega arith, omega arith, λ i l. absurd (omega (arith, l)), weight_none _ _)
