-- `circuit::shapes::local` meets its contract: it is the definition's row.
-- Assumes nothing.
use mathlib.Core.Path.{refl}
use Rattle.circuit.specs.Code.{shape_of}
use Rattle.circuit.proofs.shapes.local.Goals as goal

pub returns : goal.returns
unfolding shape_of
returns c =
    refl
