-- `circuit::shapes::is_input` meets its contract: the first kind alone is an input.
-- Assumes nothing.
use Rattle.circuit.proofs.Gates.{kind_owned}
use Rattle.circuit.proofs.shapes.is_input.Goals as goal

pub returns : goal.returns
returns c =
    kind_owned c.args.number
