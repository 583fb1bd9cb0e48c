-- `printing::print_rounds` meets its contract: no kind opens more than two values.
-- Assumes nothing.
use Rattle.std.proofs.Common.{arith}
use Rattle.circuit.specs.Code as code
use Rattle.circuit.proofs.KindLaws.{shape_small}
use Rattle.circuit.proofs.Counts.{unchecked_after_le, bit_le}
use Rattle.printing.proofs.print_rounds.Goals as goal

pub unchecked_after-unchecked-requires : goal.unchecked_after-unchecked-requires
unchecked_after-unchecked-requires g c = (omega arith, (shape_small _ _ c.shape_of-shape.ensures).1)

pub loop-j-preserved : goal.loop-j-preserved
unfolding code.shape_of
loop-j-preserved g c =
    let shape = c.shape_of-shape.result in (
      omega (arith, c.unchecked_after-unchecked.ensures, unchecked_after_le (code.shape_of shape) c.loop-j.unchecked, (shape_small shape _ c.shape_of-shape.ensures).1),
      omega (arith, bit_le _ c.one_if-outs.ensures),
    )
