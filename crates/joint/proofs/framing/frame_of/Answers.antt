-- `joint::framing::frame_of` meets its contract. The totals of the whole circuit are what the frame is to hold.
-- Assumes nothing.
use mathlib.Core.Path.{refl}
use native.Mathlib.Omega.{arith}
use Rattle.joint.proofs.Measures.{capacity_few, laid_is, prep_is, size_is}
use Rattle.joint.proofs.framing.frame_of.Goals as goal

pub overflow_add-layout : goal.overflow_add-layout
overflow_add-layout c =
    omega (arith, capacity_few c.requires.0 c.requires.2 c.requires.3)

pub size_of-requires : goal.size_of-requires
size_of-requires c =
    (c.requires.1, omega (arith, c.requires.2, c.requires.0.few), capacity_few c.requires.0 c.requires.2 c.requires.3)

pub returns : goal.returns
returns c =
    record {
      parties = refl;
      lay = laid_is c.requires.0 c.requires.2 c.requires.3;
      scratch = size_is c.requires.0 c.requires.2 c.requires.3 c.size_of.ensures;
      prep = prep_is c.requires.0 c.requires.2 c.requires.3;
    }
