-- `sha256::copy` meets its contract: the loop writes the elements one after the other.
-- Assumes nothing.
use Rattle.std.proofs.Common.{refl, arith, rules}
use Rattle.sha256.proofs.Written.{written_start, written_long, written_again, written_done}
use Rattle.sha256.proofs.copy.Goals as goal

pub loop-i-init : goal.loop-i-init
loop-i-init c =
    written_start _ _ c.requires

pub bounds-to-i : goal.bounds-to-i
bounds-to-i c =
    omega (arith, written_long c.loop-i.invariant)

pub loop-i-preserved : goal.loop-i-preserved
loop-i-preserved c =
    written_again (search rules) refl c.loop-i.invariant

pub returns : goal.returns
returns c =
    written_done (search rules) c.loop-i.invariant
