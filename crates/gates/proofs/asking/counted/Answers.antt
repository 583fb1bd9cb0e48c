-- `gates::asking::counted` meets its contract: the count goes on from no gate to the one asked for, and from there to the end.
-- Assumes nothing.
use Prim.Native.Nat.{◌≤◌, ◌/◌}
use mathlib.Core.Path.{◌≡◌}
use native.Mathlib.Omega.{arith}
use lib.ListN.{length}
use Rattle.circuit.specs.Gate.{gates}
use Rattle.gates.proofs.asking.counted.Goals as goal

pub tally_between-here-requires : goal.tally_between-here-requires
unfolding gates
tally_between-here-requires c =
    (omega arith, omega (arith, c.min-stop.ensures), omega (arith, c.min-stop.ensures, c.requires), c.no_tally.ensures _ _)

pub tally_between-all-requires : goal.tally_between-all-requires
unfolding gates
tally_between-all-requires c =
    (omega (arith, c.min-stop.ensures), omega arith, omega (arith, c.requires), c.tally_between-here.ensures)

pub returns : goal.returns
unfolding gates
returns c =
    record { here = λ h. let e : c.min-stop.result ≡ c.args.gate = omega (arith, c.min-stop.ensures, h) in rw e at c.tally_between-here.ensures; all = c.tally_between-all.ensures }
