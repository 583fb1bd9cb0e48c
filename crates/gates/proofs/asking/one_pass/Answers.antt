-- `gates::asking::one_pass` meets its contract: the gates before the one that is asked for, and from there to the end; where both have a weight, it is read.
-- Assumes nothing.
use mathlib.Core.Path.{◌≡◌}
use native.Mathlib.Omega.{arith}
use Rattle.circuit.specs.Gate.{gates}
use Rattle.gates.proofs.Weights.{weight_none}
use Rattle.gates.proofs.asking.one_pass.Goals as goal

pub well-requires : goal.well-requires
well-requires c =
    (omega arith, omega (arith, c.min-stop.ensures), omega (arith, c.min-stop.ensures, c.if-count-gt-MOST_GATES.false), λ i l. absurd (omega (arith, l)), weight_none _ _)

pub returns : goal.returns
unfolding gates
returns c =
    let here = c.tally_of.ensures _ _ _ (omega (arith, c.min-stop.ensures, c.if-count-gt-MOST_GATES.false)) c.in_ok-here.ensures.weight c.unchecked_before.ensures in
    let all = c.tally_of-2.ensures _ _ _ c.if-count-gt-MOST_GATES.false c.in_ok-all.ensures.weight c.unchecked_before-2.ensures in
    (c.in_ok-all.ensures.valid, record { here = λ g. let e : c.min-stop.result ≡ c.args.gate = omega (arith, c.min-stop.ensures, g) in rw e at here; all = all })
