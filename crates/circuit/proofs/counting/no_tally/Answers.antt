-- `circuit::counting::no_tally` meets its contract: before the first gate there is the key share alone.
-- Assumes nothing.
use mathlib.Core.Path.{refl}
use Rattle.circuit.specs.Count.{total, count, prep_at, input_at, unchecked}
use Rattle.circuit.proofs.counting.no_tally.Goals as goal

pub returns : goal.returns
unfolding total count prep_at input_at unchecked
returns c =
    λ l i. record { prep = refl; openings = refl; unchecked = refl; inputs = refl }
