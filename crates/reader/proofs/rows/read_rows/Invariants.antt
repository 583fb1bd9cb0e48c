use Prim.Native.Nat.{◌-◌}
use mathlib.Core.Path.{◌≡◌}
use lib.ListN.{length}
use Rattle.circuit.specs.Accept.{most_gates}
use Rattle.reader.proofs.Growing.{Grown}
use Rattle.reader.proofs.rows.read_rows.Given as goal

abbrev pub invariant-loop-at : goal.invariant-loop-at
invariant-loop-at l = Grown l.text l.table l.lines l.rows l.at l.count × (length l.lines ≡ length l.initial.lines)

abbrev pub decreases-loop-at : goal.decreases-loop-at
decreases-loop-at l = most_gates - l.count
