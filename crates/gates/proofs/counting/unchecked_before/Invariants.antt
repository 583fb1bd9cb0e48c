use Prim.Native.Nat.{◌+◌, ◌≤◌}
use mathlib.Core.Path.{◌≡◌}
use Rattle.circuit.specs.Count.{unchecked}
use Rattle.gates.proofs.counting.unchecked_before.Given as goal

abbrev pub invariant-loop-i : goal.invariant-loop-i
invariant-loop-i l = (l.i ≤ l.j) × (l.waiting + unchecked l.c l.i ≡ unchecked l.c l.j)

abbrev pub decreases-loop-i : goal.decreases-loop-i
decreases-loop-i l = l.i
