use Prim.Native.Nat.{◌≤◌}
use Rattle.joint.specs.Code.{Counted}
use Rattle.joint.proofs.framing.count_inputs.Given as goal

abbrev pub invariant-loop-j : goal.invariant-loop-j
invariant-loop-j l = (l.j ≤ l.count) × Counted l.parties l.c l.j l.counts
