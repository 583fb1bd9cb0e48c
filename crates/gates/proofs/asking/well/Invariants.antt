use Prim.Native.Nat.{ℕ, ◌<◌}
use mathlib.Core.Path.{◌≡◌}
use Rattle.circuit.specs.Valid.{ValidGate}
use Rattle.gates.specs.Weight.{weight_before}
use Rattle.gates.proofs.asking.well.Given as goal

abbrev pub invariant-loop-j : goal.invariant-loop-j
invariant-loop-j l =
    ((i : ℕ) → i < l.j → ValidGate l.parties l.size l.c i) × (l.sum ≡ weight_before l.c l.me l.j)
