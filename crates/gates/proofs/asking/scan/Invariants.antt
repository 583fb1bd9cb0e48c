use mathlib.Core.Path.{◌≡◌}
use Rattle.circuit.specs.Verdict.{Accepted, each}
use Rattle.circuit.specs.Accept.{ask_name, ask_rest, ask_gate}
use Rattle.gates.proofs.asking.scan.Given as goal

abbrev pub invariant-loop-k : goal.invariant-loop-k
invariant-loop-k l = each l.k (ask_name l.parties l.size l.c l.j) ≡ Accepted

abbrev pub invariant-loop-t : goal.invariant-loop-t
invariant-loop-t l = each l.t (ask_rest l.parties l.size l.c l.j) ≡ Accepted

abbrev pub invariant-loop-j : goal.invariant-loop-j
invariant-loop-j l = each l.j (ask_gate l.parties l.size l.c) ≡ Accepted
