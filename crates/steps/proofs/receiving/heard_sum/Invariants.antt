use lib.ListN.{get_or}
use Prim.Native.Nat.{◌+◌, ◌*◌}
use Rattle.field.specs.Words.{ops}
use Rattle.protocol.proofs.Summing.{Added}
use Rattle.steps.proofs.receiving.heard_sum.Given as goal

abbrev pub invariant-loop-i : goal.invariant-loop-i
invariant-loop-i l = Added ops (λ z. get_or l.heard (z * l.k + l.t) 0) l.i l.acc
