use Prim.Native.Nat.{◌-◌, ◌≤◌, ◌<◌}
use mathlib.Core.Path.{◌≡◌}
use Rattle.field.specs.Words.{ops, sum_size}
use Rattle.steps.specs.Code.{weighed}
use Rattle.steps.proofs.sending.weigh.Given as goal

abbrev pub invariant-loop-t : goal.invariant-loop-t
invariant-loop-t l = record {
  upto : l.t ≤ l.k;
  below : l.acc < sum_size;
  is : ops.norm l.acc ≡ weighed l.values l.coefficients l.t;
}

abbrev pub decreases-loop-t : goal.decreases-loop-t
decreases-loop-t l = l.k - l.t
