use Prim.Native.Nat.{◌+◌, ◌*◌, ◌<◌}
use mathlib.Core.Path.{◌≡◌}
use lib.ListN.{length}
use Rattle.field.specs.Words.{ops, sum_size, term_size}
use Rattle.steps.specs.Code.{weighed}
use Rattle.steps.proofs.sending.weigh_on.Given as goal

abbrev pub invariant-loop-coefficient : goal.invariant-loop-coefficient
invariant-loop-coefficient l = record {
  below : l.acc < sum_size + length l.yielded * term_size;
  is : ops.norm l.acc ≡ ops.add (ops.norm l.start) (weighed l.values l.coefficients (length l.yielded));
}
