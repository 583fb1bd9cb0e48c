use Prim.Native.Nat.{◌-◌, ◌*◌}
use Rattle.field.specs.Words.{ops}
use Rattle.circuit.specs.Gate.{gates}
use Rattle.protocol.specs.Run.{most_rounds}
use Rattle.joint.specs.Code.{joint_of}
use Rattle.joint.proofs.Passing.{Before}
use Rattle.joint.proofs.rounds.run.Given as goal

abbrev pub invariant-loop-f : goal.invariant-loop-f
invariant-loop-f l = Before (joint_of l.f.parties l.c l.preps l.inputs l.coefficients l.nonces) l.f l.initial.scratch l.initial.transcript l.initial.outputs l.s l.places l.scratch l.transcript l.outputs

abbrev pub decreases-loop-f : goal.decreases-loop-f
decreases-loop-f l = most_rounds ops (joint_of l.f.parties l.c l.preps l.inputs l.coefficients l.nonces) * gates l.c - l.s.rounds
