-- `capi::spdz_joint_run` meets its contract: an answer that has room is the entry's, and where there is none the questions alone are asked.
-- Assumes nothing.
use mathlib.Core.Path.{ap, ◌∙◌}
use Prim.Native.Nat.{◌≤◌}
use native.Mathlib.Omega.{arith}
use lib.ListN.{length}
use Rattle.protocol.specs.Send.{overwrite}
use Rattle.protocol.specs.JointEntry.{JointAnswer}
use Rattle.capi.specs.Numbers.{places, joint_numbers}
use Rattle.field.specs.Words.{ops}
use Rattle.capi.proofs.Calling.{joint_told, no_outputs, short_refused, short_kept, long_returned, long_left, joint_verdict_is, joint_answer_left, joint_scratch_left, joint_transcript_left, joint_outputs_left, scratch_kept, transcript_kept, outputs_kept}
use Rattle.capi.proofs.Naming.{joint_tells}
use Rattle.capi.proofs.spdz_joint_run.Goals as goal

pub returns-then-answer-lt-PLACES : goal.returns-then-answer-lt-PLACES
returns-then-answer-lt-PLACES c =
    record { returned = short_refused _ _ (omega arith) (joint_told c.joint_run.result c.joint_run.ensures.answer (joint_verdict_is ops _ _ _ _) ∙ no_outputs _ _ _ _) c.returned_of.ensures; answer = short_kept _ _ (omega arith) _ _; scratch = c.joint_run.ensures.scratch ∙ scratch_kept _ _ _ ∙ short_kept _ _ (omega arith) _ _; transcript = c.joint_run.ensures.transcript ∙ transcript_kept _ _ _ ∙ short_kept _ _ (omega arith) _ _; outputs = rw (c.joint_run.ensures.outputs ∙ outputs_kept _ _ _) (short_kept _ _ (omega arith) _ _) }

pub put_joint-requires : goal.put_joint-requires
put_joint-requires c =
    (omega arith, rw c.joint_run-a.ensures.answer (joint_tells ops _ (omega arith) _ _ _))

pub returns : goal.returns
returns c =
    let long : places ≤ length c.args.answer.now = omega arith in
    record { returned = long_returned _ _ long (joint_told c.joint_run-a.result c.joint_run-a.ensures.answer (joint_verdict_is ops _ _ _ _)) c.returned_of-2.ensures; answer = long_left _ _ long _ _ (joint_answer_left ops _ _ _ _ _) (c.put_joint.ensures ∙ ap (λ (a : JointAnswer). overwrite (joint_numbers a) c.args.answer.now) c.joint_run-a.ensures.answer); scratch = long_left _ _ long _ _ (joint_scratch_left ops _ _ _ _) c.joint_run-a.ensures.scratch; transcript = long_left _ _ long _ _ (joint_transcript_left ops _ _ _ _) c.joint_run-a.ensures.transcript; outputs = long_left _ _ long _ _ (joint_outputs_left ops _ _ _ _) c.joint_run-a.ensures.outputs }
