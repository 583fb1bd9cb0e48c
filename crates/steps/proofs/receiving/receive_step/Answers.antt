-- `steps::receiving::receive_step` meets its contract: each arm is the definition's at its round, and only a reveal stops a run.
-- Assumes nothing.
use mathlib.Core.Path.{refl}
use Rattle.field.specs.Words.{ops}
use Rattle.circuit.specs.Round.{Own, Open, Commit}
use Rattle.protocol.proofs.Received.{commit_received}
use Rattle.steps.proofs.Concluding.{marks_ask, found_other, concludes_passed}
use Rattle.steps.proofs.receiving.receive_step.Goals as goal

pub put_marks-requires : goal.put_marks-requires
put_marks-requires c =
    marks_ask _ _ _ _ _ (rw c.in-Commit.is at c.requires)

pub returns-in-Own : goal.returns-in-Own
returns-in-Own c =
    let asked = (rw c.in-Own.is at c.requires) in
    rw c.in-Own.is (concludes_passed _ _ _ Own _ (found_other _ _ Own _ refl) refl asked.ready.occurs c.receive_gate.ensures.point c.receive_gate.ensures.scratch)

pub returns-in-Open : goal.returns-in-Open
returns-in-Open c =
    let asked = (rw c.in-Open.is at c.requires) in
    rw c.in-Open.is (concludes_passed _ _ _ Open _ (found_other _ _ Open _ refl) refl asked.ready.occurs c.sending_at.ensures c.receive_output.ensures)

pub returns-in-Commit : goal.returns-in-Commit
returns-in-Commit c =
    let asked = (rw c.in-Commit.is at c.requires) in
    rw c.in-Commit.is (concludes_passed _ _ _ (Commit _) _ (found_other _ _ (Commit _) _ refl) refl asked.ready.occurs c.sending_at-in-Commit.ensures (commit_received ops _ _ _ _ _ _ asked.ready c.put_marks.ensures))
