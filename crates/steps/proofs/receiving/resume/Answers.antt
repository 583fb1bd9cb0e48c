-- `steps::receiving::resume` meets its contract: linear gates open nothing, so what waits at the next stop is what waits after the gate.
-- Assumes nothing.
use mathlib.Core.Path.{◌∙◌}
use native.Mathlib.Omega.{arith}
use native.Mathlib.Numerals.{add-one}
use Rattle.circuit.proofs.Counts.{unchecked_few}
use Rattle.protocol.specs.Position.{resume}
use Rattle.protocol.proofs.Readiness.{resume_waits}
use Rattle.circuit.proofs.KindLaws.{shape_small}
use Rattle.steps.proofs.receiving.resume.Goals as goal

pub unchecked_after-waiting_after-requires : goal.unchecked_after-waiting_after-requires
unchecked_after-waiting_after-requires c =
    (omega (arith, c.requires.waits, unchecked_few c.args.c.now c.args.j, c.requires.within, c.requires.few), (shape_small _ _ c.shape_at.ensures).1)

pub enter-requires : goal.enter-requires
enter-requires c =
    (c.requires.all, c.requires.whole, omega (arith, c.requires.within), λ h. resume_waits _ _ _ c.requires.waits c.shape_at.ensures c.unchecked_after-waiting_after.ensures c.requires.reached)

pub returns : goal.returns
unfolding resume
returns c =
    c.enter.ensures ∙ rw (c.requires.reached, add-one, c.requires.all)
