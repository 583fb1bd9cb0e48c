-- `steps::receiving::enter` meets its contract: the class tells the first round, and of an output what waits for a check.
-- Assumes nothing.
use mathlib.Core.Path.{◌∙◌}
use native.Mathlib.Omega.{arith}
use borrow.Author.Tests.{eq-eqb, ne_eqb}
use Rattle.circuit.specs.Round.{class_rounds, check_rounds}
use Rattle.protocol.specs.Position.{begin, finished}
use Rattle.protocol.specs.Code.{point_of}
use Rattle.protocol.proofs.Following.{enter_at, enter_end}
use Rattle.steps.proofs.receiving.enter.Goals as goal

pub returns-then-count-k : goal.returns-then-count-k
unfolding point_of finished
returns-then-count-k c =
    rw c.requires.0 (enter_end _ _ (omega (arith, c.requires.0, c.if-count-k.true)))

pub returns-then-waiting-eq0 : goal.returns-then-waiting-eq0
unfolding begin class_rounds check_rounds
returns-then-waiting-eq0 c =
    c.sending_at-then-waiting-eq0.ensures ∙ (rw (eq-eqb _ 0 c.if-waiting-eq0.true) at (enter_at _ _ (omega (arith, c.requires.0, c.if-count-k.false)) (c.requires.3 c.if-count-k.false) (rw c.in-Output.is at c.class_at-class.ensures)))

pub returns-in-Local : goal.returns-in-Local
unfolding point_of finished begin class_rounds
returns-in-Local c =
    rw c.requires.0 (enter_at _ _ (omega (arith, c.requires.0, c.if-count-k.false)) (c.requires.3 c.if-count-k.false) (rw c.in-Local.is at c.class_at-class.ensures))

pub returns-in-Owned : goal.returns-in-Owned
unfolding begin class_rounds
returns-in-Owned c =
    c.sending_at.ensures ∙ enter_at _ _ (omega (arith, c.requires.0, c.if-count-k.false)) (c.requires.3 c.if-count-k.false) (rw c.in-Owned.is at c.class_at-class.ensures)

pub returns-in-Opens : goal.returns-in-Opens
unfolding begin class_rounds
returns-in-Opens c =
    c.sending_at-in-Opens.ensures ∙ enter_at _ _ (omega (arith, c.requires.0, c.if-count-k.false)) (c.requires.3 c.if-count-k.false) (rw c.in-Opens.is at c.class_at-class.ensures)

pub returns-else-waiting-eq0 : goal.returns-else-waiting-eq0
unfolding begin class_rounds check_rounds
returns-else-waiting-eq0 c =
    c.sending_at-in-Output.ensures ∙ (rw (ne_eqb _ 0 c.if-waiting-eq0.false) at (enter_at _ _ (omega (arith, c.requires.0, c.if-count-k.false)) (c.requires.3 c.if-count-k.false) (rw c.in-Output.is at c.class_at-class.ensures)))
