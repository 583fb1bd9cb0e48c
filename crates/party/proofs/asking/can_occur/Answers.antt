-- `party::asking::can_occur` meets its contract: the gate, the stage and the check share are asked in turn.
-- Assumes nothing.
use mathlib.Core.Path.{◌≡◌, sym, ◌∙◌}
use mathlib.Core.Bool.{Bool, true, cond}
use mathlib.Core.List.{List}
use Prim.Native.Nat.{ℕ, ◌<◌}
use native.Mathlib.Omega.{arith}
use lib.Dec.{ltb, eqb}
use borrow.Author.Tests.{lt-ltb, le-ltb}
use Rattle.circuit.specs.Gate.{gates}
use Rattle.circuit.proofs.Tests.{false_no}
use Rattle.protocol.specs.Position.{Position, stage_occurs, may_hold, occurs}
use Rattle.protocol.proofs.Occurring.{past, no_stage}
use Rattle.party.specs.Code.{position_of}
use Rattle.party.proofs.asking.can_occur.Goals as goal
use Rattle.party.proofs.asking.can_occur.Goals.{then-at-count, else-at-count}

held_decides : (q : ℕ) (c : List ℕ) (at : Position) {b : Bool} → at.gate < gates c → stage_occurs c at.gate at.stage ≡ true
    → b ≡ cond (may_hold at.stage) (ltb at.held q) (eqb at.held 0)
    → b ≡ occurs q c at
unfolding occurs
held_decides q c at l e h = rw (lt-ltb _ _ l, e) h

pub stage_occurs-requires : goal.stage_occurs-requires
stage_occurs-requires c =
    (c.requires.0, c.requires.1, omega arith, c.requires.2 (omega arith))

pub returns-then-stage_occurs : goal.returns-then-stage_occurs
unfolding position_of
returns-then-stage_occurs c =
    elim c.if-at-count.branch [
      | then-at-count w ↦ held_decides _ _ _ (omega (arith, w.if-at-count.true, c.requires.1)) (sym w.stage_occurs.ensures ∙ sym w.value-is ∙ c.if-stage_occurs.true) c.is_held_well.ensures
      | else-at-count w ↦ false_no (sym (le-ltb _ _ w.if-at-count.false) ∙ sym w.value-is ∙ c.if-stage_occurs.true)
    ]

pub returns-else-stage_occurs : goal.returns-else-stage_occurs
unfolding position_of
returns-else-stage_occurs c =
    c.if-stage_occurs.false
    ∙ elim c.if-at-count.branch [
      | then-at-count w ↦ no_stage _ _ _ (omega (arith, w.if-at-count.true, c.requires.1)) (sym w.stage_occurs.ensures ∙ sym w.value-is ∙ c.if-stage_occurs.false)
      | else-at-count w ↦ past _ _ _ (omega (arith, w.if-at-count.false, c.requires.1))
    ]
