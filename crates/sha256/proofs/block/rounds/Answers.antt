-- `sha256::block::rounds` meets its contract: the loop keeps that the rounds that are left give what all of them give from the start, and that the
-- schedule is sixteen words ahead of them.
-- Assumes nothing.
use Rattle.std.proofs.Common.{◌+◌, ◌*◌, ◌∙◌, refl, rules}
use Rattle.sha256.specs.Sha256.{K}
use Rattle.sha256.proofs.Ahead.{Ahead, turning_start, ahead_extended, ahead_still, turning_again, turning_done}
use Rattle.sha256.proofs.block.rounds.Goals as goal
use Rattle.sha256.proofs.block.rounds.Goals.{then-t, else-t}

pub loop-i-init : goal.loop-i-init
loop-i-init c =
    turning_start _ _ (search rules)

pub turn-next-requires : goal.turn-next-requires
turn-next-requires c =
    let inv = c.loop-i.invariant in
    let ahead : Ahead c.args.w.now c.if-t.w (8 * c.loop-i.i + 24) =
    elim c.if-t.branch [
      | then-t l ↦ ahead_extended inv l.if-t.true (l.w-is ∙ l.extend.ensures)
      | else-t r ↦ ahead_still inv r.if-t.false r.w-is
    ] in
    search rules

pub loop-i-preserved : goal.loop-i-preserved
unfolding K
loop-i-preserved c =
    let inv = c.loop-i.invariant in
    let ahead : Ahead c.args.w.now c.if-t.w (8 * c.loop-i.i + 24) =
    elim c.if-t.branch [
      | then-t l ↦ ahead_extended inv l.if-t.true (l.w-is ∙ l.extend.ensures)
      | else-t r ↦ ahead_still inv r.if-t.false r.w-is
    ] in
    turning_again inv (search rules) (search rules) refl ahead c.turn-next.ensures

pub returns : goal.returns
returns c =
    let done = turning_done (search rules) c.loop-i.invariant in record { value = done.0; w_after = done.1 }
