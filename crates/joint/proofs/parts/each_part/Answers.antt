use native.Mathlib.Omega.{arith}
use Rattle.joint.proofs.Parting.{parts_start, parts_fit, parts_again, part_kept, part_long, parts_done}
use Rattle.joint.proofs.parts.each_part.Goals as goal

pub loop-i-init : goal.loop-i-init
loop-i-init g c = parts_start g.F.Fn _ _ _

pub returns : goal.returns
returns g c = parts_done g.F.Fn _ _ _ c.loop-i.invariant _ (omega arith) (omega arith)

pub lend-requires : goal.lend-requires
lend-requires g c =
    rw (part_kept g.F.Fn _ _ _ c.loop-i.invariant) (c.requires.each c.loop-i.i c.loop-i-test.true)

pub loop-i-preserved : goal.loop-i-preserved
loop-i-preserved g c =
    let room = parts_fit g.F.Fn _ _ _ c.loop-i.invariant _ c.requires.room c.loop-i-test.true in
    parts_again g.F.Fn _ _ _ c.loop-i.invariant room (part_long _ _ _ _ room c.lend.auto.part) (rw (part_kept g.F.Fn _ _ _ c.loop-i.invariant) at c.lend.ensures)
