-- `joint::receiving::receive_marks` meets its contract: each party is lent its band.
-- Assumes nothing.
use Prim.Native.Nat.{◌+◌, ◌≤◌}
use borrow.Author.Rules.{rules}
use lib.ListN.{length}
use Rattle.protocol.specs.Scratch.{marks_at}
use Rattle.protocol.specs.Code.{layout_of}
use Rattle.joint.proofs.Parting.{parts_joined}
use Rattle.joint.proofs.Cutting.{band_tail}
use Rattle.joint.proofs.ReceiveTurns.{marks_left}
use Rattle.joint.proofs.receiving.receive_marks.Goals as goal

pub each_part-requires-clause-each : goal.each_part-requires-clause-each
each_part-requires-clause-each c = λ i h p e.
    let room : marks_at (layout_of c.args.f.layout) + length c.args.marks.now ≤ length p.now = rw (e, c.requires.1) (band_tail c.requires.0 i h) in
    search rules

pub returns : goal.returns
returns c =
    parts_joined c.each_part.ensures c.requires.0.room (marks_left c.args.f c.args.scratch.now c.args.marks.now) (λ i h p q e w. search rules)
