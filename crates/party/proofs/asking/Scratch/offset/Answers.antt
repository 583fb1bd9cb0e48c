-- `party::asking::Scratch::offset` meets its contract: the slot stands in the scratch.
-- Assumes nothing.
use mathlib.Core.Path.{ap₂, ◌∙◌}
use native.Mathlib.Omega.{arith}
use Rattle.protocol.specs.Scratch.{offset}
use Rattle.protocol.proofs.Slots.{slot_fits}
use Rattle.party.specs.Code.{sort_of}
use Rattle.party.proofs.asking.Scratch.offset.Goals as goal

pub offset_of-requires : goal.offset_of-requires
offset_of-requires c =
    let laid = c.args.self.now.laid in
    (rw laid.lay (omega (arith, laid.room, c.well_formed)), rw (laid.lay, c.slot.ensures) c.requires)

pub returns : goal.returns
returns c =
    let laid = c.args.self.now.laid in
    let place = c.offset_of.ensures ∙ ap₂ offset laid.lay c.slot.ensures in
    (place, rw place (slot_fits _ (sort_of c.args.sort c.args.t) laid.room c.requires))
