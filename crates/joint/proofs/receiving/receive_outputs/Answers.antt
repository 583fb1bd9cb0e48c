-- `joint::receiving::receive_outputs` meets its contract: each party is lent its band.
-- Assumes nothing.
use Prim.Native.Nat.{ℕ, ◌≤◌}
use mathlib.Core.Path.{◌≡◌}
use mathlib.Core.Bool.{true}
use mathlib.Core.List.{List}
use borrow.Author.Rules.{rules}
use lib.ListN.{length}
use Rattle.protocol.specs.Scratch.{band}
use Rattle.circuit.specs.Kind.{mask_size}
use Rattle.protocol.specs.Code.{layout_of}
use Rattle.protocol.specs.Holding.{Held}
use Rattle.field.specs.Words.{size}
use Rattle.joint.specs.Code.{prep_from}
use Rattle.joint.proofs.Parting.{parts_joined}
use Rattle.joint.proofs.Cutting.{taken_low, taken_room, mask_cut}
use Rattle.joint.proofs.ReceiveTurns.{output_left}
use Rattle.joint.proofs.receiving.receive_outputs.Goals as goal

pub each_part-requires-clause-each : goal.each_part-requires-clause-each
each_part-requires-clause-each c = λ i h p e.
    let held : (l : List ℕ) → l ≡ band c.args.f.scratch c.args.scratch.now i → Held size (layout_of c.args.f.layout) l c.args.x = λ l a. rw a (c.requires.4 i h) in
    let mask : (m : List ℕ) → m ≡ prep_from c.args.f c.args.preps.now c.args.at i → c.args.give ≡ true → mask_size ≤ length m = λ m a g. rw a (mask_cut c.requires.1 (c.requires.2 g) i h) in
    search (rules, held, mask, taken_low c.requires.1 i h, taken_room c.requires.0 i h)

pub returns : goal.returns
returns c =
    parts_joined c.each_part.ensures c.requires.0.room (output_left c.args.f c.args.preps.now c.args.scratch.now c.args.at c.args.x c.args.give c.args.e) (λ i h p q e w. search rules)
