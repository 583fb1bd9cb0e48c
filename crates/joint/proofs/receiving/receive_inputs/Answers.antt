-- `joint::receiving::receive_inputs` meets its contract: each party is lent its band.
-- Assumes nothing.
use Prim.Native.Nat.{ℕ, ◌<◌, ◌≤◌}
use mathlib.Core.Path.{◌≡◌}
use mathlib.Core.List.{List}
use native.Mathlib.Omega.{arith}
use borrow.Author.Rules.{rules}
use lib.ListN.{length}
use Rattle.protocol.specs.Scratch.{band, slots_size}
use Rattle.protocol.specs.Code.{layout_of}
use Rattle.protocol.specs.Holding.{Below}
use Rattle.field.specs.Words.{size}
use Rattle.joint.specs.Code.{key_in, prep_from}
use Rattle.joint.proofs.Parting.{parts_joined}
use Rattle.joint.proofs.Cutting.{with_key, from_there, taken_key, taken_long, taken_low, taken_room}
use Rattle.joint.proofs.ReceiveTurns.{input_left}
use Rattle.joint.proofs.receiving.receive_inputs.Goals as goal

pub each_part-requires-clause-each : goal.each_part-requires-clause-each
each_part-requires-clause-each c = λ i h p e.
    let keyed = with_key c.requires.0 (omega arith) in
    let cut = from_there c.requires.0 in
    let asks : (l : List ℕ) → l ≡ band c.args.f.scratch c.args.scratch.now i → (key : ℕ) → key ≡ key_in c.args.f c.args.preps.now i → (m : List ℕ) → m ≡ prep_from c.args.f c.args.preps.now c.args.at i
    → (key < size) × (c.args.e < size) × (1 < length m) × Below size m × (slots_size (layout_of c.args.f.layout) ≤ length l) × (c.args.j < c.args.f.layout.gates) = λ l a key b m d. (taken_key c.requires.0 i h b, c.requires.3, taken_long c.requires.0 i h d, taken_low c.requires.0 i h d, taken_room c.requires.1 i h a, c.requires.2) in
    search (rules, asks)

pub returns : goal.returns
returns c =
    parts_joined c.each_part.ensures c.requires.1.room (input_left c.args.f c.args.preps.now c.args.scratch.now c.args.j c.args.at c.args.e) (λ i h p q e w. search rules)
