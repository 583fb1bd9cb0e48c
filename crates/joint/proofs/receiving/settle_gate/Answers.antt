-- `joint::receiving::settle_gate` meets its contract: each party is lent its band.
-- Assumes nothing.
use Prim.Native.Nat.{ℕ, ◌<◌, ◌≤◌}
use mathlib.Core.Path.{◌≡◌}
use mathlib.Core.Bool.{true}
use mathlib.Core.List.{List}
use borrow.Author.Rules.{rules}
use lib.ListN.{length}
use Rattle.protocol.specs.Scratch.{band, slots_size}
use Rattle.circuit.specs.Gate.{gate_of}
use Rattle.circuit.specs.Kind.{Local, kind_shape, is_class}
use Rattle.circuit.specs.Code.{kind_of}
use Rattle.protocol.specs.Code.{layout_of}
use Rattle.protocol.specs.Holding.{Reads}
use Rattle.field.specs.Words.{size}
use Rattle.joint.specs.Code.{key_in}
use Rattle.joint.proofs.Parting.{parts_joined}
use Rattle.joint.proofs.Cutting.{taken_key, taken_room}
use Rattle.joint.proofs.ReceiveTurns.{linear_left}
use Rattle.joint.proofs.receiving.settle_gate.Goals as goal

pub each_part-requires-clause-each : goal.each_part-requires-clause-each
each_part-requires-clause-each c = λ i h p e.
    let asks : (l : List ℕ) → l ≡ band c.args.f.scratch c.args.scratch.now i → (key : ℕ) → key ≡ key_in c.args.f c.args.preps.now i
    → (key < size) × (slots_size (layout_of c.args.f.layout) ≤ length l) × (c.args.j < c.args.f.layout.gates) × (is_class Local (kind_shape (kind_of c.args.kind)).class ≡ true) × Reads size (layout_of c.args.f.layout) l (gate_of (kind_of c.args.kind) c.args.x c.args.z c.args.k) = λ l a key b. (taken_key c.requires.0 i h b, taken_room c.requires.1 i h a, c.requires.2, c.requires.3, rw a (c.requires.4 i h)) in
    search (rules, asks)

pub returns : goal.returns
returns c =
    parts_joined c.each_part.ensures c.requires.1.room (linear_left c.args.f c.args.preps.now c.args.scratch.now c.args.j (gate_of (kind_of c.args.kind) c.args.x c.args.z c.args.k)) (λ i h p q e w. search rules)
