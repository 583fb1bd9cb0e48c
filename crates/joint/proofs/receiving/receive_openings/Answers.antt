-- `joint::receiving::receive_openings` meets its contract: each party is lent its band.
-- Assumes nothing.
use Prim.Native.Nat.{ℕ}
use mathlib.Core.Path.{◌≡◌}
use mathlib.Core.List.{List}
use native.Mathlib.Omega.{arith}
use borrow.Author.Rules.{rules}
use Rattle.protocol.specs.Scratch.{band}
use Rattle.protocol.specs.Code.{layout_of}
use Rattle.protocol.specs.Ready.{Opening}
use Rattle.field.specs.Words.{size}
use Rattle.joint.specs.Code.{key_in, prep_from}
use Rattle.joint.proofs.Parting.{parts_joined}
use Rattle.joint.proofs.Cutting.{with_key, from_there}
use Rattle.joint.proofs.ReceiveTurns.{opening_left}
use Rattle.joint.proofs.receiving.receive_openings.Goals as goal

pub each_part-requires-clause-each : goal.each_part-requires-clause-each
each_part-requires-clause-each c = λ i h p e.
    let keyed = with_key c.requires.0 (omega arith) in
    let cut = from_there c.requires.0 in
    let asks : (l : List ℕ) → l ≡ band c.args.f.scratch c.args.scratch.now i → (key : ℕ) → key ≡ key_in c.args.f c.args.preps.now i → (m : List ℕ) → m ≡ prep_from c.args.f c.args.preps.now c.args.at i
    → Opening size key (layout_of c.args.f.layout) l c.args.j c.args.x c.args.z m c.args.k c.args.u c.args.e c.args.d = λ l a key b m d. rw (a, b, d) (c.requires.2 i h) in
    (search rules, search rules, search (rules, asks))

pub returns : goal.returns
returns c =
    parts_joined c.each_part.ensures c.requires.1.room (opening_left c.args.f c.args.preps.now c.args.scratch.now c.args.j c.args.x c.args.z c.args.at c.args.k c.args.u c.args.e c.args.d) (λ i h p q e w. search rules)
