-- `joint::sending::input_words` meets its contract: each party gives its word.
-- Assumes nothing.
use Prim.Native.Nat.{ℕ, ◌<◌}
use mathlib.Core.Path.{◌≡◌}
use mathlib.Core.List.{List}
use native.Mathlib.Omega.{arith}
use borrow.Author.Rules.{rules}
use lib.ListN.{length, get_or}
use Rattle.protocol.specs.Holding.{Below}
use Rattle.protocol.specs.Send.{input_word}
use Rattle.field.specs.Words.{size, ops}
use Rattle.joint.specs.Code.{prep_from}
use Rattle.joint.proofs.Cutting.{from_there, taken_long, taken_low}
use Rattle.joint.proofs.Parting.{words_joined}
use Rattle.joint.proofs.sending.input_words.Goals as goal

pub each_word-requires : goal.each_word-requires
each_word-requires c = λ i h.
    let inside : i < c.args.f.parties = omega (arith, h, c.requires.4) in
    let cut = from_there c.requires.1 in
    let asks : (m : List ℕ) → m ≡ prep_from c.args.f c.args.preps.now c.args.at i → (2 < length m) × Below size m × Below size c.args.inputs.now = λ m d. (taken_long c.requires.1 i inside d, taken_low c.requires.1 i inside d, c.requires.2) in
    let there : i < length c.args.places.now = omega (arith, inside, c.requires.3) in
    (search rules, search rules, search rules, search (rules, asks))

pub returns : goal.returns
returns c =
    words_joined c.each_word.ensures _ c.requires.4 (λ i. input_word ops i c.args.owner (prep_from c.args.f c.args.preps.now c.args.at i) (get_or c.args.inputs.now (get_or c.args.places.now i 0) 0)) (λ i h x w. search rules)
