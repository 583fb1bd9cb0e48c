-- `joint::sending::output_words` meets its contract: each party gives its word.
-- Assumes nothing.
use Prim.Native.Nat.{ℕ, ◌<◌, ◌≤◌}
use mathlib.Core.Path.{◌≡◌}
use mathlib.Core.Bool.{true}
use mathlib.Core.List.{List}
use native.Mathlib.Omega.{arith}
use borrow.Author.Rules.{rules}
use lib.ListN.{length}
use Rattle.protocol.specs.Scratch.{band, slots_size}
use Rattle.protocol.specs.Code.{layout_of}
use Rattle.protocol.specs.Holding.{Below, Held}
use Rattle.protocol.specs.Send.{shown}
use Rattle.field.specs.Words.{size, ops}
use Rattle.joint.specs.Code.{prep_from}
use Rattle.joint.proofs.Cutting.{taken_low, taken_room, mask_cut}
use Rattle.steps.proofs.Numbers.{share_of}
use Rattle.steps.specs.Code.{IsPart}
use Rattle.steps.specs.declared.Part.{Part}
use Rattle.joint.proofs.Parting.{words_joined}
use Rattle.joint.proofs.sending.output_words.Goals as goal

pub each_word-requires : goal.each_word-requires
each_word-requires c = λ i h.
    let inside : i < c.args.f.parties = omega (arith, h, c.requires.5) in
    let asks : (l : List ℕ) → l ≡ band c.args.f.scratch c.args.scratch.now i → (m : List ℕ) → m ≡ prep_from c.args.f c.args.preps.now c.args.at i
    → (slots_size (layout_of c.args.f.layout) ≤ length l) × Held size (layout_of c.args.f.layout) l c.args.x × (c.args.give ≡ true → 1 < length m) × Below size m = λ l a m d. (taken_room c.requires.3 i inside a, rw a (c.requires.4 i inside), (λ g. rw d (omega (arith, mask_cut c.requires.1 (c.requires.2 g) i inside))), taken_low c.requires.1 i inside d) in
    search (rules, asks)

pub returns : goal.returns
returns c =
    words_joined c.each_word.ensures _ c.requires.5 (λ i. (shown ops (layout_of c.args.f.layout) (band c.args.f.scratch c.args.scratch.now i) c.args.give c.args.x (prep_from c.args.f c.args.preps.now c.args.at i)).share) (λ i h x w.
    let gives : (l : List ℕ) → l ≡ band c.args.f.scratch c.args.scratch.now i → (m : List ℕ) → m ≡ prep_from c.args.f c.args.preps.now c.args.at i → (e : Part)
    → IsPart (shown ops (layout_of c.args.f.layout) l c.args.give c.args.x m) e
    → e.share ≡ (shown ops (layout_of c.args.f.layout) (band c.args.f.scratch c.args.scratch.now i) c.args.give c.args.x (prep_from c.args.f c.args.preps.now c.args.at i)).share = λ l a m d e z. rw (a, d) at (share_of z).is in
    search (rules, gives))
