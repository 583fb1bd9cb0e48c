-- `joint::sending::check_shares` meets its contract: each party gives its word. The opened values are the same to all, so that their sum is that of the first party.
-- Assumes nothing.
use Prim.Native.Nat.{ℕ, ◌+◌, ◌-◌, ◌<◌, ◌≤◌}
use mathlib.Core.Path.{◌≡◌}
use mathlib.Core.List.{List}
use native.Mathlib.Omega.{arith}
use borrow.Author.Rules.{rules}
use lib.ListN.{length}
use Rattle.protocol.specs.Scratch.{band, slots_size}
use Rattle.protocol.specs.Code.{layout_of}
use Rattle.protocol.specs.Holding.{Below, Opened}
use Rattle.field.specs.Words.{size}
use Rattle.joint.specs.Code.{key_in, share_in, part}
use Rattle.joint.proofs.Cutting.{taken_key, taken_room, band_room}
use Rattle.algebra.specs.Element.{Is}
use Rattle.steps.specs.Code.{value_sum}
use Rattle.protocol.proofs.Said.{below_part}
use Rattle.joint.proofs.Common.{common_sum}
use Rattle.joint.proofs.SendTurns.{part_enough}
use Rattle.joint.proofs.Parting.{words_joined}
use Rattle.joint.proofs.sending.check_shares.Goals as goal

pub weigh_values-sum-requires : goal.weigh_values-sum-requires
weigh_values-sum-requires c =
    rw c.band.ensures (band_room c.requires.2 0 c.requires.6, c.requires.7, part_enough c.args.u c.args.k c.args.coefficients.now c.requires.3, below_part c.args.coefficients.now (c.args.u + c.args.k - c.args.u) c.args.u c.requires.4, c.requires.5 0 c.requires.6)

pub each_word-requires : goal.each_word-requires
each_word-requires c = λ i h.
    let inside : i < c.args.f.parties = omega (arith, h, c.requires.9) in
    let drawn : List ℕ = part c.args.u (c.args.u + c.args.k) c.args.coefficients.now in
    let asks : (l : List ℕ) → l ≡ band c.args.f.scratch c.args.scratch.now i → (key : ℕ) → key ≡ key_in c.args.f c.args.preps.now i
    → Is size (value_sum (layout_of c.args.f.layout) l c.args.k drawn) c.weigh_values-sum.result
    × (slots_size (layout_of c.args.f.layout) ≤ length l)
    × (0 < (layout_of c.args.f.layout).capacity)
    × (key < size)
    × (c.args.k ≤ length drawn)
    × Below size drawn
    × ((t : ℕ) → t < c.args.k → Opened size (layout_of c.args.f.layout) l t) = λ l a key b. (
      rw a (common_sum c.args.f c.args.scratch.now c.args.k drawn c.requires.8 i inside (rw c.band.ensures at c.weigh_values-sum.ensures)),
      taken_room c.requires.2 i inside a,
      c.requires.7,
      taken_key c.requires.1 i inside b,
      part_enough c.args.u c.args.k c.args.coefficients.now c.requires.3,
      below_part c.args.coefficients.now (c.args.u + c.args.k - c.args.u) c.args.u c.requires.4,
      rw a (c.requires.5 i inside),
    ) in
    (search rules, search rules, λ _ _ _ _ _ _ _ _ _ key _ _ band _ _ _ is _ _ _ _ _. asks band.now is key.result key.ensures)

pub returns : goal.returns
returns c =
    words_joined c.each_word.ensures _ c.requires.9 (share_in c.args.f c.args.preps.now c.args.scratch.now c.args.k c.args.u c.args.coefficients.now) (λ i h x w. search rules)
