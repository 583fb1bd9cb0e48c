-- `joint::receiving::listed_score` meets its contract: the receiver's band and record are cut out.
-- Assumes nothing.
use Prim.Native.Nat.{ℕ, ◌<◌}
use mathlib.Core.Path.{◌≡◌}
use native.Mathlib.Omega.{arith}
use Rattle.joint.proofs.Cutting.{cut_low, mask_cut, band_room}
use Rattle.joint.proofs.receiving.listed_score.Goals as goal

-- the receiver is a party
receives : {i r n : ℕ} → i ≡ r → r < n → i < n
receives e h = omega arith

pub score_of-requires : goal.score_of-requires
score_of-requires c =
    let h = receives c.receiver_at-i.ensures c.requires.1 in
    rw (c.band.ensures, c.prep_from.ensures) (band_room c.requires.2 _ h, c.requires.5 _ h, (λ g. mask_cut c.requires.3 (c.requires.4 g) _ h), cut_low c.requires.3 _ h)
