-- Whether two lists are the same: what the answer means.
-- Assumes nothing.
use Rattle.std.proofs.Common.{◌≡◌, ℕ, true, List, refl}
use Rattle.std.proofs.lemmas.Slice.Eq.{bytes_eq-Decides}
use Rattle.sha256.specs.Digest.{same}

pub same_refl : (x : List ℕ) → same x x ≡ true
unfolding same
same_refl x = (bytes_eq-Decides x x).1 refl

pub same_true : (x y : List ℕ) → same x y ≡ true → x ≡ y
unfolding same
same_true x y e = (bytes_eq-Decides x y).0 e
