-- What a gate comes to where it stays: its ends, which are below the size of the field.
-- Assumes nothing.
use Prim.Native.Nat.{ℕ, zero, suc, ◌*◌, ◌<◌, ◌≤◌}
use mathlib.Core.Path.{◌≡◌, refl, ◌∙◌}
use mathlib.Core.Logic.{⊎_elim}
use mathlib.Core.Bool.{true}
use mathlib.Core.List.{List, [], ◌∷◌, ◌++◌}
use native.Mathlib.Nat.{le_of_suc-le-suc, eq-or-lt_of_le}
use native.Mathlib.Omega.{arith}
use lib.ListN.{length}
use lib.Dec.{ltb}
use borrow.Author.Tests.{ltb-true}
use Rattle.circuit.proofs.Tests.{by_cases, false_no}
use Rattle.ranges.specs.Interval.{Interval, interval, interval_size, interval_at, Reach, Stays, Leaves, stays, ends, up_to, reach, intervals}
use Rattle.ranges.proofs.Growing.{pair_length, pair_earlier, pair_last}

-- the interval that is told of a gate
abbrev pub told : Reach → Interval
told (Stays lowest highest) = interval lowest highest
told Leaves = interval 0 0

pub ends_told : (r : Reach) → ends r ≡ (told r).lowest ∷ (told r).highest ∷ []
ends_told (Stays lowest highest) = refl
ends_told Leaves = refl

pub stays_told : (r : Reach) → stays r ≡ true → r ≡ Stays (told r).lowest (told r).highest
stays_told (Stays lowest highest) e = refl
stays_told Leaves e = false_no e

-- ends that stay are told as they are, and are below q
module _ (q lowest highest : ℕ) (e : stays (up_to q lowest highest) ≡ true) where
  fits : ltb highest q ≡ true
  unfolding up_to
  fits = by_cases (ltb highest q) (λ h. h) (λ h. false_no (rw h at e))

  pub up_is : up_to q lowest highest ≡ Stays lowest highest
  unfolding up_to
  up_is = rw fits

  pub up_low : highest < q
  up_low = ltb-true highest q fits

-- the intervals of the gates before one stay as they are
module _ (q : ℕ) (c ranges : List ℕ) where
  pub intervals_more : (j : ℕ)
      → intervals q c ranges (suc j)
      ≡ intervals q c ranges j ++ ((told (reach q c ranges (intervals q c ranges j) j)).lowest ∷ (told (reach q c ranges (intervals q c ranges j) j)).highest ∷ [])
  unfolding intervals
  intervals_more j = rw ends_told

  pub intervals_length : (j : ℕ) → length (intervals q c ranges j) ≡ interval_size * j
  unfolding intervals
  intervals_length zero = refl
  intervals_length (suc j) = rw ends_told (pair_length (intervals q c ranges j) _ _ j (intervals_length j))

  pub interval_last : (j : ℕ) → interval_at (intervals q c ranges (suc j)) j ≡ told (reach q c ranges (intervals q c ranges j) j)
  interval_last j = rw intervals_more (pair_last (intervals q c ranges j) _ _ j (intervals_length j))

  pub interval_earlier : (j x : ℕ) → x < j → interval_at (intervals q c ranges (suc j)) x ≡ interval_at (intervals q c ranges j) x
  interval_earlier j x h = rw intervals_more (pair_earlier (intervals q c ranges j) _ _ j (intervals_length j) x h)

  pub interval_kept : (m j x : ℕ) → x < j → j ≤ m → interval_at (intervals q c ranges m) x ≡ interval_at (intervals q c ranges j) x
  interval_kept zero j x h l = absurd (omega arith)
  interval_kept (suc m) j x h l =
      ⊎_elim (λ e. rw e) (λ g. interval_earlier m x (omega arith) ∙ interval_kept m j x h (le_of_suc-le-suc g)) (eq-or-lt_of_le l)
