-- Lists that grow by a number or by an interval: what stood there stays.
-- Assumes nothing.
use Prim.Native.Nat.{ℕ, suc, ◌+◌, ◌*◌, ◌<◌}
use mathlib.Core.Path.{◌≡◌, refl, ap₂}
use mathlib.Core.List.{List, [], ◌∷◌, ◌++◌}
use native.Mathlib.Omega.{arith}
use lib.ListN.{length, get_or, length-append, get_or-append}
use lib.Seq.{get_or_at, get_or-append-add}
use Rattle.ranges.specs.Interval.{interval, interval_size, interval_at}

module _ (l : List ℕ) (a : ℕ) {j : ℕ} (e : length l ≡ j) where
  pub one_length : length (l ++ (a ∷ [])) ≡ suc j
  one_length = omega (arith, length-append l (a ∷ []))

  pub one_earlier : (x : ℕ) → x < j → get_or (l ++ (a ∷ [])) x 0 ≡ get_or l x 0
  one_earlier x h = get_or-append l (a ∷ []) 0 x (omega arith)

  pub one_last : get_or (l ++ (a ∷ [])) j 0 ≡ a
  one_last = get_or_at l a [] 0 j e

module _ (l : List ℕ) (a b j : ℕ) (e : length l ≡ interval_size * j) where
  pub pair_length : length (l ++ (a ∷ b ∷ [])) ≡ interval_size * suc j
  pair_length = omega (arith, length-append l (a ∷ b ∷ []))

  pub pair_earlier : (x : ℕ) → x < j → interval_at (l ++ (a ∷ b ∷ [])) x ≡ interval_at l x
  unfolding interval_at
  pair_earlier x h =
      ap₂ interval (get_or-append l (a ∷ b ∷ []) 0 (interval_size * x) (omega arith))
      (get_or-append l (a ∷ b ∷ []) 0 (interval_size * x + 1) (omega arith))

  pub pair_last : interval_at (l ++ (a ∷ b ∷ [])) j ≡ interval a b
  unfolding interval_at
  pair_last = rw (← e) (ap₂ interval (get_or_at l a (b ∷ []) 0 (length l) refl) (get_or-append-add l (a ∷ b ∷ []) 1 0))
