-- Lists joined in party order, and taken apart again.
-- Assumes nothing.
use Prim.Native.Nat.{ℕ, zero, suc, ◌+◌, ◌*◌, ◌<◌, ◌≤◌}
use mathlib.Core.Path.{◌≡◌, ap, ◌∙◌}
use mathlib.Core.List.{List, ◌++◌, append_assoc}
use native.Mathlib.Decide.{ℕ_discrete}
use native.Mathlib.Nat.{mul-le-mul_right, suc-mul}
use native.Mathlib.Omega.{arith}
use lib.ListN.{length, drop, length-drop, take-append-drop}
use lib.Seq.{take_all, take-append-le, drop-append-le, drop_at, drop-drop}
use Rattle.protocol.specs.Scratch.{band}
use Rattle.protocol.specs.Joint.{joined}
use Rattle.protocol.proofs.Words.{length_joined}

-- The end of a party's part lies within the whole.
pub band_end : (n k i : ℕ) → i < n → i * k + k ≤ n * k
band_end n k i l = omega (arith, mul-le-mul_right {m = suc i} {n = n} k l)

-- What lies beyond the parties' parts does not matter to them.
pub band_front : (k n : ℕ) (xs ys : List ℕ) → length xs ≡ n * k → (i : ℕ) → i < n → band k (xs ++ ys) i ≡ band k xs i
unfolding band
band_front k n xs ys e i l =
    let b : i * k + k ≤ n * k = band_end n k i l in
    rw (
      drop-append-le (i * k) xs ys (omega arith),
      take-append-le k (drop (i * k) xs) ys (omega (arith, length-drop (i * k) xs)),
    )

-- A party's part of joined lists is its list.
pub band_joined : (k n : ℕ) (f : ℕ → List ℕ) → ((i : ℕ) → i < n → length (f i) ≡ k) → (i : ℕ) → i < n → band k (joined n f) i ≡ f i
unfolding joined
band_joined k zero f e i l = absurd (omega arith)
band_joined k (suc n) f e i l = go (ℕ_discrete i n) (band_joined k n f (λ j l. e j (omega arith)) i)
  where
    len : length (joined n f) ≡ n * k
    len = length_joined n k f (λ j l. e j (omega arith))

    go : Dec (i ≡ n) → (i < n → band k (joined n f) i ≡ f i) → band k (joined n f ++ f n) i ≡ f i
    go (yes here) earlier =
        unfold band in
        rw (here, drop_at (joined n f) (f n) (n * k) len) (take_all k (f n) (omega (arith, e n (omega arith))))
    go (no there) earlier = band_front k n (joined n f) (f n) len i (omega arith) ∙ earlier (omega arith)

-- A list is its parties' parts, joined, and what lies beyond them.
pub joined_bands : (n k : ℕ) (xs : List ℕ) → n * k ≤ length xs → joined n (band k xs) ++ drop (n * k) xs ≡ xs
unfolding joined
joined_bands zero k xs h = let z : 0 * k ≡ 0 = omega arith in rw z
joined_bands (suc n) k xs h =
    append_assoc (joined n (band k xs)) (band k xs n) (drop (suc n * k) xs)
    ∙ ap (λ (ys : List ℕ). joined n (band k xs) ++ ys) next
    ∙ joined_bands n k xs (omega (arith, suc-mul n k))
  where
    next : band k xs n ++ drop (suc n * k) xs ≡ drop (n * k) xs
    next =
        unfold band in
        rw (suc-mul n k, ← drop-drop k (n * k) xs) (take-append-drop k (drop (n * k) xs))
