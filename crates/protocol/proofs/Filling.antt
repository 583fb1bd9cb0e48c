-- A list that parties are lent bands of, one after another.
-- Assumes nothing.
use Prim.Native.Nat.{ℕ, ◌+◌, ◌-◌, ◌*◌, ◌<◌, ◌≤◌}
use mathlib.Core.Path.{◌≡◌, sym}
use mathlib.Core.List.{List, ◌++◌, append_assoc}
use native.Mathlib.Nat.{add-sub_cancel_left, suc-mul, mul-le-mul_right}
use native.Mathlib.Numerals.{add-one}
use native.Mathlib.Omega.{arith}
use lib.ListN.{length, take, drop, length-append, length-drop}
use lib.Seq.{take_at, drop_at, drop-drop}
use borrow.Rule.Slice.PartMut.{put_mid}
use Rattle.protocol.specs.Scratch.{band}
use Rattle.protocol.specs.Joint.{joined}
use Rattle.protocol.proofs.Words.{length_joined}
use Rattle.protocol.proofs.Bands.{band_end}

-- n parties have k numbers each of a list xs₀ that is long enough, and party i's are to be f i: the bands before party i's are done,
-- and those from there on, with the excess, are as they were
pub record Filled (n k : ℕ) (f : ℕ → List ℕ) (xs₀ xs : List ℕ) (i a : ℕ) : Type 0 where
  pub upto : i ≤ n
  pub place : a ≡ i * k
  pub are : xs ≡ joined i f ++ drop (i * k) xs₀

module _ (n k : ℕ) (f : ℕ → List ℕ) (xs₀ : List ℕ) where
  pub filled_start : Filled n k f xs₀ xs₀ 0 0
  unfolding joined
  filled_start = record { upto = omega arith; place = omega arith; are = let z : 0 * k ≡ 0 = omega arith in rw z }

  module _ (long : n * k ≤ length xs₀) (each : (i : ℕ) → i < n → length (f i) ≡ k) {xs : List ℕ} {i a : ℕ} (inv : Filled n k f xs₀ xs i a) where
    front : length (joined i f) ≡ i * k
    front = length_joined i k f (λ m l. each m (omega (arith, inv.upto)))

    pub filled_length : length xs ≡ length xs₀
    filled_length =
        rw (inv.are, length-append, front, length-drop)
        (omega (arith, mul-le-mul_right {m = i} {n = n} k inv.upto))

    -- the next band lies in the list ..
    pub filled_fits : i < n → a + k ≤ length xs
    filled_fits h = omega (arith, inv.place, band_end n k i h, filled_length)

    -- .. and is as it was
    pub filled_part : i < n → take (a + k - a) (drop a xs) ≡ band k xs₀ i
    unfolding band
    filled_part h =
        rw (add-sub_cancel_left a k, inv.place, inv.are, drop_at (joined i f) (drop (i * k) xs₀) (i * k) front)

    -- party i's band comes back
    pub filled_again : i < n → {ys : List ℕ} → ys ≡ f i → Filled n k f xs₀ (put_mid a (a + k - a) xs ys) (i + 1) (a + k)
    unfolding joined
    filled_again h e =
        record {
          upto = omega arith;
          place = omega (arith, inv.place, suc-mul i k, add-one i);
          are = rw (e, add-sub_cancel_left a k, inv.place, inv.are, take_at (joined i f) (drop (i * k) xs₀) (i * k) front, drop_at (joined i f) (drop (i * k) xs₀) (i * k) front, drop-drop k (i * k) xs₀) more;
        }
      where
        more : joined i f ++ (f i ++ drop (i * k + k) xs₀) ≡ joined (i + 1) f ++ drop ((i + 1) * k) xs₀
        more = let z : (i + 1) * k ≡ i * k + k = omega (arith, suc-mul i k, add-one i) in rw (z, add-one) (sym (append_assoc (joined i f) (f i) (drop (i * k + k) xs₀)))

    pub filled_done : n ≤ i → xs ≡ joined n f ++ drop (n * k) xs₀
    filled_done h = let e : i ≡ n = omega (arith, inv.upto) in rw e at inv.are
