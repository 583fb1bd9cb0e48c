-- Lists that are gone through party by party: what holds of each entry, a list of zeros, and words put one after another.
-- Assumes nothing.
use Prim.Native.Nat.{ℕ, zero, suc, ◌+◌, ◌-◌, ◌*◌, ◌<◌, ◌≤◌}
use mathlib.Core.Path.{◌≡◌, refl, sym, ap, ◌∙◌}
use mathlib.Core.List.{List, [], ◌∷◌, ◌++◌, append-nil}
use native.Mathlib.Decide.{ℕ_discrete}
use native.Mathlib.Nat.{add-sub_cancel_left}
use native.Mathlib.Numerals.{add-one}
use native.Mathlib.Omega.{arith}
use lib.ListN.{length, get_or, set, take, drop, replicate, length-drop, drop_of_length-le}
use lib.Seq.{get_or-set_same, get_or-set_other, length-take-le, set_split, drop-drop}
use borrow.Rule.Slice.PartMut.{put_mid}
use Rattle.protocol.specs.Send.{overwrite}
use Rattle.protocol.specs.Joint.{joined}
use Rattle.protocol.proofs.Filling.{Filled, filled_length, filled_again, filled_done}

module _ {A : Type 0} (d : A) (P : ℕ → A → Type 0) (xs : List A) (i : ℕ) (x : A) where
  -- What holds of each entry before i, and of what is set at i, holds of each before i + 1.
  pub each_set : i < length xs → ((k : ℕ) → k < i → P k (get_or xs k d)) → P i x → (k : ℕ) → k < i + 1 → P k (get_or (set xs i x) k d)
  each_set h before here k l = go (ℕ_discrete k i)
    where
      go : Dec (k ≡ i) → P k (get_or (set xs i x) k d)
      go (yes e) = rw (e, get_or-set_same xs i x d h) here
      go (no e) = rw (get_or-set_other xs i k x d e) (before k (omega arith))

-- a list of zeros
pub zeros : (n i : ℕ) → ◌≡◌ {A = ℕ} (get_or (replicate n 0) i 0) 0
zeros zero i = refl
zeros (suc n) zero = refl
zeros (suc n) (suc i) = zeros n i

-- words are put, k a party, into a list of that length
module _ (n k : ℕ) (out₀ : List ℕ) (long : length out₀ ≡ n * k) where
  pub put_room : n * k ≤ length out₀
  put_room = omega (arith, long)

  module _ {F : ℕ → List ℕ} (each : (m : ℕ) → m < n → length (F m) ≡ k) {out : List ℕ} {i a : ℕ} (inv : Filled n k F out₀ out i a) where
    pub put_done : n ≤ i → out ≡ joined n F
    put_done h =
        filled_done n k F out₀ put_room each inv h
        ∙ ap (λ (zs : List ℕ). joined n F ++ zs) (drop_of_length-le out₀ {i = n * k} (omega (arith, long)))
        ∙ append-nil (joined n F)

-- k words written at the start of a part that has k places fill it
module _ (a k : ℕ) (out : List ℕ) (h : a + k ≤ length out) where
  part_long : length (take (a + k - a) (drop a out)) ≡ k
  part_long = rw (add-sub_cancel_left a k) (length-take-le k (drop a out) (simp length-drop (omega arith)))

  pub part_room : k ≤ length (take (a + k - a) (drop a out))
  part_room = omega (arith, part_long)

  pub part_put : {ws ys : List ℕ} → length ws ≡ k → ys ≡ overwrite ws (take (a + k - a) (drop a out)) → ys ≡ ws
  unfolding overwrite
  part_put {ws} e d =
      d
      ∙ ap (λ (zs : List ℕ). ws ++ zs) (drop_of_length-le (take (a + k - a) (drop a out)) {i = length ws} (omega (arith, part_long, e)))
      ∙ append-nil ws

-- one word a party
module _ (n : ℕ) {F : ℕ → List ℕ} (out₀ : List ℕ) (long : length out₀ ≡ n) (each : (m : ℕ) → m < n → length (F m) ≡ 1)
    {out : List ℕ} {i : ℕ} (inv : Filled n 1 F out₀ out i i) where
  once : length out₀ ≡ n * 1
  once = omega (arith, long)

  pub put_length : length out ≡ length out₀
  put_length = filled_length n 1 F out₀ (put_room n 1 out₀ once) each inv

  pub put_more : i < n → {v : ℕ} → v ∷ [] ≡ F i → Filled n 1 F out₀ (set out i v) (i + 1) (i + 1)
  put_more h {v} e =
      let d : put_mid i (i + 1 - i) out (v ∷ []) ≡ set out i v =
      rw (add-sub_cancel_left i 1, drop-drop 1 i out, add-one i) (sym (set_split out i v (omega (arith, put_length, long)))) in
      rw d at (filled_again n 1 F out₀ (put_room n 1 out₀ once) each inv h {ys = v ∷ []} e)

  pub put_all : n ≤ i → out ≡ joined n F
  put_all h = put_done n 1 out₀ once each inv h
