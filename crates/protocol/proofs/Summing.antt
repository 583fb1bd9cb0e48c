-- How the sums over words heard and over opened entries go on by one term.
-- Assumes nothing.
use Prim.Native.Nat.{ℕ, zero, suc, ◌+◌, ◌*◌, ◌<◌, ◌≤◌}
use mathlib.Core.Path.{◌≡◌, refl, ap, subst}
use mathlib.Core.List.{List}
use native.Mathlib.Omega.{arith}
use native.Mathlib.Numerals.{add-one}
use native.Mathlib.Nat.{le_trans, mul-le-mul_right, suc-mul}
use lib.ListN.{length, get_or}
use Rattle.algebra.specs.Ops.{Ops}
use Rattle.algebra.specs.Field.{Field}
use Rattle.algebra.proofs.Ring.{add_lt}
use Rattle.algebra.proofs.Sums.{sum_ext}
use Rattle.algebra.specs.Sum.{sum}
use Rattle.protocol.specs.Scratch.{Layout, Value, ValueMac, offset, slots_size, read}
use Rattle.protocol.specs.Holding.{Opened}
use Rattle.protocol.specs.Send.{check_share}

-- i terms of a row are added up
pub record Added (O : Ops) (f : ℕ → ℕ) (i acc : ℕ) : Type 0 where
  pub is : acc ≡ sum O i f
  pub below : acc < O.size

pub added_start : {O : Ops} → Field O → (f : ℕ → ℕ) → Added O f 0 0
unfolding sum
added_start F f = record { is = refl; below = omega (arith, F.one_lt) }

pub added_more : {O : Ops} → Field O → (f : ℕ → ℕ) (i acc : ℕ) → Added O f i acc → {w r : ℕ} → w ≡ f i → r ≡ O.add acc w → Added O f (i + 1) r
unfolding sum
added_more F f i acc a {w} {r} e d =
    rw (add-one i) (record { is = cc; below = rw d (add_lt F acc w) })

-- i terms of a row are added up in a number that stands for the sum, kept below some size
pub record Running (O : Ops) (most : ℕ) (f : ℕ → ℕ) (i acc : ℕ) : Type 0 where
  pub added : Added O f i (O.norm acc)
  pub below : acc < most

module _ {O : Ops} (F : Field O) {most : ℕ} (f : ℕ → ℕ) where
  pub running_start : 0 < most → Running O most f 0 0
  running_start h = record { added = rw (F.norm_of_lt {x = 0} (omega (arith, F.one_lt))) (added_start F f); below = h }

  pub running_from : {i acc : ℕ} → O.norm acc ≡ sum O i f → acc < most → Running O most f i acc
  running_from {i} {acc} e h = record { added = record { is = e; below = F.norm_lt acc }; below = h }

  pub running_more : (i acc : ℕ) → Running O most f i acc → {w r more : ℕ} → w ≡ f i → (r < more) × (O.norm r ≡ O.add (O.norm acc) w)
      → Running O more f (i + 1) r
  running_more i acc a e (b, d) = record { added = added_more F f i (O.norm acc) a.added e d; below = b }

-- k opened values, or MAC shares of them, stand side by side
module _ {O : Ops} (F : Field O) (y : Layout) (l : List ℕ) (k : ℕ) (coefficients : List ℕ) {at : ℕ} where
  pub values_weighed : at ≡ offset y (Value 0)
      → sum O k (λ t. O.mul (get_or coefficients t 0) (get_or l (at + t) 0)) ≡ sum O k (λ t. O.mul (get_or coefficients t 0) (read y l (Value t)))
  unfolding read offset
  values_weighed e = sum_ext F k _ _ (λ t h. ap (λ (i : ℕ). O.mul (get_or coefficients t 0) (get_or l i 0)) (omega (arith, e)))

  pub macs_weighed : at ≡ offset y (ValueMac 0)
      → sum O k (λ t. O.mul (get_or coefficients t 0) (get_or l (at + t) 0)) ≡ sum O k (λ t. O.mul (get_or coefficients t 0) (read y l (ValueMac t)))
  unfolding read offset
  macs_weighed e = sum_ext F k _ _ (λ t h. ap (λ (i : ℕ). O.mul (get_or coefficients t 0) (get_or l i 0)) (omega (arith, e)))

-- and the list holds them
module _ {q : ℕ} (y : Layout) (l : List ℕ) (k : ℕ) (some : 0 < y.capacity) (room : slots_size y ≤ length l) (h : (t : ℕ) → t < k → Opened q y l t) where
  few : k ≤ y.capacity
  few = go k h
    where
      go : (k : ℕ) → ((t : ℕ) → t < k → Opened q y l t) → k ≤ y.capacity
      go zero h = omega arith
      go (suc k) h = (h k (omega arith)).within

  pub values_there : {at : ℕ} → at ≡ offset y (Value 0) → (at + k ≤ length l) × ((t : ℕ) → t < k → get_or l (at + t) 0 < q)
  unfolding read offset slots_size
  values_there {at} e = (omega (arith, few, e), λ t l'. let z : at + t ≡ y.gates + y.gates + t = omega (arith, e) in rw z (h t l').value)

  pub macs_there : {at : ℕ} → at ≡ offset y (ValueMac 0) → (at + k ≤ length l) × ((t : ℕ) → t < k → get_or l (at + t) 0 < q)
  unfolding read offset slots_size
  macs_there {at} e = (omega (arith, few, e), λ t l'. let z : at + t ≡ y.gates + y.gates + y.capacity + t = omega (arith, e) in rw z (h t l').mac)

-- the check share from its two sums
pub check_made : (O : Ops) (y : Layout) (l : List ℕ) (k key : ℕ) (coefficients : List ℕ) {v m w r : ℕ}
    → m ≡ sum O k (λ t. O.mul (get_or coefficients t 0) (read y l (ValueMac t)))
    → v ≡ sum O k (λ t. O.mul (get_or coefficients t 0) (read y l (Value t)))
    → w ≡ O.mul key v
    → r ≡ O.sub m w
    → r ≡ check_share O y l k key coefficients
unfolding check_share
check_made O y l k key coefficients g h d f = rw (f, d, g, h)

-- n parties sent k words each: those of party i end before the list does
pub words_fit : (n k i : ℕ) {len : ℕ} → i < n → n * k ≤ len → i * k + k ≤ len
words_fit n k i h f = le_trans (subst (λ (m : ℕ). m ≤ n * k) (suc-mul i k) (mul-le-mul_right k h)) f
