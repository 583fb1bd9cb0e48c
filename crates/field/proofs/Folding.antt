-- Folding at bit 31, which keeps the element of a number: p is 2^31 - 1, so that 2^31 stands for 1.
-- Assumes nothing.
use Prim.Native.Nat.{ℕ, ◌+◌, ◌*◌, ◌-◌, ◌/◌, ◌%◌, ◌^◌, ◌<◌, ◌≤◌}
use mathlib.Core.Path.{◌≡◌, refl}
use mathlib.Core.Bool.{Bool, true, false}
use native.Mathlib.Omega.{arith}
use lib.Bits.{bit_and, and_mask}
use lib.Dec.{ltb}
use borrow.Author.Tests.{ltb-true, ltb-false}
use mir.Syntax.{w32, w64}
use mir.Val.{Fits}
use Rattle.algebra.specs.Element.{Is}
use Rattle.field.specs.Prime.{p, norm}
use Rattle.field.specs.Prime.Laws.{norm_eq}

-- A number with the bits from bit 31 on added to those below it.
abbrev fold : ℕ → ℕ
fold x = bit_and x p + x / 2 ^ 31

-- The bits below bit 31 are the remainder by 2^31.
low_bits : (x : ℕ) → bit_and x p ≡ x % 2 ^ 31
low_bits x = and_mask x 31

-- The bits below bit 31 fit 32 bits.
pub low_fits : (x : ℕ) → Fits w32 (bit_and x p)
low_fits x = record { fits = omega (arith, low_bits x) }

-- A fold of a number of 64 bits fits 64 bits.
pub fold_fits : (x : ℕ) → x < 2 ^ 64 → Fits w64 (fold x)
fold_fits x h = record { fits = omega (arith, low_bits x) }

-- A fold of a number of 64 bits is below p * p.
pub fold_lt : (x : ℕ) → x < 2 ^ 64 → fold x < p * p
fold_lt x h = omega (arith, low_bits x)

-- A fold stands for the same element.
pub norm_fold : (x : ℕ) → norm (fold x) ≡ norm x
norm_fold x = omega (arith, low_bits x, norm_eq (fold x), norm_eq x)

module _ (x : ℕ) (h : x < p * p) where
  -- A fold of a number below p * p is below 2 * p - 1.
  fold_few : fold x < 2 * p - 1
  fold_few = omega (arith, low_bits x)

  fold_below : fold x < 2 * p
  fold_below = omega (arith, fold_few)

  -- So it is below 2^32.
  pub fold_small : fold x < 2 ^ 32
  fold_small = omega (arith, fold_below)

  -- It fits 32 bits.
  pub fold_fits_word : Fits w32 (fold x)
  fold_fits_word = record { fits = omega (arith, fold_below) }

  -- Where it is below p, it is the element.
  pub element_small : fold x < p → Is p (norm x) (fold x - 0)
  element_small l = record { is = omega (arith, norm_fold x, norm_eq (fold x)); below = omega arith }

  -- Else it is the element once p is taken off.
  pub element_large : p ≤ fold x → Is p (norm x) (fold x - p)
  element_large l =
      record { is = omega (arith, fold_below, norm_fold x, norm_eq (fold x)); below = omega (arith, fold_below) }

-- Of a number below 2 * p - 1 the bits below bit 31 are the element, once 1 is added where one more than the number has bit 31.
module _ (s : ℕ) (h : s < 2 * p - 1) where
  off_small : s < p → bit_and (s + (s + 1) / 2 ^ 31) p ≡ s % p
  off_small l = let e : (s + 1) / 2 ^ 31 ≡ 0 = omega arith in rw e (omega (arith, low_bits (s + 0)))

  off_large : p ≤ s → bit_and (s + (s + 1) / 2 ^ 31) p ≡ s % p
  off_large l = let e : (s + 1) / 2 ^ 31 ≡ 1 = omega arith in rw e (omega (arith, low_bits (s + 1)))

  one_off : bit_and (s + (s + 1) / 2 ^ 31) p ≡ s % p
  one_off = go (ltb s p) refl
    where
      go : (b : Bool) → ltb s p ≡ b → bit_and (s + (s + 1) / 2 ^ 31) p ≡ s % p
      go true e = off_small (ltb-true s p e)
      go false e = off_large (ltb-false s p e)

-- A product z with a factor that is given twice: w is the product twice, so that bit 31 of z is bit 32 of w.
module _ {w z : ℕ} (e : w ≡ 2 * z) (h : z < p * p) where
  pub high_fits : Fits w32 (w / 2 ^ 32)
  high_fits = record { fits = omega arith }

  pub lower_fits : Fits w32 (bit_and w (2 ^ 32 - 1))
  lower_fits = record { fits = omega (arith, and_mask w 32) }

  -- Its upper half and half of its lower half are what a fold adds.
  halves : w / 2 ^ 32 + bit_and w (2 ^ 32 - 1) / 2 ^ 1 ≡ fold z
  halves = omega (arith, low_bits z, and_mask w 32)

  pub halves_fit : Fits w32 (w / 2 ^ 32 + bit_and w (2 ^ 32 - 1) / 2 ^ 1)
  halves_fit = record { fits = omega (arith, halves, fold_below z h) }

  module _ {s : ℕ} (es : s ≡ w / 2 ^ 32 + bit_and w (2 ^ 32 - 1) / 2 ^ 1) where
    twice_few : s < 2 * p - 1
    twice_few = omega (arith, es, halves, fold_few z h)

    pub next_fits : Fits w32 (s + 1)
    next_fits = record { fits = omega (arith, twice_few) }

    pub more_fits : Fits w32 (s + (s + 1) / 2 ^ 31)
    more_fits = record { fits = omega (arith, twice_few) }

    pub twice_element : Is p (norm z) (bit_and (s + (s + 1) / 2 ^ 31) p)
    twice_element =
        let d : bit_and (s + (s + 1) / 2 ^ 31) p ≡ s % p = one_off s twice_few in
        record { is = omega (arith, d, es, halves, norm_fold z, norm_eq (fold z)); below = omega (arith, d) }

-- what a fold of a number is
pub ruleset folds = (fold_fits, fold_lt, norm_fold, fold_small)

-- what a fold of a product is, and what is taken off it
pub ruleset elements = (low_fits, fold_fits_word, element_small, element_large)
