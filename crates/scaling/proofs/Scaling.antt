-- A list is scaled one number after another, in place.
-- Assumes nothing.
use Prim.Native.Nat.{ℕ, zero, suc, ◌+◌, ◌<◌, ◌≤◌}
use mathlib.Core.Path.{◌≡◌, refl, sym, ap, ◌∙◌}
use mathlib.Core.List.{List, [], ◌∷◌}
use native.Mathlib.Numerals.{add-one}
use native.Mathlib.Omega.{arith}
use lib.ListN.{length, get_or, set, length-set}
use Rattle.field.specs.Words.{size}
use Rattle.field.specs.Prime.{mul}
use Rattle.field.specs.Prime.Laws.{mul_lt}
use lib.Dec.{ltb}
use borrow.Author.Tests.{ltb-true}
use Rattle.circuit.specs.Verdict.{Accepted, ask, elements}
use Rattle.circuit.proofs.Verdicts.{ask_true, then_left, then_right, elements_below}
use Rattle.protocol.specs.Holding.{Below}
use Rattle.scaling.specs.Scale.{scaled, ask_scale}

-- the numbers from i on scaled
unfoldable pub scaled_from : ℕ → ℕ → List ℕ → List ℕ
scaled_from by zero xs = scaled by xs
scaled_from by (suc i) [] = []
scaled_from by (suc i) (x ∷ xs) = x ∷ scaled_from by i xs

from_step : (by i : ℕ) (xs : List ℕ) → i < length xs → scaled_from by (suc i) (set xs i (mul (get_or xs i 0) by)) ≡ scaled_from by i xs
unfolding scaled_from scaled
from_step by i [] h = absurd (omega arith)
from_step by zero (x ∷ xs) h = refl
from_step by (suc i) (x ∷ xs) h = ap (λ ys. x ∷ ys) (from_step by i xs (omega arith))

from_end : (by i : ℕ) (xs : List ℕ) → length xs ≤ i → scaled_from by i xs ≡ xs
unfolding scaled_from scaled
from_end by zero [] h = refl
from_end by zero (x ∷ xs) h = absurd (omega arith)
from_end by (suc i) [] h = refl
from_end by (suc i) (x ∷ xs) h = ap (λ ys. x ∷ ys) (from_end by i xs (omega arith))

below_set : (xs : List ℕ) (i v : ℕ) → v < size → Below size xs → Below size (set xs i v)
below_set [] i v lv low k = low k
below_set (x ∷ xs) zero v lv low zero = lv
below_set (x ∷ xs) zero v lv low (suc k) = low (suc k)
below_set (x ∷ xs) (suc i) v lv low zero = low zero
below_set (x ∷ xs) (suc i) v lv low (suc k) = below_set xs i v lv (λ m. low (suc m)) k

-- the first i numbers of xs₀ are scaled in xs, and the others are left to scale
pub record Scaling (by : ℕ) (xs₀ xs : List ℕ) (i : ℕ) : Type 0 where
  pub upto : i ≤ length xs
  pub long : length xs ≡ length xs₀
  pub rest : scaled_from by i xs ≡ scaled by xs₀
  pub low : Below size xs

module _ (by : ℕ) (xs₀ : List ℕ) where
  pub scaling_starts : Below size xs₀ → Scaling by xs₀ xs₀ 0
  unfolding scaled_from
  scaling_starts low = record { upto = omega arith; long = refl; rest = refl; low = low }

  module _ {xs : List ℕ} {i : ℕ} (inv : Scaling by xs₀ xs i) where
    pub scaling_again : {v : ℕ} → i < length xs → v ≡ mul (get_or xs i 0) by → Scaling by xs₀ (set xs i v) (i + 1)
    scaling_again h e =
        record {
          upto = rw length-set (omega arith);
          long = length-set xs i _ ∙ inv.long;
          rest = rw (e, add-one i) (from_step by i xs h ∙ inv.rest);
          low = below_set xs i _ (rw e (mul_lt (get_or xs i 0) by)) inv.low;
        }

    pub scaling_ends : length xs ≤ i → xs ≡ scaled by xs₀
    scaling_ends h = sym (from_end by i xs h) ∙ inv.rest

-- what the questions tell
module _ (by : ℕ) (xs : List ℕ) (e : Accepted ≡ ask_scale by xs) where
  pub factor_small : by < size
  unfolding ask_scale
  factor_small = ltb-true by size (ask_true 1 0 _ (then_left _ (elements 2 size xs) (sym e)))

  pub values_small : Below size xs
  unfolding ask_scale
  values_small = elements_below 2 size xs (omega arith) (then_right (ask 1 0 (ltb by size)) _ (sym e))
