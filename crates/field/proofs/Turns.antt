-- What holds before every turn of the code of the inverse, and that each turn keeps it.
-- Assumes nothing.
use Prim.Native.Nat.{ℕ, zero, suc, ◌*◌, ◌^◌, ◌/◌, ◌%◌, ◌<◌, ◌≤◌}
use mathlib.Core.Path.{◌≡◌, refl, ap, sym, ◌∙◌}
use mathlib.Core.Logic.{◌≢◌}
use native.Mathlib.Nat.{mod-lt, mul-le-mul, div-le_self}
use native.Mathlib.Omega.{arith}
use mir.Syntax.{w64}
use mir.Val.{Fits}
use Rattle.algebra.specs.Element.{Is}
use Rattle.field.specs.Prime.{p, norm, sub, mul, euclid, turns, inv}
use Rattle.field.specs.Prime.Laws.{inv_eq}
use Rattle.field.proofs.Products.{norm_product}
use Rattle.field.proofs.Euclid.{halves}

-- The inverse of k is what is found from the rests x and y with the factors s and t, in so many more turns.
pub record Turning (k x y s t : ℕ) : Type 0 where
  pub left : ℕ
  pub halved : x * y < 2 ^ left
  pub order : y < x
  pub top : x ≤ p
  pub s_low : s < p
  pub t_low : t < p
  pub found : inv k ≡ euclid sub mul left x y s t

-- It holds at the start.
pub turning_start : (k : ℕ) → k < p → Turning k p k 0 1
turning_start k h =
    record {
      left = turns;
      halved = omega arith;
      order = h;
      top = omega arith;
      s_low = omega arith;
      t_low = omega arith;
      found = inv_eq k;
    }

-- One turn fewer is left after each.
pub turning_again : {k x y s t v u : ℕ} → Turning k x y s t → y ≢ 0 → Is p (norm (x / y * t)) v → Is p (sub s v) u
    → Turning k y (x % y) t u
unfolding euclid
turning_again {x = x} {y = zero} h nonzero hv hu = absurd (nonzero refl)
turning_again {k = k} {x = x} {y = suc y} {s = s} {t = t} {v = v} {u = u} h nonzero hv hu = go h.left h.halved h.found
  where
    factor : u ≡ sub s (mul (x / suc y) t)
    factor = hu.is ∙ ap (sub s) (hv.is ∙ norm_product (x / suc y) t)

    go : (n : ℕ) → x * suc y < 2 ^ n → inv k ≡ euclid sub mul n x (suc y) s t → Turning k (suc y) (x % suc y) t u
    go zero halved found =
        let o = h.order in
        absurd (omega (arith, mul-le-mul {n₁ = 1} {m₁ = 1} {n₂ = x} {m₂ = suc y} (omega arith) (omega arith)))
    go (suc n) halved found =
        record {
          left = n;
          halved = halves n x y halved h.order;
          order = mod-lt x (omega arith);
          top = omega arith;
          s_low = h.t_low;
          t_low = hu.below;
          found = found ∙ ap (euclid sub mul n (suc y) (x % suc y) t) (sym factor);
        }

-- With the rest 0 the inverse is found.
pub turning_done : {k x y s t : ℕ} → Turning k x y s t → y ≡ 0 → Is p (inv k) s
unfolding euclid
turning_done {k} {x} {y} {s} {t} h e = record { is = sym (at h.left y e h.found); below = h.s_low }
  where
    at : (n z : ℕ) → z ≡ 0 → inv k ≡ euclid sub mul n x z s t → inv k ≡ s
    at zero z e f = f
    at (suc n) zero e f = f
    at (suc n) (suc z) e f = absurd (omega arith)

-- The product of an element and the quotient of a rest fits 64 bits.
pub quotient_fits : (x y t : ℕ) → x ≤ p → t < p → Fits w64 (x / y * t)
quotient_fits x y t top low =
    record {
      fits =
          omega (arith, mul-le-mul {n₁ = x / y} {m₁ = t} {n₂ = p} {m₂ = p} (omega (arith, div-le_self x y)) (omega arith));
    }

-- what the loop of the inverse keeps
pub ruleset turning = (turning_start, turning_again, quotient_fits, mod-lt, div-le_self)
