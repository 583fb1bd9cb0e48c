-- The size of the field is a prime: no number up to its root divides it, which is computed.
-- Assumes nothing.
use Prim.Native.Nat.{ℕ, zero, suc, ◌+◌, ◌*◌, ◌^◌, ◌/◌, ◌%◌, ◌<◌, ◌≤◌}
use mathlib.Core.Path.{◌≡◌, ap, sym, ◌∙◌}
use mathlib.Core.Bool.{Bool, true, false, ◌&&◌}
use mathlib.Core.Logic.{◌≢◌}
use native.Mathlib.Nat.{div-add-mod', mul-mod_right, mul-le-mul}
use native.Mathlib.Decide.{dec_lt}
use native.Mathlib.Omega.{arith}
use lib.Dec.{T, ltb, ltb→lt}
use Rattle.field.specs.Prime.{p}

-- Does none of the 2 ^ k numbers from lo on divide n? The first half is tried and then the second, so that the depth is k.
unfoldable none_divides : ℕ → ℕ → ℕ → Bool
none_divides n zero lo = ltb 0 (n % lo)
none_divides n (suc k) lo = none_divides n k lo && none_divides n k (lo + 2 ^ k)

-- Where both tests hold, each holds.
and_both : (a b : Bool) → T (a && b) → T a × T b
and_both true true t = (tt, tt)
and_both true false t = absurd t
and_both false b t = absurd t

-- Where the test holds, none of the numbers divides n.
none_divides_lem : (n k lo d : ℕ) → T (none_divides n k lo) → lo ≤ d → d < lo + 2 ^ k → n % d ≢ 0
unfolding none_divides
none_divides_lem n zero lo d t low high e =
    let here : d ≡ lo = omega arith in
    let rest : 0 < n % lo = ltb→lt 0 (n % lo) t in
    omega (arith, ap (λ (x : ℕ). n % x) here)
none_divides_lem n (suc k) lo d t low high e =
    let both : T (none_divides n k lo) × T (none_divides n k (lo + 2 ^ k)) =
    and_both (none_divides n k lo) (none_divides n k (lo + 2 ^ k)) t in
    go
    (dec_lt d (lo + 2 ^ k))
    (λ h. none_divides_lem n k lo d both.0 low h e)
    (λ h. none_divides_lem n k (lo + 2 ^ k) d both.1 h (omega arith) e)
  where
    go : Dec (d < lo + 2 ^ k) → (d < lo + 2 ^ k → ⊥) → (lo + 2 ^ k ≤ d → ⊥) → ⊥
    go (yes h) first second = first h
    go (no h) first second = second (omega arith)

-- None of the numbers 2, .., 65537 divides p.
small : T (none_divides p 16 2)
unfolding none_divides
small = tt

-- Of a number that divides p and its quotient one is among those: p is less than 65538 * 65538.
pub p_prime : (d : ℕ) → 1 < d → d < p → p % d ≢ 0
p_prime d low high e = go (dec_lt d 65538) (dec_lt (p / d) 65538)
  where
    whole : p / d * d ≡ p
    whole = omega (arith, div-add-mod' p d)

    quotient_divides : p % (p / d) ≡ 0
    quotient_divides = ap (λ (x : ℕ). x % (p / d)) (sym whole) ∙ mul-mod_right (p / d) d

    quotient_low : Dec (1 < p / d) → 1 < p / d
    quotient_low (yes h) = h
    quotient_low (no h) = absurd (omega (arith, whole, mul-le-mul {n₁ = p / d} {m₁ = d} {n₂ = 1} {m₂ = d} (omega arith) (omega arith)))

    go : Dec (d < 65538) → Dec (p / d < 65538) → ⊥
    go (yes h) q = none_divides_lem p 16 2 d small (omega arith) (omega arith) e
    go (no h) (yes q) = none_divides_lem p 16 2 (p / d) small (quotient_low (dec_lt 1 (p / d))) (omega arith) quotient_divides
    go (no h) (no q) = omega (arith, whole, mul-le-mul {n₁ = 65538} {m₁ = 65538} {n₂ = p / d} {m₂ = d} (omega arith) (omega arith))
