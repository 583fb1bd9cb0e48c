-- What Euclid's rule finds is the inverse.
-- Assumes nothing.
use Prim.Native.Nat.{ℕ, zero, suc, ◌+◌, ◌*◌, ◌^◌, ◌-◌, ◌/◌, ◌%◌, ◌<◌, ◌≤◌, ◌∣◌}
use mathlib.Core.Path.{◌≡◌, refl, ap, sym, subst, ◌∙◌}
use native.Mathlib.Nat.{mod-add-div', mod-lt, mod-le, mod-eq-sub-mod, mul-le-mul_right, dvd_refl, dvd-zero, dvd-mod_iff, le_of_dvd, mod-eq-zero_of_dvd, pos_of_dvd_of_pos, mul-le-mul}
use native.Mathlib.Decide.{dec_lt}
use native.Mathlib.Omega.{arith}
use Rattle.algebra.specs.Field.{Inverses}
use Rattle.algebra.proofs.Ring as ring
use Rattle.field.specs.Words.{ops}
use Rattle.field.specs.Prime.{p, modular, norm, add, sub, mul, euclid, turns, inv}
use Rattle.field.specs.Prime.Laws.{norm_eq, add_norm, mul_assoc, mul_comm, inv_eq}
use Rattle.field.proofs.Laws.{laws}
use Rattle.field.proofs.Products.{norm_more}
use Rattle.field.proofs.Primality.{p_prime}

-- A division halves the product of the rests.
pub halves : (n x y : ℕ) → x * suc y < 2 ^ suc n → suc y < x → suc y * (x % suc y) < 2 ^ n
halves n x y h lt = omega (arith, mul-le-mul_right (suc y) twice)
  where
    rest : x % suc y ≤ x - suc y
    rest = subst (λ (r : ℕ). r ≤ x - suc y) (sym (mod-eq-sub-mod (omega arith))) (mod-le (x - suc y) (suc y))

    twice : 2 * (x % suc y) + 1 ≤ x
    twice = omega (arith, rest, mod-lt x {m = suc y} (omega arith))

-- The factor of the rest of a division.
rest_factor : (k x y s t : ℕ) → mul s k ≡ norm x → mul t k ≡ norm y → mul (sub s (mul (x / y) t)) k ≡ norm (x % y)
rest_factor k x y s t hs ht =
    ring.sub_mul laws s (mul (x / y) t) k
    ∙ ap (λ (w : ℕ). sub w (mul (mul (x / y) t) k)) hs
    ∙ ap (sub (norm x)) (mul_assoc (x / y) t k ∙ ap (mul (x / y)) ht ∙ ring.mul_norm_r laws (x / y) y)
    ∙ ring.sub_norm laws x (mul (x / y) y)
    ∙ sym (ring.sub_is laws x (mul (x / y) y) (x % y) whole)
  where
    whole : add (x % y) (mul (x / y) y) ≡ norm x
    whole = sym (add_norm (x % y) _) ∙ sym (norm_more (x % y) (x / y) y) ∙ ap norm (mod-add-div' x y)

-- What Euclid's rule finds has the product 1 with k, where the factors are those of the rests and only 1 divides both rests.
euclid_inverts : (n x y s t k : ℕ) → x * y < 2 ^ n → y < x → ((d : ℕ) → d ∣ x → d ∣ y → d ≡ 1)
    → mul s k ≡ norm x → mul t k ≡ norm y → mul (euclid sub mul n x y s t) k ≡ 1
unfolding euclid
euclid_inverts zero x zero s t k h lt coprime hs ht =
    hs ∙ ap norm (coprime x (dvd_refl x) (dvd-zero x)) ∙ ring.norm_one laws
euclid_inverts zero x (suc y) s t k h lt coprime hs ht =
    absurd (omega (arith, mul-le-mul {n₁ = 1} {m₁ = 1} {n₂ = x} {m₂ = suc y} (omega arith) (omega arith)))
euclid_inverts (suc n) x zero s t k h lt coprime hs ht =
    hs ∙ ap norm (coprime x (dvd_refl x) (dvd-zero x)) ∙ ring.norm_one laws
euclid_inverts (suc n) x (suc y) s t k h lt coprime hs ht =
    euclid_inverts n (suc y) (x % suc y) t (sub s (mul (x / suc y) t)) k
    (halves n x y h lt)
    (mod-lt x (omega arith))
    (λ d dy dr. coprime d ((dvd-mod_iff d dy).0 dr) dy)
    ht
    (rest_factor k x (suc y) s t hs ht)

-- Only 1 divides both p and an element other than 0.
coprime_p : (k : ℕ) → 0 < k → k < p → (d : ℕ) → d ∣ p → d ∣ k → d ≡ 1
coprime_p k low high d dp dk = go (dec_lt 1 d)
  where
    go : Dec (1 < d) → d ≡ 1
    go (yes h) = absurd (p_prime d h (omega (arith, le_of_dvd low dk)) (mod-eq-zero_of_dvd d dp))
    go (no h) = omega (arith, pos_of_dvd_of_pos dk low)

-- The law of inverses, since p is prime.
pub inverses : Inverses ops
inverses = record { mul_inv = mul_inv }
  where
    mul_inv : (k : ℕ) → 0 < k → k < p → mul k (inv k) ≡ 1
    mul_inv k low high =
        ap (mul k) (inv_eq k)
        ∙ mul_comm k (euclid sub mul turns p k 0 1)
        ∙ euclid_inverts turns p k 0 1 k (omega arith) high (coprime_p k low high)
        (ring.zero_mul laws k ∙ sym (norm_eq p))
        (ring.one_mul laws k)

-- The inverses of 2 and of 3, of p - 1, and what stands for 0.
worked : (modular.inv 2 ≡ 1073741824) × (modular.inv 3 ≡ 1431655765) × (modular.inv 2147483646 ≡ 2147483646) × (modular.inv 0 ≡ 0)
unfolding modular euclid
worked = (refl, refl, refl, refl)
