-- The choice between two words by the bits of a third, with one operation less than the standard's: digit by digit the two are the same.
-- Assumes nothing.
use Rattle.std.proofs.Common.{◌≡◌, ℕ, zero, suc, ◌-◌, ◌*◌, ◌/◌, ◌%◌, ◌^◌, ◌<◌, sym, refl, ap, ◌∙◌, ap₂, pow-suc, arith}
use lib.Bits.{bit_and, bit_xor, and_shr, and_mod, xor_shr, xor_mod}
use Rattle.sha256.specs.Sha256.{ch}

-- the code's choice, and the standard's with the complement written c
abbrev quick : ℕ → ℕ → ℕ → ℕ
quick x y z = bit_xor z (bit_and x (bit_xor y z))

abbrev slow : ℕ → ℕ → ℕ → ℕ → ℕ
slow x c y z = bit_xor (bit_and x y) (bit_and c z)

quick_half : (x y z : ℕ) → quick x y z / 2 ≡ quick (x / 2) (y / 2) (z / 2)
quick_half x y z = xor_shr z (bit_and x (bit_xor y z)) 1 ∙ ap (bit_xor (z / 2)) (and_shr x (bit_xor y z) 1 ∙ ap (bit_and (x / 2)) (xor_shr y z 1))

quick_odd : (x y z : ℕ) → quick x y z % 2 ≡ quick (x % 2) (y % 2) (z % 2)
quick_odd x y z = xor_mod z (bit_and x (bit_xor y z)) 1 ∙ ap (bit_xor (z % 2)) (and_mod x (bit_xor y z) 1 ∙ ap (bit_and (x % 2)) (xor_mod y z 1))

slow_half : (x c y z : ℕ) → slow x c y z / 2 ≡ slow (x / 2) (c / 2) (y / 2) (z / 2)
slow_half x c y z = xor_shr (bit_and x y) (bit_and c z) 1 ∙ ap₂ bit_xor (and_shr x y 1) (and_shr c z 1)

slow_odd : (x c y z : ℕ) → slow x c y z % 2 ≡ slow (x % 2) (c % 2) (y % 2) (z % 2)
slow_odd x c y z = xor_mod (bit_and x y) (bit_and c z) 1 ∙ ap₂ bit_xor (and_mod x y 1) (and_mod c z 1)

digit : (x y z : ℕ) → x < 2 → y < 2 → z < 2 → quick x y z ≡ slow x (1 - x) y z
digit zero zero zero hx hy hz = refl
digit zero zero (suc zero) hx hy hz = refl
digit zero (suc zero) zero hx hy hz = refl
digit zero (suc zero) (suc zero) hx hy hz = refl
digit (suc zero) zero zero hx hy hz = refl
digit (suc zero) zero (suc zero) hx hy hz = refl
digit (suc zero) (suc zero) zero hx hy hz = refl
digit (suc zero) (suc zero) (suc zero) hx hy hz = refl
digit (suc (suc x)) y z hx hy hz = absurd (omega arith)
digit zero (suc (suc y)) z hx hy hz = absurd (omega arith)
digit (suc zero) (suc (suc y)) z hx hy hz = absurd (omega arith)
digit zero zero (suc (suc z)) hx hy hz = absurd (omega arith)
digit zero (suc zero) (suc (suc z)) hx hy hz = absurd (omega arith)
digit (suc zero) zero (suc (suc z)) hx hy hz = absurd (omega arith)
digit (suc zero) (suc zero) (suc (suc z)) hx hy hz = absurd (omega arith)

choose : (k x y z : ℕ) → x < 2 ^ k → z < 2 ^ k → quick x y z ≡ slow x ((2 ^ k - 1) - x) y z
choose zero x y z hx hz =
    let ex : x ≡ 0 = omega arith in
    let ez : z ≡ 0 = omega arith in
    rw (ex, ez)
choose (suc k) x y z hx hz =
    let two : 2 ^ suc k ≡ 2 ^ k * 2 = pow-suc 2 k in
    let c : ℕ = (2 ^ suc k - 1) - x in
    let half : c / 2 ≡ (2 ^ k - 1) - x / 2 = omega arith in
    let odd : c % 2 ≡ 1 - x % 2 = omega arith in
    let halves : quick x y z / 2 ≡ slow x c y z / 2 =
    quick_half x y z ∙ choose k (x / 2) (y / 2) (z / 2) (omega arith) (omega arith) ∙ sym (slow_half x c y z ∙ ap (λ (d : ℕ). slow (x / 2) d (y / 2) (z / 2)) half) in
    let odds : quick x y z % 2 ≡ slow x c y z % 2 =
    quick_odd x y z ∙ digit (x % 2) (y % 2) (z % 2) (omega arith) (omega arith) (omega arith)
    ∙ sym (slow_odd x c y z ∙ ap (λ (d : ℕ). slow (x % 2) d (y % 2) (z % 2)) odd) in
    omega arith

pub ch_is : (x y z : ℕ) → x < 2 ^ 32 → z < 2 ^ 32 → quick x y z ≡ ch x y z
ch_is x y z hx hz = choose 32 x y z hx hz
