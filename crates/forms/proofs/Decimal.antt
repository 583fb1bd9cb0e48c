-- Decimals: a digit is its own decimal, and one digit more is ten times as much and the digit.
-- Assumes nothing.
use Prim.Native.Nat.{ℕ, zero, suc, ◌+◌, ◌*◌, ◌-◌, ◌/◌, ◌%◌, ◌≤◌, ◌<◌}
use mathlib.Core.Path.{◌≡◌, refl, sym, ap, ◌∙◌}
use mathlib.Core.Bool.{Bool, true, false}
use mathlib.Core.List.{List, [], ◌∷◌, ◌++◌}
use native.Mathlib.Omega.{arith}
use lib.Dec.{leb, ltb}
use borrow.Author.Tests.{lt-ltb, le-ltb, le-leb, leb-true, ltb-true, ltb-false}
use Rattle.circuit.proofs.Tests.{both_left, both_right, both_true}
use Rattle.forms.specs.Form.{digits, decimal, naught, ten}
use Rattle.forms.specs.Machine.{is_digit}

-- digits ----------------------------------------------------------------------------------------------------------------

pub is_digit_lem : (d : ℕ) → d < ten → is_digit (naught + d) ≡ true
unfolding is_digit
is_digit_lem d h = both_true (le-leb naught (naught + d) (omega arith)) (lt-ltb (naught + d) (naught + ten) (omega arith))

pub digit_least : (b : ℕ) → is_digit b ≡ true → naught ≤ b
unfolding is_digit
digit_least b e = leb-true naught b (both_left (leb naught b) (ltb b (naught + ten)) e)

pub digit_most : (b : ℕ) → is_digit b ≡ true → b < naught + ten
unfolding is_digit
digit_most b e = ltb-true b (naught + ten) (both_right (leb naught b) (ltb b (naught + ten)) e)

-- decimals --------------------------------------------------------------------------------------------------------------

digits_last : (k n : ℕ) → n < ten → digits k n ≡ (naught + n) ∷ []
unfolding digits
digits_last zero n h = refl
digits_last (suc k) n h = rw (lt-ltb n ten h, digits)

digits_more : (k n : ℕ) → ten ≤ n → digits (suc k) n ≡ digits k (n / ten) ++ ((naught + n % ten) ∷ [])
unfolding digits
digits_more k n h = rw (le-ltb n ten h, digits)

-- more fuel than the number changes nothing
fuel : (k m n : ℕ) → n ≤ k → n ≤ m → digits k n ≡ digits m n
fuel zero m n h l = digits_last zero n (omega arith) ∙ sym (digits_last m n (omega arith))
fuel (suc k) zero n h l = digits_last (suc k) n (omega arith) ∙ sym (digits_last zero n (omega arith))
fuel (suc k) (suc m) n h l = go (ltb n ten) refl (λ p q. fuel k m (n / ten) p q)
  where
    go : (r : Bool) → ltb n ten ≡ r → (n / ten ≤ k → n / ten ≤ m → digits k (n / ten) ≡ digits m (n / ten)) → digits (suc k) n ≡ digits (suc m) n
    go true e r = digits_last (suc k) n (ltb-true n ten e) ∙ sym (digits_last (suc m) n (ltb-true n ten e))
    go false e r =
        let g : ten ≤ n = ltb-false n ten e in
        digits_more k n g ∙ (ap (λ (l : List ℕ). l ++ ((naught + n % ten) ∷ [])) (r (omega arith) (omega arith)) ∙ sym (digits_more m n g))

pub decimal_last : (n : ℕ) → n < ten → decimal n ≡ (naught + n) ∷ []
unfolding decimal
decimal_last n h = digits_last n n h

pub decimal_tens : (n : ℕ) → ten ≤ n → decimal n ≡ decimal (n / ten) ++ ((naught + n % ten) ∷ [])
unfolding decimal
decimal_tens zero h = absurd (omega arith)
decimal_tens (suc n) h =
    digits_more n (suc n) h
    ∙ ap (λ (l : List ℕ). l ++ ((naught + suc n % ten) ∷ [])) (fuel n (suc n / ten) (suc n / ten) (omega arith) (omega arith))

pub decimal_digit : (b : ℕ) → is_digit b ≡ true → decimal (b - naught) ≡ b ∷ []
decimal_digit b e =
    let l : naught ≤ b = digit_least b e in
    let h : b < naught + ten = digit_most b e in
    decimal_last (b - naught) (omega arith) ∙ ap (λ (n : ℕ). n ∷ []) (omega arith)

pub decimal_more : (v b : ℕ) → 0 < v → is_digit b ≡ true → decimal (v * ten + (b - naught)) ≡ decimal v ++ (b ∷ [])
decimal_more v b p e =
    let l : naught ≤ b = digit_least b e in
    let h : b < naught + ten = digit_most b e in
    let q : (v * ten + (b - naught)) / ten ≡ v = omega arith in
    let r : naught + (v * ten + (b - naught)) % ten ≡ b = omega arith in
    decimal_tens (v * ten + (b - naught)) (omega arith)
    ∙ (ap (λ (n : ℕ). decimal n ++ ((naught + (v * ten + (b - naught)) % ten) ∷ [])) q ∙ ap (λ (n : ℕ). decimal v ++ (n ∷ [])) r)
