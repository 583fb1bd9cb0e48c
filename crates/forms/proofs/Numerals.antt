-- A number is read digit by digit: where it fits, each beginning of its decimal lives, and the bracket after it closes.
-- Assumes nothing.
use Prim.Native.Nat.{ℕ, zero, suc, ◌+◌, ◌*◌, ◌-◌, ◌/◌, ◌%◌, ◌≤◌, ◌<◌}
use mathlib.Core.Path.{◌≡◌, refl, ap, ◌∙◌}
use mathlib.Core.Bool.{Bool, true, false, cond, not, ◌&&◌, ◌||◌}
use mathlib.Core.List.{List, [], ◌∷◌, ◌++◌}
use mathlib.Core.Option.{some}
use native.Mathlib.Omega.{arith}
use lib.Dec.{eqb, ltb, leb}
use borrow.Author.Tests.{eqb-true, eq-eqb, ne_eqb, leb-true, le-leb, ltb-true, ltb-false, le-ltb, not-true}
use Rattle.circuit.proofs.Tests.{both_left, both_right, both_true}
use Rattle.forms.specs.Words.{names}
use Rattle.forms.specs.Form.{Form, marks, named, number_fits, decimal, closing, naught, ten}
use Rattle.forms.specs.Machine.{
  Frame,
  Numbered,
  number,
  digit,
  made,
  at,
  when,
  any_named,
  begins,
  name_lives,
  whose,
  number_lives,
  closed,
  step,
  steps,
}
use Rattle.forms.proofs.Choices.{or_elim, or_left, or_right}
use Rattle.forms.proofs.Decimal.{is_digit_lem, decimal_last, decimal_tens}
use Rattle.forms.proofs.Stepping.{steps_one, steps_then}

-- names -----------------------------------------------------------------------------------------------------------------

pub begins_self : (k j : ℕ) → begins k j j ≡ true
unfolding begins
begins_self zero j = eq-eqb j j refl
begins_self (suc k) j = rw (eq-eqb j j refl)

-- where v begins j, so does v without its last digit
begins_tens : (k v j : ℕ) → j ≤ k → ten ≤ v → begins k v j ≡ true → begins k (v / ten) j ≡ true
unfolding begins
begins_tens zero v j l h e = let z : v ≡ j = eqb-true v j e in absurd (omega arith)
begins_tens (suc k) v j l h e =
    or_elim (eqb v j) (not (ltb j ten) && begins k v (j / ten)) e
    (λ q. let z : v ≡ j = eqb-true v j q in further (rw (le-ltb j ten (omega arith), z) (begins_self k (j / ten))))
    (λ q.
    let g : not (ltb j ten) ≡ true = both_left (not (ltb j ten)) (begins k v (j / ten)) q in
    let j' : ten ≤ j = ltb-false j ten (not-true (ltb j ten) g) in
    further (both_true g (begins_tens k v (j / ten) (omega arith) h (both_right (not (ltb j ten)) (begins k v (j / ten)) q))))
  where
    further : (not (ltb j ten) && begins k (v / ten) (j / ten)) ≡ true → (eqb (v / ten) j || not (ltb j ten) && begins k (v / ten) (j / ten)) ≡ true
    further q = or_right (eqb (v / ten) j) (not (ltb j ten) && begins k (v / ten) (j / ten)) q

name_tens : (ms : List Bool) (j v : ℕ) → ten ≤ v → name_lives ms j v ≡ true → name_lives ms j (v / ten) ≡ true
unfolding name_lives
name_tens [] j v h e = e
name_tens (m ∷ ms) j v h e =
    or_elim (m && begins j v j) (name_lives ms (suc j) v) e
    (λ q.
    or_left (m && begins j (v / ten) j) (name_lives ms (suc j) (v / ten))
    (both_true (both_left m (begins j v j) q) (begins_tens j v j (omega arith) h (both_right m (begins j v j) q))))
    (λ q. or_right (m && begins j (v / ten) j) (name_lives ms (suc j) (v / ten)) (name_tens ms (suc j) v h q))

-- a row with a value can be named
pub named_lives : (ms : List Bool) (j n v : ℕ) → v ≡ j + n → named ms n ≡ true → name_lives ms j v ≡ true
unfolding name_lives named
named_lives [] j n v p e = e
named_lives (m ∷ ms) j zero v p e =
    let z : v ≡ j = omega arith in
    or_left (m && begins j v j) (name_lives ms (suc j) v) (both_true e (rw z (begins_self j j)))
named_lives (m ∷ ms) j (suc n) v p e = or_right (m && begins j v j) (name_lives ms (suc j) v) (named_lives ms (suc j) n v (omega arith) e)

pub named_any : (ms : List Bool) (n : ℕ) → named ms n ≡ true → any_named ms ≡ true
unfolding named any_named
named_any [] n e = e
named_any (m ∷ ms) zero e = or_left m (any_named ms) e
named_any (m ∷ ms) (suc n) e = or_right m (any_named ms) (named_any ms n e)

-- numbers ---------------------------------------------------------------------------------------------------------------

module _ (top : ℕ) (rows : List Form) (stack : List Frame) (p : Numbered) where
  pub fits_lives : (n : ℕ) → number_fits top rows (whose p) n ≡ true → number_lives top rows (whose p) n ≡ true
  unfolding number_fits number_lives
  fits_lives n e = go (names (whose p)) e
    where
      go : (c : Bool) → cond c (named (marks rows) n) (leb n top) ≡ true →
          cond c (name_lives (marks rows) 0 n) (cond c (named (marks rows) n) (leb n top)) ≡ true
      go true e = named_lives (marks rows) 0 n n (omega arith) e
      go false e = e

  pub lives_tens : (n : ℕ) → ten ≤ n → number_lives top rows (whose p) n ≡ true → number_lives top rows (whose p) (n / ten) ≡ true
  unfolding number_fits number_lives
  lives_tens n h e = go (names (whose p)) e
    where
      go : (c : Bool) → cond c (name_lives (marks rows) 0 n) (cond c (named (marks rows) n) (leb n top)) ≡ true →
          cond c (name_lives (marks rows) 0 (n / ten)) (cond c (named (marks rows) (n / ten)) (leb (n / ten) top)) ≡ true
      go true e = name_tens (marks rows) 0 n h e
      go false e = let l : n ≤ top = leb-true n top e in le-leb (n / ten) top (omega arith)

  digit_first : (n : ℕ) → n < ten → number_lives top rows (whose p) n ≡ true →
      step top (at rows stack (number p)) (naught + n) ≡ some (at rows stack (digit p n))
  unfolding step when
  digit_first n h e = let z : naught + n - naught ≡ n = omega arith in rw (is_digit_lem n h, z, e)

  pub digit_next : (v d : ℕ) → 0 < v → d < ten → number_lives top rows (whose p) (v * ten + d) ≡ true →
      step top (at rows stack (digit p v)) (naught + d) ≡ some (at rows stack (digit p (v * ten + d)))
  unfolding step when
  digit_next v d l h e =
      let z : naught + d - naught ≡ d = omega arith in
      let c : eqb (naught + d) closing ≡ false = ne_eqb (naught + d) closing (omega arith) in
      let n : eqb v 0 ≡ false = ne_eqb v 0 (omega arith) in
      rw (c, is_digit_lem d h, n, z, e)

  pub digit_last : (n : ℕ) → ten ≤ n → number_lives top rows (whose p) n ≡ true →
      steps top (at rows stack (digit p (n / ten))) ((naught + n % ten) ∷ []) ≡ some (at rows stack (digit p n))
  digit_last n h e =
      let z : n / ten * ten + n % ten ≡ n = omega arith in
      steps_one top (at rows stack (digit p (n / ten))) (naught + n % ten) (digit_next (n / ten) (n % ten) (omega arith) (omega arith) (rw z e))
      ∙ ap (λ (m : ℕ). some (at rows stack (digit p m))) z

  decimal_short : (n : ℕ) → n < ten → number_lives top rows (whose p) n ≡ true →
      steps top (at rows stack (number p)) (decimal n) ≡ some (at rows stack (digit p n))
  decimal_short n h e = rw (decimal_last n h) (steps_one top (at rows stack (number p)) (naught + n) (digit_first n h e))

  decimal_within : (k n : ℕ) → n ≤ k → number_lives top rows (whose p) n ≡ true →
      steps top (at rows stack (number p)) (decimal n) ≡ some (at rows stack (digit p n))
  decimal_within zero n l e = decimal_short n (omega arith) e
  decimal_within (suc k) n l e = go (ltb n ten) refl (λ q h. decimal_within k (n / ten) q (lives_tens n h e))
    where
      go : (c : Bool) → ltb n ten ≡ c →
          (n / ten ≤ k → ten ≤ n → steps top (at rows stack (number p)) (decimal (n / ten)) ≡ some (at rows stack (digit p (n / ten)))) →
          steps top (at rows stack (number p)) (decimal n) ≡ some (at rows stack (digit p n))
      go true c r = decimal_short n (ltb-true n ten c) e
      go false c r =
          let h : ten ≤ n = ltb-false n ten c in
          rw (decimal_tens n h)
          (steps_then top (decimal (n / ten)) ((naught + n % ten) ∷ []) (at rows stack (number p)) (r (omega arith) h) (digit_last n h e))

  -- the digits of a number that lives
  pub steps_decimal : (n : ℕ) → number_lives top rows (whose p) n ≡ true →
      steps top (at rows stack (number p)) (decimal n) ≡ some (at rows stack (digit p n))
  steps_decimal n e = decimal_within n n (omega arith) e

  pub step_closing : (n : ℕ) → number_fits top rows (whose p) n ≡ true →
      step top (at rows stack (digit p n)) closing ≡ some (at rows stack (made (closed p n)))
  unfolding step when
  step_closing n e = rw e

  -- a whole number and its bracket
  pub steps_number : (n : ℕ) → number_fits top rows (whose p) n ≡ true →
      steps top (at rows stack (number p)) (decimal n ++ (closing ∷ [])) ≡ some (at rows stack (made (closed p n)))
  steps_number n e =
      steps_then top (decimal n) (closing ∷ []) (at rows stack (number p)) (steps_decimal n (fits_lives n e))
      (steps_one top (at rows stack (digit p n)) closing (step_closing n e))
