-- Digits that are found in one pass are the decimal of a number, and the machine reads the decimal of a number that fits to that number.
-- Assumes nothing.
use Prim.Native.Nat.{ℕ, zero, suc, ◌+◌, ◌*◌, ◌-◌, ◌/◌, ◌%◌, ◌≤◌, ◌<◌}
use mathlib.Core.Path.{◌≡◌, refl, sym, ap, ◌∙◌}
use mathlib.Core.Bool.{Bool, true, false}
use mathlib.Core.List.{List, [], ◌∷◌, ◌++◌, append_assoc}
use mathlib.Core.Option.{some}
use native.Mathlib.Omega.{arith}
use native.Mathlib.Numerals.{add-one}
use lib.ListN.{length, get_or, drop, length-append}
use lib.Dec.{ltb}
use borrow.Author.Tests.{ltb-true, ltb-false}
use Rattle.field.specs.Words.{largest}
use Rattle.forms.specs.Form.{Form, decimal, closing, naught, ten}
use Rattle.forms.specs.Machine.{Frame, Numbered, whose, at, number, digit, number_lives, step, when, read}
use Rattle.forms.proofs.Decimal.{is_digit_lem, decimal_last, decimal_tens, decimal_digit, decimal_more}
use Rattle.forms.proofs.Numerals.{fits_lives, lives_tens, digit_next}
use Rattle.tokens.specs.Code.{part, Calm, fits_as, NumberIs, DigitsAre}
use Rattle.tokens.proofs.Onward.{read_on, at_inside, is_at_lem}
use Rattle.tokens.proofs.Parts.{part_none, part_more, part_rest, length_part}
use Rattle.tokens.proofs.Numerals.{Digit, digit_small, still, fits_at}

-- one pass ----------------------------------------------------------------------------------------------------------------

-- the digits so far are the decimal of this value
pub record Written (text : List ℕ) (from value i : ℕ) : Type 0 where
  pub written : part text from i ≡ decimal value
  pub forward : from ≤ i
  pub small : value ≤ largest
  pub inside : i ≤ length text

module _ (text : List ℕ) (from : ℕ) where
  pub first_written : {d : ℕ} → from < length text → Digit (get_or text from 0) d → Written text from d (from + 1)
  first_written h g = record {
    written = part_more text from from (omega arith) h
        ∙ (ap (λ (l : List ℕ). l ++ (get_or text from 0 ∷ [])) (part_none text from from (omega arith))
        ∙ rw g.1 (sym (decimal_digit (get_or text from 0) g.0)));
    forward = omega arith;
    small = omega (arith, digit_small _ g);
    inside = omega arith;
  }

  module _ (value i : ℕ) (so_far : Written text from value i) (h : i < length text) where
    pub written_closes : get_or text i 0 ≡ closing → DigitsAre text from value i
    written_closes e =
        record { written = so_far.written; forward = so_far.forward; small = so_far.small; closes = is_at_lem text i closing h e }

    pub written_more : {d : ℕ} → Digit (get_or text i 0) d → (value ≡ 0 → ⊥) → value * ten + d ≤ largest → Written text from (value * ten + d) (i + 1)
    written_more g z l = record {
      written = part_more text from i so_far.forward h
          ∙ (ap (λ (l : List ℕ). l ++ (get_or text i 0 ∷ [])) so_far.written
          ∙ rw g.1 (sym (decimal_more value (get_or text i 0) (omega arith) g.0)));
      forward = omega (arith, so_far.forward);
      small = l;
      inside = omega arith;
    }

-- the machine over a decimal ----------------------------------------------------------------------------------------------

module _ (top : ℕ) (rows : List Form) (stack : List Frame) (p : Numbered) (quiet : Calm (at rows stack (number p))) where
  digit_first : (n : ℕ) → n < ten → number_lives top rows (whose p) n ≡ true →
      step top (at rows stack (number p)) (naught + n) ≡ some (at rows stack (digit p n))
  unfolding step when
  digit_first n h e = let z : naught + n - naught ≡ n = omega arith in rw (is_digit_lem n h, z, e)

  through_last : (n : ℕ) → n < ten → number_lives top rows (whose p) n ≡ true → (rest : List ℕ) (i : ℕ) →
      read top (at rows stack (number p)) (decimal n ++ rest) i ≡ read top (at rows stack (digit p n)) rest (i + length (decimal n))
  through_last n h e rest i =
      rw (decimal_last n h, add-one i)
      (read_on top (at rows stack (number p)) (at rows stack (digit p n)) (naught + n) rest i (digit_first n h e) (still rows stack p n quiet))

  through_within : (k n : ℕ) → n ≤ k → number_lives top rows (whose p) n ≡ true → (rest : List ℕ) (i : ℕ) →
      read top (at rows stack (number p)) (decimal n ++ rest) i ≡ read top (at rows stack (digit p n)) rest (i + length (decimal n))
  through_within zero n l e rest i = through_last n (omega arith) e rest i
  through_within (suc k) n l e rest i =
      go (ltb n ten) refl (λ q h. through_within k (n / ten) q (lives_tens top rows stack p n h e) ((naught + n % ten) ∷ rest) i)
    where
      go : (c : Bool) → ltb n ten ≡ c →
          (n / ten ≤ k → ten ≤ n → read top (at rows stack (number p)) (decimal (n / ten) ++ ((naught + n % ten) ∷ rest)) i
          ≡ read top (at rows stack (digit p (n / ten))) ((naught + n % ten) ∷ rest) (i + length (decimal (n / ten)))) →
          read top (at rows stack (number p)) (decimal n ++ rest) i ≡ read top (at rows stack (digit p n)) rest (i + length (decimal n))
      go true c f = through_last n (ltb-true n ten c) e rest i
      go false c f =
          let h : ten ≤ n = ltb-false n ten c in
          let z : n / ten * ten + n % ten ≡ n = omega arith in
          let d = digit_next top rows stack p (n / ten) (n % ten) (omega arith) (omega arith) (rw z e) in
          let s : step top (at rows stack (digit p (n / ten))) (naught + n % ten) ≡ some (at rows stack (digit p n)) =
          d ∙ ap (λ (m : ℕ). some (at rows stack (digit p m))) z in
          let q : i + length (decimal (n / ten) ++ ((naught + n % ten) ∷ [])) ≡ suc (i + length (decimal (n / ten))) =
          ap (λ (m : ℕ). i + m) (length-append (decimal (n / ten)) ((naught + n % ten) ∷ [])) ∙ omega arith in
          rw (decimal_tens n h, q, append_assoc (decimal (n / ten)) ((naught + n % ten) ∷ []) rest)
          (f (omega arith) h
          ∙ read_on top (at rows stack (digit p (n / ten))) (at rows stack (digit p n)) (naught + n % ten) rest (i + length (decimal (n / ten))) s
          (still rows stack p n quiet))

  -- the digits of a number that lives
  pub reads_decimal : (n : ℕ) → number_lives top rows (whose p) n ≡ true → (rest : List ℕ) (i : ℕ) →
      read top (at rows stack (number p)) (decimal n ++ rest) i ≡ read top (at rows stack (digit p n)) rest (i + length (decimal n))
  reads_decimal n e rest i = through_within n n (omega arith) e rest i

-- digits that are written as a number that fits are that number
pub written_fits : (text table : List ℕ) (naming : Bool) (from value to : ℕ) → DigitsAre text from value to →
    fits_as table naming value ≡ true → NumberIs text table naming from value to
written_fits text table naming from value to d e =
    let l = at_inside text to closing d.closes in
    let q : from + length (decimal value) ≡ to =
    ap (λ (x : List ℕ). from + length x) (sym d.written) ∙ omega (arith, length_part text from to d.forward (omega arith), d.forward) in
    record {
      reads = λ rows stack p w.
          let f = fits_at text table naming rows stack p w value ∙ e in
          ap (λ (x : List ℕ). read largest (at rows stack (number p)) x from)
          (part_rest text from to d.forward ∙ ap (λ (x : List ℕ). x ++ drop to text) d.written)
          ∙ (reads_decimal largest rows stack p w.calm value (fits_lives largest rows stack p value f) (drop to text) from
          ∙ ap (λ (i : ℕ). read largest (at rows stack (digit p value)) (drop to text) i) q);
      fitting = e;
      closes = d.closes;
    }
