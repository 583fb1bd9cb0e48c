-- How many bytes decimals and rows have, and how the rows of a circuit go on.
-- Assumes nothing.
use Prim.Native.Nat.{ℕ, zero, suc, ◌+◌, ◌/◌, ◌%◌, ◌^◌, ◌≤◌, ◌<◌}
use mathlib.Core.Path.{◌≡◌, refl, ◌∙◌}
use mathlib.Core.List.{List, [], ◌∷◌, ◌++◌, append_assoc, append-nil}
use mathlib.Core.Bool.{Bool, true, false}
use native.Mathlib.Nat.{pow-suc}
use native.Mathlib.Omega.{arith}
use lib.Dec.{ltb, leb}
use lib.ListN.{length, length-append}
use borrow.Author.Tests.{ltb-true, ltb-false, leb-true}
use Rattle.forms.specs.Form.{Form, leaf, one, two, scaled, feed, naught, ten, decimal, begin, print, print_rows}
use Rattle.forms.specs.Words.{Head, letters}
use Rattle.forms.specs.Entry.{row_of, rows_up_to}
use Rattle.forms.proofs.Decimal.{decimal_last, decimal_tens}
use Rattle.forms.proofs.Table.{all_of, of_table}

-- decimals --------------------------------------------------------------------------------------------------------------

pub length_last : (n : ℕ) → n < ten → length (decimal n) ≡ 1
length_last n h = rw (decimal_last n h)

pub length_tens : (n : ℕ) → ten ≤ n → length (decimal n) ≡ length (decimal (n / ten)) + 1
length_tens n h = rw (decimal_tens n h) (length-append (decimal (n / ten)) ((naught + n % ten) ∷ []))

pub length_some : (n : ℕ) → 1 ≤ length (decimal n)
length_some n = go (ltb n ten) refl
  where
    go : (r : Bool) → ltb n ten ≡ r → 1 ≤ length (decimal n)
    go true e = omega (arith, length_last n (ltb-true n ten e))
    go false e = omega (arith, length_tens n (ltb-false n ten e))

-- a number below ten ^ (k + 1) has at most k + 1 digits
pub length_decimal : (k n : ℕ) → n < ten ^ suc k → length (decimal n) ≤ suc k
length_decimal zero n h = rw (length_last n (omega (arith, h))) (omega arith)
length_decimal (suc k) n h = go (ltb n ten) refl (λ l. length_decimal k (n / ten) l)
  where
    go : (r : Bool) → ltb n ten ≡ r → (n / ten < ten ^ suc k → length (decimal (n / ten)) ≤ suc k) → length (decimal n) ≤ suc (suc k)
    go true e r = rw (length_last n (ltb-true n ten e)) (omega arith)
    go false e r =
        let l : length (decimal (n / ten)) ≤ suc k = r (omega (arith, h, pow-suc ten (suc k))) in
        rw (length_tens n (ltb-false n ten e)) (omega arith)

-- a number of a machine's word
pub length_word : (n : ℕ) → n < 2 ^ 64 → length (decimal n) ≤ 20
length_word n h = length_decimal 19 n (omega arith)

-- forms -----------------------------------------------------------------------------------------------------------------

pub letters_few : (h : Head) → length (letters h) ≤ 5
letters_few h = leb-true (length (letters h)) 5 (of_table (λ h. leb (length (letters h)) 5) (unfold all_of in refl) h)

pub length_begin : (h : Head) → length (begin h) ≡ length (letters h) + 2
unfolding begin
length_begin h = simp length-append (omega arith)

module _ (h : Head) where
  pub length_leaf : (n : ℕ) → length (print (leaf h n)) ≡ length (letters h) + length (decimal n) + 3
  unfolding print
  length_leaf n = simp length-append (omega (arith, length_begin h))

  module _ (f : Form) where
    pub length_one : length (print (one h f)) ≡ length (letters h) + length (print f) + 3
    unfolding print
    length_one = simp length-append (omega (arith, length_begin h))

    pub length_two : (g : Form) → length (print (two h f g)) ≡ length (letters h) + length (print f) + length (print g) + 4
    unfolding print
    length_two g = simp length-append (omega (arith, length_begin h))

    pub length_scaled : (n : ℕ) → length (print (scaled h f n)) ≡ length (letters h) + length (print f) + length (decimal n) + 4
    unfolding print
    length_scaled n = simp length-append (omega (arith, length_begin h))

-- rows ------------------------------------------------------------------------------------------------------------------

pub print_rows_append : (fs gs : List Form) → print_rows (fs ++ gs) ≡ print_rows fs ++ print_rows gs
unfolding print_rows
print_rows_append [] gs = refl
print_rows_append (f ∷ fs) gs = rw (print_rows_append fs gs) (simp append_assoc)

-- one gate more
pub print_more : (c : List ℕ) (j : ℕ) → print_rows (rows_up_to c (suc j)) ≡ print_rows (rows_up_to c j) ++ (print (row_of c j) ++ (feed ∷ []))
unfolding print_rows rows_up_to
print_more c j = print_rows_append (rows_up_to c j) (row_of c j ∷ []) ∙ rw append-nil
