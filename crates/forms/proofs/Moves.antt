-- The steps of the reading, one by one: whatever a step comes to is one of twelve moves. What is kept by each move is kept by every step.
-- Assumes nothing.
use Prim.Native.Nat.{ℕ, ◌+◌, ◌*◌, ◌-◌}
use mathlib.Core.Path.{◌≡◌, refl, ap, ◌∙◌}
use mathlib.Core.Bool.{Bool, true, cond, not, ◌&&◌}
use mathlib.Core.List.{List, [], ◌∷◌, ◌++◌}
use mathlib.Core.Option.{Option, some, none}
use native.Mathlib.Omega.{arith}
use lib.Dec.{eqb}
use borrow.Author.Tests.{eqb-true, ne_eqb}
use Rattle.circuit.proofs.Tests.{false_no, both_left, both_right, both_true}
use Rattle.forms.specs.Words.{Head, Sort, Leaf, One, Two, Scaled, heads, letters, sort, names}
use Rattle.forms.specs.Form.{Form, one, two, marks, opening, closing, space, feed, naught, ten, number_fits}
use Rattle.forms.specs.Refusals.{line_letter}
use Rattle.forms.specs.Machine.{
  Frame,
  first,
  second,
  Numbered,
  plain,
  after,
  Focus,
  start,
  spelling,
  number,
  digit,
  made,
  State,
  at,
  is_nil,
  when,
  starts,
  any_named,
  may,
  word_lives,
  word_is,
  is_digit,
  whose,
  closed,
  begun,
  begun_as,
  operand,
  handed,
  number_lives,
  step,
}
use Rattle.forms.proofs.Choices.{or_elim, cond_elim, some_is, none_no, when_elim}
use Rattle.forms.proofs.Decimal.{digit_least}
use Rattle.forms.proofs.Table.{all_of, of_table}
use Rattle.forms.proofs.Spelt.{Found, word_found}

-- the table of words ----------------------------------------------------------------------------------------------------

-- a byte that is no bracket
unfoldable pub plain_byte : ℕ → Bool
plain_byte b = not (eqb b opening) && not (eqb b closing)

unfoldable all_plain : List ℕ → Bool
all_plain [] = true
all_plain (x ∷ xs) = plain_byte x && all_plain xs

-- do the letters begin the word line?
unfoldable pub name_begun : List ℕ → ℕ
name_begun [] = 0
name_begun (x ∷ xs) = cond (eqb x line_letter) 1 0

unfoldable name_of : Head → Sort → ℕ
name_of h Leaf = cond (names h) 1 0
name_of h One = 0
name_of h Two = 0
name_of h Scaled = 0

-- a word has no bracket, and begins with the letter l exactly where it names a row
unfoldable keeps : Head → Bool
keeps h = all_plain (letters h) && eqb (name_begun (letters h)) (name_of h (sort h))

word_keeps : (h : Head) → keeps h ≡ true
unfolding all_of keeps all_plain plain_byte name_begun name_of
word_keeps = of_table keeps refl

starts_plain : (xs ys : List ℕ) → starts xs ys ≡ true → all_plain ys ≡ true → all_plain xs ≡ true
unfolding starts all_plain
starts_plain [] ys e p = refl
starts_plain (x ∷ xs) [] e p = false_no e
starts_plain (x ∷ xs) (y ∷ ys) e p =
    both_true {a = plain_byte x}
    (rw (eqb-true x y (both_left (eqb x y) (starts xs ys) e)) (both_left (plain_byte y) (all_plain ys) p))
    (starts_plain xs ys (both_right (eqb x y) (starts xs ys) e) (both_right (plain_byte y) (all_plain ys) p))

last_plain : (w : List ℕ) (b : ℕ) → all_plain (w ++ (b ∷ [])) ≡ true → plain_byte b ≡ true
unfolding all_plain
last_plain [] b e = both_left (plain_byte b) true e
last_plain (x ∷ w) b e = last_plain w b (both_right (plain_byte x) (all_plain (w ++ (b ∷ []))) e)

lives_plain : (hs : List Head) (any o : Bool) (w : List ℕ) → word_lives hs any o w ≡ true → all_plain w ≡ true
unfolding keeps word_lives
lives_plain [] any o w e = false_no e
lives_plain (h ∷ hs) any o w e =
    or_elim (starts w (letters h) && may any o h) (word_lives hs any o w) e
    (λ p. starts_plain w (letters h) (both_left (starts w (letters h)) (may any o h) p)
    (both_left (all_plain (letters h)) (eqb (name_begun (letters h)) (name_of h (sort h))) (word_keeps h)))
    (λ p. lives_plain hs any o w p)

found_begun : {any o : Bool} {w : List ℕ} {h : Head} → Found any o w h → name_begun w ≡ name_of h (sort h)
unfolding keeps
found_begun {h = h} f =
    let agrees = both_right (all_plain (letters h)) (eqb (name_begun (letters h)) (name_of h (sort h))) (word_keeps h) in
    ap name_begun f.spells ∙ eqb-true (name_begun (letters h)) (name_of h (sort h)) agrees

digit_plain : (b : ℕ) → is_digit b ≡ true → plain_byte b ≡ true
unfolding plain_byte
digit_plain b e =
    let least = digit_least b e in
    rw (ne_eqb b opening (λ q. absurd (omega arith)), ne_eqb b closing (λ q. absurd (omega arith)))

-- moves -----------------------------------------------------------------------------------------------------------------

-- from the rows, the open forms and what is read in the hole, over a byte
pub data Move (rows : List Form) : List Frame → Focus → ℕ → State → Type 0 where
  opens : {stack : List Frame} → Move rows stack start opening (at rows stack (spelling []))
  spells : {stack : List Frame} {w : List ℕ} {b : ℕ} → plain_byte b ≡ true → Move rows stack (spelling w) b (at rows stack (spelling (w ++ (b ∷ []))))
  wants_number : {stack : List Frame} {w : List ℕ} {h : Head} → name_begun w ≡ cond (names h) 1 0 →
      Move rows stack (spelling w) space (at rows stack (number (plain h)))
  wants_form : {stack : List Frame} {w : List ℕ} {h : Head} → name_begun w ≡ 0 → Move rows stack (spelling w) space (at rows (first h ∷ stack) start)
  first_digit : {stack : List Frame} {p : Numbered} {v b : ℕ} → plain_byte b ≡ true → Move rows stack (number p) b (at rows stack (digit p v))
  more_digits : {stack : List Frame} {p : Numbered} {v w b : ℕ} → plain_byte b ≡ true → Move rows stack (digit p v) b (at rows stack (digit p w))
  closes_number : {stack : List Frame} {p : Numbered} {v : ℕ} → Move rows stack (digit p v) closing (at rows stack (made (closed p v)))
  closes_one : {stack : List Frame} {h : Head} {f : Form} → Move rows (first h ∷ stack) (made f) closing (at rows stack (made (one h f)))
  wants_second : {stack : List Frame} {h : Head} {f : Form} → Move rows (first h ∷ stack) (made f) space (at rows (second h f ∷ stack) start)
  wants_number_after : {stack : List Frame} {h : Head} {f : Form} → Move rows (first h ∷ stack) (made f) space (at rows stack (number (after h f)))
  closes_two : {stack : List Frame} {h : Head} {f g : Form} → Move rows (second h f ∷ stack) (made g) closing (at rows stack (made (two h f g)))
  feeds : {f : Form} → Move rows [] (made f) feed (at (rows ++ (f ∷ [])) [] start)

module _ (rows : List Form) (stack : List Frame) where
  at_start_lem : (b : ℕ) (t : State) → when (eqb b opening) (at rows stack (spelling [])) ≡ some t → Move rows stack start b t
  at_start_lem b t e = when_elim (eqb b opening) e (Move rows stack start b) (λ ok. rw (eqb-true b opening ok) opens)

  begun_move : (w : List ℕ) (h : Head) (k : Sort) → name_begun w ≡ name_of h k → Move rows stack (spelling w) space (begun rows stack h k)
  unfolding begun name_of
  begun_move w h Leaf e = wants_number e
  begun_move w h One e = wants_form e
  begun_move w h Two e = wants_form e
  begun_move w h Scaled e = wants_form e

  at_space : (w : List ℕ) (t : State) (r : Option Head) → word_is heads (any_named (marks rows)) (is_nil stack) w ≡ r → begun_as rows stack r ≡ some t
      → Move rows stack (spelling w) space t
  unfolding begun_as
  at_space w t none p e = none_no e
  at_space w t (some h) p e =
      rw (some_is e) at (begun_move w h (sort h) (found_begun (word_found heads (any_named (marks rows)) (is_nil stack) w h p)))

  at_spelling : (w : List ℕ) (b : ℕ) (t : State) →
      cond (eqb b space) (begun_as rows stack (word_is heads (any_named (marks rows)) (is_nil stack) w))
      (when (word_lives heads (any_named (marks rows)) (is_nil stack) (w ++ (b ∷ []))) (at rows stack (spelling (w ++ (b ∷ []))))) ≡ some t
      → Move rows stack (spelling w) b t
  at_spelling w b t e =
      cond_elim (eqb b space) e
      (λ p q. rw (eqb-true b space p) (at_space w t (word_is heads (any_named (marks rows)) (is_nil stack) w) refl q))
      (λ p q. when_elim (word_lives heads (any_named (marks rows)) (is_nil stack) (w ++ (b ∷ []))) q (Move rows stack (spelling w) b)
      (λ ok. spells (last_plain w b (lives_plain heads (any_named (marks rows)) (is_nil stack) (w ++ (b ∷ [])) ok))))

  at_operand : (h : Head) (f : Form) (k : Sort) (b : ℕ) (t : State) → operand rows stack h f k b ≡ some t → Move rows (first h ∷ stack) (made f) b t
  unfolding operand
  at_operand h f Leaf b t e = none_no e
  at_operand h f One b t e = when_elim (eqb b closing) e (Move rows (first h ∷ stack) (made f) b) (λ ok. rw (eqb-true b closing ok) closes_one)
  at_operand h f Two b t e = when_elim (eqb b space) e (Move rows (first h ∷ stack) (made f) b) (λ ok. rw (eqb-true b space ok) wants_second)
  at_operand h f Scaled b t e = when_elim (eqb b space) e (Move rows (first h ∷ stack) (made f) b) (λ ok. rw (eqb-true b space ok) wants_number_after)

at_made : (rows : List Form) (stack : List Frame) (f : Form) (b : ℕ) (t : State) → handed rows stack f b ≡ some t → Move rows stack (made f) b t
unfolding handed
at_made rows [] f b t e = when_elim (eqb b feed) e (Move rows [] (made f) b) (λ ok. rw (eqb-true b feed ok) feeds)
at_made rows (first h ∷ stack) f b t e = at_operand rows stack h f (sort h) b t e
at_made rows (second h f ∷ stack) g b t e =
    when_elim (eqb b closing) e (Move rows (second h f ∷ stack) (made g) b) (λ ok. rw (eqb-true b closing ok) closes_two)

module _ (top : ℕ) where
  at_number : (rows : List Form) (stack : List Frame) (p : Numbered) (b : ℕ) (t : State) →
      step top (at rows stack (number p)) b ≡ some t → Move rows stack (number p) b t
  unfolding step
  at_number rows stack p b t e = when_elim (is_digit b && number_lives top rows (whose p) (b - naught)) e (Move rows stack (number p) b)
      (λ ok. first_digit (digit_plain b (both_left (is_digit b) (number_lives top rows (whose p) (b - naught)) ok)))

  at_digit : (rows : List Form) (stack : List Frame) (p : Numbered) (v b : ℕ) (t : State) →
      step top (at rows stack (digit p v)) b ≡ some t → Move rows stack (digit p v) b t
  unfolding step
  at_digit rows stack p v b t e =
      cond_elim (eqb b closing) e
      (λ c q. rw (eqb-true b closing c) (when_elim (number_fits top rows (whose p) v) q (Move rows stack (digit p v) closing) (λ ok. closes_number)))
      (λ c q. when_elim (is_digit b && not (eqb v 0) && number_lives top rows (whose p) (v * ten + (b - naught))) q (Move rows stack (digit p v) b)
      (λ ok. more_digits (digit_plain b (both_left (is_digit b) (not (eqb v 0))
      (both_left (is_digit b && not (eqb v 0)) (number_lives top rows (whose p) (v * ten + (b - naught))) ok)))))

  pub step_move : (s : State) (b : ℕ) (t : State) → step top s b ≡ some t → Move s.rows s.stack s.focus b t
  unfolding step
  step_move s b t e = go s.rows s.stack s.focus e
    where
      go : (rows : List Form) (stack : List Frame) (x : Focus) → step top (at rows stack x) b ≡ some t → Move rows stack x b t
      go rows stack start e = at_start_lem rows stack b t e
      go rows stack (spelling w) e = at_spelling rows stack w b t e
      go rows stack (number p) e = at_number rows stack p b t e
      go rows stack (digit p v) e = at_digit rows stack p v b t e
      go rows stack (made f) e = at_made rows stack f b t e
