-- How the code's word reader keeps pace with the machine: letter by letter, each way to die, and a whole word at once.
-- Assumes nothing.
use Prim.Native.Nat.{ℕ, zero, suc, ◌+◌, ◌-◌, ◌≤◌, ◌<◌}
use mathlib.Core.Path.{◌≡◌, refl, sym, ap, ◌∙◌}
use mathlib.Core.Bool.{Bool, true, false, not, ◌&&◌, ◌||◌, false≢true}
use mathlib.Core.List.{List, [], ◌∷◌, ◌++◌, append_assoc}
use mathlib.Core.Option.{some, none}
use native.Mathlib.Omega.{arith}
use lib.ListN.{length, get_or, take, drop, length-drop, length-append}
use lib.Seq.{take-append_seam, get_or-append_seam, get_or-drop}
use lib.Dec.{eqb}
use borrow.Author.Tests.{ne_eqb, eqb-false, not-true}
use Rattle.circuit.proofs.Tests.{both_left, both_right}
use Rattle.field.specs.Words.{largest}
use Rattle.forms.specs.declared.Head.{Head}
use Rattle.forms.specs.declared.Sort.{Sort}
use Rattle.forms.specs.declared.Sort.TheVariants.{Leaf, One, Two, Scaled}
use Rattle.forms.specs.Words.{heads, letters, sort, names, stands}
use Rattle.forms.specs.Form.{Form, space}
use Rattle.forms.specs.Machine.{
  Frame,
  State,
  at,
  start,
  spelling,
  starts,
  may,
  word_lives,
  word_is,
  begun,
  begun_as,
  step,
  when,
  read,
  ended,
  open_here,
  open_in,
  closed_here,
  closed_frames,
  closed_numbered,
  closed_in,
  too_deep,
  too_many,
}
use Rattle.forms.proofs.Table.{spaceless, letters_spaceless}
use Rattle.forms.proofs.Spelt.{word_found}
use Rattle.forms.proofs.Spelling.{word_lives_lem, word_is_lem, may_stands}
use Rattle.tokens.specs.Code.{Calm, part, WordWanted, WordIs, WordDies}
use Rattle.tokens.proofs.Onward.{on, dies, ends, calm, calm_open, calm_closed}
use Rattle.tokens.proofs.Wording.{stand_rest}
use Rattle.tokens.proofs.Parts.{part_cons, part_none, part_more, part_join}

still : (rows : List Form) (stack : List Frame) (w : List ℕ) → Calm (at rows stack (spelling [])) → Calm (at rows stack (spelling w))
unfolding too_deep too_many open_in closed_in open_here closed_here
still rows stack w c = record { shallow = c.shallow; few = c.few }

-- after a word the form is as deep as it was: one more open form, or a number in it
pub begun_open : (rows : List Form) (stack : List Frame) (h : Head) (k : Sort) → open_in (begun rows stack h k) ≡ length stack + 1
unfolding begun open_in open_here
begun_open rows stack h Leaf = refl
begun_open rows stack h One = omega arith
begun_open rows stack h Two = omega arith
begun_open rows stack h Scaled = omega arith

pub begun_closed : (rows : List Form) (stack : List Frame) (h : Head) (k : Sort) → closed_in (begun rows stack h k) ≡ closed_in (at rows stack start)
unfolding begun closed_in closed_frames closed_here closed_numbered
begun_closed rows stack h Leaf = refl
begun_closed rows stack h One = refl
begun_closed rows stack h Two = refl
begun_closed rows stack h Scaled = refl

begun_calm : (rows : List Form) (stack : List Frame) (h : Head) → Calm (at rows stack (spelling [])) → Calm (begun rows stack h (sort h))
begun_calm rows stack h c =
    calm (begun rows stack h (sort h))
    (rw (begun_open rows stack h (sort h)) (unfold open_in open_here in calm_open (at rows stack (spelling [])) c))
    (rw (begun_closed rows stack h (sort h)) (unfold closed_in closed_here in calm_closed (at rows stack (spelling [])) c))

-- the letters so far are read
pub record Spelled (text : List ℕ) (any o : Bool) (from i : ℕ) : Type 0 where
  pub reads : (rows : List Form) (stack : List Frame) → WordWanted any o rows stack →
      read largest (at rows stack (spelling [])) (drop from text) from ≡ read largest (at rows stack (spelling (part text from i))) (drop i text) i
  pub forth : from ≤ i
  pub inside : i ≤ length text

when_true : {s : State} → when true s ≡ some s
unfolding when
when_true = refl

when_false : (s : State) → when false s ≡ none
unfolding when
when_false s = refl

letter_step : (any o : Bool) (rows : List Form) (stack : List Frame) → WordWanted any o rows stack → (x : List ℕ) (b : ℕ) (c : Bool) →
    (b ≡ space → ⊥) → word_lives heads any o (x ++ (b ∷ [])) ≡ c →
    step largest (at rows stack (spelling x)) b ≡ when c (at rows stack (spelling (x ++ (b ∷ []))))
unfolding step
letter_step any o rows stack w x b c n d = rw (ne_eqb b space n, w.any_is, w.place, d)

-- no letter of a word without spaces is one
no_space : (xs : List ℕ) (b : ℕ) (ys : List ℕ) → spaceless (xs ++ (b ∷ ys)) ≡ true → b ≡ space → ⊥
unfolding spaceless
no_space [] b ys e = eqb-false b space (not-true (eqb b space) (both_left (not (eqb b space)) (spaceless ys) e))
no_space (x ∷ xs) b ys e = no_space xs b ys (both_right (not (eqb x space)) (spaceless (xs ++ (b ∷ ys))) e)

module _ (text : List ℕ) (any o : Bool) (from : ℕ) where
  pub nothing_yet : from ≤ length text → Spelled text any o from from
  nothing_yet h = record { reads = λ rows stack w. rw (part_none text from from (omega arith)); forth = omega arith; inside = h }

  module _ (i : ℕ) (so_far : Spelled text any o from i) where
    -- wherever the machine stops at this byte, so does the code
    stops : i < length text →
        ((rows : List Form) (stack : List Frame) → WordWanted any o rows stack →
        step largest (at rows stack (spelling (part text from i))) (get_or text i 0) ≡ none) →
        WordDies text any o from i
    stops h f =
        record {
          dies = λ rows stack w. so_far.reads rows stack w
              ∙ dies largest text i (at rows stack (spelling (part text from i))) h (f rows stack w);
        }

    pub is_word : (h : Head) → may any o h ≡ true → i < length text → get_or text i 0 ≡ space → some h ≡ word_is heads any o (part text from i) →
        WordIs text any o from h (i + 1)
    is_word h m l e f = record {
      reads = λ rows stack w. so_far.reads rows stack w
          ∙ on largest text i (at rows stack (spelling (part text from i))) (begun rows stack h (sort h)) l
          (unfold step begun_as in rw (e, w.any_is, w.place, sym f)) (begun_calm rows stack h w.calm);
      standing = may_stands any o h m;
      inside = omega arith;
    }

    pub no_word : i < length text → get_or text i 0 ≡ space → none ≡ word_is heads any o (part text from i) → WordDies text any o from i
    no_word l e f = stops l (λ rows stack w. unfold step begun_as in rw (e, w.any_is, w.place, sym f))

    pub no_letter : i < length text → (get_or text i 0 ≡ space → ⊥) → word_lives heads any o (part text from (i + 1)) ≡ false → WordDies text any o from i
    no_letter l n e =
        let d : word_lives heads any o (part text from i ++ (get_or text i 0 ∷ [])) ≡ false =
        ap (word_lives heads any o) (sym (part_more text from i so_far.forth l)) ∙ e in
        stops l (λ rows stack w. letter_step any o rows stack w (part text from i) (get_or text i 0) false n d
        ∙ when_false (at rows stack (spelling (part text from i ++ (get_or text i 0 ∷ [])))))

    pub letter : i < length text → (get_or text i 0 ≡ space → ⊥) → word_lives heads any o (part text from (i + 1)) ≡ true →
        Spelled text any o from (i + 1)
    letter l n e =
        let p = part_more text from i so_far.forth l in
        let d : word_lives heads any o (part text from i ++ (get_or text i 0 ∷ [])) ≡ true = ap (word_lives heads any o) (sym p) ∙ e in
        record {
          reads = λ rows stack w. so_far.reads rows stack w
              ∙ (on largest text i (at rows stack (spelling (part text from i)))
              (at rows stack (spelling (part text from i ++ (get_or text i 0 ∷ [])))) l
              (letter_step any o rows stack w (part text from i) (get_or text i 0) true n d ∙ when_true)
              (still rows stack (part text from i ++ (get_or text i 0 ∷ [])) w.calm)
              ∙ ap (λ (x : List ℕ). read largest (at rows stack (spelling x)) (drop (i + 1) text) (i + 1)) (sym p));
          forth = omega (arith, so_far.forth);
          inside = omega arith;
        }

    pub ended_here : length text ≤ i → WordDies text any o from (length text)
    ended_here h =
        let e : length text ≡ i = omega (arith, so_far.inside) in
        rw e (record {
          dies = λ rows stack w. so_far.reads rows stack w
              ∙ ends largest text i (at rows stack (spelling (part text from i))) h (unfold ended in refl);
        })

  -- a whole word that may stand, all at once
  module _ (to : ℕ) (h : Head) (m : may any o h ≡ true) (forth : from ≤ to) (l : to ≤ length text) (e : part text from to ≡ letters h) where
    spelled_so_far : (k : ℕ) → from + k ≤ to → Spelled text any o from (from + k)
    spelled_so_far zero d = rw (add-zero) (nothing_yet (omega arith))
      where
        add-zero : from + 0 ≡ from
        add-zero = omega arith
    spelled_so_far (suc k) d =
        let i = from + k in
        let next : from + suc k ≡ i + 1 = omega arith in
        let within : i < to = omega arith in
        let cut : part text from i ++ (get_or text i 0 ∷ part text (i + 1) to) ≡ letters h =
        ap (λ (r : List ℕ). part text from i ++ r) (sym (part_cons text i to within l))
        ∙ part_join text from i to (omega arith) (omega arith) l ∙ e in
        let lives = word_lives_lem any o h m (part text from (i + 1)) (part text (i + 1) to)
        (part_join text from (i + 1) to (omega arith) (omega arith) l ∙ e) in
        let spaces = ap spaceless cut ∙ letters_spaceless h in
        rw next
        (letter i (spelled_so_far k (omega arith)) (omega arith)
        (no_space (part text from i) (get_or text i 0) (part text (i + 1) to) spaces) lives)

    pub whole_word : to < length text → get_or text to 0 ≡ space → WordIs text any o from h (to + 1)
    whole_word d q =
        let end : from + (to - from) ≡ to = omega arith in
        is_word to (rw end at (spelled_so_far (to - from) (omega arith))) h m d q
        (sym (ap (word_is heads any o) e ∙ word_is_lem any o h m))

-- what the code's test of a word with its space tells
pub standing_word : (text : List ℕ) (any o : Bool) (from : ℕ) (h : Head) → from ≤ length text → may any o h ≡ true →
    starts (letters h ++ (space ∷ [])) (drop from text) ≡ true → WordIs text any o from h (from + length (letters h) + 1)
standing_word text any o from h l m p =
    let s = stand_rest (letters h ++ (space ∷ [])) (drop from text) p in
    let n = length (letters h) in
    let all : drop from text ≡ letters h ++ (space ∷ s.0) = s.1 ∙ append_assoc (letters h) (space ∷ []) s.0 in
    let long : length text - from ≡ n + suc (length s.0) = sym (length-drop from text) ∙ ap length all ∙ length-append (letters h)
    (space ∷ s.0) in
    let cut : from + n - from ≡ n = omega arith in
    let word : part text from (from + n) ≡ letters h =
    ap (λ (k : ℕ). take k (drop from text)) cut ∙ ap (take n) all ∙ take-append_seam (letters h) (space ∷ s.0) in
    let next : get_or text (from + n) 0 ≡ space =
    sym (get_or-drop from text n 0) ∙ ap (λ (xs : List ℕ). get_or xs n 0) all ∙ get_or-append_seam (letters h) space s.0 0 in
    whole_word text any o from (from + n) h m (omega arith) (omega arith) word (omega arith) next

-- and it ends within the text
pub word_inside : (text : List ℕ) (from : ℕ) (h : Head) → from ≤ length text
    → starts (letters h ++ (space ∷ [])) (drop from text) ≡ true → from + length (letters h) + 1 ≤ length text
word_inside text from h i p =
    let s = stand_rest (letters h ++ (space ∷ [])) (drop from text) p in
    let long : length text - from ≡ length (letters h ++ (space ∷ [])) + length s.0 =
    sym (length-drop from text) ∙ (ap length s.1 ∙ length-append (letters h ++ (space ∷ [])) s.0) in
    omega (arith, long, length-append (letters h) (space ∷ []))

-- a word that is found may stand
pub found_stands : (any o : Bool) (w : List ℕ) (h : Head) → some h ≡ word_is heads any o w → may any o h ≡ true
found_stands any o w h e = (word_found heads any o w h (sym e)).stands

-- what may stand where no row can be named may stand where one can
pub may_more : (any o : Bool) (h : Head) → may false o h ≡ true → may any o h ≡ true
unfolding may
may_more any o h = go (stands o h) (names h)
  where
    go : (a n : Bool) → (a && (not n || false)) ≡ true → (a && (not n || any)) ≡ true
    go true false e = refl
    go true true e = absurd (false≢true e)
    go false n e = absurd (false≢true e)
