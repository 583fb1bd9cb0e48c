-- A word is read letter by letter: each of its letters lives where the word may stand, and its space begins the form.
-- Assumes nothing.
use Prim.Native.Nat.{ℕ}
use mathlib.Core.Path.{◌≡◌, refl, sym, ap, ◌∙◌}
use mathlib.Core.Bool.{Bool, true, false, not, ◌&&◌, ◌||◌}
use mathlib.Core.List.{List, [], ◌∷◌, ◌++◌, append-nil, append_assoc}
use mathlib.Core.Option.{some}
use lib.ListN.{length}
use lib.Dec.{eqb}
use borrow.Author.Tests.{eq-eqb, not-true}
use Rattle.circuit.proofs.Tests.{by_cases, both_left, both_right, both_true}
use Rattle.forms.specs.Words.{Head, heads, letters, sort, names, stands}
use Rattle.forms.specs.Form.{Form, marks, begin, opening, space}
use Rattle.forms.specs.Machine.{
  Frame,
  start,
  spelling,
  at,
  is_nil,
  when,
  starts,
  same,
  any_named,
  may,
  word_lives,
  word_is,
  begun,
  begun_as,
  step,
  steps,
}
use Rattle.forms.proofs.Choices.{or_left, or_right}
use Rattle.forms.proofs.Table.{Listed, here, there, listed, spaceless, letters_spaceless, letters_tell}
use Rattle.forms.proofs.Stepping.{steps_cons, steps_one, steps_then}

pub starts_append : (xs ys : List ℕ) → starts xs (xs ++ ys) ≡ true
unfolding starts
starts_append [] ys = refl
starts_append (x ∷ xs) ys = rw (eq-eqb x x refl) (starts_append xs ys)

same_self : (xs : List ℕ) → same xs xs ≡ true
unfolding same
same_self xs = both_true (ap (starts xs) (sym (append-nil xs)) ∙ starts_append xs []) (eq-eqb (length xs) (length xs) refl)

module _ (any o : Bool) (h : Head) (m : may any o h ≡ true) where
  lives_listed : (hs : List Head) (w : List ℕ) → Listed h hs → starts w (letters h) ≡ true → word_lives hs any o w ≡ true
  unfolding word_lives
  lives_listed hs w (here {hs = ks}) q = or_left (starts w (letters h) && may any o h) (word_lives ks any o w) (both_true q m)
  lives_listed hs w (there {k = k} {hs = ks} l) q =
      or_right (starts w (letters k) && may any o k) (word_lives ks any o w) (lives_listed ks w l q)

  -- the beginning of a word that may stand lives
  pub word_lives_lem : (w r : List ℕ) → w ++ r ≡ letters h → word_lives heads any o w ≡ true
  word_lives_lem w r e = lives_listed heads w (listed h) (ap (starts w) (sym e) ∙ starts_append w r)

  is_listed : (hs : List Head) → Listed h hs → word_is hs any o (letters h) ≡ some h
  unfolding word_is
  is_listed hs (here {hs = ks}) = rw (same_self (letters h), m)
  is_listed hs (there {k = k} {hs = ks} l) =
      by_cases (same (letters h) (letters k) && may any o k)
      (λ t. rw t (ap some (sym (letters_tell h k (both_left (same (letters h) (letters k)) (may any o k) t)))))
      (λ t. rw t (is_listed ks l))

  -- a whole word is itself
  pub word_is_lem : word_is heads any o (letters h) ≡ some h
  word_is_lem = is_listed heads (listed h)

-- where a word may stand
pub may_stand : (any o : Bool) (h : Head) → stands o h ≡ true → (names h ≡ true → any ≡ true) → may any o h ≡ true
unfolding may
may_stand any o h e f = both_true e (go (names h) f)
  where
    go : (c : Bool) → (c ≡ true → any ≡ true) → (not c || any) ≡ true
    go true f = f refl
    go false f = refl

pub may_stands : (any o : Bool) (h : Head) → may any o h ≡ true → stands o h ≡ true
unfolding may
may_stands any o h e = both_left (stands o h) (not (names h) || any) e

pub may_any : (any o : Bool) (h : Head) → may any o h ≡ true → (not (names h) || any) ≡ true
unfolding may
may_any any o h e = both_right (stands o h) (not (names h) || any) e

module _ (top : ℕ) (rows : List Form) (stack : List Frame) where
  pub step_opening : step top (at rows stack start) opening ≡ some (at rows stack (spelling []))
  unfolding step when
  step_opening = refl

  step_letter : (w : List ℕ) (b : ℕ) → eqb b space ≡ false → word_lives heads (any_named (marks rows)) (is_nil stack) (w ++ (b ∷ [])) ≡ true →
      step top (at rows stack (spelling w)) b ≡ some (at rows stack (spelling (w ++ (b ∷ []))))
  unfolding step when
  step_letter w b n l = rw (n, l)

  module _ (h : Head) (m : may (any_named (marks rows)) (is_nil stack) h ≡ true) where
    -- the rest r of a word, after its letters w
    pub steps_letters : (w r : List ℕ) → w ++ r ≡ letters h → spaceless r ≡ true →
        steps top (at rows stack (spelling w)) r ≡ some (at rows stack (spelling (w ++ r)))
    unfolding steps spaceless
    steps_letters w [] p q = rw append-nil
    steps_letters w (b ∷ r) p q =
        let p' : w ++ (b ∷ []) ++ r ≡ letters h = append_assoc w (b ∷ []) r ∙ p in
        let n : eqb b space ≡ false = not-true (eqb b space) (both_left (not (eqb b space)) (spaceless r) q) in
        let l = word_lives_lem (any_named (marks rows)) (is_nil stack) h m (w ++ (b ∷ [])) r p' in
        steps_cons top (at rows stack (spelling w)) b r (step_letter w b n l)
        ∙ (steps_letters (w ++ (b ∷ [])) r p' (both_right (not (eqb b space)) (spaceless r) q)
        ∙ ap (λ (x : List ℕ). some (at rows stack (spelling x))) (append_assoc w (b ∷ []) r))

    pub step_space : (w : List ℕ) → w ≡ letters h → step top (at rows stack (spelling w)) space ≡ some (begun rows stack h (sort h))
    unfolding step begun_as
    step_space w e = rw (e, word_is_lem (any_named (marks rows)) (is_nil stack) h m)

    -- a whole word and its space
    pub steps_word : steps top (at rows stack start) (begin h) ≡ some (begun rows stack h (sort h))
    unfolding begin
    steps_word =
        steps_then top (opening ∷ letters h) (space ∷ []) (at rows stack start)
        (steps_cons top (at rows stack start) opening (letters h) step_opening ∙ steps_letters [] (letters h) refl (letters_spaceless h))
        (steps_one top (at rows stack (spelling (letters h))) space (step_space (letters h) refl))
