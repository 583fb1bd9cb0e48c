-- Letters against the table of words: the library's tests of slices are the machine's, and the words are asked along the table.
-- Assumes nothing.
use Prim.Native.Nat.{ℕ, suc, ◌+◌, ◌≤◌, ◌<◌}
use mathlib.Core.Path.{◌≡◌, refl, sym, ap, ◌∙◌}
use mathlib.Core.Bool.{Bool, true, false, cond, not, ◌&&◌, ◌||◌, true≢false}
use mathlib.Core.List.{List, [], ◌∷◌, ◌++◌}
use mathlib.Core.Option.{some, none}
use native.Mathlib.Omega.{arith}
use native.Mathlib.Numerals.{add-one}
use lib.ListN.{length, get_or, drop, drop_of_length-le}
use lib.Seq.{drop-cons}
use lib.Dec.{eqb, eqb-suc-suc, eqb-zero-suc}
use lib.Pointwise.{pointwise}
use borrow.Author.Tests.{eq-eqb, ne_eqb, eqb-true}
use Rattle.std.specs.List.{starts_with}
use Rattle.circuit.proofs.Tests.{both_left, both_right}
use Rattle.forms.specs.declared.Head.{Head}
use Rattle.forms.specs.Words.{heads, letters, names, valued, outer, inner, stands}
use Rattle.forms.specs.Machine.{starts, same, may, word_lives, word_is}

-- a word ----------------------------------------------------------------------------------------------------------------

-- the library's tests of two slices
pub starts_lem : (xs ys : List ℕ) → starts_with eqb ys xs ≡ starts xs ys
unfolding starts
starts_lem [] ys = refl
starts_lem (x ∷ xs) [] = refl
starts_lem (x ∷ xs) (y ∷ ys) = ap (λ (b : Bool). eqb x y && b) (starts_lem xs ys)

and_assoc : (a b c : Bool) → (a && (b && c)) ≡ ((a && b) && c)
and_assoc true b c = refl
and_assoc false b c = refl

pub same_lem : (xs ys : List ℕ) → pointwise eqb xs ys ≡ same xs ys
unfolding same starts
same_lem [] [] = refl
same_lem [] (y ∷ ys) = sym (eqb-zero-suc (length ys))
same_lem (x ∷ xs) [] = refl
same_lem (x ∷ xs) (y ∷ ys) =
    ap (λ (b : Bool). eqb x y && b) (same_lem xs ys)
    ∙ (and_assoc (eqb x y) (starts xs ys) (eqb (length xs) (length ys))
    ∙ ap (λ (b : Bool). (eqb x y && starts xs ys) && b) (sym (eqb-suc-suc (length xs) (length ys))))

-- what such a test has told
pub starts_told : {b : Bool} {ys zs : List ℕ} (xs : List ℕ) → ys ≡ zs → b ≡ starts_with eqb ys xs → starts xs zs ≡ b
starts_told {b} {ys} {zs} xs e f = sym (starts_lem xs zs) ∙ rw (← e) (sym f)

pub same_told : {b : Bool} {ys zs : List ℕ} (xs : List ℕ) → ys ≡ zs → b ≡ pointwise eqb xs ys → same xs zs ≡ b
same_told {b} {ys} {zs} xs e f = sym (same_lem xs zs) ∙ rw (← e) (sym f)

pub left_no : {a : Bool} (b : Bool) → a ≡ false → (a && b) ≡ false
left_no b e = rw e

pub right_no : (a : Bool) {b : Bool} → b ≡ false → (a && b) ≡ false
right_no true e = e
right_no false e = refl

-- bytes that stand in front of others, byte by byte
pub stand_short : (w ys : List ℕ) → length ys < length w → starts w ys ≡ false
unfolding starts
stand_short [] ys h = absurd (omega arith)
stand_short (x ∷ w) [] h = refl
stand_short (x ∷ w) (y ∷ ys) h = rw (stand_short w ys (omega arith)) (go (eqb x y))
  where
    go : (b : Bool) → (b && false) ≡ false
    go true = refl
    go false = refl

module _ (w text : List ℕ) (from : ℕ) where
  pub stand_none : starts w (drop from text) ≡ starts (drop 0 w) (drop (from + 0) text)
  stand_none = let e : from + 0 ≡ from = omega arith in rw e

  module _ (k : ℕ) (h : k < length w) (l : from + k < length text) where
    pub stand_differs : (get_or w k 0 ≡ get_or text (from + k) 0 → ⊥) → starts (drop k w) (drop (from + k) text) ≡ false
    unfolding starts
    stand_differs d = rw (drop-cons w k 0 h, drop-cons text (from + k) 0 l, ne_eqb (get_or w k 0) (get_or text (from + k) 0) d)

    pub stand_more : get_or w k 0 ≡ get_or text (from + k) 0 →
        starts (drop k w) (drop (from + k) text) ≡ starts (drop (k + 1) w) (drop (from + (k + 1)) text)
    unfolding starts
    stand_more d =
        let e : from + (k + 1) ≡ suc (from + k) = omega arith in
        rw (drop-cons w k 0 h, drop-cons text (from + k) 0 l, eq-eqb (get_or w k 0) (get_or text (from + k) 0) d, e, add-one k)

  pub stand_all : (k : ℕ) → length w ≤ k → starts (drop k w) (drop (from + k) text) ≡ true
  unfolding starts
  stand_all k h = rw (drop_of_length-le w h)

-- what stands in front of a list begins it
pub stand_rest : (w ys : List ℕ) → starts w ys ≡ true → (r : List ℕ) × (ys ≡ w ++ r)
unfolding starts
stand_rest [] ys e = (ys, refl)
stand_rest (x ∷ w) [] e = absurd (true≢false (sym e))
stand_rest (x ∷ w) (y ∷ ys) e =
    let r = stand_rest w ys (both_right (eqb x y) (starts w ys) e) in (
      r.0,
      sym (ap (λ (z : ℕ). z ∷ (w ++ r.0)) (eqb-true x y (both_left (eqb x y) (starts w ys) e))
          ∙ ap (λ (zs : List ℕ). y ∷ zs) (sym r.1)),
    )

-- where it may stand ----------------------------------------------------------------------------------------------------

pub may_lem : (any o : Bool) (h : Head) → may any o h ≡ cond (names h) (any && not o) (o || valued h)
unfolding may stands outer inner
may_lem any o h = go o (names h) any (valued h)
  where
    go : (o n any v : Bool) → (cond o (not n) (n || v) && (not n || any)) ≡ cond n (any && not o) (o || v)
    go true true true v = refl
    go true true false v = refl
    go true false any v = refl
    go false true true v = refl
    go false true false v = refl
    go false false any true = refl
    go false false any false = refl

-- the table -------------------------------------------------------------------------------------------------------------

module _ (any o : Bool) (w : List ℕ) (k : ℕ) (d : Head) (l : k < length heads) where
  pub lives_here : starts w (letters (get_or heads k d)) ≡ true → may any o (get_or heads k d) ≡ true → word_lives (drop k heads) any o w ≡ true
  unfolding word_lives
  lives_here e f = rw (drop-cons heads k d l, e, f)

  pub lives_next : (starts w (letters (get_or heads k d)) && may any o (get_or heads k d)) ≡ false →
      word_lives (drop k heads) any o w ≡ word_lives (drop (k + 1) heads) any o w
  unfolding word_lives
  lives_next e = rw (add-one k, drop-cons heads k d l, e)

  pub is_here : same w (letters (get_or heads k d)) ≡ true → may any o (get_or heads k d) ≡ true →
      word_is (drop k heads) any o w ≡ some (get_or heads k d)
  unfolding word_is
  is_here e f = rw (drop-cons heads k d l, e, f)

  pub is_next : (same w (letters (get_or heads k d)) && may any o (get_or heads k d)) ≡ false →
      word_is (drop k heads) any o w ≡ word_is (drop (k + 1) heads) any o w
  unfolding word_is
  is_next e = rw (add-one k, drop-cons heads k d l, e)

pub lives_nowhere : (any o : Bool) (w : List ℕ) (k : ℕ) → length heads ≤ k → word_lives (drop k heads) any o w ≡ false
unfolding word_lives
lives_nowhere any o w k h = rw (drop_of_length-le heads h)

pub is_nowhere : (any o : Bool) (w : List ℕ) (k : ℕ) → length heads ≤ k → word_is (drop k heads) any o w ≡ none
unfolding word_is
is_nowhere any o w k h = rw (drop_of_length-le heads h)
