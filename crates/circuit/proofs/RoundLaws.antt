-- Which rounds a class has, what follows each of them, and what the rounds of a gate come to.
-- Assumes nothing.
use Prim.Native.Nat.{ℕ, zero, suc, ◌+◌, ◌*◌, ◌≤◌}
use mathlib.Core.Path.{◌≡◌, refl, sym, ◌∙◌}
use mathlib.Core.Logic.{◌⊎◌, inl, inr}
use mathlib.Core.Bool.{Bool, true, false, ◌&&◌, ◌||◌}
use mathlib.Core.List.{List, [], ◌∷◌}
use native.Mathlib.Numerals.{add-one}
use native.Mathlib.Omega.{arith}
use lib.Dec.{eqb}
use borrow.Author.Tests.{eqb-true}
use Rattle.circuit.specs.Gate.{Kind, gate}
use Rattle.circuit.specs.Kind.{Class, Local, Owned, Opens, Output, Shape, kind_shape, shape, is_class}
use Rattle.circuit.specs.Count.{unchecked, unchecked_after}
use Rattle.circuit.specs.Round.{Check, First, Second, Round, Own, Open, Commit, Reveal, round_number, is_reveal, has_check, check_rounds, class_rounds, rounds, among, following, shape_words, words, commit_words, reveal_words, commits_in, coefficients_in, over_rounds, over_run}
use Rattle.circuit.proofs.Tests.{false_no, by_cases}
use Rattle.circuit.proofs.Counts.{unchecked_after_le, unchecked_out}
use Rattle.circuit.proofs.KindLaws.{Low, class_is, kind_low, shape_low}

-- the test that tells whether a class has a round, where u entries are unchecked
abbrev pub Has : Round → ℕ → Class → Bool
Has Own u k = is_class Owned k || is_class Opens k
Has Open u k = is_class Output k
Has (Commit h) u k = is_class Output k && has_check u h
Has (Reveal h) u k = is_class Output k && has_check u h

-- the class of a round's gate
abbrev pub RoundClass : Round → Class → Type 0
RoundClass Own k = (k ≡ Owned) ⊎ (k ≡ Opens)
RoundClass Open k = k ≡ Output
RoundClass (Commit h) k = k ≡ Output
RoundClass (Reveal h) k = k ≡ Output

-- the rounds of a gate that follow a check, and one of its rounds
abbrev pub after_check : Check → List Round
after_check First = Open ∷ Commit Second ∷ Reveal Second ∷ []
after_check Second = []

abbrev pub after : Round → List Round
after Own = []
after Open = Commit Second ∷ Reveal Second ∷ []
after (Commit h) = Reveal h ∷ after_check h
after (Reveal h) = after_check h

module _ (u : ℕ) where
  -- only an output's rounds depend on u
  pub is_among : (r : Round) (k : Class) → among r (class_rounds u k) ≡ Has r u k
  unfolding among round_number class_rounds check_rounds is_class
  is_among Own Local = refl
  is_among Own Owned = refl
  is_among Own Opens = refl
  is_among Own Output = by_cases (eqb u 0) (λ e. rw e) (λ e. rw e)
  is_among Open Local = refl
  is_among Open Owned = refl
  is_among Open Opens = refl
  is_among Open Output = by_cases (eqb u 0) (λ e. rw e) (λ e. rw e)
  is_among (Commit First) Local = refl
  is_among (Commit First) Owned = refl
  is_among (Commit First) Opens = refl
  is_among (Commit First) Output = by_cases (eqb u 0) (λ e. rw e) (λ e. rw e)
  is_among (Commit Second) Local = refl
  is_among (Commit Second) Owned = refl
  is_among (Commit Second) Opens = refl
  is_among (Commit Second) Output = by_cases (eqb u 0) (λ e. rw e) (λ e. rw e)
  is_among (Reveal First) Local = refl
  is_among (Reveal First) Owned = refl
  is_among (Reveal First) Opens = refl
  is_among (Reveal First) Output = by_cases (eqb u 0) (λ e. rw e) (λ e. rw e)
  is_among (Reveal Second) Local = refl
  is_among (Reveal Second) Owned = refl
  is_among (Reveal Second) Opens = refl
  is_among (Reveal Second) Output = by_cases (eqb u 0) (λ e. rw e) (λ e. rw e)

  check_pending : (h : Check) (k : Class) → (is_class Output k && has_check u h) ≡ true → (k ≡ Output) × (has_check u h ≡ true)
  unfolding is_class
  check_pending h Local e = false_no e
  check_pending h Owned e = false_no e
  check_pending h Opens e = false_no e
  check_pending h Output e = (refl, e)

  pub round_class : (r : Round) (k : Class) → among r (class_rounds u k) ≡ true → RoundClass r k
  unfolding is_class
  round_class r k e = go r k (sym (is_among r k) ∙ e)
    where
      go : (r : Round) (k : Class) → Has r u k ≡ true → RoundClass r k
      go Own Local h = false_no h
      go Own Owned h = inl refl
      go Own Opens h = inr refl
      go Own Output h = false_no h
      go Open Local h = false_no h
      go Open Owned h = false_no h
      go Open Opens h = false_no h
      go Open Output h = refl
      go (Commit x) k h = (check_pending x k h).0
      go (Reveal x) k h = (check_pending x k h).0

  -- what follows a round in the rounds of an output, and in those of the other classes
  output_after : (r : Round) → among r (class_rounds u Output) ≡ true → following r (class_rounds u Output) ≡ after r
  unfolding following among round_number class_rounds check_rounds
  output_after Own e = false_no (by_cases (eqb u 0) (λ h. rw h at e) (λ h. rw h at e))
  output_after Open e = by_cases (eqb u 0) (λ h. rw h) (λ h. rw h)
  output_after (Commit First) e = by_cases (eqb u 0) (λ h. false_no (rw h at e)) (λ h. rw h)
  output_after (Commit Second) e = by_cases (eqb u 0) (λ h. rw h) (λ h. rw h)
  output_after (Reveal First) e = by_cases (eqb u 0) (λ h. false_no (rw h at e)) (λ h. rw h)
  output_after (Reveal Second) e = by_cases (eqb u 0) (λ h. rw h) (λ h. rw h)

  pub round_after : (r : Round) (k : Class) → among r (class_rounds u k) ≡ true → following r (class_rounds u k) ≡ after r
  unfolding following among round_number class_rounds
  round_after r Local e = false_no e
  round_after r Output e = output_after r e
  round_after Own Owned e = refl
  round_after Open Owned e = false_no e
  round_after (Commit First) Owned e = false_no e
  round_after (Commit Second) Owned e = false_no e
  round_after (Reveal First) Owned e = false_no e
  round_after (Reveal Second) Owned e = false_no e
  round_after Own Opens e = refl
  round_after Open Opens e = false_no e
  round_after (Commit First) Opens e = false_no e
  round_after (Commit Second) Opens e = false_no e
  round_after (Reveal First) Opens e = false_no e
  round_after (Reveal Second) Opens e = false_no e

  -- the words and the coefficients of all rounds of a class
  module _ (s : Shape) where
    pub words_local : over_rounds (shape_words s) (class_rounds u Local) ≡ 0
    unfolding over_rounds class_rounds
    words_local = refl

    pub words_owned : over_rounds (shape_words s) (class_rounds u Owned) ≡ s.words
    unfolding over_rounds shape_words class_rounds
    words_owned = omega arith

    pub words_opens : over_rounds (shape_words s) (class_rounds u Opens) ≡ s.words
    unfolding over_rounds shape_words class_rounds
    words_opens = omega arith

    -- of a class that is neither local nor an output
    pub words_valued : (k : Class) → is_class Local k ≡ false → is_class Output k ≡ false → over_rounds (shape_words s) (class_rounds u k) ≡ s.words
    unfolding is_class
    words_valued Local e h = false_no (sym e)
    words_valued Owned e h = words_owned
    words_valued Opens e h = words_opens
    words_valued Output e h = false_no (sym h)

    pub words_first : u ≡ 0 → over_rounds (shape_words s) (class_rounds u Output) ≡ s.words + (commit_words + reveal_words)
    unfolding over_rounds shape_words class_rounds check_rounds
    words_first z = rw z (omega arith)

    pub words_later : eqb u 0 ≡ false → over_rounds (shape_words s) (class_rounds u Output) ≡ commit_words + reveal_words + s.words + (commit_words + reveal_words)
    unfolding over_rounds shape_words class_rounds check_rounds
    words_later z = rw z (omega arith)

    pub words_le : (k : Class) → over_rounds (shape_words s) (class_rounds u k) ≤ s.words + 34
    words_le Local = omega (arith, words_local)
    words_le Owned = omega (arith, words_owned)
    words_le Opens = omega (arith, words_opens)
    words_le Output = by_cases (eqb u 0) (λ h. omega (arith, words_first (eqb-true u 0 h))) (λ h. omega (arith, words_later h))

  pub coefficients_local : over_rounds (coefficients_in u) (class_rounds u Local) ≡ 0
  unfolding over_rounds class_rounds
  coefficients_local = refl

  pub coefficients_owned : over_rounds (coefficients_in u) (class_rounds u Owned) ≡ 0
  unfolding over_rounds coefficients_in class_rounds
  coefficients_owned = refl

  pub coefficients_opens : over_rounds (coefficients_in u) (class_rounds u Opens) ≡ 0
  unfolding over_rounds coefficients_in class_rounds
  coefficients_opens = refl

  pub coefficients_all : over_rounds (coefficients_in u) (class_rounds u Output) ≡ u + 1
  unfolding over_rounds coefficients_in class_rounds check_rounds
  coefficients_all = by_cases (eqb u 0) (λ h. let z : u ≡ 0 = eqb-true u 0 h in rw (h, z)) (λ h. rw h (omega arith))

  pub coefficients_valued : (k : Class) → is_class Output k ≡ false → over_rounds (coefficients_in u) (class_rounds u k) ≡ 0
  unfolding is_class
  coefficients_valued Local e = coefficients_local
  coefficients_valued Owned e = coefficients_owned
  coefficients_valued Opens e = coefficients_opens
  coefficients_valued Output e = false_no (sym e)

  pub coefficients_class_le : (k : Class) → over_rounds (coefficients_in u) (class_rounds u k) ≤ u + 1
  coefficients_class_le Local = omega (arith, coefficients_local)
  coefficients_class_le Owned = omega (arith, coefficients_owned)
  coefficients_class_le Opens = omega (arith, coefficients_opens)
  coefficients_class_le Output = omega (arith, coefficients_all)

  -- an output has one check, or two where anything is opened and unchecked; other gates have none
  pub checks_first : u ≡ 0 → over_rounds commits_in (class_rounds u Output) ≡ 1
  unfolding over_rounds commits_in class_rounds check_rounds
  checks_first z = rw z

  pub checks_later : eqb u 0 ≡ false → over_rounds commits_in (class_rounds u Output) ≡ 2
  unfolding over_rounds commits_in class_rounds check_rounds
  checks_later z = rw z

  pub checks_valued : (k : Class) → is_class Output k ≡ false → over_rounds commits_in (class_rounds u k) ≡ 0
  unfolding over_rounds commits_in class_rounds is_class
  checks_valued Local e = refl
  checks_valued Owned e = refl
  checks_valued Opens e = refl
  checks_valued Output e = false_no (sym e)

  pub checks_le : (k : Class) → over_rounds commits_in (class_rounds u k) ≤ 2
  checks_le Local = omega (arith, checks_valued Local (unfold is_class in refl))
  checks_le Owned = omega (arith, checks_valued Owned (unfold is_class in refl))
  checks_le Opens = omega (arith, checks_valued Opens (unfold is_class in refl))
  checks_le Output = by_cases (eqb u 0) (λ h. omega (arith, checks_first (eqb-true u 0 h))) (λ h. omega (arith, checks_later h))

  -- every opened entry takes one coefficient, when it is checked
  coefficients_le : (k : Class) (s : Shape) → s.class ≡ k → Low s → over_rounds (coefficients_in u) (class_rounds u k) + unchecked_after s u ≤ u + 2
  coefficients_le Local s e l = omega (arith, coefficients_local, unchecked_after_le s u, l.openings)
  coefficients_le Owned s e l = omega (arith, coefficients_owned, unchecked_after_le s u, l.openings)
  coefficients_le Opens s e l = omega (arith, coefficients_opens, unchecked_after_le s u, l.openings)
  coefficients_le Output s e l = omega (arith, coefficients_all, unchecked_out s u (class_is e))

-- no round has more words of a party than a reveal
pub few_words : (k : Kind) (r : Round) → shape_words (kind_shape k) r ≤ reveal_words
unfolding shape_words
few_words k Own = omega (arith, (kind_low k).words)
few_words k Open = omega (arith, (kind_low k).words)
few_words k (Commit h) = omega arith
few_words k (Reveal h) = omega arith

-- and a reveal has just these
pub reveal_words_lem : (s : Shape) (r : Round) → is_reveal r ≡ true → shape_words s r ≡ reveal_words
unfolding shape_words
reveal_words_lem s Own e = false_no e
reveal_words_lem s Open e = false_no e
reveal_words_lem s (Commit k) e = false_no e
reveal_words_lem s (Reveal k) e = refl

-- the same of gate j of a circuit
module _ (c : List ℕ) (j : ℕ) where
  pub class_at_round : (r : Round) → among r (rounds c j) ≡ true → RoundClass r (shape (gate c j)).class
  unfolding rounds
  class_at_round r = round_class (unchecked c j) r (shape (gate c j)).class

  pub after_round : (r : Round) → among r (rounds c j) ≡ true → following r (rounds c j) ≡ after r
  unfolding rounds
  after_round r = round_after (unchecked c j) r (shape (gate c j)).class

pub run_more : (f : ℕ → Round → ℕ) (c : List ℕ) (j : ℕ) → over_run f c (j + 1) ≡ over_run f c j + over_rounds (f j) (rounds c j)
unfolding over_run
run_more f c j = rw add-one

module _ (c : List ℕ) where
  pub words_more : (j : ℕ) → over_run (λ i r. words (gate c i) r) c (j + 1) ≡ over_run (λ i r. words (gate c i) r) c j + over_rounds (shape_words (shape (gate c j))) (class_rounds (unchecked c j) (shape (gate c j)).class)
  unfolding rounds
  words_more = run_more (λ i r. words (gate c i) r) c

  pub coefficients_more : (j : ℕ) → over_run (λ i r. coefficients_in (unchecked c i) r) c (j + 1) ≡ over_run (λ i r. coefficients_in (unchecked c i) r) c j + over_rounds (coefficients_in (unchecked c j)) (class_rounds (unchecked c j) (shape (gate c j)).class)
  unfolding rounds
  coefficients_more = run_more (λ i r. coefficients_in (unchecked c i) r) c

  pub words_run_le : (j : ℕ) → over_run (λ i r. words (gate c i) r) c j ≤ 36 * j
  unfolding over_run rounds
  words_run_le zero = omega arith
  words_run_le (suc j) = omega (arith, words_run_le j, words_le (unchecked c j) (shape (gate c j)) (shape (gate c j)).class, (shape_low (gate c j)).words)

  pub coefficients_run_le : (j : ℕ) → over_run (λ i r. coefficients_in (unchecked c i) r) c j + unchecked c j ≤ 2 * j
  unfolding over_run rounds unchecked
  coefficients_run_le zero = omega arith
  coefficients_run_le (suc j) = omega (arith, coefficients_run_le j, coefficients_le (unchecked c j) (shape (gate c j)).class (shape (gate c j)) refl (shape_low (gate c j)))

  pub checks_more : (j : ℕ) → over_run (λ i r. commits_in r) c (j + 1) ≡ over_run (λ i r. commits_in r) c j + over_rounds commits_in (class_rounds (unchecked c j) (shape (gate c j)).class)
  unfolding rounds
  checks_more = run_more (λ i r. commits_in r) c

  pub checks_run_le : (j : ℕ) → over_run (λ i r. commits_in r) c j ≤ 2 * j
  unfolding over_run rounds
  checks_run_le zero = omega arith
  checks_run_le (suc j) = omega (arith, checks_run_le j, checks_le (unchecked c j) (shape (gate c j)).class)
