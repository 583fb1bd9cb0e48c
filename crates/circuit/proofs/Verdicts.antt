-- Laws of questions that are asked in order: what acceptance tells, and what a loop over questions has to show.
-- Assumes nothing.
use Prim.Native.Nat.{ℕ, zero, suc, ◌+◌, ◌<◌, ◌≤◌}
use mathlib.Core.Path.{◌≡◌, refl, sym, ◌∙◌}
use mathlib.Core.Logic.{⊎_elim}
use mathlib.Core.Bool.{Bool, true, false, not}
use mathlib.Core.List.{List}
use native.Mathlib.Nat.{le_of_suc-le-suc, not-suc-le-zero, eq-or-lt_of_le}
use native.Mathlib.Numerals.{add-one}
use native.Mathlib.Omega.{arith}
use lib.ListN.{length, get_or, get_or-eq_default}
use lib.Dec.{ltb}
use borrow.Author.Tests.{not-true, not-false, ltb-true, ltb-false, lt-ltb}
use Rattle.circuit.proofs.Tests.{by_cases}
use Rattle.std.specs.Prelude.{Result, Ok, Err}
use Rattle.circuit.specs.Verdict.{Verdict, Accepted, Refused, ask, ◌then◌, each, elements}
use Rattle.circuit.specs.Question.{number_of, verdict_of}
use Rattle.circuit.specs.declared.questions.Refusal.{Refusal}

pub refused_no : {A : Type 0} {number index : ℕ} → Refused number index ≡ Accepted → A
refused_no e = let z : ◌≡◌ {A = ℕ} 0 1 = cc in absurd (omega arith)

-- a call answered r, which its contract says is b, and the code went on where r is true, or turned back where it is false
pub said_yes : {r b : Bool} → r ≡ b → not r ≡ false → b ≡ true
said_yes {r} e h = sym e ∙ not-false r h

pub said_no : {r b : Bool} → r ≡ b → not r ≡ true → b ≡ false
said_no {r} e h = sym e ∙ not-true r h

module _ (number index : ℕ) where
  pub ask_true : (b : Bool) → ask number index b ≡ Accepted → b ≡ true
  unfolding ask
  ask_true true e = refl
  ask_true false e = refused_no e

  pub ask_yes : {b : Bool} → b ≡ true → ask number index b ≡ Accepted
  unfolding ask
  ask_yes e = rw e

  pub ask_no : {b : Bool} → b ≡ false → ask number index b ≡ Refused number index
  unfolding ask
  ask_no e = rw e

-- acceptance of two parts is acceptance of both
pub then_left : (a b : Verdict) → (a then b) ≡ Accepted → a ≡ Accepted
unfolding ◌then◌
then_left Accepted b e = refl
then_left (Refused number index) b e = e

pub then_right : (a b : Verdict) → (a then b) ≡ Accepted → b ≡ Accepted
unfolding ◌then◌
then_right Accepted b e = e
then_right (Refused number index) b e = refused_no e

pub then_both : {a b : Verdict} → a ≡ Accepted → b ≡ Accepted → (a then b) ≡ Accepted
unfolding ◌then◌
then_both e h = rw (e, h)

-- the first part decides, or is passed
pub then_refused : {a : Verdict} {number index : ℕ} (b : Verdict) → a ≡ Refused number index → (a then b) ≡ Refused number index
unfolding ◌then◌
then_refused b e = rw e

pub then_passed : {a : Verdict} (b : Verdict) → a ≡ Accepted → (a then b) ≡ b
unfolding ◌then◌
then_passed b e = rw e

module _ (f : ℕ → Verdict) where
  pub each_below : (n : ℕ) → each n f ≡ Accepted → (j : ℕ) → j < n → f j ≡ Accepted
  unfolding each
  each_below zero e j h = absurd (not-suc-le-zero h)
  each_below (suc n) e j h =
      ⊎_elim (λ q. rw q (then_right (each n f) (f n) e)) (λ l. each_below n (then_left (each n f) (f n) e) j l)
      (eq-or-lt_of_le (le_of_suc-le-suc h))

  pub each_all : (n : ℕ) → ((j : ℕ) → j < n → f j ≡ Accepted) → each n f ≡ Accepted
  unfolding each
  each_all zero h = refl
  each_all (suc n) h = then_both (each_all n (λ j l. h j (omega arith))) (h n (omega arith))

  -- a loop starts, goes on, is left at a refusal, or has asked all
  pub each_none : each 0 f ≡ Accepted
  unfolding each
  each_none = refl

  pub each_next : (i : ℕ) → each (i + 1) f ≡ (each i f then f i)
  unfolding each
  each_next i = rw add-one

  pub each_more : (i : ℕ) → each i f ≡ Accepted → f i ≡ Accepted → each (i + 1) f ≡ Accepted
  each_more i before here = each_next i ∙ then_both before here

  pub each_refused : (i : ℕ) {number index : ℕ} (n : ℕ) → i < n → each i f ≡ Accepted → f i ≡ Refused number index → each n f ≡ Refused number index
  unfolding each
  each_refused i zero h before here = absurd (not-suc-le-zero h)
  each_refused i (suc n) h before here =
      ⊎_elim (λ e. let b : each n f ≡ Accepted = rw (← e) before in then_passed (f n) b ∙ rw (← e) here)
      (λ l. then_refused (f n) (each_refused i n l before here)) (eq-or-lt_of_le (le_of_suc-le-suc h))

  pub each_done : (i n : ℕ) → i ≤ n → n ≤ i → {v : Verdict} → each i f ≡ v → each n f ≡ v
  each_done i n h g e = let q : n ≡ i = omega arith in rw q e

module _ (number q : ℕ) (xs : List ℕ) where
  pub elements_below : 0 < q → elements number q xs ≡ Accepted → (k : ℕ) → get_or xs k 0 < q
  unfolding elements
  elements_below h e k =
      by_cases (ltb k (length xs))
      (λ l. ltb-true (get_or xs k 0) q (ask_true number k _ (each_below (λ k. ask number k (ltb (get_or xs k 0) q)) (length xs) e k (ltb-true k (length xs) l))))
      (λ g. rw (get_or-eq_default xs 0 (ltb-false k (length xs) g)) h)

  pub elements_all : ((k : ℕ) → get_or xs k 0 < q) → elements number q xs ≡ Accepted
  unfolding elements
  elements_all h = each_all (λ k. ask number k (ltb (get_or xs k 0) q)) (length xs) (λ k l. ask_yes number k (lt-ltb (get_or xs k 0) q (h k)))

-- a step that asks has accepted, so that the rest decides; or it has refused; or it was the last
module _ {A : Type 0} {r : Result A Refusal} {u v : Verdict} (w : Verdict) where
  pub asked_on : {a : A} → verdict_of r ≡ v → r ≡ Ok a → u ≡ w → u ≡ (v then w)
  unfolding ◌then◌
  asked_on h q e = rw (← h, q) e

  pub asked_no : {e : Refusal} → verdict_of r ≡ v → r ≡ Err e → u ≡ Refused (number_of e.question) e.index → u ≡ (v then w)
  unfolding ◌then◌
  asked_no h q e = rw (← h, q) e

module _ {A : Type 0} {r : Result A Refusal} {v : Verdict} where
  pub asked_last : {a : A} → verdict_of r ≡ v → r ≡ Ok a → Accepted ≡ v
  asked_last h q = rw (← h, q)

pub ruleset asked = (asked_on, asked_no, asked_last)
