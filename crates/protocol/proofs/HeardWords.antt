-- What the words of all come to: what finding it asks, and what it is at each gate.
-- Assumes nothing.
use Prim.Native.Nat.{ℕ, ◌-◌, ◌*◌, ◌<◌, ◌≤◌}
use mathlib.Core.Path.{◌≡◌, sym, ap, ◌∙◌}
use mathlib.Core.Logic.{inl, inr}
use mathlib.Core.Bool.{true, false, cond}
use mathlib.Core.List.{List}
use native.Mathlib.Omega.{arith}
use lib.ListN.{length, get_or}
use Rattle.algebra.specs.Element.{Is}
use Rattle.algebra.specs.Ops.{Ops}
use Rattle.circuit.specs.Gate.{Gate, gate, gates}
use Rattle.circuit.specs.Kind.{Class, Owned, Opens, Output, shape, is_class, is_in}
use Rattle.circuit.specs.Round.{Round, Own, Open, Commit, Reveal, shape_words, words}
use Rattle.circuit.specs.Valid.{Valid}
use Rattle.circuit.proofs.KindLaws.{is_class_lem, class_is, opens_no_in, opens_no_out, output_no_in, owned_facts, opens_facts, output_facts}
use Rattle.circuit.proofs.Gates.{owner_named}
use Rattle.circuit.proofs.RoundLaws.{RoundClass, class_at_round}
use Rattle.circuit.proofs.Tests.{false_no}
use Rattle.protocol.specs.Receive.{heard_sum}
use Rattle.protocol.specs.Holding.{Below}
use Rattle.protocol.specs.Ready.{Hears, heard_first, heard_second}
use Rattle.protocol.proofs.Summing.{words_fit}

-- the owner of an in gate is a party
pub owner_low : {n q : ℕ} {c : List ℕ} {j : ℕ} → Valid n q c → j < gates c → is_in (gate c j) ≡ true → (gate c j).first < n
owner_low {j = j} v h e = owner_named v j h (is_class_lem Owned e)

-- a party sends a word in each round, and one for each opening
words_some : (r : Round) (g : Gate) → RoundClass r (shape g).class → 0 < words g r
unfolding shape_words
words_some Own g (inl h) = omega (arith, (owned_facts g h).words)
words_some Own g (inr h) = omega (arith, (opens_facts g h).words, (opens_facts g h).some)
words_some Open g h = omega (arith, (output_facts g h).words)
words_some (Commit k) g h = omega arith
words_some (Reveal k) g h = omega arith

-- no gate that opens values has a round of an output
opens_no_output : {k : Class} {A : Type 0} → k ≡ Opens → k ≡ Output → A
opens_no_output e h = false_no (sym (opens_no_out e) ∙ class_is h)

words_last : (r : Round) (g : Gate) → RoundClass r (shape g).class → (shape g).class ≡ Opens → (shape g).openings - 1 < words g r
unfolding shape_words
words_last Own g h e = omega (arith, (opens_facts g e).words, (opens_facts g e).some)
words_last Open g h e = opens_no_output e h
words_last (Commit k) g h e = opens_no_output e h
words_last (Reveal k) g h e = opens_no_output e h

-- the owner's word is among the words heard
pub owner_word_lem : {q : ℕ} (n k : ℕ) {s a : ℕ} (heard : List ℕ) → 0 < k → n * k ≤ length heard → Below q heard → a ≡ s → s < n → (a * k < length heard) × Below q heard
owner_word_lem n k {s} {a} heard some long low e h = (omega (arith, words_fit n k a (rw e h) long), low)

-- what is found is what the words come to, by the class
module _ (O : Ops) (n k : ℕ) (h : Class) (heard : List ℕ) where
  pub word_is_lem : (a : ℕ) → is_class Owned h ≡ true → {e : ℕ} → Is O.size (get_or heard (a * k) 0) e
      → Is O.size (cond (is_class Owned h) (get_or heard (a * k) 0) (heard_sum O n k 0 heard)) e
  word_is_lem a c w = record { is = w.is ∙ rw c; below = w.below }

  pub sum_is : (a : ℕ) → is_class Owned h ≡ false → {e : ℕ} → Is O.size (heard_sum O n k 0 heard) e
      → Is O.size (cond (is_class Owned h) (get_or heard (a * k) 0) (heard_sum O n k 0 heard)) e
  sum_is a c w = record { is = w.is ∙ rw c; below = w.below }

  pub second_is : (t : ℕ) → is_class Opens h ≡ true → {d : ℕ} → Is O.size (heard_sum O n k t heard) d
      → Is O.size (cond (is_class Opens h) (heard_sum O n k t heard) 0) d
  second_is t c w = record { is = w.is ∙ rw c; below = w.below }

  pub no_second : (t : ℕ) → 0 < O.size → is_class Opens h ≡ false → Is O.size (cond (is_class Opens h) (heard_sum O n k t heard) 0) 0
  no_second t some c = record { is = rw c; below = some }

-- what finding it asks, at a round of gate j of which the code knows the class and how many words each party sent
module _ {q n : ℕ} {c : List ℕ} {j : ℕ} {r : Round} {heard : List ℕ} (s : Hears q n c j r heard) {h : Class} (eh : h ≡ (shape (gate c j)).class) {k : ℕ} (ek : k ≡ words (gate c j) r) where
  of_round : RoundClass r (shape (gate c j)).class
  of_round = class_at_round c j r s.occurs

  fits : n * k ≤ length heard
  fits = rw ek (omega (arith, s.whole))

  -- and the gate's first number
  pub first_asks : {a : ℕ} → a ≡ (gate c j).first
      → (0 < k) × (n * k ≤ length heard) × Below q heard × (is_class Owned h ≡ true → a < n)
  first_asks ea =
      (omega (arith, ek, words_some r (gate c j) of_round), fits, s.heard_low, λ e. rw ea (owner_low s.valid s.within (sym (ap (is_class Owned) eh) ∙ e)))

  -- and how many values it opens
  pub second_asks : {o : ℕ} → o ≡ (shape (gate c j)).openings
      → (n * k ≤ length heard) × Below q heard × (is_class Opens h ≡ true → (1 ≤ o) × (o - 1 < k))
  second_asks eo = (
    fits,
    s.heard_low,
    λ e.
        let z : (shape (gate c j)).class ≡ Opens = sym eh ∙ is_class_lem Opens e in
        rw (eo, ek) ((opens_facts (gate c j) z).some, words_last r (gate c j) of_round z),
  )

  -- and what is then found
  module _ (O : Ops) where
    pub first_found : {a e : ℕ} → a ≡ (gate c j).first → Is O.size (cond (is_class Owned h) (get_or heard (a * k) 0) (heard_sum O n k 0 heard)) e
        → Is O.size (heard_first O n (gate c j) r heard) e
    unfolding heard_first
    first_found ea w = record { is = w.is ∙ rw (ea, ek, eh); below = w.below }

    pub second_found : {o d : ℕ} → o ≡ (shape (gate c j)).openings → Is O.size (cond (is_class Opens h) (heard_sum O n k (o - 1) heard) 0) d
        → Is O.size (heard_second O n (gate c j) r heard) d
    unfolding heard_second
    second_found eo w = record { is = w.is ∙ rw (eo, ek, eh); below = w.below }

-- what the words come to, by the gate
module _ (O : Ops) (n : ℕ) (heard : List ℕ) (r : Round) (g : Gate) where
  pub owner_heard : (shape g).class ≡ Owned → heard_first O n g r heard ≡ get_or heard (g.first * words g r) 0
  unfolding heard_first
  owner_heard e = rw (class_is e)

  pub first_heard : (shape g).class ≡ Opens → heard_first O n g r heard ≡ heard_sum O n (words g r) 0 heard
  unfolding heard_first
  first_heard e = rw (opens_no_in e)

  pub second_heard : (shape g).class ≡ Opens → heard_second O n g r heard ≡ heard_sum O n (words g r) ((shape g).openings - 1) heard
  unfolding heard_second
  second_heard e = rw (class_is e)

  pub output_heard : (shape g).class ≡ Output → heard_first O n g r heard ≡ heard_sum O n (words g r) 0 heard
  unfolding heard_first
  output_heard e = rw (output_no_in e)
