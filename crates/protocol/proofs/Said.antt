-- The words of a round: how many there are, and that they are elements.
-- Assumes nothing.
use Prim.Native.Nat.{ℕ, zero, suc, ◌+◌, ◌-◌, ◌*◌, ◌<◌, ◌≤◌}
use mathlib.Core.Path.{◌≡◌, sym, ap, ◌∙◌}
use mathlib.Core.Logic.{◌⊎◌, inl, inr}
use mathlib.Core.Bool.{Bool, true, false, cond}
use mathlib.Core.List.{List, [], ◌∷◌, ◌++◌}
use native.Mathlib.Decide.{dec_lt}
use native.Mathlib.Nat.{add-zero}
use native.Mathlib.Omega.{arith}
use lib.Dec.{eqb}
use borrow.Author.Tests.{eqb-true, eqb-false}
use lib.ListN.{length, get_or, take, drop, length-take, get_or-append, get_or-eq_default}
use lib.Seq.{get_or-take, get_or-drop, get_or-append-add}
use Rattle.algebra.specs.Ops.{Ops}
use Rattle.algebra.specs.Field.{Field}
use Rattle.algebra.proofs.Ring.{sub_lt}
use Rattle.circuit.specs.Gate.{gate}
use Rattle.circuit.specs.Kind.{Class, Local, Owned, Opens, Output, shape}
use Rattle.circuit.specs.Round.{Round, Own, Open, Commit, Reveal, reveal_words, rounds, among, shape_words, words}
use Rattle.circuit.proofs.KindLaws.{owned_facts, opens_facts, output_facts}
use Rattle.circuit.proofs.RoundLaws.{RoundClass, class_at_round}
use Rattle.circuit.proofs.Tests.{by_cases}
use Rattle.sha256.specs.Digest.Laws.{digest_long}
use Rattle.protocol.specs.Scratch.{layout, marks_at}
use Rattle.protocol.specs.Party.{Party, whole_mask_at}
use Rattle.protocol.specs.Send.{input_word, masked, opening, own_words, mark, sent}
use Rattle.protocol.specs.Holding.{Below}
use Rattle.protocol.specs.Ready.{HeardLow}
use Rattle.protocol.proofs.Writing.{minus_elements}
use Rattle.protocol.proofs.Keeping.{Stood, showing_elements}
use Rattle.protocol.specs.Joint.{Joint, joined, party, nonce_for}
use Rattle.protocol.specs.Run.{State, taken, said}
use Rattle.protocol.proofs.Tails.{length_nonce, nonce_room}
use Rattle.protocol.proofs.Words.{length_joined, get_d_joined}

-- A party sends as many words as the round has.
module _ (O : Ops) (P : Party) (l : List ℕ) (j held : ℕ) (coefficients nonce : List ℕ) where
  length_opening : (k : ℕ) → 1 ≤ k → k ≤ 2 → length (opening O P l j k) ≡ k
  unfolding opening
  length_opening k some few =
      by_cases (eqb k 2) (λ e. rw e (omega (arith, eqb-true k 2 e))) (λ e. rw e (omega (arith, eqb-false k 2 e)))

  length_own : ((shape (gate P.circuit j)).class ≡ Owned) ⊎ ((shape (gate P.circuit j)).class ≡ Opens)
      → length (own_words O P l j (shape (gate P.circuit j)).class) ≡ (shape (gate P.circuit j)).words
  unfolding own_words
  length_own (inl e) = rw e (sym (owned_facts (gate P.circuit j) e).words)
  length_own (inr e) = let f = opens_facts (gate P.circuit j) e in rw e (length_opening _ f.some f.few ∙ sym f.words)

  length_of : (r : Round) → RoundClass r (shape (gate P.circuit j)).class → marks_at (layout P.circuit) ≤ length l
      → length (sent O P l j held coefficients nonce r) ≡ words (gate P.circuit j) r
  unfolding sent shape_words mark
  length_of Own h room = length_own h
  length_of Open h room = sym (output_facts (gate P.circuit j) h).words
  length_of (Commit k) h room = digest_long _
  length_of (Reveal k) h room = ap suc (length_nonce (layout P.circuit) l room)

  pub length_sent : (r : Round) → among r (rounds P.circuit j) ≡ true → marks_at (layout P.circuit) ≤ length l
      → length (sent O P l j held coefficients nonce r) ≡ words (gate P.circuit j) r
  length_sent r e = length_of r (class_at_round P.circuit j r e)

-- So all parties together send as many words each as the round has.
pub length_said : (O : Ops) (J : Joint) (s : State) (r : Round) → among r (rounds J.circuit s.point.gate) ≡ true
    → ((i : ℕ) → i < J.parties → marks_at (layout J.circuit) ≤ length (s.scratch i))
    → length (said O J s r) ≡ J.parties * words (gate J.circuit s.point.gate) r
unfolding said party
length_said O J s r h rooms =
    length_joined J.parties _ _
    (λ i l. length_sent O (party J i) (s.scratch i) s.point.gate (s.held i) (taken O J s r) (nonce_for J s.checks i) r h (rooms i l))

-- Past the end of a list of numbers below q stands 0, which is below q.
pub below_of : {q : ℕ} (xs : List ℕ) → 0 < q → ((k : ℕ) → k < length xs → get_or xs k 0 < q) → Below q xs
below_of {q} xs some e k = go (dec_lt k (length xs))
  where
    go : Dec (k < length xs) → get_or xs k 0 < q
    go (yes l) = e k l
    go (no l) = rw (get_or-eq_default xs 0 {n = k} (omega arith)) some

-- Parts of elements are elements.
pub below_part : {q : ℕ} (xs : List ℕ) (m n : ℕ) → Below q xs → Below q (take m (drop n xs))
below_part xs m n h =
    below_of (take m (drop n xs)) (omega (arith, h 0))
    (λ k l. rw (get_or-take m (drop n xs) k 0 (omega (arith, length-take m (drop n xs))), get_or-drop n xs k 0) (h (n + k)))

-- Elements, and elements after them, are elements.
below_append : {q : ℕ} (xs ys : List ℕ) → Below q xs → Below q ys → Below q (xs ++ ys)
below_append {q} xs ys hx hy k = go (dec_lt k (length xs))
  where
    go : Dec (k < length xs) → get_or (xs ++ ys) k 0 < q
    go (yes l) = rw (get_or-append xs ys 0 k l) (hx k)
    go (no l) =
        let e : k ≡ length xs + (k - length xs) = omega arith in
        rw (e, get_or-append-add xs ys (k - length xs) 0) (hy (k - length xs))

pub below_joined : {q : ℕ} → 0 < q → (n : ℕ) (f : ℕ → List ℕ) → ((i : ℕ) → i < n → Below q (f i)) → Below q (joined n f)
unfolding joined
below_joined some zero f h k = some
below_joined some (suc n) f h k =
    below_append (joined n f) (f n) (below_joined some n f (λ i l. h i (omega arith))) (h n (omega arith)) k

pub below_one : {q x : ℕ} → x < q → Below q (x ∷ [])
below_one h zero = h
below_one h (suc k) = omega arith

below_two : {q x y : ℕ} → x < q → y < q → Below q (x ∷ y ∷ [])
below_two h g zero = h
below_two h g (suc k) = below_one g k

module _ {O : Ops} (F : Field O) where
  open O use {size}

  input_low : (i owner : ℕ) (m : List ℕ) (input : ℕ) → input_word O i owner m input < size
  unfolding input_word
  input_low i owner m input = go (eqb i owner)
    where
      go : (b : Bool) → cond b (O.sub input (get_or m whole_mask_at 0)) 0 < size
      go true = sub_lt F input (get_or m whole_mask_at 0)
      go false = omega (arith, F.one_lt)

  opening_low : (P : Party) (l : List ℕ) (j k : ℕ) → Below size (opening O P l j k)
  unfolding opening masked
  opening_low P l j k =
      by_cases (eqb k 2)
      (λ e. rw e (below_two (minus_elements F _ _).share (minus_elements F _ _).share))
      (λ e. rw e (below_one (minus_elements F _ _).share))

  own_low : (P : Party) (l : List ℕ) (j : ℕ) (h : Class) → Below size (own_words O P l j h)
  unfolding own_words
  own_low P l j Local k = omega (arith, F.one_lt)
  own_low P l j Owned k = below_one (input_low _ _ _ _) k
  own_low P l j Opens k = opening_low P l j _ k
  own_low P l j Output k = omega (arith, F.one_lt)

  -- The words of parties are elements in the rounds of which that is asked, and in a reveal their check shares are.
  module _ (n j : ℕ) (P : ℕ → Party) (l : ℕ → List ℕ) (held : ℕ → ℕ) (coefficients nonce : ℕ → List ℕ) where
    abbrev words_of : Round → ℕ → List ℕ
    words_of r i = sent O (P i) (l i) j (held i) (coefficients i) (nonce i) r

    pub sent_low : (r : Round)
        → ((i : ℕ) → i < n → Stood (P i).parties size (P i).circuit (l i) j r)
        → ((i : ℕ) → i < n → held i < size)
        → HeardLow size n r (joined n (λ i. sent O (P i) (l i) j (held i) (coefficients i) (nonce i) r))
    unfolding sent
    sent_low Own k h = below_joined (omega (arith, F.one_lt)) n _ (λ i li. own_low (P i) (l i) j _)
    sent_low Open k h =
        below_joined (omega (arith, F.one_lt)) n _
        (λ i li. below_one (showing_elements F (P i) (k i li)).share)
    sent_low (Commit x) k h = tt
    sent_low (Reveal x) k h =
        λ i li.
        rw (
          ← add-zero (i * reveal_words),
          get_d_joined n reveal_words (words_of (Reveal x))
              (λ m lm. ap suc (length_nonce (layout (P m).circuit) (l m) (nonce_room (P m).parties (P m).circuit (k m lm).room))) i 0 li (omega arith),
        ) (h i li)
