-- What the comparison of two runs asks for, and what that gives: a party outside A, equal values at every output that A's parties see, equal inputs
-- at A, and the questions that are left.
-- Assumes nothing.
use Prim.Native.Nat.{ℕ, zero, suc, ◌+◌, ◌*◌, ◌<◌}
use mathlib.Core.Path.{◌≡◌, refl, sym, ap, ap₂, ◌∙◌}
use mathlib.Core.Bool.{Bool, true, false, cond, ◌&&◌}
use mathlib.Core.List.{List, ◌++◌}
use native.Mathlib.Decide.{ℕ_discrete}
use native.Mathlib.Omega.{arith}
use lib.Dec.{leb, eqb}
use lib.ListN.{length, get_or, take, drop, length-append}
use lib.Seq.{take_at, drop_at}
use borrow.Author.Tests.{eq-eqb}
use Rattle.algebra.specs.Ops.{Ops}
use Rattle.algebra.specs.Field.{Field}
use Rattle.algebra.proofs.Ring.{sub_self}
use Rattle.circuit.specs.Verdict.{Verdict, ask, ◌then◌, elements}
use Rattle.circuit.specs.Gate.{Gate, gate}
use Rattle.circuit.specs.Kind.{Output, shape, is_out, seen_by}
use Rattle.circuit.proofs.Tests.{by_cases}
use Rattle.circuit.proofs.KindLaws.{class_is}
use Rattle.circuit.specs.Count.{input_at, in_count, out_count}
use Rattle.circuit.specs.Round.{nonce_size, word_count, coefficient_count, check_count}
use Rattle.circuit.proofs.Verdicts.{ask_yes, then_left, then_right, then_passed, elements_all}
use Rattle.protocol.specs.Party.{input_of}
use Rattle.protocol.specs.Scratch.{scratch_size}
use Rattle.protocol.specs.Joint.{party}
use Rattle.protocol.specs.Plain.{plain_input, value, score_of, scores_seen}
use Rattle.protocol.specs.JointAsk.{ask_joint}
use Rattle.protocol.specs.Good.{Good}
use Rattle.theorems.specs.Premises.{Accepts, InputsPass}
use Rattle.theorems.specs.Matching.{left_out, plainly, input_move}
use Rattle.theorems.specs.Secrecy.{run_of}
use Rattle.theorems.proofs.Bands.{elements_of}

-- Where a party is outside A, the first that is left out is a party, and is outside A.
pub left_out_lem : (A : ℕ → Bool) (n i : ℕ) → i < n → A i ≡ false → (left_out A n < n) × (A (left_out A n) ≡ false)
unfolding left_out
left_out_lem A zero i l e = absurd (omega arith)
left_out_lem A (suc n) zero l e = (rw e (omega arith), rw e e)
left_out_lem A (suc n) (suc i) l e = go (A 0) refl (left_out_lem (λ i. A (suc i)) n i (omega arith) e)
  where
    later : ℕ
    later = left_out (λ i. A (suc i)) n

    go : (b : Bool) → A 0 ≡ b → (later < n) × (A (suc later) ≡ false) → (cond b (suc later) 0 < suc n) × (A (cond b (suc later) 0) ≡ false)
    go false q found = (omega arith, q)
    go true q found = (omega arith, found.1)

-- Two lists that begin with lists of one length are equal just where both parts are.
split : (xs xs' ys ys' : List ℕ) → length xs' ≡ length xs → xs' ++ ys' ≡ xs ++ ys → (xs' ≡ xs) × (ys' ≡ ys)
split xs xs' ys ys' l e = (
  sym (take_at xs' ys' (length xs) l) ∙ ap (take (length xs)) e ∙ take_at xs ys (length xs) refl,
  sym (drop_at xs' ys' (length xs) l) ∙ ap (drop (length xs)) e ∙ drop_at xs ys (length xs) refl,
)

module _ (O : Ops) (n : ℕ) (c : List ℕ) (A : ℕ → Bool) (x x' : List ℕ) where
  -- the scores that A's parties see on either inputs
  abbrev seen : ℕ → List ℕ
  seen r = scores_seen O (plainly n c x) A r

  abbrev seen' : ℕ → List ℕ
  seen' r = scores_seen O (plainly n c x') A r

  -- The inputs do not matter to how many scores a gate has ..
  length_score_of : (g : Gate) → length (score_of O (plainly n c x') A g) ≡ length (score_of O (plainly n c x) A g)
  unfolding score_of
  length_score_of g = by_cases (is_out g && seen_by A g) (λ e. rw e) (λ e. rw e)

  -- .. nor to how many there are before a gate.
  length_scores : (r : ℕ) → length (seen' r) ≡ length (seen r)
  unfolding scores_seen plainly
  length_scores zero = refl
  length_scores (suc r) =
      length-append (seen' r) _
      ∙ ap₂ ◌+◌ (length_scores r) (length_score_of (gate c r))
      ∙ sym (length-append (seen r) _)

  -- Where the scores are equal that A's parties see, every output that they see names equal values.
  pub equal_outputs : (r : ℕ) → seen' r ≡ seen r
      → (j : ℕ)
      → j < r
      → (shape (gate c j)).class ≡ Output
      → seen_by A (gate c j) ≡ true
      → value O (plainly n c x') (gate c j).first ≡ value O (plainly n c x) (gate c j).first
  unfolding scores_seen plainly
  equal_outputs zero e j l k s = absurd (omega arith)
  equal_outputs (suc r) e j l k s = go (ℕ_discrete j r) (λ h. equal_outputs r parts.0 j h k s)
    where
      parts : (seen' r ≡ seen r) × (score_of O (plainly n c x') A (gate c r) ≡ score_of O (plainly n c x) A (gate c r))
      parts = split (seen r) (seen' r) _ _ (length_scores r) e

      here : (g : Gate) → is_out g ≡ true → seen_by A g ≡ true → score_of O (plainly n c x') A g ≡ score_of O (plainly n c x) A g
          → value O (plainly n c x') g.first ≡ value O (plainly n c x) g.first
      here g o s q = unfold score_of in (rw (o, s) at (ap (λ (l : List ℕ). get_or l 0 0) q))

      go : Dec (j ≡ r) → (j < r → value O (plainly n c x') (gate c j).first ≡ value O (plainly n c x) (gate c j).first)
          → value O (plainly n c x') (gate c j).first ≡ value O (plainly n c x) (gate c j).first
      go (yes q) earlier = here (gate c j) (class_is k) s (rw q parts.1)
      go (no q) earlier = earlier (omega arith)

module _ (O : Ops) (n : ℕ) (c x x' : List ℕ) where
  -- Where a party's inputs agree, the input for each of its gates does not differ.
  pub no_move : Field O → (h i : ℕ) → (party (plainly n c x') i).inputs ≡ (party (plainly n c x) i).inputs
      → (j : ℕ)
      → (gate c j).first ≡ i
      → input_move O n c h x x' j ≡ 0
  unfolding input_move
  no_move F h i e j g =
      ap₂ O.sub (own x' ∙ ap (λ (l : List ℕ). get_or l (input_at c i j) 0) e) (own x) ∙ sub_self F _
    where
      own : (x : List ℕ) → plain_input O (plainly n c x) j ≡ get_or (party (plainly n c x) i).inputs (input_at c i j) 0
      own x = unfold plain_input plainly input_of party in rw g

-- the questions that are left once the lists of one run have passed theirs: about the scratch, the coefficients, the nonces and the room
unfoldable pub left : ℕ → ℕ → List ℕ → List ℕ → List ℕ → List ℕ → ℕ → ℕ → Verdict
left q n c coefficients nonces scratch transcript_room output_room =
    ask 12 0 (leb (n * scratch_size n c) (length scratch))
    then ask 16 0 (eqb (length coefficients) (coefficient_count c))
    then elements 17 q coefficients
    then ask 25 0 (eqb (length nonces) (nonce_size * (n * check_count c)))
    then ask 18 0 (leb (n * word_count c) transcript_room && leb (out_count c) output_room)

module _ {O : Ops} (F : Field O) (n : ℕ) (c : List ℕ) (A : ℕ → Bool) where
  open O use {size}

  -- With an accepted circuit, good preprocessing and accepted inputs, only those questions are left.
  pub asked : Accepts O n c → (m x : List ℕ) → Good O n c m → InputsPass O c x
      → (coefficients nonces scratch : List ℕ) (t o : ℕ)
      → ask_joint size (run_of O n c A m x coefficients nonces) scratch t o ≡ left size n c coefficients nonces scratch t o
  unfolding ask_joint left
  asked a m x g p coefficients nonces scratch t o =
      then_passed _ a.parties
      ∙ then_passed _ a.circuit
      ∙ then_passed _ (ask_yes 8 0 (eq-eqb _ _ g.long))
      ∙ then_passed _ (elements_all 9 size m (elements_of F m g.elements))
      ∙ then_passed _ (then_left (ask 10 0 (eqb (length x) (in_count c))) _ p)
      ∙ then_passed _ (then_right (ask 10 0 (eqb (length x) (in_count c))) (elements 11 size x) p)
