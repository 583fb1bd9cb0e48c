-- What the parties send in a round, whatever their scratch holds.
-- Assumes nothing.
use Prim.Native.Nat.{ℕ, zero, suc, ◌-◌, ◌<◌, ◌≤◌}
use mathlib.Core.Path.{◌≡◌, refl, ap, ◌∙◌}
use mathlib.Core.Bool.{true, false, cond}
use mathlib.Core.List.{List, [], ◌∷◌}
use native.Mathlib.Omega.{arith}
use lib.ListN.{length, get_or}
use lib.Dec.{eqb}
use borrow.Author.Tests.{eqb-false}
use Rattle.algebra.specs.Ops.{Ops}
use Rattle.algebra.specs.Field.{Field}
use Rattle.algebra.specs.Sum.{sum}
use Rattle.algebra.proofs.Sums.{sum_ext}
use Rattle.circuit.specs.Gate.{gate}
use Rattle.circuit.specs.Kind.{Class, Opens, shape, factor}
use Rattle.circuit.specs.Round.{Round, Own, Open, Commit, Reveal, is_reveal, reveal_words}
use Rattle.circuit.proofs.Tests.{by_cases, false_no}
use Rattle.circuit.proofs.KindLaws.{opens_facts}
use Rattle.protocol.specs.Scratch.{layout, scratch_size, nonce_of}
use Rattle.protocol.specs.Party.{Party, record_of, a_at, b_at}
use Rattle.protocol.specs.Send.{masked, opening, own_words, revealed, sent}
use Rattle.protocol.specs.Receive.{heard_sum}
use Rattle.protocol.specs.Joint.{Joint, party, nonce_for}
use Rattle.protocol.specs.Run.{State, taken, said}
use Rattle.protocol.proofs.Tails.{length_nonce, nonce_room}
use Rattle.protocol.proofs.Words.{heard_sum_lem}

module _ (O : Ops) (J : Joint) (s : State) (r : Round) where
  -- the words of party i
  abbrev pub said_by : ℕ → List ℕ
  said_by i = sent O (party J i) (s.scratch i) s.point.gate (s.held i) (taken O J s r) (nonce_for J s.checks i) r

-- The words of a gate's own round, by the gate's class.
pub sent_class : (O : Ops) (J : Joint) (i : ℕ) (l : List ℕ) (j held : ℕ) (coefficients nonce : List ℕ) {k : Class} → (shape (gate J.circuit j)).class ≡ k
    → sent O (party J i) l j held coefficients nonce Own ≡ own_words O (party J i) l j k
unfolding sent party
sent_class O J i l j held coefficients nonce e = ap (own_words O (party J i) l j) e

-- The last word of k, one or two, where one alone is both the first and the last.
last_word : (k u v : ℕ) → 1 ≤ k → k ≤ 2 → (eqb k 2 ≡ false → u ≡ v) → get_or (cond (eqb k 2) (u ∷ v ∷ []) (u ∷ [])) (k - 1) 0 ≡ v
last_word zero u v some few e = absurd (omega arith)
last_word (suc zero) u v some few e = e refl
last_word (suc (suc zero)) u v some few e = refl
last_word (suc (suc (suc k))) u v some few e = absurd (omega arith)

-- The words of a product: the first is the party's share of the first difference, and the last that of the second.
module _ (O : Ops) (P : Party) (l : List ℕ) (j : ℕ) where
  -- the party's share of the difference of wire x and the mask at k
  abbrev pub share_of : ℕ → ℕ → ℕ
  share_of x k = (masked O (layout P.circuit) l x (record_of P j) k).share

  pub opening_first : (k : ℕ) → get_or (opening O P l j k) 0 0 ≡ share_of (gate P.circuit j).first a_at
  unfolding opening
  opening_first k = by_cases (eqb k 2) (λ e. rw e) (λ e. rw e)

  pub opening_last : (shape (gate P.circuit j)).class ≡ Opens
      → get_or (opening O P l j (shape (gate P.circuit j)).openings) ((shape (gate P.circuit j)).openings - 1) 0
      ≡ share_of (factor (gate P.circuit j)) (b_at (shape (gate P.circuit j)).openings)
  unfolding opening factor
  opening_last e =
      let f = opens_facts (gate P.circuit j) e in
      last_word (shape (gate P.circuit j)).openings _ _ f.some f.few
      (λ b. let one : b_at (shape (gate P.circuit j)).openings ≡ a_at = omega (arith, f.some, f.few, eqb-false (shape (gate P.circuit j)).openings 2 b) in
      rw (b, one))

-- At a reveal the sum of what is heard is that of the check shares held.
pub revealed_sum_lem : {O : Ops} (F : Field O) (J : Joint) (s : State) (r : Round) → is_reveal r ≡ true
    → ((i : ℕ) → i < J.parties → scratch_size J.parties J.circuit ≤ length (s.scratch i))
    → heard_sum O J.parties reveal_words 0 (said O J s r) ≡ sum O J.parties s.held
unfolding said
revealed_sum_lem {O} F J s r e long =
    heard_sum_lem F J.parties reveal_words 0 _ (λ i l. (shown i l).0) (omega arith) ∙ sum_ext F J.parties _ _ (λ i l. (shown i l).1)
  where
    word : (P : Party) (l : List ℕ) (j held : ℕ) (coefficients nonce : List ℕ) (r : Round) → is_reveal r ≡ true
        → sent O P l j held coefficients nonce r ≡ revealed held (nonce_of (layout P.circuit) l)
    word P l j held coefficients nonce Own e = false_no e
    word P l j held coefficients nonce Open e = false_no e
    word P l j held coefficients nonce (Commit k) e = false_no e
    word P l j held coefficients nonce (Reveal k) e = unfold sent in refl

    shown : (i : ℕ) → i < J.parties → (length (said_by O J s r i) ≡ reveal_words) × (get_or (said_by O J s r i) 0 0 ≡ s.held i)
    shown i l =
        let w = word (party J i) (s.scratch i) s.point.gate (s.held i) (taken O J s r) (nonce_for J s.checks i) r e in (
          ap length w ∙ (unfold party in ap suc (length_nonce (layout J.circuit) (s.scratch i) (nonce_room J.parties J.circuit (long i l)))),
          ap (λ (l : List ℕ). get_or l 0 0) w,
        )
