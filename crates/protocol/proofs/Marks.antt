-- Marks in a joint run: once all have committed, every party has the marks of all, and what a party reveals is what it committed to. So no reveal fails
-- to fit its mark, whatever the preprocessing, and the sum alone decides.
-- Assumes nothing.
use Prim.Native.Nat.{ℕ, zero, suc, ◌*◌, ◌<◌, ◌≤◌}
use mathlib.Core.Path.{◌≡◌, refl, sym, ap, ◌∙◌}
use mathlib.Core.Bool.{Bool, true, false, cond}
use mathlib.Core.List.{List}
use native.Mathlib.Decide.{ℕ_discrete}
use native.Mathlib.Omega.{arith}
use lib.Dec.{eqb}
use lib.ListN.{length}
use Rattle.algebra.specs.Ops.{Ops}
use Rattle.sha256.specs.Sha256.{words_of}
use Rattle.sha256.specs.Digest.{same}
use Rattle.sha256.specs.Digest.Laws.{digest_long}
use Rattle.sha256.proofs.Bytes.{length_words}
use Rattle.sha256.proofs.Alike.{same_refl}
use Rattle.circuit.specs.Round.{Check, Round, Own, Open, Commit, Reveal, is_reveal, commit_words, nonce_size, nonce_words, reveal_words}
use Rattle.circuit.proofs.Tests.{by_cases, false_no}
use Rattle.protocol.specs.Scratch.{layout, scratch_size, nonce_of, marks_of, put_nonce, put_marks}
use Rattle.protocol.specs.Send.{mark, revealed, sent, holds, noted}
use Rattle.protocol.specs.Position.{keep}
use Rattle.protocol.specs.Receive.{Blame, Nobody, Blames, Ruling, Passed, Stopped, passed, first_blame, fits, misfit, weighs, heard_sum, received, finds, left}
use Rattle.protocol.specs.Joint.{Joint, joined, party, nonce_for}
use Rattle.protocol.specs.Run.{State, first_ruling, lowest, taken, said, notes, ends, step}
use Rattle.protocol.proofs.Tails.{nonce_put, marks_put, nonce_marks, nonce_length, marks_length, length_nonce, marks_room, nonce_room}
use Rattle.protocol.proofs.Words.{joined_ext, length_joined}
use Rattle.protocol.proofs.Bands.{band_joined}
use Rattle.protocol.proofs.Following.{ruling_other, ruling_fits}

pub same_of : (xs ys : List ℕ) → xs ≡ ys → same xs ys ≡ true
same_of xs ys e = rw (← e) (same_refl xs)

-- where every reveal fits its mark, nobody is named
pub all_fit : (n : ℕ) (marks heard : List ℕ) → ((i : ℕ) → i < n → fits marks heard i ≡ true) → misfit n marks heard ≡ Nobody
unfolding misfit
all_fit zero marks heard h = refl
all_fit (suc n) marks heard h = rw (all_fit n marks heard (λ i l. h i (omega arith)), h n (omega arith))

-- and where nobody is named, every reveal fits its mark
pub fit_all : (n : ℕ) (marks heard : List ℕ) → misfit n marks heard ≡ Nobody → (i : ℕ) → i < n → fits marks heard i ≡ true
unfolding misfit
fit_all zero marks heard e i l = absurd (omega arith)
fit_all (suc n) marks heard e i l = go (misfit n marks heard) refl (fits marks heard n) refl e (λ q lt. fit_all n marks heard q i lt)
  where
    go : (b : Blame) → misfit n marks heard ≡ b → (t : Bool) → fits marks heard n ≡ t
        → first_blame b (cond t Nobody (Blames n)) ≡ Nobody
        → (misfit n marks heard ≡ Nobody → i < n → fits marks heard i ≡ true)
        → fits marks heard i ≡ true
    go (Blames k) q t w e earlier = let z : ◌≡◌ {A = ℕ} 0 1 = cc in absurd (omega arith)
    go Nobody q false w e earlier = let z : ◌≡◌ {A = ℕ} 0 1 = cc in absurd (omega arith)
    go Nobody q true w e earlier = pick (ℕ_discrete i n)
      where
        pick : Dec (i ≡ n) → fits marks heard i ≡ true
        pick (yes s) = rw s w
        pick (no s) = earlier q (omega arith)

-- all parties end a round alike where each ends it so
pub lowest_alike : (n : ℕ) (f : ℕ → Ruling) (v : Ruling) → 0 < n → ((i : ℕ) → i < n → f i ≡ v) → lowest n f ≡ v
unfolding lowest
lowest_alike zero f v some h = absurd (omega arith)
lowest_alike (suc zero) f v some h = h 0 (omega arith)
lowest_alike (suc (suc n)) f v some h = rw (lowest_alike (suc n) f v (omega arith) (λ i l. h i (omega arith)), h (suc n) (omega arith)) (go v)
  where
    go : (v : Ruling) → first_ruling v v ≡ v
    go Passed = refl
    go (Stopped b) = refl

pub lowest_passed : (n : ℕ) (f : ℕ → Ruling) → ((i : ℕ) → i < n → f i ≡ Passed) → lowest n f ≡ Passed
unfolding lowest
lowest_passed zero f h = refl
lowest_passed (suc n) f h = rw (lowest_passed n f (λ i l. h i (omega arith)), h n (omega arith))

module _ (O : Ops) (J : Joint) where
  abbrev n : ℕ
  n = J.parties

  abbrev c : List ℕ
  c = J.circuit

  -- no round but a reveal stops a run
  pub ends_other : (s : State) (r : Round) → is_reveal r ≡ false → ends O J s r ≡ Passed
  unfolding ends finds
  ends_other s r e = lowest_passed n _ (λ i l. unfold party in ruling_other O n _ (said O J s r) r e)

  -- what stops it is a reveal
  pub ends_reveals : (s : State) (r : Round) → passed (ends O J s r) ≡ false → is_reveal r ≡ true
  ends_reveals s r h = by_cases (is_reveal r) (λ e. e) (λ e. false_no (sym h ∙ ap passed (ends_other s r e)))

  -- a reveal notes nothing
  pub notes_reveal : (s : State) (r : Round) (i : ℕ) → is_reveal r ≡ true → notes O J s r i ≡ s.scratch i
  unfolding notes noted
  notes_reveal s Own i e = false_no e
  notes_reveal s Open i e = false_no e
  notes_reveal s (Commit k) i e = false_no e
  notes_reveal s (Reveal k) i e = refl

  -- every party has the marks of all that is held and noted
  pub record Sealed (s : State) : Type 0 where
    pub marks : (i : ℕ) → i < n
        → marks_of n (layout c) (s.scratch i) ≡ joined n (λ k. mark (revealed (s.held k) (nonce_of (layout c) (s.scratch k))))
    pub long : (i : ℕ) → i < n → scratch_size n c ≤ length (s.scratch i)

  module _ (s : State) (sealed : Sealed s) (k : Check) where
    shown_long : (i : ℕ) → i < n → length (revealed (s.held i) (nonce_of (layout c) (s.scratch i))) ≡ reveal_words
    shown_long i l = ap suc (length_nonce (layout c) (s.scratch i) (nonce_room n c (sealed.long i l)))

    -- what all reveal
    pub said_shown : said O J s (Reveal k) ≡ joined n (λ i. revealed (s.held i) (nonce_of (layout c) (s.scratch i)))
    unfolding said sent party
    said_shown = refl

    reveals_fit : (i : ℕ) → i < n → (t : ℕ) → t < n → fits (marks_of n (layout c) (s.scratch i)) (said O J s (Reveal k)) t ≡ true
    unfolding fits mark
    reveals_fit i l t lt =
        same_of _ _
        (rw (
          said_shown,
          band_joined reveal_words n (λ i. revealed (s.held i) (nonce_of (layout c) (s.scratch i))) shown_long t lt,
          sealed.marks i l,
          band_joined commit_words n (λ i. mark (revealed (s.held i) (nonce_of (layout c) (s.scratch i)))) (λ i l. unfold mark in digest_long _) t lt,
        ) (unfold mark in refl))

    -- so for every party the sum alone decides ..
    pub sealed_finds : (i : ℕ) → i < n
        → finds O (party J i) (notes O J s (Reveal k) i) (Reveal k) (said O J s (Reveal k))
        ≡ weighs Nobody (eqb (heard_sum O n reveal_words 0 (said O J s (Reveal k))) 0)
    unfolding finds notes noted party
    sealed_finds i l = ruling_fits O n _ (said O J s (Reveal k)) (Reveal k) refl (all_fit n _ _ (reveals_fit i l))

    -- .. and for all together
    pub sealed_ends : 0 < n → ends O J s (Reveal k) ≡ weighs Nobody (eqb (heard_sum O n reveal_words 0 (said O J s (Reveal k))) 0)
    unfolding ends
    sealed_ends some = lowest_alike n _ _ some sealed_finds

  -- after a commitment all is so
  pub commit_sealed : (s : State) (k : Check)
      → ((i : ℕ) → i < n → scratch_size n c ≤ length (s.scratch i))
      → ((i : ℕ) → i < n → length (nonce_for J s.checks i) ≡ nonce_size)
      → Sealed (step O J s (Commit k))
  unfolding step left received notes noted keep party
  commit_sealed s k long nonces =
      rw (ends_other s (Commit k) refl)
      (record { marks = marks_there; long = long_there })
    where
      heard : List ℕ
      heard = said O J s (Commit k)

      share : ℕ → ℕ
      share i = holds O (party J i) (s.scratch i) s.point.gate (Commit k) (taken O J s (Commit k))

      words : ℕ → List ℕ
      words i = words_of (nonce_for J s.checks i)

      noted_there : ℕ → List ℕ
      noted_there i = put_nonce (layout c) (s.scratch i) (words i)

      heard_is : heard ≡ joined n (λ i. mark (revealed (share i) (words i)))
      heard_is = unfold said sent party in refl

      heard_long : length heard ≡ n * commit_words
      heard_long = rw heard_is (length_joined n commit_words _ (λ i l. unfold mark in digest_long _))

      words_long : (i : ℕ) → i < n → length (words i) ≡ nonce_words
      words_long i l = length_words nonce_words _ (nonces i l)

      room : (i : ℕ) → i < n → scratch_size n c ≤ length (noted_there i)
      room i l = rw (nonce_length (layout c) (s.scratch i) (words i)) (long i l)

      nonce_there : (i : ℕ) → i < n → nonce_of (layout c) (put_marks (layout c) (noted_there i) heard) ≡ words i
      nonce_there i l =
          nonce_marks (layout c) (noted_there i) n heard heard_long (marks_room n c (room i l))
          ∙ nonce_put (layout c) (s.scratch i) (words i) (words_long i l) (nonce_room n c (long i l))

      marks_there : (i : ℕ) → i < n
          → marks_of n (layout c) (put_marks (layout c) (noted_there i) heard)
          ≡ joined n (λ t. mark (revealed (share t) (nonce_of (layout c) (put_marks (layout c) (noted_there t) heard))))
      marks_there i l =
          marks_put (layout c) (noted_there i) n heard heard_long (marks_room n c (room i l))
          ∙ heard_is
          ∙ joined_ext n _ _ (λ t lt. ap (λ (ws : List ℕ). mark (revealed (share t) ws)) (sym (nonce_there t lt)))

      long_there : (i : ℕ) → i < n → scratch_size n c ≤ length (put_marks (layout c) (noted_there i) heard)
      long_there i l = rw (marks_length (layout c) (noted_there i) heard) (room i l)
