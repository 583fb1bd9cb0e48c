-- Two runs side by side, round by round: they stand at the same point, hold the same check shares, and have the same scratch at A's
-- parties. So they end alike, after the same words.
-- Assumes nothing.
use Prim.Native.Nat.{ℕ, zero, suc, ◌<◌}
use mathlib.Core.Path.{◌≡◌, refl, sym, ap, ap₂, subst, ◌∙◌}
use mathlib.Core.Logic.{inl, inr}
use mathlib.Core.Bool.{Bool, true, cond}
use mathlib.Core.List.{List, ◌++◌}
use native.Mathlib.Omega.{arith}
use Rattle.algebra.specs.Ops.{Ops}
use Rattle.algebra.specs.Field.{Field}
use Rattle.circuit.specs.Gate.{gate, gates}
use Rattle.circuit.specs.Kind.{Output, shape}
use Rattle.circuit.specs.Round.{Check, First, Second, Round, Own, Open, Commit, Reveal, is_commit, is_reveal}
use Rattle.circuit.proofs.RoundLaws.{RoundClass, class_at_round}
use Rattle.sha256.specs.Sha256.{words_of}
use Rattle.protocol.specs.Scratch.{layout, nonce_of}
use Rattle.protocol.specs.Position.{Stage, Send, Receive, Finished, Aborted, Point, keep, when_sending}
use Rattle.protocol.specs.Send.{revealed, mark, sent, holds}
use Rattle.protocol.specs.Receive.{Passed}
use Rattle.protocol.specs.Joint.{Joint, party, nonce_for}
use Rattle.protocol.specs.Run.{State, Run, said, takes, taken, notes, ends, step, still, ahead, run, begun, whole}
use Rattle.protocol.proofs.Words.{joined_ext}
use Rattle.theorems.proofs.Closed.{Every}
use Rattle.theorems.proofs.Holds.{Holds}
use Rattle.theorems.specs.Premises.{Enough}
use Rattle.theorems.proofs.Sealing.{commit_of, commits_before, Kept, nonce_noted, kept_step, kept_begun}
use Rattle.theorems.proofs.Honest.{under_check, pending, length_pending, Inv, fits_at, holds_at, passing, inv_step, inv_begun}
use Rattle.theorems.proofs.SideBySide.{Pair, J as first_run, J' as second_run, Agrees, agrees_shown, agrees_openings}
use Rattle.theorems.proofs.SameRound.{same_input, same_opening, same_shown, same_held}

module _ {O : Ops} {F : Field O} (P : Pair F) where
  open P use {n, c}

  -- the two runs
  abbrev J : Joint
  J = first_run P

  abbrev J' : Joint
  J' = second_run P

  module _ (j : ℕ) (l : j < gates c) (scratch scratch' : ℕ → List ℕ) (i : ℕ) (li : i < n) where
    -- All that is opened and unchecked in a round agrees in both runs.
    agrees_check : (k : Check) → (shape (gate c j)).class ≡ Output → Every (Agrees P) (under_check c j k)
    unfolding under_check
    agrees_check First g = agrees_openings P j (omega arith)
    agrees_check Second g = (agrees_shown P j l g, tt)

    agrees_pending : (r : Round) → RoundClass r (shape (gate c j)).class → Every (Agrees P) (pending c j r)
    unfolding pending
    agrees_pending Own g = agrees_openings P j (omega arith)
    agrees_pending Open g = tt
    agrees_pending (Commit k) g = agrees_check k g
    agrees_pending (Reveal k) g = agrees_check k g

    -- Every party comes to hold the same check share.
    same_holds : (r : Round) → RoundClass r (shape (gate c j)).class → Holds O J i j (pending c j r) (scratch i) → Holds O J' i j (pending c j r) (scratch' i)
        → (taken : List ℕ)
        → holds O (party J' i) (scratch' i) j r taken ≡ holds O (party J i) (scratch i) j r taken
    unfolding holds party
    same_holds r g p p' taken =
        ap (λ (k : ℕ). cond (is_commit r) k 0) (same_held P i li p p' (agrees_pending r g) taken _ (sym (length_pending c j r)))

    -- Every party sends the same words in a round, where its nonces are the same: as the check shares are, so are their marks.
    same_sent : (r : Round) → RoundClass r (shape (gate c j)).class → Holds O J i j (pending c j r) (scratch i) → Holds O J' i j (pending c j r) (scratch' i)
        → (held held' : ℕ)
        → held' ≡ held
        → (is_reveal r ≡ true → nonce_of (layout c) (scratch' i) ≡ nonce_of (layout c) (scratch i))
        → (taken nonce : List ℕ)
        → sent O (party J' i) (scratch' i) j held' taken nonce r ≡ sent O (party J i) (scratch i) j held taken nonce r
    same_sent Own (inl g) p p' held held' e same taken nonce = same_input P j l g _ _ held held' i taken nonce
    same_sent Own (inr g) p p' held held' e same taken nonce = same_opening P i li p p' l g held held' taken nonce
    same_sent Open g p p' held held' e same taken nonce = same_shown P i li p p' l g held held' taken nonce
    same_sent (Commit k) g p p' held held' e same taken nonce =
        unfold sent in ap (λ (w : ℕ). mark (revealed w (words_of nonce))) (same_holds (Commit k) g p p' taken)
    same_sent (Reveal k) g p p' held held' e same taken nonce = unfold sent party in ap₂ revealed e (same refl)

  module _ (A : ℕ → Bool) (known : (i : ℕ) → i < n → A i ≡ true → party J' i ≡ party J i) where
    -- two states of the two runs that A cannot tell apart; A's parties are the same in both
    pub record Twins (s s' : State) : Type 0 where
      pub kept : Kept O J s
      pub kept' : Kept O J' s'
      pub one : Inv O J s
      pub two : Inv O J' s'
      pub point : s'.point ≡ s.point
      pub used : s'.used ≡ s.used
      pub checks : s'.checks ≡ s.checks
      pub blame : s'.blame ≡ s.blame
      pub held : (i : ℕ) → i < n → s'.held i ≡ s.held i
      -- a nonce that is about to be revealed is the same
      pub nonces : (r : Round) → s.point.stage ≡ Send r → is_reveal r ≡ true → (i : ℕ) → i < n
          → nonce_of (layout c) (s'.scratch i) ≡ nonce_of (layout c) (s.scratch i)
      pub bands : (i : ℕ) → i < n → A i ≡ true → s'.scratch i ≡ s.scratch i

    module _ (s s' : State) (r : Round) (t : Twins s s') (e : s.point.stage ≡ Send r) where
      -- The second run sends the same round.
      there : s'.point.stage ≡ Send r
      there = ap (λ (p : Point). p.stage) t.point ∙ e

      -- Its gate is one of the circuit, of a class that has the round.
      below : s.point.gate < gates c
      below = (fits_at O J s r e t.one).0

      wanted : RoundClass r (shape (gate c s.point.gate)).class
      wanted = class_at_round c s.point.gate r (fits_at O J s r e t.one).1

      -- Every party's scratch holds its parts of the closed form, in the first run and in the second.
      holds_here : (i : ℕ) → i < n → Holds O J i s.point.gate (pending c s.point.gate r) (s.scratch i)
      holds_here = holds_at O J s r e t.one

      holds_there : (i : ℕ) → i < n → Holds O J' i s.point.gate (pending c s.point.gate r) (s'.scratch i)
      holds_there i l =
          subst (λ (p : Point). Holds O J' i p.gate (pending c p.gate r) (s'.scratch i)) t.point (holds_at O J' s' r there t.two i l)

      -- The same coefficients and nonces are handed over.
      same_taken : taken O J' s' r ≡ taken O J s r
      unfolding taken takes
      same_taken = rw (t.used, t.point)

      same_nonce : (i : ℕ) → nonce_for J' s'.checks i ≡ nonce_for J s.checks i
      unfolding nonce_for
      same_nonce i = rw t.checks

      -- All words of a round are the same.
      same_said : said O J' s' r ≡ said O J s r
      unfolding said
      same_said =
          joined_ext n _ _
          (λ i l. rw (same_taken, same_nonce i, t.point)
          (same_sent s.point.gate below s.scratch s'.scratch i l r wanted (holds_here i l) (holds_there i l) _ _ (t.held i l)
          (λ z. t.nonces r e z i l) (taken O J s r) (nonce_for J s.checks i)))

      -- Both go on.
      goes : ends O J s r ≡ Passed
      goes = passing F J P.has s r e t.kept t.one

      goes' : ends O J' s' r ≡ Passed
      goes' = passing F J' P.has' s' r there t.kept' t.two

      -- A nonce that is revealed next is noted now.
      same_noted : (u : Round) → (step O J s r).point.stage ≡ Send u → is_reveal u ≡ true → (i : ℕ) → i < n
          → nonce_of (layout c) ((step O J' s' r).scratch i) ≡ nonce_of (layout c) ((step O J s r).scratch i)
      same_noted u q z i l =
          commit_of r (commits_before O J s r u (fits_at O J s r e t.one) q z)
          (λ k is.
          let here : s.point.stage ≡ Send (Commit k) = e ∙ ap Send is in
          let across : s'.point.stage ≡ Send (Commit k) = there ∙ ap Send is in
          rw is
          (nonce_noted O J' s' t.kept' k across (fits_at O J' s' (Commit k) across t.two) i l
          ∙ ap words_of (same_nonce i)
          ∙ sym (nonce_noted O J s t.kept k here (fits_at O J s (Commit k) here t.one) i l)))

      -- Twins they stay.
      twins_step : (scratch : List ℕ) → Enough J scratch → Twins (step O J s r) (step O J' s' r)
      unfolding step takes notes
      twins_step scratch enough =
          record {
            kept = kept_step O J scratch enough s r e t.kept;
            kept' = kept_step O J' scratch (record { nonces = enough.nonces; room = enough.room }) s' r there t.kept';
            one = inv_step F J P.has s t.kept t.one r e;
            two = inv_step F J' P.has' s' t.kept' t.two r there;
            point = rw (goes, goes', t.point);
            used = rw (t.used, t.point);
            checks = rw t.checks;
            blame = rw (goes, goes');
            held =
                λ i l. rw (same_taken, t.point)
                (ap (keep r) (same_holds s.point.gate below s.scratch s'.scratch i l r wanted (holds_here i l) (holds_there i l) _));
            nonces = same_noted;
            bands = λ i l a. rw (goes, goes', same_said, t.point, t.bands i l a, known i l a, same_nonce i);
          }

    -- They begin as twins, on one scratch.
    twins_begun : (scratch : List ℕ) → Enough J scratch → Twins (begun O J scratch) (begun O J' scratch)
    unfolding begun
    twins_begun scratch enough =
        record {
          kept = kept_begun O J scratch enough P.has.valid;
          kept' = kept_begun O J' scratch (record { nonces = enough.nonces; room = enough.room }) P.has'.valid;
          one = inv_begun F J P.has scratch enough.room;
          two = inv_begun F J' P.has' scratch enough.room;
          point = refl;
          used = refl;
          checks = refl;
          blame = refl;
          held = λ i l. refl;
          nonces = λ r e z i l. refl;
          bands = λ i l a. refl;
        }

    -- two runs of some rounds that A cannot tell apart
    pub record Ends (u u' : Run) : Type 0 where
      pub transcript : u'.transcript ≡ u.transcript
      pub rounds : u'.rounds ≡ u.rounds
      pub last : Twins u.last u'.last

    -- Runs of no round end where they begin.
    ends_still : (s s' : State) → Twins s s' → Ends (still O J s) (still O J' s')
    unfolding still
    ends_still s s' t = record { transcript = refl; rounds = refl; last = t }

    -- Whatever the number of rounds, the two runs end alike.
    twins_run : (scratch : List ℕ) → Enough J scratch → (k : ℕ) (s s' : State) → Twins s s' → Ends (run O J k s) (run O J' k s')
    unfolding run
    twins_run scratch enough zero s s' t = ends_still s s' t
    twins_run scratch enough (suc k) s s' t =
        subst
        (λ (q : Stage). Ends (when_sending s.point.stage (still O J s) (λ r. ahead O J s r (run O J k (step O J s r)))) (second q))
        (sym (ap (λ (p : Point). p.stage) t.point))
        (at s.point.stage refl (λ r e. twins_run scratch enough k _ _ (twins_step s s' r t e scratch enough)))
      where
        second : Stage → Run
        second q = when_sending q (still O J' s') (λ r. ahead O J' s' r (run O J' k (step O J' s' r)))

        at : (p : Stage) → s.point.stage ≡ p
            → ((r : Round) → s.point.stage ≡ Send r → Ends (run O J k (step O J s r)) (run O J' k (step O J' s' r)))
            → Ends (when_sending p (still O J s) (λ r. ahead O J s r (run O J k (step O J s r)))) (second p)
        at (Send r) e later =
            unfold when_sending ahead in
            record {
              transcript = ap₂ {C = List ℕ} (λ (a b : List ℕ). a ++ b) (same_said s s' r t e) (later r e).transcript;
              rounds = ap suc (later r e).rounds;
              last = (later r e).last;
            }
        at (Receive r) e later = unfold when_sending in ends_still s s' t
        at Finished e later = unfold when_sending in ends_still s s' t
        at Aborted e later = unfold when_sending in ends_still s s' t

    -- So do the first k rounds of two runs ..
    pub twins_first : (scratch : List ℕ) → Enough J scratch → (k : ℕ)
        → Ends (run O J k (begun O J scratch)) (run O J' k (begun O J' scratch))
    twins_first scratch enough k = twins_run scratch enough k _ _ (twins_begun scratch enough)

    -- .. and two whole runs.
    pub twins_whole : (scratch : List ℕ) → Enough J scratch → Ends (whole O J scratch) (whole O J' scratch)
    unfolding whole
    twins_whole scratch enough = twins_first scratch enough _
