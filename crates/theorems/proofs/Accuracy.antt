-- Accuracy: an honest run keeps the invariant, so it finishes, with the scores on plain inputs, in as many rounds and words as the circuit says.
-- Assumes nothing.
use Prim.Native.Nat.{ℕ, zero, suc, ◌+◌, ◌*◌, ◌<◌}
use mathlib.Core.Path.{◌≡◌, refl, sym, ap, ap₂, subst, ◌∙◌}
use mathlib.Core.Logic.{inl, inr}
use mathlib.Core.Bool.{Bool, true, false}
use mathlib.Core.List.{List, [], ◌∷◌, ◌++◌, append-nil}
use native.Mathlib.Omega.{arith}
use lib.ListN.{length, get_or, length-append}
use Rattle.algebra.specs.Ops.{Ops}
use Rattle.algebra.specs.Field.{Field}
use Rattle.algebra.specs.Sum.{sum}
use Rattle.field.specs.Words.{ops}
use Rattle.field.proofs.Laws.{laws}
use Rattle.algebra.proofs.Sums.{sum_ext}
use Rattle.circuit.specs.Gate.{gate, gates}
use Rattle.circuit.specs.Kind.{Local, Output, shape, is_out, seen_by, everyone, receiver, has_value, is_linear}
use Rattle.circuit.specs.Count.{unchecked}
use Rattle.circuit.specs.Round.{First, Second, Round, Own, Open, Commit, Reveal, rounds, following, words, opened_in, over_run, word_count}
use Rattle.circuit.proofs.Tests.{by_cases}
use Rattle.circuit.proofs.KindLaws.{is_class_lem, class_is, local_no_out, owned_no_out, opens_no_out}
use Rattle.circuit.proofs.Gates.{receiver_named}
use Rattle.circuit.proofs.RoundLaws as Order
use Rattle.protocol.specs.Part.{Part}
use Rattle.protocol.specs.Scratch.{layout, wire, read, Value, ValueMac}
use Rattle.protocol.specs.Position.{Point, Stage, Send, Receive, Finished, Aborted, finished, follow, when_sending}
use Rattle.protocol.specs.Party.{key}
use Rattle.protocol.specs.Receive.{score, scored}
use Rattle.protocol.specs.Entry.{releases}
use Rattle.protocol.specs.Joint.{Joint, party}
use Rattle.protocol.specs.Run.{State, Run, begun, said, released, still, run, whole, most_rounds}
use Rattle.protocol.specs.Plain.{value, score_of, scores_seen, scores}
use Rattle.protocol.specs.Good.{whole_key}
use Rattle.theorems.specs.Premises.{Honest, after}
use Rattle.theorems.specs.Accuracy.{Accurate, the_key, open_after}
use Rattle.theorems.specs.Abort.{Fails}
use Rattle.theorems.specs.Apart.{released_to, outputs_to}
use Rattle.protocol.proofs.Said.{length_said}
use Rattle.protocol.proofs.Tails.{nonce_room}
use Rattle.theorems.proofs.Given.{Given, given_honest}
use Rattle.theorems.proofs.Closed.{Opening, Shown, shows, every_at, keys, sum_of, wires, opened, opened_value, accurate, CarriesOpened}
use Rattle.theorems.proofs.Closed.{carries_shown, shown_score}
use Rattle.theorems.proofs.Holds.{Holds}
use Rattle.protocol.proofs.Points.{FitsStage, sending, spent_stage, spent, done_stage, done, goes_start, goes_resume, follow_stays}
use Rattle.protocol.proofs.Points.{follow_leaves, spent_follow}
use Rattle.theorems.proofs.Sent.{revealed_sum_lem}
use Rattle.theorems.proofs.Sealing.{Kept, kept_room, kept_after}
use Rattle.theorems.proofs.Honest.{under_check, pending, length_pending, Inv, HoldsAt, fits_at, holds_at, checks_at}
use Rattle.theorems.proofs.Honest.{carries_pending, passing, point_step, inv_step, inv_begun}
use Rattle.theorems.proofs.Runs.{Idle, longer, first as firstly, last_first, first_longer, first_idle, after_step, after_idle, outputs_step, outputs_idle, listed}
use Rattle.theorems.proofs.Abort.{aborts, finished_rounds, most_rounds_lem}

-- A is those who see the scores
module _ (O : Ops) (J : Joint) (A : ℕ → Bool) (x : ℕ) where
  -- A gate that is no output has no score ..
  no_score : is_out (gate J.circuit x) ≡ false → score_of O J A (gate J.circuit x) ≡ []
  unfolding score_of
  no_score e = rw e

  -- .. and a linear gate is none.
  scores_linear : is_linear (gate J.circuit x) ≡ true → scores_seen O J A (suc x) ≡ scores_seen O J A x
  unfolding scores_seen
  scores_linear e = ap (λ (l : List ℕ). scores_seen O J A x ++ l) (no_score (local_no_out (is_class_lem Local e))) ∙ append-nil (scores_seen O J A x)

module _ {O : Ops} (F : Field O) (J : Joint) (scratch : List ℕ) (honest : Honest O J scratch) where
  -- The run has all that an honest run is given.
  has : Given O J
  has = given_honest F J scratch honest

  -- the state after k rounds
  abbrev state : ℕ → State
  state k = after O J scratch k

  -- A run keeps what it keeps on any preprocessing ..
  kept : (k : ℕ) → Kept O J (state k)
  kept = kept_after O J scratch honest.enough has.valid

  -- .. and the invariant holds after any number of rounds.
  pub inv_after : (k : ℕ) → Inv O J (state k)
  unfolding after
  inv_after zero = inv_begun F J has scratch honest.enough.room
  inv_after (suc k) = go (state k).point.stage refl (inv_after k)
    where
      go : (g : Stage) → (state k).point.stage ≡ g → Inv O J (state k) → Inv O J (state (suc k))
      go (Send r) e inv = subst (Inv O J) (sym (after_step O J scratch k r e)) (inv_step F J has (state k) (kept k) inv r e)
      go (Receive r) e inv = subst (Inv O J) (sym (after_idle O J scratch k (subst Idle (sym e) tt))) inv
      go Finished e inv = subst (Inv O J) (sym (after_idle O J scratch k (subst Idle (sym e) tt))) inv
      go Aborted e inv = subst (Inv O J) (sym (after_idle O J scratch k (subst Idle (sym e) tt))) inv

  -- what each party's scratch has of the gates before the point
  record Worked (k x : ℕ) : Type 0 where
    below : x < gates J.circuit
    parts : (i : ℕ) → i < J.parties → wire (layout J.circuit) ((state k).scratch i) x ≡ wires O J x i

  -- Every party's scratch has its part of each gate worked out.
  worked : (k x : ℕ) → x < (state k).point.gate → has_value (gate J.circuit x) ≡ true → Worked k x
  worked k x l v = go (state k).point.stage (inv_after k).fits (inv_after k).bands
    where
      go : (g : Stage) → FitsStage J.circuit (state k).point.gate g
          → ((i : ℕ) → i < J.parties → HoldsAt O J i (state k).point.gate g ((state k).scratch i))
          → Worked k x
      go (Send r) f h = record { below = omega (arith, f.0); parts = λ i li. (h i li).worked x l v }
      go (Receive r) f h = absurd f
      go Finished f h = record { below = omega arith; parts = λ i li. (h i li).worked x (omega arith) v }
      go Aborted f h = absurd f

  -- The key is the sum of the key shares.
  key_is : sum O J.parties (keys O J) ≡ the_key O J scratch
  unfolding keys key party whole_key
  key_is = refl

  -- The shares of each gate worked out sum to its value ..
  shares_are : (k x : ℕ) → x < (state k).point.gate → has_value (gate J.circuit x) ≡ true
      → sum O J.parties (λ i. (wire (layout J.circuit) ((state k).scratch i) x).share) ≡ value O J x
  shares_are k x l v =
      let w = worked k x l v in
      sum_ext F J.parties _ _ (λ i li. ap (λ (p : Part). p.share) (w.parts i li)) ∙ (accurate F J has x w.below v).shares

  -- .. and the MAC shares to the key times that.
  macs_are : (k x : ℕ) → x < (state k).point.gate → has_value (gate J.circuit x) ≡ true
      → sum O J.parties (λ i. (wire (layout J.circuit) ((state k).scratch i) x).mac) ≡ O.mul (the_key O J scratch) (value O J x)
  macs_are k x l v =
      let w = worked k x l v in
      sum_ext F J.parties _ _ (λ i li. ap (λ (p : Part). p.mac) (w.parts i li))
      ∙ (accurate F J has x w.below v).macs
      ∙ ap (λ (a : ℕ). O.mul a (value O J x)) key_is

  -- opened entry t after k rounds, at each party
  record Entry (k t : ℕ) : Type 0 where
    which : Opening
    carried : CarriesOpened F J has which
    values : (i : ℕ) → i < J.parties → read (layout J.circuit) ((state k).scratch i) (Value t) ≡ sum_of O J (opened O J which)
    macs : (i : ℕ) → i < J.parties → read (layout J.circuit) ((state k).scratch i) (ValueMac t) ≡ (opened O J which i).mac

  -- Every entry that is opened and unchecked is one of the closed form.
  entry : (k t : ℕ) → t < open_after O J scratch k → Entry k t
  unfolding when_sending
  entry k t l = go (state k).point.stage refl l
    where
      go : (g : Stage) → (state k).point.stage ≡ g → t < when_sending g 0 (opened_in (unchecked J.circuit (state k).point.gate)) → Entry k t
      go (Send r) e l =
          let inv = inv_after k in
          let f = fits_at O J (state k) r e inv in
          let lt : t < length (pending J.circuit (state k).point.gate r) = omega (arith, length_pending J.circuit (state k).point.gate r) in
          record {
            which = get_or (pending J.circuit (state k).point.gate r) t (Shown 0);
            carried = every_at (CarriesOpened F J has) (pending J.circuit (state k).point.gate r) (carries_pending F J has (state k).point.gate r f) t lt;
            values = λ i li. (holds_at O J (state k) r e inv i li).values t lt;
            macs = λ i li. (holds_at O J (state k) r e inv i li).macs t lt;
          }
      go (Receive r) e l = absurd (omega arith)
      go Finished e l = absurd (omega arith)
      go Aborted e l = absurd (omega arith)

  -- Opened values are alike at all parties ..
  alike : (k t i : ℕ) → t < open_after O J scratch k → i < J.parties
      → read (layout J.circuit) ((state k).scratch i) (Value t) ≡ read (layout J.circuit) ((state k).scratch 0) (Value t)
  alike k t i l li = let o = entry k t l in o.values i li ∙ sym (o.values 0 has.some)

  -- .. and their MAC shares sum to the key times them.
  opened_macs_are : (k t : ℕ) → t < open_after O J scratch k
      → sum O J.parties (λ i. read (layout J.circuit) ((state k).scratch i) (ValueMac t))
      ≡ O.mul (the_key O J scratch) (read (layout J.circuit) ((state k).scratch 0) (Value t))
  unfolding sum_of
  opened_macs_are k t l =
      let o = entry k t l in
      sum_ext F J.parties _ _ o.macs
      ∙ o.carried.macs
      ∙ ap₂ O.mul key_is (sym o.carried.shares ∙ sym (o.values 0 has.some))

  -- No check fails.
  no_fail : (k : ℕ) (r : Round) → Fails O J scratch k r → ⊥
  no_fail k r f =
      f.nonzero (revealed_sum_lem F J (state k) r f.reveals (kept_room O J (state k) (kept k)) ∙ checks_at O J (state k) r f.sending (inv_after k) f.reveals)

  -- So the run finishes.
  finishing : (whole O J scratch).last.point ≡ finished J.circuit
  finishing = (aborts O J scratch honest.accepts honest.enough).finishes no_fail

  -- what a round releases, where s is an honest state about to send it
  module _ (s : State) (keeps : Kept O J s) (inv : Inv O J s) where
    -- the gate of the round
    abbrev at : ℕ
    at = s.point.gate

    -- What the last check of an output releases is the output's value on plain inputs.
    releases_value : s.point.stage ≡ Send (Reveal Second) → (shape (gate J.circuit at)).class ≡ Output
        → released O J s (Reveal Second) ≡ value O J (gate J.circuit at).first ∷ []
    unfolding released scored score party
    releases_value e k =
        rw (passing F J has s (Reveal Second) e keeps inv, stored) (ap (λ (v : ℕ). v ∷ []) (shown_score F J has at below k))
      where
        below : at < gates J.circuit
        below = (fits_at O J s (Reveal Second) e inv).0

        i : ℕ
        i = receiver (gate J.circuit at)

        held : Holds O J i at (shows at (gate J.circuit at) ∷ []) (s.scratch i)
        held = unfold pending under_check in holds_at O J s (Reveal Second) e inv i (receiver_named has.valid at below has.some)

        stored : read (layout J.circuit) (s.scratch i) (Value 0) ≡ opened_value O J (shows at (gate J.circuit at))
        stored = held.values 0 (omega arith) ∙ (unfold sum_of in (carries_shown F J has at below k).shares)

    -- To A it is released where a party of A sees it.
    releases_score : (A : ℕ → Bool) → s.point.stage ≡ Send (Reveal Second) → (shape (gate J.circuit at)).class ≡ Output
        → released_to O J A s (Reveal Second) ≡ score_of O J A (gate J.circuit at)
    unfolding released_to score_of
    releases_score A e k = let o : is_out (gate J.circuit at) ≡ true = class_is k in rw (releases_value e k, o)

    -- Other rounds release nothing.
    releases_none : (A : ℕ → Bool) (r : Round) → releases r ≡ false → released_to O J A s r ≡ []
    unfolding released_to released
    releases_none A r e = by_cases (seen_by A (gate J.circuit at)) (λ z. rw (z, e)) (λ z. rw z)

    -- A round within an output adds no score.
    score_stays : (A : ℕ → Bool) (r r' : Round) (rest : List Round) → following r (rounds J.circuit at) ≡ r' ∷ rest
        → releases r ≡ false
        → scores_seen O J A (done J.circuit (follow J.circuit at r)) ≡ scores_seen O J A at ++ released_to O J A s r
    unfolding done_stage
    score_stays A r r' rest f none = rw (releases_none A r none, follow_stays J.circuit at r r' rest f) (sym (append-nil (scores_seen O J A at)))

    -- The last round of a gate adds the gate's score.
    score_leaves : (A : ℕ → Bool) (r : Round) → s.point.stage ≡ Send r → following r (rounds J.circuit at) ≡ []
        → released_to O J A s r ≡ score_of O J A (gate J.circuit at)
        → scores_seen O J A (done J.circuit (follow J.circuit at r)) ≡ scores_seen O J A at ++ released_to O J A s r
    unfolding scores_seen
    score_leaves A r e f score =
        ap (λ (p : Point). scores_seen O J A (done J.circuit p)) (follow_leaves J.circuit at r f)
        ∙ (goes_resume J.circuit (suc at) (fits_at O J s r e inv).0).done_is (scores_seen O J A) (scores_linear O J A)
        ∙ ap (λ (l : List ℕ). scores_seen O J A at ++ l) (sym score)

    -- A round releases the scores that it completes.
    score_step : (A : ℕ → Bool) (r : Round) → s.point.stage ≡ Send r
        → scores_seen O J A (done J.circuit (follow J.circuit at r)) ≡ scores_seen O J A at ++ released_to O J A s r
    score_step A r e = go r e (Order.class_at_round J.circuit at r (fits_at O J s r e inv).1) (Order.after_round J.circuit at r (fits_at O J s r e inv).1)
      where
        go : (r : Round) → s.point.stage ≡ Send r → Order.RoundClass r (shape (gate J.circuit at)).class
            → following r (rounds J.circuit at) ≡ Order.after r
            → scores_seen O J A (done J.circuit (follow J.circuit at r)) ≡ scores_seen O J A at ++ released_to O J A s r
        go Own e (inl k) f = score_leaves A Own e f (releases_none A Own refl ∙ sym (no_score O J A at (owned_no_out k)))
        go Own e (inr k) f = score_leaves A Own e f (releases_none A Own refl ∙ sym (no_score O J A at (opens_no_out k)))
        go Open e k f = score_stays A Open (Commit Second) _ f refl
        go (Commit h) e k f = score_stays A (Commit h) (Reveal h) _ f refl
        go (Reveal First) e k f = score_stays A (Reveal First) Open _ f refl
        go (Reveal Second) e k f = score_leaves A (Reveal Second) e f (releases_score A e k)

  -- the words of a round
  abbrev words_of : ℕ → Round → ℕ
  words_of j r = words (gate J.circuit j) r

  -- what a run of k rounds has told: as many words as lie behind the point, and to those who see them the scores of the gates that are done
  record Told (k : ℕ) : Type 0 where
    said_so_far : length (firstly O J scratch k).transcript ≡ J.parties * spent J.circuit words_of (state k).point
    given_out : (A : ℕ → Bool) → outputs_to O J scratch A k ≡ scores_seen O J A (done J.circuit (state k).point)

  -- Nothing is told before the first round.
  told_begun : Told 0
  unfolding run still begun after over_run scores_seen outputs_to
  told_begun =
      let start = goes_start J.circuit has.valid in
      record {
        said_so_far = omega (arith, ap (λ (m : ℕ). J.parties * m) (start.spent_is words_of));
        given_out = λ A. sym (start.done_is (scores_seen O J A) (scores_linear O J A));
      }

  -- A round tells what is its own.
  told_step : (k : ℕ) (r : Round) → (state k).point.stage ≡ Send r → Told k → Told (suc k)
  unfolding longer done_stage
  told_step k r e t =
      record {
        said_so_far =
            omega (
              arith,
              t.said_so_far,
              ap (λ (m : ℕ). J.parties * m) behind,
              ap (λ (m : ℕ). J.parties * m) spent_next,
              longer_by,
            );
        given_out =
            λ A. outputs_step O J scratch A k r e
            ∙ ap (λ (l : List ℕ). l ++ released_to O J A (state k) r)
            (t.given_out A ∙ ap (λ (g : Stage). scores_seen O J A (done_stage J.circuit at_k g)) e)
            ∙ sym (score_step (state k) (kept k) (inv_after k) A r e)
            ∙ ap (λ (p : Point). scores_seen O J A (done J.circuit p)) (sym place);
      }
    where
      at_k : ℕ
      at_k = (state k).point.gate

      fits : FitsStage J.circuit at_k (Send r)
      fits = fits_at O J (state k) r e (inv_after k)

      place : (state (suc k)).point ≡ follow J.circuit at_k r
      place = ap (λ (s : State). s.point) (after_step O J scratch k r e) ∙ point_step F J has (state k) (kept k) (inv_after k) r e

      behind : spent J.circuit words_of (state k).point ≡ spent J.circuit words_of (sending at_k r)
      behind = ap (spent_stage J.circuit words_of at_k) e

      spent_next : spent J.circuit words_of (state (suc k)).point ≡ spent J.circuit words_of (sending at_k r) + words_of at_k r
      spent_next = rw place (spent_follow J.circuit words_of at_k r fits)

      longer_by : length (firstly O J scratch (suc k)).transcript ≡ length (firstly O J scratch k).transcript + J.parties * words_of at_k r
      longer_by =
          ap (λ (R : Run). length R.transcript) (first_longer O J scratch k r e)
          ∙ length-append (firstly O J scratch k).transcript (said O J (firstly O J scratch k).last r)
          ∙ ap (λ (s : State). length (firstly O J scratch k).transcript + length (said O J s r)) (last_first O J scratch k)
          ∙ ap (λ (m : ℕ). length (firstly O J scratch k).transcript + m) (length_said O J (state k) r fits.1 (λ i l. nonce_room J.parties J.circuit (kept_room O J (state k) (kept k) i l)))

  -- Where nothing is sent nothing is told.
  told_idle : (k : ℕ) → Idle (state k).point.stage → Told k → Told (suc k)
  told_idle k h t =
      record {
        said_so_far = rw (first_idle O J scratch k h, after_idle O J scratch k h) t.said_so_far;
        given_out = λ A. rw (outputs_idle O J scratch A k h, after_idle O J scratch k h) (t.given_out A);
      }

  -- So it is after any number of rounds.
  told : (k : ℕ) → Told k
  told zero = told_begun
  told (suc k) = go (state k).point.stage refl (told k)
    where
      go : (g : Stage) → (state k).point.stage ≡ g → Told k → Told (suc k)
      go (Send r) e t = told_step k r e t
      go (Receive r) e t = told_idle k (subst Idle (sym e) tt) t
      go Finished e t = told_idle k (subst Idle (sym e) tt) t
      go Aborted e t = told_idle k (subst Idle (sym e) tt) t

  -- the rounds that a run is given
  abbrev all : ℕ
  all = most_rounds O J * gates J.circuit

  -- All rounds that a run is given lead to the end.
  at_end : (state all).point ≡ finished J.circuit
  unfolding whole
  at_end = ap (λ (s : State). s.point) (sym (last_first O J scratch all)) ∙ finishing

  -- Every word of the circuit lies behind it.
  spent_all : spent J.circuit words_of (state all).point ≡ word_count J.circuit
  unfolding spent_stage finished word_count
  spent_all = ap (spent J.circuit words_of) at_end

  -- Where it is finished, those who see scores have got them ..
  pub seen_are : (A : ℕ → Bool) (k : ℕ) → (state k).point ≡ finished J.circuit → outputs_to O J scratch A k ≡ scores_seen O J A (gates J.circuit)
  unfolding finished done_stage
  seen_are A k e = (told k).given_out A ∙ ap (λ (p : Point). scores_seen O J A (done J.circuit p)) e

  -- .. and the run releases the scores on plain inputs ..
  outputs_are : (whole O J scratch).outputs ≡ scores O J (gates J.circuit)
  unfolding whole
  outputs_are = sym (listed O J scratch all) ∙ seen_are everyone all at_end

  -- .. and each party sends the circuit's words.
  words_are : length (whole O J scratch).transcript ≡ J.parties * word_count J.circuit
  unfolding whole
  words_are = (told all).said_so_far ∙ ap (λ (m : ℕ). J.parties * m) spent_all

  -- All that accuracy claims.
  accurate_run : Accurate O J scratch
  accurate_run =
      record {
        shares = shares_are;
        macs = macs_are;
        opened_alike = alike;
        opened_macs = opened_macs_are;
        finishes = finishing;
        outputs = outputs_are;
        rounds = finished_rounds O J scratch honest.accepts finishing;
        at_most = (most_rounds_lem O J scratch honest.accepts).1;
        words = words_are;
      }

-- Accuracy: on good preprocessing a joint run computes the circuit's values on plain inputs, and finishes.
pub accuracy : {O : Ops} (F : Field O) (J : Joint) (scratch : List ℕ) → Honest O J scratch → Accurate O J scratch
accuracy F J scratch honest = accurate_run F J scratch honest

-- The same at the field that the code works with.
pub accuracy_here : (J : Joint) (scratch : List ℕ) → Honest ops J scratch → Accurate ops J scratch
accuracy_here = accuracy laws
