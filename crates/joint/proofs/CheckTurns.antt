-- Both rounds of a check: from a run in which a commitment is due to where its reveal leads. Whatever the preprocessing, each reveal fits its mark, so that the sum decides.
-- Assumes nothing.
use Prim.Native.Nat.{ℕ, suc, ◌+◌, ◌*◌, ◌<◌, ◌≤◌}
use mathlib.Core.Path.{◌≡◌, refl, sym, ap, ◌∙◌}
use mathlib.Core.Bool.{Bool, true, false, cond, ◌&&◌}
use mathlib.Core.List.{List, [], ◌∷◌}
use native.Mathlib.Omega.{arith}
use lib.ListN.{length, set}
use Rattle.algebra.specs.Element.{Is}
use Rattle.field.specs.Words.{size, ops}
use Rattle.circuit.specs.Gate.{gate_size, gate, gates}
use Rattle.circuit.specs.Kind.{mask_size, shape, is_give, receiver}
use Rattle.circuit.specs.Count.{total, prep_at, unchecked}
use Rattle.circuit.specs.Round.{Check, First, Second, Round, Open, Commit, Reveal, checked, opened_in, shape_words, commit_words, nonce_size, reveal_words, commits_in}
use Rattle.circuit.proofs.KindLaws.{give_prep}
use Rattle.circuit.proofs.Gates.{receiver_named}
use Rattle.protocol.specs.Scratch.{layout, band, written_at, nonce_of, put_nonce, put_marks}
use Rattle.protocol.specs.Position.{Point, Send, Aborted, aborted, resume, when_sending}
use Rattle.protocol.specs.Send.{mark, revealed, sent, noted}
use Rattle.protocol.specs.Receive.{Nobody, Passed, Stopped, passed, heard_sum, score, scored, received, left}
use Rattle.protocol.specs.Code.{layout_of}
use Rattle.protocol.specs.Holding.{Opened}
use Rattle.protocol.specs.Ready.{Ready, Settles}
use Rattle.protocol.specs.Entry.{releases}
use Rattle.protocol.specs.Joint.{Joint, party, nonce_for}
use Rattle.protocol.specs.Run.{blamed, said, notes, ends, step, released}
use Rattle.protocol.specs.JointEntry as E
use Rattle.protocol.proofs.Runs.{Over}
use Rattle.protocol.proofs.Scoring.{score_asks, score_made}
use Rattle.protocol.proofs.Tails.{length_written}
use Rattle.protocol.proofs.Words.{joined_ext}
use Rattle.protocol.proofs.Following.{next_follows, next_stops, weighs_zero, weighs_not}
use Rattle.protocol.proofs.Marks.{Sealed, ends_other, commit_sealed, said_shown, sealed_ends}
use Rattle.joint.specs.declared.Ending.{Ending}
use Rattle.joint.specs.declared.Frame.{Frame}
use Rattle.joint.specs.Code.{ending_of, Course, due_at, site_of, state_of, prep_from, key_in, Prepared, Banded, EachBand, rebanded, share_in, nonce_in, reveal_in, marks_in, reveals_in, noted_in, Checks, none_held, Moving, Moved, Runnable, Ran, Common}
use Rattle.joint.proofs.Parties.{lent_undrawn, lent_banded, lent_prepared, lent_record_is}
use Rattle.joint.proofs.States.{sealed_alike}
use Rattle.joint.proofs.Going.{within, occurs, rooms, nonces_long}
use Rattle.joint.proofs.Later.{resumed_prep}
use Rattle.joint.proofs.Releasing.{entry_zero, freed_one}
use Rattle.joint.proofs.SendTurns.{lent_all, record_end, check_asks, takes_are, holds_is, checked_is, said_by_lem}
use Rattle.joint.proofs.ReceiveTurns.{settled_left, left_alone, first_left, reveal_settles, reveal_received}
use Rattle.joint.proofs.Rounding.{said_received, received_step, stopped_step, round_moved, said_long}
use Rattle.joint.proofs.Running.{Running, running_moving, running_again, running_over, outputs_left}
use Rattle.joint.proofs.Checking.{held_of, held_long, held_at, share_low, noted_nonce}
use Rattle.joint.proofs.Turns.{none_held_lem, none_taken, none_begun, quiet_passed, quiet_named}
use Rattle.joint.proofs.Passing.{turned_none, turned_quietly}

-- nothing is sent where a run is aborted
over_aborted : Over Aborted
unfolding when_sending
over_aborted A a g = refl

-- a check that is stopped releases nothing
module _ (J : Joint) (f : Frame) (s : Course) (held l : List ℕ) (r : Round) (e : passed (ends ops J (state_of f s held l) r) ≡ false) where
  none_released : released ops J (state_of f s held l) r ≡ []
  unfolding released
  none_released = rw e (both_no (releases r) _)
    where
      both_no : (b : Bool) (x : ℕ) → cond (b && false) (x ∷ []) [] ≡ []
      both_no true x = refl
      both_no false x = refl

module _ {f : Frame} {c preps inputs coefficients nonces l₀ t₀ o₀ : List ℕ} (able : Runnable (lent_all f c preps inputs coefficients nonces) f l₀ t₀ o₀)
    {s : Course} {l t o : List ℕ} (k : Check) (inv : Running (lent_all f c preps inputs coefficients nonces) f l₀ t₀ o₀ s none_held l t o)
    (due : s.point.stage ≡ Send (Commit k)) {m : ℕ} (em : m ≡ checked (unchecked c s.point.gate) k) where
  abbrev J : Joint
  J = lent_all f c preps inputs coefficients nonces

  moving : Moving J f s (Commit k) none_held l t
  moving = running_moving J f l₀ t₀ o₀ able inv (Commit k) due

  some_parties : 0 < f.parties
  some_parties = omega (arith, moving.going.lent.some)

  opened_is : m ≡ opened_in (unchecked c s.point.gate) (Commit k)
  opened_is = em

  -- the check share of each, and the words of all
  abbrev share : ℕ → ℕ
  share = share_in f preps l m s.used coefficients

  abbrev marks : List ℕ
  marks = marks_in f preps l m s.used coefficients s.checks nonces

  abbrev reveals : List ℕ
  reveals = reveals_in f preps l m s.used coefficients s.checks nonces

  -- after the commitment
  abbrev sealed : Course
  sealed =
      record {
        point = due_at s.point.gate (Reveal k);
        prep = s.prep;
        used = s.used + m;
        checks = s.checks + 1;
        written = s.written + f.parties * commit_words;
        released = s.released;
        rounds = s.rounds + 1;
      }

  abbrev marked : List ℕ
  marked = written_at s.written marks t

  marks_said : marks ≡ said ops J (state_of f s none_held l) (Commit k)
  unfolding sent state_of nonce_for
  marks_said =
      said_by_lem moving.going (λ i. mark (reveal_in f preps l m s.used coefficients s.checks nonces i))
      (λ i h. ap (λ (x : ℕ). mark (revealed x (nonce_in f s.checks nonces i))) (holds_is moving.going refl opened_is i)) refl

  -- each band is that of the definition
  abbrev noted_band : ℕ → List ℕ
  noted_band = noted_in f preps l m s.used coefficients s.checks nonces

  commit_step : (i : ℕ) → i < f.parties → noted_band i ≡ (step ops J (state_of f s none_held l) (Commit k)).scratch i
  unfolding step left received notes noted state_of party nonce_for
  commit_step i h =
      ap (put_marks (layout_of f.layout) (put_nonce (layout_of f.layout) (band f.scratch l i) (nonce_in f s.checks nonces i))) marks_said
      ∙ rw (moving.going.lent.framed.lay, ends_other ops J (state_of f s none_held l) (Commit k) refl)

  marks_many : f.parties * commit_words ≡ length (said ops J (state_of f s none_held l) (Commit k))
  unfolding shape_words
  marks_many = sym (said_long moving)

  module _ {l₁ : List ℕ} (el : l₁ ≡ rebanded f (noted_in f preps l m s.used coefficients s.checks nonces) l) where
    sealed_moved : Moved J f s (Commit k) none_held l t sealed (held_of f.parties share) l₁ marked
    unfolding commits_in
    sealed_moved =
        round_moved moving noted_band commit_step el
        (quiet_named moving.going refl)
        (next_follows c s.point.gate _ (Commit k) (occurs J f s (Commit k) none_held l moving.going) (quiet_passed moving.going refl) refl)
        (λ r' e. moving.going.prep_is)
        (held_long f.parties share moving.going.lent.few)
        (λ i h. record { is = held_at f.parties share i h ∙ checked_is moving.going refl opened_is i; below = rw (held_at f.parties share i h) (share_low f preps l m s.used coefficients i) })
        (ap (λ (x : ℕ). s.used + x) (takes_are moving.going refl opened_is))
        refl
        (ap (λ (x : List ℕ). written_at s.written x t) marks_said)
        (ap (λ (x : ℕ). s.written + x) marks_many)
        refl

    sealed_running : Running J f l₀ t₀ o₀ sealed (held_of f.parties share) l₁ marked o
    sealed_running = running_again J f l₀ t₀ o₀ able inv (Commit k) due (turned_quietly J f s none_held l (Commit k) refl sealed_moved refl)

    revealing : Moving J f sealed (Reveal k) (held_of f.parties share) l₁ marked
    revealing = running_moving J f l₀ t₀ o₀ able sealed_running (Reveal k) refl

    -- every party has the marks of all
    is_sealed : Sealed ops J (state_of f sealed (held_of f.parties share) l₁)
    is_sealed =
        sealed_alike ops J (state_of f sealed (held_of f.parties share) l₁) (step ops J (state_of f s none_held l) (Commit k)) sealed_moved.alike
        (commit_sealed ops J (state_of f s none_held l) k (unfold state_of in rooms J f s (Commit k) none_held l moving.going) (unfold state_of in nonces_long J f s (Commit k) none_held l moving.going refl))

    nonces_there : nonce_size * (f.parties * (s.checks + 1)) ≤ length nonces
    unfolding commits_in
    nonces_there = moving.going.nonce_count

    -- what is revealed is what was committed to
    reveals_said : reveals ≡ said ops J (state_of f sealed (held_of f.parties share) l₁) (Reveal k)
    unfolding state_of
    reveals_said =
        joined_ext f.parties _ _
        (λ i h. rw (held_at f.parties share i h) (ap (revealed (share i)) (sym (nonce_back i h))))
        ∙ sym (said_shown ops J (state_of f sealed (held_of f.parties share) l₁) is_sealed k)
      where
        nonce_back : (i : ℕ) → i < f.parties → nonce_of (layout c) (band f.scratch l₁ i) ≡ nonce_in f s.checks nonces i
        nonce_back i h =
            rw (← moving.going.lent.framed.lay)
            (noted_nonce (lent_banded moving.going.lent moving.going.room) preps m s.used coefficients s.checks nonces el nonces_there i h)

    abbrev revealed_to : List ℕ
    revealed_to = written_at (s.written + f.parties * commit_words) reveals marked

    -- what the check asks
    pub check_asked : Common f l m → Checks f preps l m s.used coefficients s.checks nonces s.written t
    unfolding shape_words
    check_asked h =
        let a = check_asks moving.going refl opened_is in
        record {
          some = some_parties;
          few = a.0;
          keys = a.1;
          banded = a.2;
          has_coefficient_count = a.3;
          coefficients_low = a.4;
          nonce_count = nonces_there;
          entries = entry_zero c f.layout moving.going.lent.framed.lay;
          opened = a.5;
          common = h;
          words_fit = omega (arith, revealing.words_fit, length_written s.written marks t);
        }

    abbrev after : Point → ℕ → ℕ → Course
    after x p r =
        record {
          point = x;
          prep = p;
          used = s.used + m;
          checks = s.checks + 1;
          written = s.written + f.parties * commit_words + f.parties * reveal_words;
          released = r;
          rounds = s.rounds + 2;
        }

    words_put : revealed_to ≡ written_at (s.written + f.parties * commit_words) (said ops J (state_of f sealed (held_of f.parties share) l₁) (Reveal k)) marked
    words_put = ap (λ (x : List ℕ). written_at (s.written + f.parties * commit_words) x marked) reveals_said

    words_long : s.written + f.parties * commit_words + f.parties * reveal_words ≡ s.written + f.parties * commit_words + length (said ops J (state_of f sealed (held_of f.parties share) l₁) (Reveal k))
    unfolding shape_words
    words_long = ap (λ (x : ℕ). s.written + f.parties * commit_words + x) (sym (said_long revealing))

    module _ {v : ℕ} (ev : Is size (heard_sum ops f.parties reveal_words 0 (reveals_in f preps l m s.used coefficients s.checks nonces)) v) where
      sum_is : v ≡ heard_sum ops f.parties reveal_words 0 (said ops J (state_of f sealed (held_of f.parties share) l₁) (Reveal k))
      sum_is = ev.is ∙ ap (heard_sum ops f.parties reveal_words 0) reveals_said

      -- the sum is not zero: the run is stopped, and nobody is named
      module _ (z : v ≡ 0 → ⊥) where
        stops : ends ops J (state_of f sealed (held_of f.parties share) l₁) (Reveal k) ≡ Stopped Nobody
        stops = sealed_ends ops J (state_of f sealed (held_of f.parties share) l₁) is_sealed k some_parties ∙ weighs_not _ (λ e. z (sum_is ∙ e))

        stopped_moved : Moved J f sealed (Reveal k) (held_of f.parties share) l₁ marked (after (aborted s.point.gate) s.prep s.released) none_held l₁ revealed_to
        unfolding aborted
        stopped_moved =
            round_moved revealing _ (stopped_step revealing refl (ap passed stops))
            (left_alone f sealed c preps inputs l₁ [] (lent_undrawn revealing.going.lent) revealing.going.room)
            (ap blamed stops)
            (next_stops c s.point.gate _ (Reveal k) (ap passed stops) refl)
            (λ r' e. moving.going.prep_is) refl (none_held_lem revealing.going refl) (none_taken revealing.going refl) (none_begun revealing.going refl) words_put words_long (omega arith)

        pub check_stopped : {a : Ending} → ending_of a ≡ E.ended Aborted s.point.gate Nobody (s.rounds + 2) → Ran J l₀ t₀ o₀ a l₁ revealed_to o
        unfolding aborted
        check_stopped e =
            running_over J f l₀ t₀ o₀ able
            (running_again J f l₀ t₀ o₀ able sealed_running (Reveal k) refl
            (turned_none J f sealed (held_of f.parties share) l₁ (Reveal k) (none_released J f sealed (held_of f.parties share) l₁ (Reveal k) (ap passed stops)) stopped_moved refl))
            over_aborted e

      -- the sum is zero: the run goes on
      module _ (z : v ≡ 0) where
        pub goes : ends ops J (state_of f sealed (held_of f.parties share) l₁) (Reveal k) ≡ Passed
        goes = sealed_ends ops J (state_of f sealed (held_of f.parties share) l₁) is_sealed k some_parties ∙ weighs_zero _ (sym sum_is ∙ z)

-- the check of what was opened before an output
module _ {f : Frame} {c preps inputs coefficients nonces l₀ t₀ o₀ : List ℕ} (able : Runnable (lent_all f c preps inputs coefficients nonces) f l₀ t₀ o₀)
    {s : Course} {l t o : List ℕ} where
  module _ (inv : Running (lent_all f c preps inputs coefficients nonces) f l₀ t₀ o₀ s none_held l t o)
      (due : s.point.stage ≡ Send (Commit First)) {m : ℕ} (em : m ≡ unchecked c s.point.gate)
      {l₁ : List ℕ} (el : l₁ ≡ rebanded f (noted_in f preps l m s.used coefficients s.checks nonces) l)
      {v : ℕ} (ev : Is size (heard_sum ops f.parties reveal_words 0 (reveals_in f preps l m s.used coefficients s.checks nonces)) v) (z : v ≡ 0) where
    first_goes : ends ops (lent_all f c preps inputs coefficients nonces) (state_of f (sealed able First inv due em) (held_of f.parties (share able First inv due em)) l₁) (Reveal First) ≡ Passed
    first_goes = goes able First inv due em el ev z

    first_moved : Moved (lent_all f c preps inputs coefficients nonces) f (sealed able First inv due em) (Reveal First) (held_of f.parties (share able First inv due em)) l₁ (marked able First inv due em) (after able First inv due em el (due_at s.point.gate Open) s.prep s.released) none_held l₁ (revealed_to able First inv due em el)
    first_moved =
        let u = revealing able First inv due em el in
        round_moved u _ (received_step u refl (ap passed first_goes))
        (first_left f (sealed able First inv due em) c preps inputs l₁ _ (lent_undrawn u.going.lent) u.going.room)
        (ap blamed first_goes)
        (next_follows c s.point.gate _ (Reveal First) (occurs _ f _ (Reveal First) _ l₁ u.going) (ap passed first_goes) refl)
        (λ r' e. (moving able First inv due em).going.prep_is) refl (none_held_lem u.going refl) (none_taken u.going refl) (none_begun u.going refl) (words_put able First inv due em el) (words_long able First inv due em el) (omega arith)

    pub first_checked : Running (lent_all f c preps inputs coefficients nonces) f l₀ t₀ o₀ (after able First inv due em el (due_at s.point.gate Open) s.prep s.released) none_held l₁ (revealed_to able First inv due em el) o
    first_checked =
        running_again _ f l₀ t₀ o₀ able (sealed_running able First inv due em el) (Reveal First) refl
        (turned_quietly _ f (sealed able First inv due em) _ l₁ (Reveal First) refl first_moved refl)

  -- the check of an output, which releases it
  module _ (inv : Running (lent_all f c preps inputs coefficients nonces) f l₀ t₀ o₀ s none_held l t o)
      (due : s.point.stage ≡ Send (Commit Second))
      {l₁ : List ℕ} (el : l₁ ≡ rebanded f (noted_in f preps l 1 s.used coefficients s.checks nonces) l) where
    abbrev output_sealed : Course
    output_sealed = sealed able Second inv due refl

    output_revealing : Moving (lent_all f c preps inputs coefficients nonces) f output_sealed (Reveal Second) (held_of f.parties (share able Second inv due refl)) l₁ (marked able Second inv due refl)
    output_revealing = revealing able Second inv due refl el

    within_gates : s.point.gate < gates c
    within_gates = within _ f _ (Reveal Second) _ l₁ output_revealing.going

    next_record : (r : Round) → (resume c (suc s.point.gate)).stage ≡ Send r → s.prep + (shape (gate c s.point.gate)).prep ≡ prep_at c (resume c (suc s.point.gate)).gate
    unfolding prep_at total
    next_record r e = omega (arith, output_revealing.going.prep_is) ∙ sym (resumed_prep c s.point.gate within_gates r e)

    pub output_record : s.prep + (shape (gate c s.point.gate)).prep ≤ f.prep
    output_record = record_end output_revealing.going

    -- the receiver is a party, whose score can be read
    receives : receiver (gate c s.point.gate) < f.parties
    receives = receiver_named able.lent.valid s.point.gate within_gates (omega (arith, able.lent.some))

    score_ready : (i : ℕ) → i < f.parties → Ready size (party (lent_all f c preps inputs coefficients nonces) i) (band f.scratch l₁ i) f.layout (site_of c output_sealed i) (Reveal Second)
    score_ready = output_revealing.going.ready

    module _ {give : Bool} (eg : give ≡ is_give (gate c s.point.gate)) where
      pub score_asked :
          (gate_size * s.point.gate + gate_size ≤ length c)
          × (receiver (gate c s.point.gate) < f.parties)
          × Banded f l₁
          × Prepared f preps s.prep 0
          × (give ≡ true → s.prep + mask_size ≤ f.prep)
          × EachBand f l₁ (λ i x. Opened size (layout_of f.layout) x 0)
      unfolding site_of party
      score_asked = (
        (score_asks _ _ _ _ (score_ready _ receives)).0,
        receives,
        lent_banded output_revealing.going.lent output_revealing.going.room,
        lent_prepared output_revealing.going.lent s.prep 0 (omega (arith, output_record)),
        (λ b. omega (arith, output_record, give_prep (gate c s.point.gate) (sym eg ∙ b))),
        λ i h. (score_asks _ _ _ _ (score_ready i h)).5,
      )

      -- what the code reads is the receiver's score
      pub score_is : {x : ℕ}
          → x ≡ score ops (layout_of f.layout) (band f.scratch l₁ (receiver (gate c s.point.gate))) give (prep_from f preps s.prep (receiver (gate c s.point.gate)))
          → x ≡ scored ops (party (lent_all f c preps inputs coefficients nonces) (receiver (gate c s.point.gate))) (band f.scratch l₁ (receiver (gate c s.point.gate))) s.point.gate
      unfolding site_of party
      score_is e =
          score_made ops _ _ _ _ (Reveal Second) (score_ready _ receives) eg
          (lent_record_is output_revealing.going.lent output_revealing.going.prep_is within_gates (receiver (gate c s.point.gate))) e

    pub output_room_lem : s.released < length o
    output_room_lem = outputs_left _ f l₀ t₀ o₀ able (sealed_running able Second inv due refl el) (Reveal Second) refl refl

    pub output_settles : Prepared f preps 0 1
        × Banded f l₁
        × (0 < f.parties)
        × EachBand f l₁ (λ i x. Settles size c (layout_of f.layout) (key_in f preps i) x (s.point.gate + 1))
    output_settles =
        reveal_settles f output_sealed c preps inputs l₁ _ (lent_undrawn output_revealing.going.lent) output_revealing.going.room (said_received output_revealing)

    module _ {v : ℕ} (ev : Is size (heard_sum ops f.parties reveal_words 0 (reveals_in f preps l 1 s.used coefficients s.checks nonces)) v) (z : v ≡ 0)
        {l₂ : List ℕ} (es : l₂ ≡ rebanded f (settled_left f c preps l₁ (s.point.gate + 1)) l₁) {x : ℕ}
        (ex : x ≡ scored ops (party (lent_all f c preps inputs coefficients nonces) (receiver (gate c s.point.gate))) (band f.scratch l₁ (receiver (gate c s.point.gate))) s.point.gate) where
      second_goes : ends ops (lent_all f c preps inputs coefficients nonces) (state_of f output_sealed (held_of f.parties (share able Second inv due refl)) l₁) (Reveal Second) ≡ Passed
      second_goes = goes able Second inv due refl el ev z

      second_moved : Moved (lent_all f c preps inputs coefficients nonces) f output_sealed (Reveal Second) (held_of f.parties (share able Second inv due refl)) l₁ (marked able Second inv due refl) (after able Second inv due refl el (resume c (suc s.point.gate)) (s.prep + (shape (gate c s.point.gate)).prep) (s.released + 1)) none_held l₂ (revealed_to able Second inv due refl el)
      second_moved =
          round_moved output_revealing _ (received_step output_revealing refl (ap passed second_goes))
          (reveal_received f output_sealed c preps inputs l₁ _ (lent_undrawn output_revealing.going.lent) output_revealing.going.room (said_received output_revealing) es)
          (ap blamed second_goes)
          (next_follows c s.point.gate _ (Reveal Second) (occurs _ f _ (Reveal Second) _ l₁ output_revealing.going) (ap passed second_goes) refl)
          next_record refl (none_held_lem output_revealing.going refl) (none_taken output_revealing.going refl) (none_begun output_revealing.going refl) (words_put able Second inv due refl el) (words_long able Second inv due refl el) (omega arith)

      released_here : (s.released + 1 ≡ s.released + length (released ops (lent_all f c preps inputs coefficients nonces) (state_of f output_sealed (held_of f.parties (share able Second inv due refl)) l₁) (Reveal Second)))
          × (set o s.released x ≡ written_at s.released (released ops (lent_all f c preps inputs coefficients nonces) (state_of f output_sealed (held_of f.parties (share able Second inv due refl)) l₁) (Reveal Second)) o)
      unfolding released state_of
      released_here =
          freed_one (Reveal Second)
          (ends ops (lent_all f c preps inputs coefficients nonces) (state_of f output_sealed (held_of f.parties (share able Second inv due refl)) l₁) (Reveal Second)) s.released o refl (ap passed second_goes) ex

      pub second_checked : Running (lent_all f c preps inputs coefficients nonces) f l₀ t₀ o₀ (after able Second inv due refl el (resume c (suc s.point.gate)) (s.prep + (shape (gate c s.point.gate)).prep) (s.released + 1)) none_held l₂ (revealed_to able Second inv due refl el) (set o s.released x)
      second_checked =
          running_again _ f l₀ t₀ o₀ able (sealed_running able Second inv due refl el) (Reveal Second) refl
          (record { moved = second_moved; outputs = released_here.1; given = released_here.0 })
