-- A joint run that can be computed. The marks' hash is shut, and a run of an accepted circuit asks of it only that it is a function: it is the run in
-- which the marks are looked up among those that are known, and in which a reveal is decided by the sum alone.
-- Assumes nothing.
use Prim.Native.Nat.{ℕ, zero, suc, ◌+◌, ◌*◌}
use mathlib.Core.Path.{◌≡◌, refl, sym, ap, ap₂, ◌∙◌}
use mathlib.Core.Bool.{true, cond, ◌&&◌}
use mathlib.Core.List.{List, [], ◌∷◌, ◌++◌}
use lib.Dec.{eqb}
use lib.ListN.{drop}
use Rattle.algebra.specs.Ops.{Ops}
use Rattle.sha256.specs.Sha256.{word_of, words_of}
use Rattle.sha256.specs.Digest.{digest, same}
use Rattle.circuit.specs.Verdict.{Accepted}
use Rattle.circuit.specs.Gate.{gate, gates}
use Rattle.circuit.specs.Kind.{receiver}
use Rattle.circuit.specs.Round.{Check, Round, Own, Open, Commit, Reveal, is_reveal, commit_words, reveal_words, commits_in, nonce_in, check_count}
use Rattle.circuit.proofs.Tests.{by_cases}
use Rattle.circuit.proofs.Valid.{valid}
use Rattle.protocol.specs.Scratch.{layout, scratch_size, band, marks_of}
use Rattle.protocol.specs.Position.{Stage, Send, Receive, Finished, Aborted, keep, when_sending, when_receiving}
use Rattle.protocol.specs.Party.{Party}
use Rattle.protocol.specs.Send.{revealed, mark, overwrite, sent, holds}
use Rattle.protocol.specs.Receive.{Blame, Nobody, Blames, Ruling, Passed, passed, fits, first_blame, misfit, weighs, heard_sum, ruling, scored, next, finds, left}
use Rattle.protocol.specs.Ask.{ask_receive}
use Rattle.protocol.specs.Entry.{answer, leave, releases, concludes, outcome, receive_answer}
use Rattle.protocol.specs.Joint.{Joint, joined, party, nonce_for}
use Rattle.protocol.specs.Run.{State, Run, blamed, begun, takes, taken, said, notes, ends, step, released, still, ahead, run, whole, most_rounds}
use Rattle.protocol.specs.JointEntry.{ended, jointly, verdict, joint_answer, joint_scratch, joint_transcript, joint_outputs}
use Rattle.protocol.proofs.Computing.{computing}
use Rattle.protocol.proofs.Marks.{ends_other}
use Rattle.theorems.specs.Premises.{Accepts, Enough, after}
use Rattle.theorems.specs.Binding.{receiving_at}
use Rattle.theorems.proofs.Known.{lookup, known, hashed, hash_is}
use Rattle.theorems.proofs.Runs.{last_first}
use Rattle.theorems.proofs.Given.{some_party}
use Rattle.theorems.proofs.Sealing.{Kept, kept_step, kept_begun, ends_sum}

-- a joint run with the hash H
module _ (H : List ℕ → List ℕ) (O : Ops) (J : Joint) where
  -- what party i sends
  unfoldable pub sends : State → Round → ℕ → List ℕ
  sends s Own i = sent O (party J i) (s.scratch i) s.point.gate (s.held i) (taken O J s Own) (nonce_for J s.checks i) Own
  sends s Open i = sent O (party J i) (s.scratch i) s.point.gate (s.held i) (taken O J s Open) (nonce_for J s.checks i) Open
  sends s (Commit k) i =
      H (revealed (holds O (party J i) (s.scratch i) s.point.gate (Commit k) (taken O J s (Commit k))) (words_of (nonce_for J s.checks i)))
  sends s (Reveal k) i = sent O (party J i) (s.scratch i) s.point.gate (s.held i) (taken O J s (Reveal k)) (nonce_for J s.checks i) (Reveal k)

  unfoldable pub says : State → Round → List ℕ
  says s r = joined J.parties (sends s r)

  -- how a round ends whose words are these
  unfoldable pub weighed : Round → List ℕ → Ruling
  weighed r heard = cond (is_reveal r) (weighs Nobody (eqb (heard_sum O J.parties reveal_words 0 heard) 0)) Passed

  -- a round of these words that ends so
  unfoldable pub step_of : State → Round → List ℕ → Ruling → State
  step_of s r heard v =
      record {
        point = next J.circuit s.point.gate r v;
        held = λ i. keep r (holds O (party J i) (s.scratch i) s.point.gate r (taken O J s r));
        scratch = λ i. left O (party J i) v (notes O J s r i) s.point.gate r heard;
        used = s.used + takes O J s r;
        checks = s.checks + commits_in r;
        blame = blamed v;
      }

  unfoldable pub freeing : State → Round → Ruling → List ℕ
  freeing s r v =
      let i = receiver (gate J.circuit s.point.gate) in
      cond (releases r && passed v) (scored O (party J i) (s.scratch i) s.point.gate ∷ []) []

  unfoldable pub ahead_of : State → Round → List ℕ → Ruling → Run → Run
  ahead_of s r heard v rest =
      record {
        transcript = heard ++ rest.transcript;
        outputs = freeing s r v ++ rest.outputs;
        rounds = suc rest.rounds;
        last = rest.last;
      }

  unfoldable pub runs : ℕ → State → Run
  runs zero s = still O J s
  runs (suc k) s =
      when_sending s.point.stage (still O J s)
      (λ r. let heard = says s r in ahead_of s r heard (weighed r heard) (runs k (step_of s r heard (weighed r heard))))

module _ (O : Ops) (J : Joint) (scratch : List ℕ) (accepts : Accepts O J.parties J.circuit) (enough : Enough J scratch) where
  -- With the shut hash it is the joint run: in every round the words are the same ..
  said_is : (s : State) (r : Round) → said O J s r ≡ says digest O J s r
  unfolding said says sends
  said_is s Own = refl
  said_is s Open = refl
  said_is s (Commit k) = unfold sent mark in refl
  said_is s (Reveal k) = refl

  -- .. and how it ends.
  ends_is : (s : State) → Kept O J s → (r : Round) → s.point.stage ≡ Send r → ends O J s r ≡ weighed digest O J r (says digest O J s r)
  unfolding weighed
  ends_is s kept r e = by_cases (is_reveal r) reveals (λ z. rw z (ends_other O J s r z))
    where
      reveals : is_reveal r ≡ true → ends O J s r ≡ cond (is_reveal r) (weighs Nobody (eqb (heard_sum O J.parties reveal_words 0 (says digest O J s r)) 0)) Passed
      reveals z = rw (z, ← said_is s r) (ends_sum O J s kept (some_party J.parties accepts.parties) r e z)

  run_is : (k : ℕ) (s : State) → Kept O J s → run O J k s ≡ runs digest O J k s
  unfolding run runs
  run_is zero s kept = refl
  run_is (suc k) s kept = go s.point.stage refl (λ r e. run_is k (step O J s r) (kept_step O J scratch enough s r e kept))
    where
      go : (g : Stage) → s.point.stage ≡ g
          → ((r : Round) → s.point.stage ≡ Send r → run O J k (step O J s r) ≡ runs digest O J k (step O J s r))
          → when_sending g (still O J s) (λ r. ahead O J s r (run O J k (step O J s r)))
          ≡ when_sending g (still O J s)
          (λ r. ahead_of digest O J s r (says digest O J s r) (weighed digest O J r (says digest O J s r))
          (runs digest O J k (step_of digest O J s r (says digest O J s r) (weighed digest O J r (says digest O J s r)))))
      go (Send r) e later =
          unfold when_sending in
          (ap (ahead O J s r) (later r e)
          ∙ (unfold ahead released step ahead_of freeing step_of in
          ap₂ (λ (heard : List ℕ) (v : Ruling). ahead_of digest O J s r heard v (runs digest O J k (step_of digest O J s r heard v)))
          (said_is s r) (ends_is s kept r e)))
      go (Receive r) e later = unfold when_sending in refl
      go Finished e later = unfold when_sending in refl
      go Aborted e later = unfold when_sending in refl

  pub first_is : (k : ℕ) → run O J k (begun O J scratch) ≡ runs hashed O J k (begun O J scratch)
  first_is k =
      run_is k (begun O J scratch) (kept_begun O J scratch enough (valid J.parties O.size J.circuit accepts.circuit))
      ∙ ap (λ (H : List ℕ → List ℕ). runs H O J k (begun O J scratch)) hash_is

  pub state_is : (k : ℕ) → after O J scratch k ≡ (runs hashed O J k (begun O J scratch)).last
  state_is k = sym (last_first O J scratch k) ∙ ap (λ (R : Run). R.last) (first_is k)

  pub whole_is : whole O J scratch ≡ runs hashed O J (most_rounds O J * gates J.circuit) (begun O J scratch)
  unfolding whole
  whole_is = first_is (most_rounds O J * gates J.circuit)

module _ (O : Ops) (J : Joint) (scratch t o : List ℕ) (accepts : Accepts O J.parties J.circuit) (enough : Enough J scratch) where
  -- the run
  abbrev R : Run
  R = runs hashed O J (most_rounds O J * gates J.circuit) (begun O J scratch)

  -- What a call of the joint run answers and leaves is what that run gives.
  pub answer_is : joint_answer O J scratch t o ≡ jointly (verdict O J scratch t o) (ended R.last.point.stage R.last.point.gate R.last.blame R.rounds)
  unfolding joint_answer
  answer_is =
      ap (λ (R : Run). jointly (verdict O J scratch t o) (ended R.last.point.stage R.last.point.gate R.last.blame R.rounds))
      (whole_is O J scratch accepts enough)

  -- the scratch that it leaves
  abbrev pub left_by : List ℕ
  left_by = leave (verdict O J scratch t o) (joined J.parties R.last.scratch ++ drop (J.parties * scratch_size J.parties J.circuit) scratch) scratch

  pub scratch_is : joint_scratch O J scratch t o ≡ left_by
  unfolding joint_scratch
  scratch_is =
      ap (λ (R : Run). leave (verdict O J scratch t o) (joined J.parties R.last.scratch ++ drop (J.parties * scratch_size J.parties J.circuit) scratch) scratch)
      (whole_is O J scratch accepts enough)

  pub transcript_is : joint_transcript O J scratch t o ≡ leave (verdict O J scratch t o) (overwrite R.transcript t) t
  unfolding joint_transcript
  transcript_is = ap (λ (R : Run). leave (verdict O J scratch t o) (overwrite R.transcript t) t) (whole_is O J scratch accepts enough)

  pub outputs_are : joint_outputs O J scratch t o ≡ leave (verdict O J scratch t o) (overwrite R.outputs o) o
  unfolding joint_outputs
  outputs_are = ap (λ (R : Run). leave (verdict O J scratch t o) (overwrite R.outputs o) o) (whole_is O J scratch accepts enough)

-- what is alike of the scratch that two runs leave, where it is computed
pub left_alike : (O : Ops) (J K : Joint) (scratch t o : List ℕ) (accepts : Accepts O J.parties J.circuit) (enough : Enough J scratch)
    (accepts' : Accepts O K.parties K.circuit) (enough' : Enough K scratch) (f : List ℕ → List ℕ)
    → f (left_by O J scratch t o accepts enough) ≡ f (left_by O K scratch t o accepts' enough')
    → f (joint_scratch O J scratch t o) ≡ f (joint_scratch O K scratch t o)
left_alike O J K scratch t o accepts enough accepts' enough' f e =
    ap f (scratch_is O J scratch t o accepts enough) ∙ e ∙ sym (ap f (scratch_is O K scratch t o accepts' enough'))

-- the lowest party whose reveal does not fit its mark, where marks are made by the hash H
unfoldable pub misfits : (List ℕ → List ℕ) → ℕ → List ℕ → List ℕ → Blame
misfits H zero marks heard = Nobody
misfits H (suc n) marks heard =
    first_blame (misfits H n marks heard) (cond (same (H (band reveal_words heard n)) (band commit_words marks n)) Nobody (Blames n))

misfit_is : (n : ℕ) (marks heard : List ℕ) → misfit n marks heard ≡ misfits digest n marks heard
unfolding misfit misfits fits mark
misfit_is zero marks heard = refl
misfit_is (suc n) marks heard =
    ap (λ (b : Blame). first_blame b (cond (same (digest (band reveal_words heard n)) (band commit_words marks n)) Nobody (Blames n))) (misfit_is n marks heard)

-- What is answered to the hearing of a reveal.
pub reveal_is : (O : Ops) (P : Party) (l : List ℕ) (j held : ℕ) (k : Check) (heard : List ℕ)
    → ask_receive O.size P l (receiving_at j (Reveal k) held) heard ≡ Accepted
    → receive_answer O P l (receiving_at j (Reveal k) held) heard
    ≡ concludes O P (scored O P l j) j held (Reveal k)
    (weighs (misfits hashed P.parties (marks_of P.parties (layout P.circuit) l) heard) (eqb (heard_sum O P.parties reveal_words 0 heard) 0))
unfolding receive_answer answer when_receiving outcome finds ruling
reveal_is O P l j held k heard ok =
    rw ok
    (ap
    (λ (b : Blame). concludes O P (scored O P l j) j held (Reveal k) (weighs b (eqb (heard_sum O P.parties reveal_words 0 heard) 0)))
    (misfit_is P.parties _ heard ∙ ap (λ (H : List ℕ → List ℕ). misfits H P.parties (marks_of P.parties (layout P.circuit) l) heard) hash_is))

-- The definitions that a run with its marks computes by.
unfoldable pub hashing : Unit {0}
unfolding computing commits_in nonce_in check_count same sends says weighed step_of freeing ahead_of runs misfits word_of words_of lookup known
hashing = tt
