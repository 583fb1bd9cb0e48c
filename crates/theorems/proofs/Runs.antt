-- A run, round after round: what one round more adds to it.
-- Assumes nothing.
use Prim.Native.Nat.{ℕ, zero, suc, ◌+◌}
use mathlib.Core.Path.{◌≡◌, refl, sym, ap, ap₂, subst, ◌∙◌}
use mathlib.Core.Bool.{Bool}
use mathlib.Core.List.{List, ◌++◌, append_assoc, append-nil}
use native.Mathlib.Nat.{add-zero, add-suc}
use Rattle.algebra.specs.Ops.{Ops}
use Rattle.circuit.specs.Gate.{gate}
use Rattle.circuit.specs.Kind.{everyone}
use Rattle.circuit.specs.Round.{Round}
use Rattle.circuit.proofs.KindLaws.{everyone_sees}
use Rattle.protocol.specs.Position.{Stage, Send, Receive, Finished, Aborted, when_sending}
use Rattle.protocol.specs.Joint.{Joint}
use Rattle.protocol.specs.Run.{State, Run, begun, said, step, released, still, ahead, run}
use Rattle.theorems.specs.Premises.{after}
use Rattle.theorems.specs.Apart.{released_to, outputs_to}

-- a stage at which nothing is sent
abbrev pub Idle : Stage → Type 0
Idle (Send r) = ⊥
Idle (Receive r) = Unit {0}
Idle Finished = Unit {0}
Idle Aborted = Unit {0}

-- At such a stage there is nothing to do.
pub when_idle : {A : Type 0} (g : Stage) (x : A) (f : Round → A) → Idle g → when_sending g x f ≡ x
unfolding when_sending
when_idle (Send r) x f h = absurd h
when_idle (Receive r) x f h = refl
when_idle Finished x f h = refl
when_idle Aborted x f h = refl

-- At a sending half there is the round to do.
pub when_sending_lem : {A : Type 0} (g : Stage) (x : A) (f : Round → A) (r : Round) → g ≡ Send r → when_sending g x f ≡ f r
unfolding when_sending
when_sending_lem g x f r e = rw e

module _ (O : Ops) (J : Joint) where
  -- a run and the round r that is sent after it
  unfoldable pub longer : Run → Round → Run
  longer R r =
      record {
        transcript = R.transcript ++ said O J R.last r;
        outputs = R.outputs ++ released O J R.last r;
        rounds = suc R.rounds;
        last = step O J R.last r;
      }

  -- a run and one round more, if there is one
  unfoldable pub extended : Run → Run
  extended R = when_sending R.last.point.stage R (longer R)

  -- A run of no round has the first round alone after it.
  first_round : (s : State) (g : Stage) → when_sending g (still O J s) (λ r. ahead O J s r (still O J (step O J s r))) ≡ when_sending g (still O J s) (longer (still O J s))
  unfolding when_sending still ahead longer
  first_round s (Send r) =
      λ i. record {
        transcript = append-nil (said O J s r) i;
        outputs = append-nil (released O J s r) i;
        rounds = 1;
        last = step O J s r;
      }
  first_round s (Receive r) = refl
  first_round s Finished = refl
  first_round s Aborted = refl

  -- What is added at the end is added after a first round too.
  ahead_extended : (s : State) (r : Round) (R : Run) → ahead O J s r (extended R) ≡ extended (ahead O J s r R)
  unfolding ahead extended
  ahead_extended s r R = go R.last.point.stage
    where
      go : (g : Stage) → ahead O J s r (when_sending g R (longer R)) ≡ when_sending g (ahead O J s r R) (longer (ahead O J s r R))
      go (Send t) =
          unfold when_sending longer in
          λ i. record {
            transcript = sym (append_assoc (said O J s r) R.transcript (said O J R.last t)) i;
            outputs = sym (append_assoc (released O J s r) R.outputs (released O J R.last t)) i;
            rounds = suc (suc R.rounds);
            last = step O J R.last t;
          }
      go (Receive t) = unfold when_sending in refl
      go Finished = unfold when_sending in refl
      go Aborted = unfold when_sending in refl

  -- One round more adds to a run what comes after it.
  pub run_extended : (k : ℕ) (s : State) → run O J (suc k) s ≡ extended (run O J k s)
  unfolding run
  run_extended zero s = unfold extended still in first_round s s.point.stage
  run_extended (suc k) s = go s.point.stage refl (λ r. run_extended k (step O J s r))
    where
      go : (g : Stage) → s.point.stage ≡ g
          → ((r : Round) → run O J (suc k) (step O J s r) ≡ extended (run O J k (step O J s r)))
          → when_sending g (still O J s) (λ r. ahead O J s r (run O J (suc k) (step O J s r)))
          ≡ extended (when_sending g (still O J s) (λ r. ahead O J s r (run O J k (step O J s r))))
      go (Send r) e later = unfold when_sending in (ap (ahead O J s r) (later r) ∙ ahead_extended s r (run O J k (step O J s r)))
      go (Receive r) e later = unfold when_sending extended still in (sym (when_idle s.point.stage _ _ (subst Idle (sym e) tt)))
      go Finished e later = unfold when_sending extended still in (sym (when_idle s.point.stage _ _ (subst Idle (sym e) tt)))
      go Aborted e later = unfold when_sending extended still in (sym (when_idle s.point.stage _ _ (subst Idle (sym e) tt)))

  -- A run that has come to an end stays as it is.
  pub run_ended : (k m : ℕ) (s : State) → Idle (run O J k s).last.point.stage → run O J (k + m) s ≡ run O J k s
  run_ended k zero s h = ap (λ (n : ℕ). run O J n s) (add-zero k)
  run_ended k (suc m) s h =
      ap (λ (n : ℕ). run O J n s) (add-suc k m)
      ∙ run_extended (k + m) s
      ∙ ap extended (run_ended k m s h)
      ∙ (unfold extended in when_idle _ _ _ h)

  -- One round more leads one step on.
  last_extended : (R : Run) → (extended R).last ≡ when_sending R.last.point.stage R.last (step O J R.last)
  unfolding extended longer
  last_extended R = go R.last.point.stage
    where
      go : (g : Stage) → (when_sending g R (longer R)).last ≡ when_sending g R.last (step O J R.last)
      go (Send r) = unfold when_sending in refl
      go (Receive r) = unfold when_sending in refl
      go Finished = unfold when_sending in refl
      go Aborted = unfold when_sending in refl

  module _ (scratch : List ℕ) where
    -- the run of k rounds at most from the start
    abbrev pub first : ℕ → Run
    first k = run O J k (begun O J scratch)

    -- It ends in the state after k rounds.
    pub last_first : (k : ℕ) → (first k).last ≡ after O J scratch k
    unfolding after
    last_first zero = unfold run still in refl
    last_first (suc k) = ap (λ (R : Run). R.last) (run_extended k (begun O J scratch)) ∙ go (first k) (last_first k)
      where
        go : (R : Run) → R.last ≡ after O J scratch k → (extended R).last ≡ after O J scratch (suc k)
        go R e = last_extended R ∙ ap (λ (s : State). when_sending s.point.stage s (step O J s)) e

    -- Where round r is sent after k rounds, it is added.
    pub first_longer : (k : ℕ) (r : Round) → (after O J scratch k).point.stage ≡ Send r → first (suc k) ≡ longer (first k) r
    first_longer k r e =
        run_extended k (begun O J scratch)
        ∙ (unfold extended in when_sending_lem _ _ (longer (first k)) r (ap (λ (s : State). s.point.stage) (last_first k) ∙ e))

    -- Where nothing is sent after k rounds, nothing is added.
    pub first_idle : (k : ℕ) → Idle (after O J scratch k).point.stage → first (suc k) ≡ first k
    first_idle k h =
        run_extended k (begun O J scratch)
        ∙ (unfold extended in when_idle _ _ _ (subst Idle (ap (λ (s : State). s.point.stage) (sym (last_first k))) h))

    -- Where round r is sent, the next state is the one after it.
    pub after_step : (k : ℕ) (r : Round) → (after O J scratch k).point.stage ≡ Send r → after O J scratch (suc k) ≡ step O J (after O J scratch k) r
    unfolding after
    after_step k r e = when_sending_lem _ _ (step O J (after O J scratch k)) r e

    -- Where nothing is sent, the state stays.
    pub after_idle : (k : ℕ) → Idle (after O J scratch k).point.stage → after O J scratch (suc k) ≡ after O J scratch k
    unfolding after
    after_idle k h = when_idle _ _ _ h

    -- Where round r is sent, the outputs that A's parties see grow by what it releases to them ..
    pub outputs_step : (A : ℕ → Bool) (k : ℕ) (r : Round) → (after O J scratch k).point.stage ≡ Send r
        → outputs_to O J scratch A (suc k) ≡ outputs_to O J scratch A k ++ released_to O J A (after O J scratch k) r
    unfolding outputs_to
    outputs_step A k r e = ap (λ (l : List ℕ). outputs_to O J scratch A k ++ l) (when_sending_lem _ _ (released_to O J A (after O J scratch k)) r e)

    -- .. and where nothing is sent, they stay.
    pub outputs_idle : (A : ℕ → Bool) (k : ℕ) → Idle (after O J scratch k).point.stage → outputs_to O J scratch A (suc k) ≡ outputs_to O J scratch A k
    unfolding outputs_to
    outputs_idle A k h =
        ap (λ (l : List ℕ). outputs_to O J scratch A k ++ l) (when_idle _ _ (released_to O J A (after O J scratch k)) h)
        ∙ append-nil (outputs_to O J scratch A k)

    -- The outputs that everyone sees are all.
    pub listed : (k : ℕ) → outputs_to O J scratch everyone k ≡ (first k).outputs
    listed zero = unfold outputs_to run still in refl
    listed (suc k) = go (after O J scratch k).point.stage refl (listed k)
      where
        idle : Idle (after O J scratch k).point.stage → outputs_to O J scratch everyone k ≡ (first k).outputs
            → outputs_to O J scratch everyone (suc k) ≡ (first (suc k)).outputs
        idle h e = outputs_idle everyone k h ∙ e ∙ ap (λ (R : Run). R.outputs) (sym (first_idle k h))

        all : (s : State) (r : Round) → released_to O J everyone s r ≡ released O J s r
        all s r = unfold released_to in rw (everyone_sees (gate J.circuit s.point.gate))

        go : (g : Stage) → (after O J scratch k).point.stage ≡ g → outputs_to O J scratch everyone k ≡ (first k).outputs
            → outputs_to O J scratch everyone (suc k) ≡ (first (suc k)).outputs
        go (Send r) q e =
            outputs_step everyone k r q
            ∙ ap₂ {C = List ℕ} (λ (x y : List ℕ). x ++ y) e (all _ r ∙ ap (λ (s : State). released O J s r) (sym (last_first k)))
            ∙ (unfold longer in ap (λ (R : Run). R.outputs) (sym (first_longer k r q)))
        go (Receive r) q e = idle (subst Idle (sym q) tt) e
        go Finished q e = idle (subst Idle (sym q) tt) e
        go Aborted q e = idle (subst Idle (sym q) tt) e

    -- A run that is still going after k rounds has made them all.
    pub rounds_first : (k : ℕ) (r : Round) → (after O J scratch k).point.stage ≡ Send r → (first k).rounds ≡ k
    rounds_first zero r e = unfold run still in refl
    rounds_first (suc k) r e = go (after O J scratch k).point.stage refl (rounds_first k)
      where
        idle : Idle (after O J scratch k).point.stage → (first (suc k)).rounds ≡ suc k
        idle h = absurd (subst Idle (ap (λ (s : State). s.point.stage) (sym (after_idle k h)) ∙ e) h)

        go : (g : Stage) → (after O J scratch k).point.stage ≡ g
            → ((r : Round) → (after O J scratch k).point.stage ≡ Send r → (first k).rounds ≡ k)
            → (first (suc k)).rounds ≡ suc k
        go (Send t) q earlier = ap (λ (R : Run). R.rounds) (first_longer k t q) ∙ (unfold longer in ap suc (earlier t q))
        go (Receive t) q earlier = idle (subst Idle (sym q) tt)
        go Finished q earlier = idle (subst Idle (sym q) tt)
        go Aborted q earlier = idle (subst Idle (sym q) tt)

    -- .. and one more with the round that it sends next.
    pub rounds_next : (k : ℕ) (r : Round) → (after O J scratch k).point.stage ≡ Send r → (first (suc k)).rounds ≡ suc k
    unfolding longer
    rounds_next k r e = ap (λ (R : Run). R.rounds) (first_longer k r e) ∙ ap suc (rounds_first k r e)
