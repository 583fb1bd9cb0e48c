-- A check stops a run exactly if the revealed check shares do not sum to zero, and names nobody, a run that no check stops takes document 01's number of rounds, and
-- no run takes more. Where a run stands after k rounds depends on the circuit and on which checks passed alone; so this holds of any
-- preprocessing.
-- Assumes nothing.
use Prim.Native.Nat.{ℕ, zero, suc, ◌+◌, ◌-◌, ◌*◌, ◌<◌, ◌≤◌}
use mathlib.Core.Path.{◌≡◌, refl, sym, ap, subst, ◌∙◌}
use mathlib.Core.Bool.{Bool, true, false, cond, ◌&&◌}
use mathlib.Core.List.{List, [], ◌++◌, append-nil}
use native.Mathlib.Omega.{arith}
use lib.Dec.{eqb}
use lib.ListN.{length}
use borrow.Author.Tests.{eqb-true, leb-true}
use Rattle.algebra.specs.Ops.{Ops}
use Rattle.field.specs.Words.{ops}
use Rattle.circuit.specs.Verdict.{Verdict, Accepted, Refused}
use Rattle.circuit.specs.Gate.{gates}
use Rattle.circuit.specs.Round.{Round, is_reveal, nonce_size, reveal_words}
use Rattle.circuit.specs.Round.{over_run, round_count, check_count}
use Rattle.circuit.specs.Valid.{Valid}
use Rattle.circuit.proofs.Valid.{valid}
use Rattle.circuit.proofs.Verdicts.{ask_true, then_left, then_right}
use Rattle.protocol.specs.Position.{Point, Stage, Send, Receive, Finished, Aborted, finished, aborted, follow}
use Rattle.protocol.specs.Receive.{Nobody, Stopped, passed as goes_on, weighs, heard_sum, next, left}
use Rattle.protocol.specs.Entry.{releases}
use Rattle.protocol.specs.Joint.{Joint, party}
use Rattle.protocol.specs.Run.{State, Run, blamed, begun, said, notes, ends, step, released, still, run, whole, most_rounds}
use Rattle.protocol.specs.JointAsk.{ask_joint}
use Rattle.protocol.specs.JointEntry as Entry
use Rattle.protocol.specs.JointEntry.{ended, jointly, verdict, joint_answer}
use Rattle.protocol.specs.Formula.{round_formula, most_rounds_of_all}
use Rattle.theorems.specs.Premises.{Accepts, Enough, after}
use Rattle.theorems.specs.Abort.{Fails, StopsAt, Stops, NamesNobody}
use Rattle.circuit.proofs.Tests.{by_cases, false_no}
use Rattle.protocol.proofs.Following.{weighs_zero, weighs_not}
use Rattle.protocol.proofs.Marks.{ends_other, ends_reveals, notes_reveal}
use Rattle.protocol.proofs.Points.{Fits, FitsStage, spent_stage, spent, goes_start, fits_follow, spent_follow, spent_le}
use Rattle.protocol.proofs.Spending.{rounds_le}
use Rattle.theorems.proofs.Given.{some_party}
use Rattle.theorems.proofs.Sealing.{Kept, kept_after, ends_sum}
use Rattle.theorems.proofs.Rounds.{ones, formula_is, at_most_766}
use Rattle.theorems.proofs.Runs.{Idle, longer, run_ended, first, last_first, first_longer, first_idle, after_step, after_idle}
use Rattle.theorems.proofs.Runs.{rounds_first, rounds_next}

module _ (O : Ops) (J : Joint) (scratch : List ℕ) where
  -- the state after k rounds
  abbrev state : ℕ → State
  state k = after O J scratch k

  -- the rounds that a run is given
  abbrev allowed : ℕ
  allowed = most_rounds O J * gates J.circuit

  -- does round r after k rounds pass?
  abbrev passed : ℕ → Round → Bool
  passed k r = goes_on (ends O J (state k) r)

  -- round r after k rounds does not
  record Halts (k : ℕ) (r : Round) : Type 0 where
    sending : (state k).point.stage ≡ Send r
    halted : passed k r ≡ false

  -- where a run stands after k rounds: it is going, and k rounds lie behind it; it is finished, and made all rounds of the circuit; or a
  -- round halted it before
  data Standing (k : ℕ) : Type 0 where
    going : (r : Round) → (state k).point.stage ≡ Send r → FitsStage J.circuit (state k).point.gate (Send r)
        → spent J.circuit ones (state k).point ≡ k
        → Standing k
    over : (state k).point ≡ finished J.circuit → (first O J scratch k).rounds ≡ round_count J.circuit → Standing k
    failed : (m : ℕ) (r : Round) → Halts m r → (state k).point.stage ≡ Aborted → Standing k

  -- A point that fits is one where a round is sent, or the end.
  stands : (k : ℕ) → Fits J.circuit (state k).point → spent J.circuit ones (state k).point ≡ k → (first O J scratch k).rounds ≡ k
      → Standing k
  unfolding finished round_count spent_stage
  stands k f s made = go (state k).point.stage refl
    where
      fits : (g : Stage) → (state k).point.stage ≡ g → FitsStage J.circuit (state k).point.gate g
      fits g e = subst (FitsStage J.circuit (state k).point.gate) e f

      go : (g : Stage) → (state k).point.stage ≡ g → Standing k
      go (Send r) e = going r e (fits (Send r) e) s
      go (Receive r) e = absurd (fits (Receive r) e)
      go Finished e =
          over (λ i. record { gate = fits Finished e i; stage = e i })
          (made ∙ sym s ∙ ap (spent_stage J.circuit ones (state k).point.gate) e)
      go Aborted e = absurd (fits Aborted e)

  -- The point after a round that passes ..
  after_passed : (k : ℕ) (r : Round) → (state k).point.stage ≡ Send r → passed k r ≡ true
      → (state (suc k)).point ≡ follow J.circuit (state k).point.gate r
  unfolding step next
  after_passed k r e h = ap (λ (s : State). s.point) (after_step O J scratch k r e) ∙ rw h

  -- .. and after one that does not.
  after_failed : (k : ℕ) (r : Round) → (state k).point.stage ≡ Send r → passed k r ≡ false
      → (state (suc k)).point ≡ aborted (state k).point.gate
  unfolding step next
  after_failed k r e h = ap (λ (s : State). s.point) (after_step O J scratch k r e) ∙ rw h

  -- A round that is sent takes a run one round on, or halts it.
  standing_step : (k : ℕ) (r : Round) → (state k).point.stage ≡ Send r → FitsStage J.circuit (state k).point.gate (Send r)
      → spent J.circuit ones (state k).point ≡ k
      → Standing (suc k)
  standing_step k r e f s = go (passed k r) refl
    where
      behind : spent_stage J.circuit ones (state k).point.gate (Send r) ≡ k
      behind = ap (spent_stage J.circuit ones (state k).point.gate) (sym e) ∙ s

      go : (b : Bool) → passed k r ≡ b → Standing (suc k)
      go true h =
          stands (suc k) (rw (after_passed k r e h) (fits_follow J.circuit (state k).point.gate r f))
          (rw (after_passed k r e h) (omega (arith, spent_follow J.circuit ones (state k).point.gate r f, behind)))
          (rounds_next O J scratch k r e)
      go false h = failed k r (record { sending = e; halted = h }) (ap (λ (p : Point). p.stage) (after_failed k r e h) ∙ (unfold aborted in refl))

  -- Where nothing is sent a run stands as it stood.
  resting : (k : ℕ) → Idle (state k).point.stage → (state (suc k)).point ≡ (state k).point
  resting k h = ap (λ (s : State). s.point) (after_idle O J scratch k h)

  -- At the end nothing is sent.
  idle_finished : {p : Point} → p ≡ finished J.circuit → Idle p.stage
  idle_finished e = subst (λ (p : Point). Idle p.stage) (sym e) (unfold finished in tt)

  module _ {n q : ℕ} (ok : Valid n q J.circuit) where
    -- Where a run stands after any number of rounds.
    standing : (k : ℕ) → Standing k
    unfolding after begun over_run run still
    standing zero = stands 0 (goes_start J.circuit ok).fits ((goes_start J.circuit ok).spent_is ones) refl
    standing (suc k) = go (standing k)
      where
        go : Standing k → Standing (suc k)
        go (going r e f s) = standing_step k r e f s
        go (over e n) = over (resting k (idle_finished e) ∙ e) (ap (λ (R : Run). R.rounds) (first_idle O J scratch k (idle_finished e)) ∙ n)
        go (failed m r f e) = failed m r f (ap (λ (p : Point). p.stage) (resting k (subst Idle (sym e) tt)) ∙ e)

    -- A round that is sent after k rounds is one of the circuit's.
    rounds_within : (k : ℕ) (r : Round) → (state k).point.stage ≡ Send r → k < round_count J.circuit
    unfolding round_count
    rounds_within k r e = go (standing k)
      where
        go : Standing k → k < over_run ones J.circuit (gates J.circuit)
        go (going t q f s) =
            let behind : spent_stage J.circuit ones (state k).point.gate (Send t) ≡ k =
            ap (spent_stage J.circuit ones (state k).point.gate) (sym q) ∙ s in
            omega (arith, spent_le J.circuit ones (state k).point.gate t f)
        go (over q n) = absurd (subst Idle e (idle_finished q))
        go (failed m t f q) = absurd (subst Idle (sym q ∙ e) tt)

    -- So a run that is still going has rounds left.
    rounds_left : (k : ℕ) (r : Round) → (state k).point.stage ≡ Send r → k < allowed
    unfolding round_count
    rounds_left k r e = omega (arith, rounds_within k r e, rounds_le J.circuit (gates J.circuit))

    -- After all rounds that it is given a run is finished, or a round halted it.
    data Ending : Type 0 where
      completes : (state allowed).point ≡ finished J.circuit → (first O J scratch allowed).rounds ≡ round_count J.circuit → Ending
      stops : (m : ℕ) (r : Round) → Halts m r → (state allowed).point.stage ≡ Aborted → Ending

    ending : Ending
    ending = go (standing allowed)
      where
        go : Standing allowed → Ending
        go (going r e f s) = absurd (omega (arith, rounds_left allowed r e))
        go (over e n) = completes e n
        go (failed m r f e) = stops m r f e

    -- A run that no round halts finishes.
    finishing : ((k : ℕ) (r : Round) → Halts k r → ⊥) → (whole O J scratch).last.point ≡ finished J.circuit
    unfolding whole
    finishing none = ap (λ (s : State). s.point) (last_first O J scratch allowed) ∙ go ending
      where
        go : Ending → (state allowed).point ≡ finished J.circuit
        go (completes e n) = e
        go (stops m r f e) = absurd (none m r f)

    -- A run that finishes made all rounds of the circuit.
    rounds_finished : (whole O J scratch).last.point ≡ finished J.circuit → (whole O J scratch).rounds ≡ round_count J.circuit
    unfolding whole finished
    rounds_finished h = go ending
      where
        go : Ending → (first O J scratch allowed).rounds ≡ round_count J.circuit
        go (completes e n) = n
        go (stops m r f e) =
            let g : Aborted ≡ Finished = sym e ∙ ap (λ (s : State). s.point.stage) (sym (last_first O J scratch allowed)) ∙ ap (λ (p : Point). p.stage) h in
            let z : ◌≡◌ {A = ℕ} 0 1 = cc in
            absurd (omega arith)

    module _ (k : ℕ) (r : Round) (f : Halts k r) where
      -- The round that halts it is the last of the run.
      stopped : whole O J scratch ≡ longer O J (first O J scratch k) r
      unfolding whole
      stopped =
          ap (λ (m : ℕ). run O J m (begun O J scratch)) count
          ∙ run_ended O J (suc k) (allowed - suc k) (begun O J scratch) idle
          ∙ first_longer O J scratch k r f.sending
        where
          count : allowed ≡ suc k + (allowed - suc k)
          count = omega (arith, rounds_left k r f.sending)

          idle : Idle (first O J scratch (suc k)).last.point.stage
          idle =
              subst Idle
              (sym
              (ap (λ (s : State). s.point.stage) (last_first O J scratch (suc k))
              ∙ ap (λ (p : Point). p.stage) (after_failed k r f.sending f.halted)))
              (unfold aborted in tt)

      rounds_stopped : (whole O J scratch).rounds ≡ suc k
      unfolding longer
      rounds_stopped = ap (λ (R : Run). R.rounds) stopped ∙ ap suc (rounds_first O J scratch k r f.sending)

      -- It writes nothing into a scratch ..
      unwritten : (i : ℕ) → left O (party J i) (ends O J (state k) r) (notes O J (state k) r i) (state k).point.gate r (said O J (state k) r) ≡ (state k).scratch i
      unfolding left
      unwritten i = rw f.halted (notes_reveal O J (state k) r i (ends_reveals O J (state k) r f.halted))

      -- .. and releases no output.
      unreleased : released O J (state k) r ≡ []
      unfolding released
      unreleased = rw f.halted (go (releases r) _)
        where
          go : (b : Bool) (l : List ℕ) → cond (b && false) l [] ≡ []
          go true l = refl
          go false l = refl

      -- The words of the failing reveal are the last of the transcript.
      last_said : (whole O J scratch).transcript ≡ (first O J scratch k).transcript ++ said O J (state k) r
      unfolding longer
      last_said =
          ap (λ (R : Run). R.transcript) stopped
          ∙ ap (λ (s : State). (first O J scratch k).transcript ++ said O J s r) (last_first O J scratch k)

      -- The last state is the one after it.
      last_is : (whole O J scratch).last ≡ step O J (state k) r
      unfolding longer
      last_is = ap (λ (R : Run). R.last) stopped ∙ ap (λ (s : State). step O J s r) (last_first O J scratch k)

      -- So the run stops there, where nobody is named.
      stops_at : ends O J (state k) r ≡ Stopped Nobody → StopsAt O J scratch k r
      unfolding longer step
      stops_at names =
          record {
            rounds = rounds_stopped;
            point =
                ap (λ (s : State). s.point) last_is
                ∙ ap (λ (s : State). s.point) (sym (after_step O J scratch k r f.sending))
                ∙ after_failed k r f.sending f.halted;
            blame = ap (λ (s : State). s.blame) last_is ∙ ap blamed names;
            bands = λ i. ap (λ (s : State). s.scratch i) last_is ∙ unwritten i;
            outputs =
                ap (λ (R : Run). R.outputs) stopped
                ∙ ap (λ (s : State). (first O J scratch k).outputs ++ released O J s r) (last_first O J scratch k)
                ∙ ap (λ (l : List ℕ). (first O J scratch k).outputs ++ l) unreleased
                ∙ append-nil (first O J scratch k).outputs;
            transcript = last_said;
          }

    -- No run makes more rounds than the circuit has.
    rounds_most : (whole O J scratch).rounds ≤ round_count J.circuit
    unfolding whole
    rounds_most = go ending
      where
        go : Ending → (first O J scratch allowed).rounds ≤ round_count J.circuit
        go (completes e n) = omega (arith, n)
        go (stops m r f e) = omega (arith, rounds_stopped m r f, rounds_within m r f.sending)

module _ (O : Ops) (J : Joint) (scratch : List ℕ) (accepts : Accepts O J.parties J.circuit) (enough : Enough J scratch) where
  is_valid : Valid J.parties O.size J.circuit
  is_valid = valid J.parties O.size J.circuit accepts.circuit

  kept : (k : ℕ) → Kept O J (after O J scratch k)
  kept = kept_after O J scratch enough is_valid

  -- "the sum alone decides"
  decides : (k : ℕ) (r : Round) → (after O J scratch k).point.stage ≡ Send r → is_reveal r ≡ true
      → ends O J (after O J scratch k) r ≡ weighs Nobody (eqb (heard_sum O J.parties reveal_words 0 (said O J (after O J scratch k) r)) 0)
  decides k r e z = ends_sum O J (after O J scratch k) (kept k) (some_party J.parties accepts.parties) r e z

  -- A failing check stops the run and names nobody ..
  fails_stop : (k : ℕ) (r : Round) → Fails O J scratch k r → ends O J (after O J scratch k) r ≡ Stopped Nobody
  fails_stop k r f = decides k r f.sending f.reveals ∙ weighs_not _ f.nonzero

  fails_halts : (k : ℕ) (r : Round) → Fails O J scratch k r → Halts O J scratch k r
  fails_halts k r f = record { sending = f.sending; halted = ap goes_on (fails_stop k r f) }

  -- .. and what halts it is one.
  halts_fails : (k : ℕ) (r : Round) → Halts O J scratch k r → Fails O J scratch k r
  halts_fails k r h =
      let z : is_reveal r ≡ true = ends_reveals O J (after O J scratch k) r h.halted in
      record {
        sending = h.sending;
        reveals = z;
        nonzero = λ e. false_no (sym h.halted ∙ ap goes_on (decides k r h.sending z ∙ weighs_zero _ e));
      }

  pub no_fail_finishes : ((k : ℕ) (r : Round) → Fails O J scratch k r → ⊥) → (whole O J scratch).last.point ≡ finished J.circuit
  no_fail_finishes none = finishing O J scratch is_valid (λ k r h. none k r (halts_fails k r h))

  -- No round names a party.
  pub round_names : (k : ℕ) (r : Round) → (after O J scratch k).point.stage ≡ Send r → blamed (ends O J (after O J scratch k) r) ≡ Nobody
  round_names k r e =
      by_cases (is_reveal r) (λ z. ap blamed (decides k r e z) ∙ nobody (eqb (heard_sum O J.parties reveal_words 0 (said O J (after O J scratch k) r)) 0)) (λ z. ap blamed (ends_other O J (after O J scratch k) r z))
    where
      nobody : (b : Bool) → blamed (weighs Nobody b) ≡ Nobody
      nobody true = refl
      nobody false = refl

  pub names_nobody_after : (k : ℕ) → (after O J scratch k).blame ≡ Nobody
  unfolding after begun
  names_nobody_after zero = refl
  names_nobody_after (suc k) = go (after O J scratch k).point.stage refl (names_nobody_after k)
    where
      rest : Idle (after O J scratch k).point.stage → (after O J scratch k).blame ≡ Nobody → (after O J scratch (suc k)).blame ≡ Nobody
      rest h e = ap (λ (s : State). s.blame) (after_idle O J scratch k h) ∙ e

      go : (g : Stage) → (after O J scratch k).point.stage ≡ g → (after O J scratch k).blame ≡ Nobody → (after O J scratch (suc k)).blame ≡ Nobody
      go (Send r) e was = ap (λ (s : State). s.blame) (after_step O J scratch k r e) ∙ (unfold step in round_names k r e)
      go (Receive r) e was = rest (subst Idle (sym e) tt) was
      go Finished e was = rest (subst Idle (sym e) tt) was
      go Aborted e was = rest (subst Idle (sym e) tt) was

-- A failing check stops the run and names nobody, and nothing else stops it.
pub aborts : (O : Ops) (J : Joint) (scratch : List ℕ) → Accepts O J.parties J.circuit → Enough J scratch → Stops O J scratch
aborts O J scratch accepts enough =
    record {
      stops = λ k r f. stops_at O J scratch (is_valid O J scratch accepts enough) k r (fails_halts O J scratch accepts enough k r f) (fails_stop O J scratch accepts enough k r f);
      finishes = no_fail_finishes O J scratch accepts enough;
    }

-- The same at the field that the code works with.
pub aborts_here : (J : Joint) (scratch : List ℕ) → Accepts ops J.parties J.circuit → Enough J scratch → Stops ops J scratch
aborts_here = aborts ops

-- A call that is not refused has an accepted circuit, and enough nonces and scratch.
module _ (O : Ops) (J : Joint) (scratch : List ℕ) (t o : ℕ) (e : ask_joint O.size J scratch t o ≡ Accepted) where
  pub called_accepts : Accepts O J.parties J.circuit
  unfolding ask_joint
  called_accepts = record { parties = then_left _ _ e; circuit = then_left _ _ (then_right _ _ e) }

  pub called_enough : Enough J scratch
  unfolding ask_joint
  called_enough =
      let after-7 = then_right _ _ (then_right _ _ e) in
      let after-11 = then_right _ _ (then_right _ _ (then_right _ _ (then_right _ _ after-7))) in
      let after-17 = then_right _ _ (then_right _ _ (then_right _ _ after-11)) in
      let all : length J.nonces ≡ nonce_size * (J.parties * check_count J.circuit) = eqb-true _ _ (ask_true 25 0 _ (then_left _ _ after-17)) in
      record { nonces = omega (arith, all); room = leb-true _ _ (ask_true 12 0 _ (then_left _ _ after-11)) }

-- A stop that a joint run answers names nobody.
pub names_nobody : (O : Ops) → NamesNobody O
unfolding joint_answer verdict whole
names_nobody O J scratch t o gate blame rounds e = go (ask_joint O.size J scratch (length t) (length o)) refl e
  where
    R : Run
    R = whole O J scratch

    go : (v : Verdict) → ask_joint O.size J scratch (length t) (length o) ≡ v
        → jointly v (ended R.last.point.stage R.last.point.gate R.last.blame R.rounds) ≡ Entry.Aborted gate blame rounds
        → blame ≡ Nobody
    go (Refused number index) q z = let w : ◌≡◌ {A = ℕ} 0 1 = (unfold jointly in cc) in absurd (omega arith)
    go Accepted q z = at R.last.point.stage (unfold jointly in z)
      where
        none : R.last.blame ≡ Nobody
        none =
            ap (λ (s : State). s.blame) (last_first O J scratch _)
            ∙ names_nobody_after O J scratch (called_accepts O J scratch _ _ q) (called_enough O J scratch _ _ q) _

        at : (g : Stage) → ended g R.last.point.gate R.last.blame R.rounds ≡ Entry.Aborted gate blame rounds → blame ≡ Nobody
        at (Send r) z = let w : ◌≡◌ {A = ℕ} 0 1 = (unfold ended in cc) in absurd (omega arith)
        at (Receive r) z = let w : ◌≡◌ {A = ℕ} 0 1 = (unfold ended in cc) in absurd (omega arith)
        at Finished z = let w : ◌≡◌ {A = ℕ} 0 1 = (unfold ended in cc) in absurd (omega arith)
        at Aborted z = let same : R.last.blame ≡ blame = (unfold ended in cc) in sym same ∙ none

pub names_nobody_here : NamesNobody ops
names_nobody_here = names_nobody ops

-- The rounds of a run of an accepted circuit, on any preprocessing, inputs, coefficients, nonces and scratch.
module _ (O : Ops) (J : Joint) (scratch : List ℕ) (accepts : Accepts O J.parties J.circuit) where
  ok : Valid J.parties O.size J.circuit
  ok = valid J.parties O.size J.circuit accepts.circuit

  -- "A run takes I + M + 5 × outs − 2 × (outs with nothing unchecked) rounds": a run that finishes ..
  pub finished_rounds : (whole O J scratch).last.point ≡ finished J.circuit → (whole O J scratch).rounds ≡ round_formula J.circuit
  finished_rounds h = rounds_finished O J scratch ok h ∙ sym (formula_is J.circuit)

  -- .. which is a run in which no check fails.
  pub passed_rounds : Enough J scratch → ((k : ℕ) (r : Round) → Fails O J scratch k r → ⊥) → (whole O J scratch).rounds ≡ round_formula J.circuit
  passed_rounds enough none = finished_rounds (no_fail_finishes O J scratch accepts enough none)

  -- After that many rounds no run sends any more ..
  formula_ends : (r : Round) → (after O J scratch (round_formula J.circuit)).point.stage ≡ Send r → ⊥
  formula_ends r e = omega (arith, rounds_within O J scratch ok (round_formula J.circuit) r e, formula_is J.circuit)

  -- .. so they are the whole run.
  pub whole_first : whole O J scratch ≡ first O J scratch (round_formula J.circuit)
  unfolding whole round_count
  whole_first =
      ap (λ (m : ℕ). run O J m (begun O J scratch)) count
      ∙ run_ended O J (round_formula J.circuit) (allowed O J scratch - round_formula J.circuit) (begun O J scratch)
      (subst (λ (s : State). Idle s.point.stage) (sym (last_first O J scratch (round_formula J.circuit))) (idle _ formula_ends))
    where
      count : allowed O J scratch ≡ round_formula J.circuit + (allowed O J scratch - round_formula J.circuit)
      count = omega (arith, formula_is J.circuit, rounds_le J.circuit (gates J.circuit))

      idle : (g : Stage) → ((r : Round) → g ≡ Send r → ⊥) → Idle g
      idle (Send r) none = absurd (none r refl)
      idle (Receive r) none = tt
      idle Finished none = tt
      idle Aborted none = tt

  -- A run that a check stops takes no more, and so "at most 766".
  pub most_rounds_lem : ((whole O J scratch).rounds ≤ round_formula J.circuit) × ((whole O J scratch).rounds ≤ most_rounds_of_all)
  most_rounds_lem =
      let few : (whole O J scratch).rounds ≤ round_formula J.circuit = rw formula_is (rounds_most O J scratch ok) in
      (few, omega (arith, at_most_766 ok))

-- The same at the field that the code works with.
module _ (J : Joint) (scratch : List ℕ) (accepts : Accepts ops J.parties J.circuit) where
  pub finished_rounds_here : (whole ops J scratch).last.point ≡ finished J.circuit → (whole ops J scratch).rounds ≡ round_formula J.circuit
  finished_rounds_here = finished_rounds ops J scratch accepts

  pub passed_rounds_here : Enough J scratch → ((k : ℕ) (r : Round) → Fails ops J scratch k r → ⊥) → (whole ops J scratch).rounds ≡ round_formula J.circuit
  passed_rounds_here = passed_rounds ops J scratch accepts

  pub most_rounds_here : ((whole ops J scratch).rounds ≤ round_formula J.circuit) × ((whole ops J scratch).rounds ≤ most_rounds_of_all)
  most_rounds_here = most_rounds_lem ops J scratch accepts
