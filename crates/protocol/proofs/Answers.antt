-- What a reader will ask of the answers of a party's entries: an ended run is refused by both halves, an output is released exactly by a
-- passing second check of its own gate, and a run is stopped exactly by a reveal that does not fit its mark or by check shares that do not sum to
-- zero.
-- Assumes nothing.
use Prim.Native.Nat.{ℕ}
use mathlib.Core.Path.{◌≡◌, refl, sym, ap, ◌∙◌}
use mathlib.Core.Logic.{◌↔◌}
use mathlib.Core.Bool.{Bool, true, false, cond, ◌&&◌}
use mathlib.Core.List.{List}
use native.Mathlib.Omega.{arith}
use lib.Dec.{eqb}
use borrow.Author.Tests.{eqb-true, eqb-false}
use Rattle.algebra.specs.Ops.{Ops}
use Rattle.circuit.specs.Verdict.{Verdict, Accepted, Refused, ask, ◌then◌}
use Rattle.circuit.specs.Gate.{gate}
use Rattle.circuit.specs.Kind.{seen_by, alone}
use Rattle.circuit.specs.Round.{First, Second, Round, Own, Open, Commit, Reveal, is_reveal, reveal_words}
use Rattle.circuit.proofs.Tests.{false_no, both_left, both_right}
use Rattle.circuit.proofs.Verdicts.{refused_no, ask_true, then_left, then_right}
use Rattle.protocol.specs.Scratch.{layout, marks_of}
use Rattle.protocol.specs.Position.{Position, Stage, Send, Receive, Finished, Aborted, holding, aborted, follow, keep, occurs, when_sending, when_receiving}
use Rattle.protocol.specs.Party.{Party}
use Rattle.protocol.specs.Receive.{Blame, Nobody, Blames, Ruling, Passed, Stopped, passed, misfit, weighs, heard_sum, ruling, next, scored, finds}
use Rattle.protocol.proofs.Following.{ruling_reveals, ruling_fits, ruling_blames, weighs_zero, weighs_not, aborted_holds}
use Rattle.protocol.specs.Ask.{ask_lent, ask_send, ask_receive}
use Rattle.protocol.specs.Entry.{Answer, Refusal, Next, Output, Abort, answer, releases, send_answer, receive_answer, concludes, outcome, next_position}
use Rattle.protocol.proofs.Entries.{refused_answer, accepted_answer, receiving_at_lem, half_decides}

-- an answer that is no refusal is that of an accepted call
pub answered : (v : Verdict) (a b : Answer) → answer v a ≡ b → ((number index : ℕ) → b ≡ Refusal number index → ⊥) → (v ≡ Accepted) × (a ≡ b)
unfolding answer
answered Accepted a b e f = (refl, e)
answered (Refused number index) a b e f = absurd (f number index (sym e))

-- the half of an accepted receiving
pub receives_at : (s : Stage) (f : Round → Verdict) → when_receiving s (Refused 14 0) f ≡ Accepted → (r : Round) × (s ≡ Receive r)
unfolding when_receiving
receives_at (Send r) f e = refused_no e
receives_at (Receive r) f e = (r, refl)
receives_at Finished f e = refused_no e
receives_at Aborted f e = refused_no e

-- an ended run has neither half
pub data Ended : Stage → Type 0 where
  finished : Ended Finished
  stopped : Ended Aborted

ended_sending : {s : Stage} → Ended s → {A : Type 0} (other : A) (f : Round → A) → when_sending s other f ≡ other
unfolding when_sending
ended_sending finished other f = refl
ended_sending stopped other f = refl

ended_receiving : {s : Stage} → Ended s → {A : Type 0} (other : A) (f : Round → A) → when_receiving s other f ≡ other
unfolding when_receiving
ended_receiving finished other f = refl
ended_receiving stopped other f = refl

-- what a round that ends so leads to
output_only : (O : Ops) (P : Party) (w j held : ℕ) (r : Round) (u : Ruling) {v : ℕ} {x : Position} → concludes O P w j held r u ≡ Output v x
    → (u ≡ Passed) × (releases r ≡ true) × (seen_by (alone P.me) (gate P.circuit j) ≡ true) × (w ≡ v) × (next_position O P j held r Passed ≡ x)
unfolding concludes
output_only O P w j held r Passed {v} {x} h = go (releases r && seen_by (alone P.me) (gate P.circuit j)) refl h
  where
    go : (d : Bool) → (releases r && seen_by (alone P.me) (gate P.circuit j)) ≡ d
        → cond d (Output w (next_position O P j held r Passed)) (Next (next_position O P j held r Passed)) ≡ Output v x
        → (Passed ≡ Passed) × (releases r ≡ true) × (seen_by (alone P.me) (gate P.circuit j) ≡ true) × (w ≡ v) × (next_position O P j held r Passed ≡ x)
    go true e h = (refl, both_left (releases r) _ e, both_right (releases r) _ e, cc, cc)
    go false e h = let z : ◌≡◌ {A = ℕ} 0 1 = cc in absurd (omega arith)
output_only O P w j held r (Stopped b) h = let z : ◌≡◌ {A = ℕ} 0 1 = cc in absurd (omega arith)

abort_only : (O : Ops) (P : Party) (w j held : ℕ) (r : Round) (u : Ruling) {b : Blame} {x : Position} → concludes O P w j held r u ≡ Abort b x
    → (u ≡ Stopped b) × (next_position O P j held r (Stopped b) ≡ x)
unfolding concludes
abort_only O P w j held r Passed {b} {x} h = go (releases r && seen_by (alone P.me) (gate P.circuit j)) h
  where
    go : (d : Bool) → cond d (Output w (next_position O P j held r Passed)) (Next (next_position O P j held r Passed)) ≡ Abort b x
        → (Passed ≡ Stopped b) × (next_position O P j held r (Stopped b) ≡ x)
    go true h = let z : ◌≡◌ {A = ℕ} 0 1 = cc in absurd (omega arith)
    go false h = let z : ◌≡◌ {A = ℕ} 0 1 = cc in absurd (omega arith)
abort_only O P w j held r (Stopped a) {b} {x} h =
    let same : a ≡ b = cc in
    (ap Stopped same, ap (λ (z : Blame). next_position O P j held r (Stopped z)) (sym same) ∙ (let e : next_position O P j held r (Stopped a) ≡ x = cc in e))

-- only the second check's reveal releases
pub release_second : (r : Round) → releases r ≡ true → r ≡ (Reveal Second)
release_second Own e = false_no e
release_second Open e = false_no e
release_second (Commit k) e = false_no e
release_second (Reveal First) e = false_no e
release_second (Reveal Second) e = refl

module _ (O : Ops) (P : Party) (l : List ℕ) (at : Position) where
  open O use {size}

  -- "14 (a finished or stopped place has neither)": where 1 to 13 accept such a position, 14 refuses both halves
  module _ (ended : Ended at.stage) (ok : (ask_lent size P l then ask 13 0 (occurs size P.circuit at)) ≡ Accepted) where
    half : (v : Verdict) → (ask_lent size P l then ask 13 0 (occurs size P.circuit at) then v) ≡ v
    half v = sym (half_decides size P l at v (then_left _ _ ok) (ask_true 13 0 _ (then_right (ask_lent size P l) _ ok)) refl)

    pub ended_send_refused : (coefficients nonce : List ℕ) (room : ℕ) → send_answer O P l at coefficients nonce room ≡ Refusal 14 0
    unfolding send_answer ask_send
    ended_send_refused coefficients nonce room = sym (refused_answer _ (half _ ∙ ended_sending ended _ _))

    pub ended_receive_refused : (heard : List ℕ) → receive_answer O P l at heard ≡ Refusal 14 0
    unfolding receive_answer ask_receive
    ended_receive_refused heard = sym (refused_answer _ (half _ ∙ ended_receiving ended _ _))

  module _ (heard : List ℕ) where
    -- the sum of the revealed check shares, and the lowest party whose reveal does not fit the mark in this party's scratch
    abbrev pub revealed_sum : ℕ
    revealed_sum = heard_sum O P.parties reveal_words 0 heard

    abbrev pub misfitting : Blame
    misfitting = misfit P.parties (marks_of P.parties (layout P.circuit) l) heard

    -- "Passing the second check releases the sum as the score": no question refuses, the round is the second reveal of the position's gate,
    -- every reveal fits its mark, the check shares sum to zero, the score is for this party, v is the score, and x is the position that follows
    -- the gate
    pub record Releases (v : ℕ) (x : Position) : Type 0 where
      pub accepts : ask_receive size P l at heard ≡ Accepted
      pub second_reveal : at.stage ≡ Receive (Reveal Second)
      pub all_fit : misfitting ≡ Nobody
      pub zero_sum_lem : revealed_sum ≡ 0
      pub told : seen_by (alone P.me) (gate P.circuit at.gate) ≡ true
      pub output : v ≡ scored O P l at.gate
      pub position : x ≡ holding (follow P.circuit at.gate (Reveal Second)) 0

    -- why a reveal stops a run: "A reveal whose hash is not the mark written for its seat stops the run before the sum is asked, naming the lowest
    -- such seat"; "else the sum alone decides"
    abbrev pub Because : Blame → Type 0
    Because (Blames i) = misfitting ≡ Blames i
    Because Nobody = (misfitting ≡ Nobody) × (revealed_sum ≡ 0 → ⊥)

    -- "else the run is stopped": no question refuses, the round is a reveal, b is named for that reason, and x is stopped at the position's gate
    pub record Stops (b : Blame) (x : Position) : Type 0 where
      pub accepts : ask_receive size P l at heard ≡ Accepted
      pub round : Round
      pub receives : at.stage ≡ Receive round
      pub reveals : is_reveal round ≡ true
      pub because : Because b
      pub position : x ≡ record { gate = at.gate; stage = Aborted; held = 0 }

    -- an accepted receiving of a round has the round's outcome
    receives_outcome : ask_receive size P l at heard ≡ Accepted → (r : Round) → at.stage ≡ Receive r
        → receive_answer O P l at heard ≡ outcome O P l at.gate at.held heard r
    unfolding receive_answer
    receives_outcome ok r e = sym (accepted_answer _ ok) ∙ receiving_at_lem at.stage r e _ _

    -- an answer that is no refusal is the outcome of a round
    outcome_of : {a : Answer} → receive_answer O P l at heard ≡ a → ((number index : ℕ) → a ≡ Refusal number index → ⊥)
        → (r : Round) × (at.stage ≡ Receive r) × (ask_receive size P l at heard ≡ Accepted) × (outcome O P l at.gate at.held heard r ≡ a)
    unfolding receive_answer ask_receive
    outcome_of h some =
        let (ok, is) = answered _ _ _ h some in
        let (r, e) = receives_at at.stage _ (then_right _ _ (then_right _ _ ok)) in
        (r, e, ok, sym (receives_outcome ok r e) ∙ h)

    -- a reveal passes exactly if all fit and the sum is zero, and stops exactly for one of the reasons
    weighed : (b : Blame) (z : ℕ) → weighs b (eqb z 0) ≡ Passed → (b ≡ Nobody) × (z ≡ 0)
    weighed (Blames i) z e = let w : ◌≡◌ {A = ℕ} 0 1 = cc in absurd (omega arith)
    weighed Nobody z e = go (eqb z 0) refl e
      where
        go : (t : Bool) → eqb z 0 ≡ t → weighs Nobody t ≡ Passed → (Nobody ≡ Nobody) × (z ≡ 0)
        go true q e = (refl, eqb-true z 0 q)
        go false q e = let w : ◌≡◌ {A = ℕ} 0 1 = cc in absurd (omega arith)

    passed_found : (r : Round) → is_reveal r ≡ true → finds O P l r heard ≡ Passed → (misfitting ≡ Nobody) × (revealed_sum ≡ 0)
    unfolding finds ruling
    passed_found r e h = weighed misfitting revealed_sum (rw e at h)

    stopped_found : (r : Round) (b : Blame) → is_reveal r ≡ true → finds O P l r heard ≡ Stopped b → Because b
    unfolding finds ruling
    stopped_found r b e h = go misfitting (eqb revealed_sum 0) refl refl b (rw e at h)
      where
        go : (m : Blame) (t : Bool) → misfitting ≡ m → eqb revealed_sum 0 ≡ t → (b : Blame) → weighs m t ≡ Stopped b → Because b
        go (Blames i) t q w (Blames k) e = q ∙ (let same : i ≡ k = cc in ap Blames same)
        go (Blames i) t q w Nobody e = let z : ◌≡◌ {A = ℕ} 0 1 = cc in absurd (omega arith)
        go Nobody true q w b e = let z : ◌≡◌ {A = ℕ} 0 1 = cc in absurd (omega arith)
        go Nobody false q w (Blames k) e = let z : ◌≡◌ {A = ℕ} 0 1 = cc in absurd (omega arith)
        go Nobody false q w Nobody e = (q, eqb-false revealed_sum 0 w)

    found_passed : (r : Round) → is_reveal r ≡ true → misfitting ≡ Nobody → revealed_sum ≡ 0 → finds O P l r heard ≡ Passed
    unfolding finds
    found_passed r e m z = ruling_fits O P.parties _ heard r e m ∙ weighs_zero revealed_sum z

    found_stopped : (r : Round) (b : Blame) → is_reveal r ≡ true → Because b → finds O P l r heard ≡ Stopped b
    unfolding finds
    found_stopped r (Blames i) e h = ruling_blames O P.parties _ heard r i e h
    found_stopped r Nobody e h = ruling_fits O P.parties _ heard r e h.0 ∙ weighs_not revealed_sum h.1

    -- the position after a second check that passes, and after a round that does not
    goes_on : next_position O P at.gate at.held (Reveal Second) Passed ≡ holding (follow P.circuit at.gate (Reveal Second)) 0
    unfolding next_position next keep
    goes_on = refl

    goes_nowhere : (r : Round) (b : Blame) → is_reveal r ≡ true
        → next_position O P at.gate at.held r (Stopped b) ≡ record { gate = at.gate; stage = Aborted; held = 0 }
    unfolding next_position next keep holding aborted
    goes_nowhere r b e = rw (← aborted_holds P.circuit at.gate (Stopped b) r (λ z. e) refl)

    found_reveals : (r : Round) (b : Blame) → finds O P l r heard ≡ Stopped b → is_reveal r ≡ true
    unfolding finds
    found_reveals r b h = ruling_reveals O P.parties _ heard r (ap passed h)

    -- "no score is released before its own check"
    pub output_exactly : (v : ℕ) (x : Position) → (receive_answer O P l at heard ≡ Output v x) ↔ Releases v x
    unfolding outcome concludes
    output_exactly v x = (there, back)
      where
        there : receive_answer O P l at heard ≡ Output v x → Releases v x
        there h =
            let (r, e, ok, is) = outcome_of h (λ number index q. let z : ◌≡◌ {A = ℕ} 0 1 = cc in omega arith) in
            let (found, released, told, v-is, x-is) = output_only O P _ at.gate at.held r (finds O P l r heard) is in
            let second = release_second r released in
            let (fit, zero) = passed_found (Reveal Second) refl (ap (λ (r : Round). finds O P l r heard) (sym second) ∙ found) in
            record {
              accepts = ok;
              second_reveal = e ∙ ap Receive second;
              all_fit = fit;
              zero_sum_lem = zero;
              told = told;
              output = sym v-is;
              position = sym x-is ∙ ap (λ (r : Round). next_position O P at.gate at.held r Passed) second ∙ goes_on;
            }

        back : Releases v x → receive_answer O P l at heard ≡ Output v x
        back h =
            receives_outcome h.accepts (Reveal Second) h.second_reveal
            ∙ rw (found_passed (Reveal Second) refl h.all_fit h.zero_sum_lem, h.told, goes_on, h.output, h.position)

    -- "A reveal whose hash is not the mark written for its seat stops the run before the sum is asked ..; else the sum alone decides"
    pub abort_exactly : (b : Blame) (x : Position) → (receive_answer O P l at heard ≡ Abort b x) ↔ Stops b x
    unfolding outcome concludes
    abort_exactly b x = (there, back)
      where
        there : receive_answer O P l at heard ≡ Abort b x → Stops b x
        there h =
            let (r, e, ok, is) = outcome_of h (λ number index q. let z : ◌≡◌ {A = ℕ} 0 1 = cc in omega arith) in
            let (found, x-is) = abort_only O P _ at.gate at.held r (finds O P l r heard) is in
            let reveals = found_reveals r b found in
            record {
              accepts = ok;
              round = r;
              receives = e;
              reveals = reveals;
              because = stopped_found r b reveals found;
              position = sym x-is ∙ goes_nowhere r b reveals;
            }

        back : Stops b x → receive_answer O P l at heard ≡ Abort b x
        back h =
            receives_outcome h.accepts h.round h.receives
            ∙ rw (found_stopped h.round b h.reveals h.because, goes_nowhere h.round b h.reveals, h.position)
