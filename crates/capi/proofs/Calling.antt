-- A call whose answer has room does what its entry does; one whose answer has none is refused and leaves every list.
-- Assumes nothing.
use Prim.Native.Nat.{ℕ, suc, ◌*◌, ◌-◌, ◌<◌, ◌≤◌}
use mathlib.Core.Path.{◌≡◌, refl, sym, ap, subst, ◌∙◌}
use mathlib.Core.Bool.{Bool, true, false, cond, ◌&&◌}
use mathlib.Core.List.{List, []}
use native.Mathlib.Omega.{arith}
use lib.ListN.{length}
use lib.Dec.{leb, eqb}
use borrow.Author.Tests.{le-leb, lt-leb}
use Rattle.std.specs.Prelude.{Result, Ok, Err}
use Rattle.algebra.specs.Ops.{Ops}
use Rattle.field.specs.Words.{size, ops}
use Rattle.circuit.specs.Verdict.{Verdict, Accepted, Refused, ask, ◌then◌, elements}
use Rattle.circuit.specs.Gate.{gate, gates}
use Rattle.circuit.specs.Kind.{is_out, seen_by, alone}
use Rattle.circuit.specs.Count.{total, count, out_count, prep_size, in_count}
use Rattle.circuit.specs.Round.{Round, nonce_size, word_count, coefficient_count, check_count}
use Rattle.circuit.specs.Accept.{ask_circuit}
use Rattle.circuit.specs.Question.{verdict_of}
use Rattle.circuit.specs.declared.questions.Refusal as code
use Rattle.circuit.proofs.Valid.{valid}
use Rattle.circuit.proofs.Verdicts.{ask_yes, ask_no, then_left, then_right}
use Rattle.circuit.proofs.Loops.{then_assoc}
use Rattle.protocol.specs.Scratch.{scratch_size}
use Rattle.protocol.specs.Position.{Position, Stage, Send, Receive, Finished, Aborted, when_receiving}
use Rattle.protocol.specs.Send.{overwrite}
use Rattle.protocol.specs.Receive.{Blame, Ruling, Passed, Stopped, scored, finds}
use Rattle.protocol.specs.Party.{Party}
use Rattle.protocol.specs.Ask.{ask_parties, ask_lent, ask_send, ask_receive}
use Rattle.protocol.specs.Entry as E
use Rattle.protocol.specs.Entry.{leave, open_answer, send_answer, send_out, send_scratch, receive_answer, receive_scratch}
use Rattle.protocol.specs.Joint.{Joint}
use Rattle.protocol.specs.JointAsk.{ask_joint}
use Rattle.protocol.specs.JointEntry as Whole
use Rattle.protocol.specs.JointEntry.{joint_answer, joint_scratch, joint_transcript, joint_outputs}
use Rattle.party.specs.Code.{outcome_is, answer_of}
use Rattle.party.specs.declared.Outcome.{Outcome}
use Rattle.party.specs.declared.Outcome.TheVariants as party
use Rattle.joint.specs.Code.{ending_of, joint_answer_of}
use Rattle.joint.specs.declared.Ending.{Ending}
use Rattle.joint.specs.declared.Ending.TheVariants as joint
use Rattle.capi.specs.Numbers.{places, answer_numbers, joint_numbers}
use Rattle.capi.specs.Calls.{room_question, called, returned, answer_verdict, joint_verdict}
use Rattle.capi.specs.declared.Refusal.{Refusal}

then_accepted : (v : Verdict) → (v then Accepted) ≡ v
unfolding ◌then◌
then_accepted Accepted = refl
then_accepted (Refused number index) = refl

-- what a refusal leaves
pub kept : (v : Verdict) (number index : ℕ) (later before : List ℕ) → leave (v then Refused number index) later before ≡ before
unfolding ◌then◌ leave
kept Accepted number index later before = refl
kept (Refused m i) number index later before = refl

pub leave_again : (v : Verdict) (later before : List ℕ) → leave v (leave v later before) before ≡ leave v later before
unfolding leave
leave_again Accepted later before = refl
leave_again (Refused number index) later before = refl

module _ (v : Verdict) (answer : List ℕ) where
  -- the list for the answer is too short
  module _ (short : length answer < places) where
    pub no_room : called v answer ≡ (v then Refused room_question 0)
    unfolding called
    no_room = rw (ask_no room_question 0 (lt-leb places (length answer) short))

    pub short_returned : {r : Refusal} {w : Verdict} → w ≡ v → r ≡ returned (w then Refused room_question 0) → r ≡ returned (called v answer)
    short_returned e f = rw (no_room, ← e) f

    -- the call lent its entry a list that has no room
    pub short_refused : {r : Refusal} {w : Verdict} → w ≡ (v then Refused room_question 0) → r ≡ returned w → r ≡ returned (called v answer)
    short_refused e f = f ∙ rw (e, no_room)

    pub short_kept : (later before : List ℕ) → before ≡ leave (called v answer) later before
    short_kept later before = rw no_room (sym (kept v room_question 0 later before))

  -- it is long enough
  module _ (long : places ≤ length answer) where
    room : called v answer ≡ v
    unfolding called
    room = rw (ask_yes room_question 0 (le-leb places (length answer) long)) (then_accepted v)

    pub long_returned : {r : Refusal} {w : Verdict} → w ≡ v → r ≡ returned w → r ≡ returned (called v answer)
    long_returned e f = rw (room, ← e) f

    pub long_left : {after : List ℕ} (x before : List ℕ) → leave v x before ≡ x → after ≡ x → after ≡ leave (called v answer) x before
    long_left x before e f = rw room (f ∙ sym e)

-- a refusal writes no answer
answer_left : (a : E.Answer) (xs : List ℕ) → leave (answer_verdict a) (overwrite (answer_numbers a) xs) xs ≡ overwrite (answer_numbers a) xs
unfolding leave answer_verdict answer_numbers overwrite
answer_left (E.Refusal number index) xs = refl
answer_left (E.Next at) xs = refl
answer_left (E.Output output at) xs = refl
answer_left (E.Abort b at) xs = refl

joint_left : (a : Whole.JointAnswer) (xs : List ℕ) → leave (joint_verdict a) (overwrite (joint_numbers a) xs) xs ≡ overwrite (joint_numbers a) xs
unfolding leave joint_verdict joint_numbers overwrite
joint_left (Whole.Refusal number index) xs = refl
joint_left (Whole.Done rounds) xs = refl
joint_left (Whole.Aborted gate b rounds) xs = refl

-- what is asked of the code's answer is asked of what it stands for
answer_said : (a : Result Outcome code.Refusal) → verdict_of a ≡ answer_verdict (answer_of a)
unfolding answer_of outcome_is answer_verdict
answer_said (Ok (party.Next at)) = refl
answer_said (Ok (party.Output v at)) = refl
answer_said (Ok (party.Abort b at)) = refl
answer_said (Err r) = refl

pub answer_told : (a : Result Outcome code.Refusal) {b : E.Answer} {v : Verdict} → answer_of a ≡ b → answer_verdict b ≡ v → verdict_of a ≡ v
answer_told a e h = answer_said a ∙ rw e h

joint_said : (a : Result Ending code.Refusal) → verdict_of a ≡ joint_verdict (joint_answer_of a)
unfolding joint_answer_of ending_of joint_verdict
joint_said (Ok (joint.Done rounds)) = refl
joint_said (Ok (joint.Aborted j b rounds)) = refl
joint_said (Err r) = refl

pub joint_told : (a : Result Ending code.Refusal) {b : Whole.JointAnswer} {v : Verdict} → joint_answer_of a ≡ b → joint_verdict b ≡ v → verdict_of a ≡ v
joint_told a e h = joint_said a ∙ rw e h

-- the verdict of an answer is that of its entry's questions
answered : (v : Verdict) (a : E.Answer) → answer_verdict a ≡ Accepted → answer_verdict (E.answer v a) ≡ v
unfolding E.answer answer_verdict
answered Accepted a e = e
answered (Refused number index) a e = refl

module _ (O : Ops) (P : Party) (l : List ℕ) where
  pub open_verdict : answer_verdict (open_answer O P l) ≡ ask_lent O.size P l
  unfolding open_answer answer_verdict
  open_verdict = answered (ask_lent O.size P l) _ refl

  pub open_left : (xs : List ℕ) → leave (ask_lent O.size P l) (overwrite (answer_numbers (open_answer O P l)) xs) xs ≡ overwrite (answer_numbers (open_answer O P l)) xs
  open_left xs = rw (← open_verdict) (answer_left (open_answer O P l) xs)

  module _ (at : Position) (coefficients nonce : List ℕ) where
    pub send_verdict : (k : ℕ) → answer_verdict (send_answer O P l at coefficients nonce k) ≡ ask_send O.size P l at coefficients nonce k
    unfolding send_answer answer_verdict
    send_verdict k = answered (ask_send O.size P l at coefficients nonce k) _ refl

    pub send_left : (k : ℕ) (xs : List ℕ)
        → leave (ask_send O.size P l at coefficients nonce k) (overwrite (answer_numbers (send_answer O P l at coefficients nonce k)) xs) xs
        ≡ overwrite (answer_numbers (send_answer O P l at coefficients nonce k)) xs
    send_left k xs = rw (← send_verdict k) (answer_left (send_answer O P l at coefficients nonce k) xs)

    pub out_left : (out : List ℕ) → leave (ask_send O.size P l at coefficients nonce (length out)) (send_out O P l at coefficients nonce out) out ≡ send_out O P l at coefficients nonce out
    unfolding send_out
    out_left out = leave_again (ask_send O.size P l at coefficients nonce (length out)) _ out

    pub noted_left : (k : ℕ) → leave (ask_send O.size P l at coefficients nonce k) (send_scratch O P l at coefficients nonce k) l ≡ send_scratch O P l at coefficients nonce k
    unfolding send_scratch
    noted_left k = leave_again (ask_send O.size P l at coefficients nonce k) _ l

  module _ (at : Position) (heard : List ℕ) where
    outcome_accepted : (r : Round) → answer_verdict (E.outcome O P l at.gate at.held heard r) ≡ Accepted
    unfolding E.outcome E.concludes answer_verdict
    outcome_accepted r = by (finds O P l r heard)
      where
        released : (output : ℕ) (next : Position) (y : Bool) → answer_verdict (cond y (E.Output output next) (E.Next next)) ≡ Accepted
        released output next true = refl
        released output next false = refl

        by : (v : Ruling) → answer_verdict (E.concludes O P (scored O P l at.gate) at.gate at.held r v) ≡ Accepted
        by Passed = released _ _ (E.releases r && seen_by (alone P.me) (gate P.circuit at.gate))
        by (Stopped b) = refl

    accepted_at : (s : Stage) → answer_verdict (when_receiving s (E.Next at) (E.outcome O P l at.gate at.held heard)) ≡ Accepted
    unfolding when_receiving answer_verdict
    accepted_at (Send r) = refl
    accepted_at (Receive r) = outcome_accepted r
    accepted_at Finished = refl
    accepted_at Aborted = refl

    pub receive_verdict : answer_verdict (receive_answer O P l at heard) ≡ ask_receive O.size P l at heard
    unfolding receive_answer
    receive_verdict = answered (ask_receive O.size P l at heard) _ (accepted_at at.stage)

    pub receive_left : (xs : List ℕ)
        → leave (ask_receive O.size P l at heard) (overwrite (answer_numbers (receive_answer O P l at heard)) xs) xs
        ≡ overwrite (answer_numbers (receive_answer O P l at heard)) xs
    receive_left xs = rw (← receive_verdict) (answer_left (receive_answer O P l at heard) xs)

    pub scratch_left : leave (ask_receive O.size P l at heard) (receive_scratch O P l at heard) l ≡ receive_scratch O P l at heard
    unfolding receive_scratch
    scratch_left = leave_again (ask_receive O.size P l at heard) _ l

joined : (v : Verdict) (a : Whole.JointAnswer) → joint_verdict a ≡ Accepted → joint_verdict (Whole.jointly v a) ≡ v
unfolding Whole.jointly joint_verdict
joined Accepted a e = e
joined (Refused number index) a e = refl

ended_accepted : (s : Stage) (gate : ℕ) (b : Blame) (rounds : ℕ) → joint_verdict (Whole.ended s gate b rounds) ≡ Accepted
unfolding Whole.ended joint_verdict
ended_accepted (Send r) gate b rounds = refl
ended_accepted (Receive r) gate b rounds = refl
ended_accepted Finished gate b rounds = refl
ended_accepted Aborted gate b rounds = refl

module _ (O : Ops) (J : Joint) (l transcript outputs : List ℕ) where
  pub joint_verdict_is : joint_verdict (joint_answer O J l transcript outputs) ≡ ask_joint O.size J l (length transcript) (length outputs)
  unfolding joint_answer Whole.verdict
  joint_verdict_is = joined (ask_joint O.size J l (length transcript) (length outputs)) _ (ended_accepted _ _ _ _)

  pub joint_answer_left : (xs : List ℕ)
      → leave (ask_joint O.size J l (length transcript) (length outputs)) (overwrite (joint_numbers (joint_answer O J l transcript outputs)) xs) xs
      ≡ overwrite (joint_numbers (joint_answer O J l transcript outputs)) xs
  joint_answer_left xs = rw (← joint_verdict_is) (joint_left (joint_answer O J l transcript outputs) xs)

  pub joint_scratch_left : leave (ask_joint O.size J l (length transcript) (length outputs)) (joint_scratch O J l transcript outputs) l ≡ joint_scratch O J l transcript outputs
  unfolding joint_scratch Whole.verdict
  joint_scratch_left = leave_again (ask_joint O.size J l (length transcript) (length outputs)) _ l

  pub joint_transcript_left : leave (ask_joint O.size J l (length transcript) (length outputs)) (joint_transcript O J l transcript outputs) transcript ≡ joint_transcript O J l transcript outputs
  unfolding joint_transcript Whole.verdict
  joint_transcript_left = leave_again (ask_joint O.size J l (length transcript) (length outputs)) _ transcript

  pub joint_outputs_left : leave (ask_joint O.size J l (length transcript) (length outputs)) (joint_outputs O J l transcript outputs) outputs ≡ joint_outputs O J l transcript outputs
  unfolding joint_outputs Whole.verdict
  joint_outputs_left = leave_again (ask_joint O.size J l (length transcript) (length outputs)) _ outputs

-- the last gate of an accepted circuit is an out, so that there is an output
some_output : (c : List ℕ) (j : ℕ) → is_out (gate c j) ≡ true → 0 < count is_out c (suc j)
unfolding count total
some_output c j e = rw e (omega arith)

an_output : (n : ℕ) (c : List ℕ) → ask_circuit n size c ≡ Accepted → 0 < out_count c
unfolding out_count
an_output n c e =
    let ok = valid n size c e in
    let last : suc (gates c - 1) ≡ gates c = omega (arith, ok.two) in
    subst (λ (j : ℕ). 0 < count is_out c j) last (some_output c (gates c - 1) ok.last)

pub then_refuses : (number index : ℕ) (t : Bool) → (ask number index t then Refused number index) ≡ Refused number index
unfolding ask ◌then◌
then_refuses number index true = refl
then_refuses number index false = refl

last_no : (before : Verdict) (none some : Bool) → (before ≡ Accepted → none ≡ false)
    → (before then ask room_question 0 none) ≡ ((before then ask room_question 0 some) then Refused room_question 0)
unfolding ◌then◌
last_no Accepted none some lacks = ask_no room_question 0 (lacks refl) ∙ sym (then_refuses room_question 0 some)
last_no (Refused number index) none some lacks = refl

-- an entry asks last of its lists: lent one that has no room, it is refused as a call whose answer has none
pub last_refused : (before : Verdict) (none some : Bool) → (before ≡ Accepted → none ≡ false)
    → {short asked : Verdict} → (before then ask room_question 0 none) ≡ short → (before then ask room_question 0 some) ≡ asked
    → short ≡ (asked then Refused room_question 0)
last_refused before none some lacks e f = sym e ∙ last_no before none some lacks ∙ ap (λ (v : Verdict). v then Refused room_question 0) f

both_no : (a b : Bool) → b ≡ false → (a && b) ≡ false
both_no true b e = e
both_no false b e = refl

-- the questions of the joint run before that of its lists
abbrev before_room : Joint → List ℕ → Verdict
before_room W l =
    ask_parties W.parties
    then ask_circuit W.parties size W.circuit
    then ask 8 0 (eqb (length W.preps) (W.parties * prep_size W.circuit))
    then elements 9 size W.preps
    then ask 10 0 (eqb (length W.inputs) (in_count W.circuit))
    then elements 11 size W.inputs
    then ask 12 0 (leb (W.parties * scratch_size W.parties W.circuit) (length l))
    then ask 16 0 (eqb (length W.coefficients) (coefficient_count W.circuit))
    then elements 17 size W.coefficients
    then ask 25 0 (eqb (length W.nonces) (nonce_size * (W.parties * check_count W.circuit)))

module _ (W : Joint) (l : List ℕ) (transcript : ℕ) where
  -- lent no outputs, the joint run is refused as one whose answer has no room
  pub no_outputs : (outputs : ℕ) → ask_joint size W l transcript 0 ≡ (ask_joint size W l transcript outputs then Refused room_question 0)
  unfolding ask_joint
  no_outputs outputs =
      let n = W.parties in
      let c = W.circuit in
      let enough = leb (n * word_count c) transcript in
      last_refused (before_room W l) (enough && leb (out_count c) 0) (enough && leb (out_count c) outputs)
      (λ e. both_no enough _ (lt-leb (out_count c) 0 (an_output n c (then_left _ _ (then_right (ask_parties n) _ e))))) (simp then_assoc) (simp then_assoc)

  nothing_left : (x before : List ℕ) → leave (ask_joint size W l transcript 0) x before ≡ before
  nothing_left x before = rw (no_outputs 0) (kept (ask_joint size W l transcript 0) room_question 0 x before)

module _ (W : Joint) (l transcript : List ℕ) where
  pub scratch_kept : joint_scratch ops W l transcript [] ≡ l
  unfolding joint_scratch Whole.verdict
  scratch_kept = nothing_left W l (length transcript) _ l

  pub transcript_kept : joint_transcript ops W l transcript [] ≡ transcript
  unfolding joint_transcript Whole.verdict
  transcript_kept = nothing_left W l (length transcript) _ transcript

  pub outputs_kept : joint_outputs ops W l transcript [] ≡ []
  unfolding joint_outputs Whole.verdict
  outputs_kept = nothing_left W l (length transcript) _ []
