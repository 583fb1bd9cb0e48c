-- Every position that an entry yields can occur: question 13 never refuses a position that is given back unaltered.
-- Assumes nothing.
use Prim.Native.Nat.{ℕ, ◌<◌}
use mathlib.Core.Path.{◌≡◌, refl, sym, subst, ◌∙◌}
use mathlib.Core.Bool.{Bool, true, false, cond, ◌&&◌}
use mathlib.Core.List.{List}
use native.Mathlib.Omega.{arith}
use lib.Dec.{ltb, eqb}
use borrow.Author.Tests.{ltb-true, lt-ltb, eq-eqb}
use Rattle.algebra.specs.Ops.{Ops}
use Rattle.algebra.specs.Field.{Field}
use Rattle.algebra.proofs.Ring.{sub_lt}
use Rattle.circuit.specs.Verdict.{Verdict, Accepted, Refused}
use Rattle.circuit.specs.Gate.{gate, gates}
use Rattle.circuit.specs.Kind.{seen_by, alone}
use Rattle.circuit.specs.Round.{Round, is_commit, is_reveal, rounds, among}
use Rattle.circuit.proofs.Tests.{by_cases, both_right}
use Rattle.circuit.proofs.Verdicts.{refused_no, then_left, then_right, ask_true}
use Rattle.protocol.specs.Scratch.{layout, marks_of}
use Rattle.protocol.specs.Position.{Position, Stage, Send, Receive, Finished, Aborted, holding, keep, occurs, stage_occurs, may_hold, when_sending, when_receiving}
use Rattle.protocol.specs.Party.{Party}
use Rattle.protocol.specs.Send.{check_share, holds}
use Rattle.protocol.specs.Receive.{Ruling, Passed, Stopped, passed, ruling, scored, finds}
use Rattle.protocol.specs.Ask.{ask_send, ask_receive}
use Rattle.protocol.specs.Entry.{Answer, Refusal, Next, Output, Abort, answer, releases, send_answer, receive_answer, next_position, concludes, outcome}
use Rattle.protocol.proofs.Following.{ruling_reveals, next_possible, next_holds}
use Rattle.protocol.proofs.Occurring.{held_some, held_none}
use Rattle.protocol.proofs.Accepted.{gate_occurs, stage_occurs_lem}
use Rattle.protocol.proofs.Entries.{sending_at_lem, receiving_at_lem}
use Rattle.protocol.proofs.Answers.{answered, receives_at}

-- a position can occur where its gate and its stage do, and its check share is an element where one is held and else 0
can_occur : (q : ℕ) (c : List ℕ) (at : Position) → at.gate < gates c → stage_occurs c at.gate at.stage ≡ true
    → (may_hold at.stage ≡ true → at.held < q) → (may_hold at.stage ≡ false → at.held ≡ 0) → occurs q c at ≡ true
can_occur q c at l s some none =
    by_cases (may_hold at.stage)
    (λ e. sym (held_some q c at l s e (sym (lt-ltb _ _ (some e)))))
    (λ e. sym (held_none q c at l s e (sym (eq-eqb _ _ (none e)))))

-- the check share at a position that can occur
held_low : (q : ℕ) (c : List ℕ) (at : Position) → occurs q c at ≡ true → may_hold at.stage ≡ true → at.held < q
unfolding occurs
held_low q c at e m = ltb-true _ _ (subst (λ (b : Bool). cond b (ltb at.held q) (eqb at.held 0) ≡ true) m (both_right (ltb at.gate (gates c) && stage_occurs c at.gate at.stage) _ e))

not_refusal : (x : Position) (number index : ℕ) → Next x ≡ Refusal number index → ⊥
not_refusal x number index e = let z : ◌≡◌ {A = ℕ} 0 1 = cc in omega arith

-- x is the position that an answer yields; a refusal yields none
abbrev pub Yields : Position → Answer → Type 0
Yields x (Refusal number index) = ⊥
Yields x (Next y) = y ≡ x
Yields x (Output v y) = y ≡ x
Yields x (Abort b y) = y ≡ x

yielded : (O : Ops) (P : Party) (w j held : ℕ) (r : Round) (v : Ruling) (x : Position) → Yields x (concludes O P w j held r v) → next_position O P j held r v ≡ x
unfolding concludes
yielded O P w j held r Passed x y = go (releases r && seen_by (alone P.me) (gate P.circuit j)) y
  where
    go : (b : Bool) → Yields x (cond b (Output w (next_position O P j held r Passed)) (Next (next_position O P j held r Passed))) → next_position O P j held r Passed ≡ x
    go true y = y
    go false y = y
yielded O P w j held r (Stopped b) x y = y

module _ {O : Ops} (F : Field O) (P : Party) (l : List ℕ) (at : Position) where
  open O use {size}

  -- what is held is an element after a commitment, and else 0
  holds_low : (r : Round) (coefficients : List ℕ) → holds O P l at.gate r coefficients < size
  unfolding holds check_share
  holds_low r coefficients = go (is_commit r) _ _
    where
      go : (b : Bool) (x y : ℕ) → cond b (O.sub x y) 0 < size
      go true x y = sub_lt F x y
      go false x y = omega (arith, F.one_lt)

  holds_none : (r : Round) (coefficients : List ℕ) → is_commit r ≡ false → holds O P l at.gate r coefficients ≡ 0
  unfolding holds
  holds_none r coefficients e = rw e

  -- the place and the half of an accepted sending
  sends_at : (s : Stage) (f : Round → Verdict) → when_sending s (Refused 14 0) f ≡ Accepted → (r : Round) × (s ≡ Send r)
  unfolding when_sending
  sends_at (Send r) f e = (r, refl)
  sends_at (Receive r) f e = refused_no e
  sends_at Finished f e = refused_no e
  sends_at Aborted f e = refused_no e

  pub sent_position_occurs : (coefficients nonce : List ℕ) (room : ℕ) {x : Position} → send_answer O P l at coefficients nonce room ≡ Next x → occurs size P.circuit x ≡ true
  unfolding send_answer ask_send
  sent_position_occurs coefficients nonce room {x} e =
      let (ok, is) = answered _ _ _ e (not_refusal x) in
      let here : occurs size P.circuit at ≡ true = ask_true 13 0 _ (then_left _ _ (then_right _ _ ok)) in
      let (r, sends) = sends_at at.stage _ (then_right _ _ (then_right _ _ ok)) in
      let next-is = sym (sending_at_lem at.stage r sends at _) ∙ next_of is in
      subst (λ (y : Position). occurs size P.circuit y ≡ true) next-is
      (can_occur size P.circuit _ (gate_occurs size P.circuit at here)
      (occurs_too r sends (stage_occurs_lem size P.circuit at here)) (λ m. holds_low r coefficients) (λ m. holds_none r coefficients (unfold may_hold in m)))
    where
      next_of : {y : Position} → Next y ≡ Next x → y ≡ x
      next_of e = cc

      occurs_too : (r : Round) → at.stage ≡ Send r → stage_occurs P.circuit at.gate at.stage ≡ true → stage_occurs P.circuit at.gate (Receive r) ≡ true
      occurs_too r e h = unfold stage_occurs in (rw e at h)

  -- the position that follows a round of the circuit
  next_occurs : (r : Round) (v : Ruling) → (passed v ≡ false → is_reveal r ≡ true) → occurs size P.circuit at ≡ true → at.stage ≡ Receive r → occurs size P.circuit (next_position O P at.gate at.held r v) ≡ true
  unfolding next_position holding
  next_occurs r v lawful here e =
      let l : at.gate < gates P.circuit = gate_occurs size P.circuit at here in
      let has : among r (rounds P.circuit at.gate) ≡ true = among_of (stage_occurs_lem size P.circuit at here) in
      let can = next_possible P.circuit at.gate v r has lawful l in
      let holding-is = next_holds P.circuit at.gate v r has lawful in
      can_occur size P.circuit _ can.within can.occurs
      (λ m. kept_low (sym holding-is ∙ m)) (λ m. kept_none (sym holding-is ∙ m))
    where
      among_of : stage_occurs P.circuit at.gate at.stage ≡ true → among r (rounds P.circuit at.gate) ≡ true
      among_of h = unfold stage_occurs in (rw e at h)

      kept_low : is_commit r ≡ true → keep r at.held < size
      kept_low c = unfold keep in (rw c (held_low size P.circuit at here (unfold may_hold in (rw (e, c)))))

      kept_none : is_commit r ≡ false → keep r at.held ≡ 0
      kept_none c = unfold keep in (rw c)

  pub received_position_occurs : (heard : List ℕ) (x : Position) → Yields x (receive_answer O P l at heard) → occurs size P.circuit x ≡ true
  unfolding receive_answer ask_receive answer outcome finds
  received_position_occurs heard x y = go (ask_receive size P l at heard) refl y
    where
      at_round : (r : Round) → at.stage ≡ Receive r → occurs size P.circuit at ≡ true → Yields x (outcome O P l at.gate at.held heard r) → occurs size P.circuit x ≡ true
      at_round r e here y =
          let marks = marks_of P.parties (layout P.circuit) l in
          subst (λ (z : Position). occurs size P.circuit z ≡ true)
          (yielded O P (scored O P l at.gate) at.gate at.held r (ruling O P.parties r marks heard) x y)
          (next_occurs r (ruling O P.parties r marks heard) (ruling_reveals O P.parties marks heard r) here e)

      go : (v : Verdict) → ask_receive size P l at heard ≡ v → Yields x (answer v (when_receiving at.stage (Next at) (outcome O P l at.gate at.held heard))) → occurs size P.circuit x ≡ true
      go Accepted e y =
          let parts = then_right _ _ e in
          let here : occurs size P.circuit at ≡ true = ask_true 13 0 _ (then_left _ _ parts) in
          let (r, is) = receives_at at.stage _ (then_right _ _ parts) in
          at_round r is here (subst (Yields x) (receiving_at_lem at.stage r is (Next at) (outcome O P l at.gate at.held heard)) y)
      go (Refused number index) e y = absurd y
