-- Which calls pass their questions: where a scratch holds what a round asks, and the lists lent fit, a party is not refused.
-- Assumes nothing.
use Prim.Native.Nat.{ℕ, ◌*◌, ◌<◌, ◌≤◌}
use mathlib.Core.Path.{◌≡◌, refl}
use mathlib.Core.Bool.{Bool, true, false, cond, not, ◌||◌}
use mathlib.Core.List.{List}
use lib.ListN.{length}
use lib.Dec.{ltb, eqb}
use borrow.Author.Tests.{lt-ltb, le-leb, eq-eqb}
use Rattle.circuit.specs.Verdict.{Accepted}
use Rattle.circuit.specs.Gate.{gate, gates}
use Rattle.circuit.specs.Count.{prep_size, input_count, unchecked}
use Rattle.circuit.specs.Round.{Round, Own, Open, Commit, Reveal, is_commit, is_reveal, reveal_words, rounds, among, words, opened_in, coefficients_in, nonce_in}
use Rattle.circuit.specs.Accept.{ask_circuit}
use Rattle.circuit.proofs.Verdicts.{ask_yes, then_both, each_all, elements_all}
use Rattle.protocol.specs.Scratch.{Slot, Share, Mac, Value, ValueMac, layout, scratch_size, read}
use Rattle.protocol.specs.Position.{Stage, Send, Receive, stage_occurs, may_hold, occurs, when_sending, when_receiving}
use Rattle.protocol.specs.Party.{Party}
use Rattle.protocol.specs.Ready.{HeardLow}
use Rattle.protocol.specs.Holding.{Below, Worked}
use Rattle.protocol.proofs.Writing.{OpenedTo}
use Rattle.protocol.specs.Ask.{ask_parties, slot_question, ask_slots, ask_worked, ask_heard, ask_send_round, ask_receive_round, ask_lent, ask_send, ask_receive}

-- Questions 1 to 12 look at the length of the scratch alone.
pub lent_alike : (q : ℕ) (P : Party) (l l' : List ℕ) → length l' ≡ length l → ask_lent q P l' ≡ ask_lent q P l
unfolding ask_lent
lent_alike q P l l' e = rw e

-- They pass where the setting is accepted, and the lists have their lengths and are of elements.
pub lent_passes : {q : ℕ} (P : Party) (l : List ℕ) → ask_parties P.parties ≡ Accepted
    → P.me < P.parties
    → ask_circuit P.parties q P.circuit ≡ Accepted
    → length P.prep ≡ prep_size P.circuit
    → Below q P.prep
    → length P.inputs ≡ input_count P.circuit P.me
    → Below q P.inputs
    → scratch_size P.parties P.circuit ≤ length l
    → ask_lent q P l ≡ Accepted
unfolding ask_lent
lent_passes {q} P l parties me circuit prep_long prep_low inputs_long inputs_low room =
    then_both parties
    (then_both (ask_yes 2 0 (lt-ltb _ _ me))
    (then_both circuit
    (then_both (ask_yes 8 0 (eq-eqb _ _ prep_long))
    (then_both (elements_all 9 q P.prep prep_low)
    (then_both (ask_yes 10 0 (eq-eqb _ _ inputs_long))
    (then_both (elements_all 11 q P.inputs inputs_low) (ask_yes 12 0 (le-leb _ _ room))))))))

module _ {q : ℕ} (c l : List ℕ) (j : ℕ) (r : Round) where
  slots_pass : (k : ℕ) (wanted : ℕ → Bool) (slot : ℕ → Slot) → ((t : ℕ) → t < k → wanted t ≡ true → read (layout c) l (slot t) < q)
      → ask_slots q c l k wanted slot ≡ Accepted
  unfolding ask_slots slot_question
  slots_pass k wanted slot h = each_all _ k (λ t lt. ask_yes 15 _ (go (wanted t) refl (h t lt)))
    where
      go : {t : ℕ} (b : Bool) → wanted t ≡ b → (wanted t ≡ true → read (layout c) l (slot t) < q)
          → (not b || ltb (read (layout c) l (slot t)) q) ≡ true
      go true e low = lt-ltb _ q (low e)
      go false e low = refl

  -- Question 15 passes where the wires and the unchecked entries are elements.
  pub worked_passes : Worked q c (layout c) l j → OpenedTo q (layout c) l (opened_in (unchecked c j) r) → ask_worked q c l j r ≡ Accepted
  unfolding ask_worked
  worked_passes w o =
      then_both (slots_pass j _ Share (λ x lx v. (w x lx v).share))
      (then_both (slots_pass j _ Mac (λ x lx v. (w x lx v).mac))
      (then_both (slots_pass _ _ Value (λ t lt v. (o t lt).value)) (slots_pass _ _ ValueMac (λ t lt v. (o t lt).mac))))

-- Question 13 passes at either half of a round of the gate, where the check share is an element, and 0 where none is held.
module _ (q : ℕ) (c : List ℕ) (j : ℕ) (held : ℕ) (within : j < gates c) where
  passes_13 : (s : Stage) → stage_occurs c j s ≡ true → held < q → (may_hold s ≡ false → held ≡ 0)
      → occurs q c (record { gate = j; stage = s; held = held }) ≡ true
  unfolding occurs
  passes_13 s o low none = rw (lt-ltb j (gates c) within, o) (go (may_hold s) refl)
    where
      go : (b : Bool) → may_hold s ≡ b → cond b (ltb held q) (eqb held 0) ≡ true
      go true e = lt-ltb held q low
      go false e = eq-eqb held 0 (none e)

module _ {q : ℕ} (P : Party) (l : List ℕ) (j held : ℕ) (r : Round)
    (lent : ask_lent q P l ≡ Accepted)
    (within : j < gates P.circuit)
    (has : among r (rounds P.circuit j) ≡ true)
    (worked : Worked q P.circuit (layout P.circuit) l j)
    (opened : OpenedTo q (layout P.circuit) l (opened_in (unchecked P.circuit j) r))
    (low : held < q) where
  -- Sending is not refused.
  pub send_passes : (is_reveal r ≡ false → held ≡ 0) → (coefficients nonce : List ℕ) (room : ℕ)
      → length coefficients ≡ coefficients_in (unchecked P.circuit j) r
      → Below q coefficients
      → length nonce ≡ nonce_in r
      → words (gate P.circuit j) r ≤ room
      → ask_send q P l (record { gate = j; stage = Send r; held = held }) coefficients nonce room ≡ Accepted
  unfolding ask_send ask_send_round when_sending stage_occurs may_hold
  send_passes none coefficients nonce room count below long space =
      then_both lent
      (then_both (ask_yes 13 0 (passes_13 q P.circuit j held within (Send r) has low none))
      (then_both (worked_passes P.circuit l j r worked opened)
      (then_both (ask_yes 16 0 (eq-eqb _ _ count))
      (then_both (elements_all 17 q coefficients below)
      (then_both (ask_yes 25 0 (eq-eqb _ _ long)) (ask_yes 18 0 (le-leb _ _ space)))))))

  -- Receiving is not refused.
  pub receive_passes : (is_commit r ≡ false → held ≡ 0) → (heard : List ℕ)
      → length heard ≡ P.parties * words (gate P.circuit j) r
      → HeardLow q P.parties r heard
      → ask_receive q P l (record { gate = j; stage = Receive r; held = held }) heard ≡ Accepted
  unfolding ask_receive ask_receive_round when_receiving stage_occurs may_hold
  receive_passes none heard count below =
      then_both lent
      (then_both (ask_yes 13 0 (passes_13 q P.circuit j held within (Receive r) has low none))
      (then_both (worked_passes P.circuit l j r worked opened)
      (then_both (ask_yes 19 0 (eq-eqb _ _ count)) (go r below))))
    where
      go : (r : Round) → HeardLow q P.parties r heard → ask_heard q P.parties r heard ≡ Accepted
      go Own h = elements_all 20 q heard h
      go Open h = elements_all 20 q heard h
      go (Commit k) h = refl
      go (Reveal k) h = each_all _ P.parties (λ i li. ask_yes 20 (i * reveal_words) (lt-ltb _ q (h i li)))
