-- The questions at a party's entries: 1 to 20 of document 01, and 25 of document 02.
-- Assumes nothing.
use Rattle.std.specs.Prelude.{ℕ, ◌*◌, Bool, true, not, ◌&&◌, ◌||◌, List, length, get_or, ltb, leb, eqb}
use Rattle.circuit.specs.Verdict.{Verdict, Accepted, Refused, ask, ◌then◌, each, elements}
use Rattle.circuit.specs.Gate.{gate}
use Rattle.circuit.specs.Kind.{has_value}
use Rattle.circuit.specs.Count.{prep_size, input_count, unchecked}
use Rattle.circuit.specs.Round.{Round, Own, Open, Commit, Reveal, reveal_words, words, opened_in, coefficients_in, nonce_in}
use Rattle.circuit.specs.Accept.{ask_circuit}
use Rattle.protocol.specs.Scratch.{Slot, Share, Mac, Value, ValueMac, layout, offset, scratch_size, read}
use Rattle.protocol.specs.Position.{Position, occurs, when_sending, when_receiving}
use Rattle.protocol.specs.Party.{Party}

-- "Are there 2 to 8 seats? 1."
abbrev pub fewest_parties : ℕ
fewest_parties = 2

abbrev pub most_parties : ℕ
most_parties = 8

unfoldable pub ask_parties : ℕ → Verdict
ask_parties n = ask 1 0 (leb fewest_parties n && leb n most_parties)

-- "All below p? 20." "Mark and nonce words are any 32-bit numbers": of a reveal the check shares of n parties are asked, of a commitment no word; q is
-- the size of the field
abbrev pub ask_heard : ℕ → ℕ → Round → List ℕ → Verdict
ask_heard q n Own heard = elements 20 q heard
ask_heard q n Open heard = elements 20 q heard
ask_heard q n (Commit k) heard = Accepted
ask_heard q n (Reveal k) heard = each n (λ i. ask 20 (i * reveal_words) (ltb (get_or heard (i * reveal_words) 0) q))

-- q is the size of the field, document 01's p
module _ (q : ℕ) (c : List ℕ) where
  -- one slot, if it is wanted: is it below q? The index is that in the scratch
  unfoldable pub slot_question : List ℕ → Bool → Slot → Verdict
  slot_question l wanted s = ask 15 (offset (layout c) s) (not wanted || ltb (read (layout c) l s) q)

  -- the slots 0, .., k - 1 of one sort
  unfoldable pub ask_slots : List ℕ → ℕ → (ℕ → Bool) → (ℕ → Slot) → Verdict
  ask_slots l k wanted slot = each k (λ t. slot_question l (wanted t) (slot t))

  -- "Are the shares and MAC shares of the lines already worked out at that place, and the opened entries not yet checked, below p? 15."
  unfoldable pub ask_worked : List ℕ → ℕ → Round → Verdict
  ask_worked l j r =
      ask_slots l j (λ x. has_value (gate c x)) Share
      then ask_slots l j (λ x. has_value (gate c x)) Mac
      then ask_slots l (opened_in (unchecked c j) r) (λ t. true) Value
      then ask_slots l (opened_in (unchecked c j) r) (λ t. true) ValueMac

  -- "Speaking: exactly the draws wanted (none outside a seal)? 16. Below p? 17. Does the outgoing list hold the words? 18."; "a nonce list of any
  -- length but 32 at a spoken seal, 0 in any other speaking .. is 25, asked after 17"
  unfoldable pub ask_send_round : List ℕ → ℕ → List ℕ → List ℕ → ℕ → Round → Verdict
  ask_send_round l j coefficients nonce room r =
      ask_worked l j r
      then ask 16 0 (eqb (length coefficients) (coefficients_in (unchecked c j) r))
      then elements 17 q coefficients
      then ask 25 0 (eqb (length nonce) (nonce_in r))
      then ask 18 0 (leb (words (gate c j) r) room)

  -- "Hearing: exactly seats × words of this round? 19. All below p? 20."; "Question 21 is dropped". Of n parties
  unfoldable pub ask_receive_round : ℕ → List ℕ → ℕ → List ℕ → Round → Verdict
  ask_receive_round n l j heard r =
      ask_worked l j r
      then ask 19 0 (eqb (length heard) (n * words (gate c j) r))
      then ask_heard q n r heard

module _ (q : ℕ) (P : Party) where
  -- "Opening, speaking and hearing ask 1 to 12 of all that is lent"
  unfoldable pub ask_lent : List ℕ → Verdict
  ask_lent scratch =
      ask_parties P.parties
      then ask 2 0 (ltb P.me P.parties)
      then ask_circuit P.parties q P.circuit
      then ask 8 0 (eqb (length P.prep) (prep_size P.circuit))
      then elements 9 q P.prep
      then ask 10 0 (eqb (length P.inputs) (input_count P.circuit P.me))
      then elements 11 q P.inputs
      then ask 12 0 (leb (scratch_size P.parties P.circuit) (length scratch))

  -- "Can the place occur in this circuit, its held word below p? 13. Is it the half that is called? 14 (a finished or stopped place has neither)."
  unfoldable pub ask_send : List ℕ → Position → List ℕ → List ℕ → ℕ → Verdict
  ask_send l at coefficients nonce room =
      ask_lent l
      then ask 13 0 (occurs q P.circuit at)
      then when_sending at.stage (Refused 14 0) (ask_send_round q P.circuit l at.gate coefficients nonce room)

  unfoldable pub ask_receive : List ℕ → Position → List ℕ → Verdict
  ask_receive l at heard =
      ask_lent l
      then ask 13 0 (occurs q P.circuit at)
      then when_receiving at.stage (Refused 14 0) (ask_receive_round q P.circuit P.parties l at.gate heard)
