-- What a party's scratch has of each gate, of any preprocessing, good or not: elements; and of a gate that needs no round what its kind makes of
-- the gates that it names. Every step keeps it.
-- Assumes nothing.
use Prim.Native.Nat.{ℕ, zero, suc, ◌+◌, ◌-◌, ◌*◌, ◌<◌, ◌≤◌}
use mathlib.Core.Path.{◌≡◌, refl, sym, ap, ap₂, subst, ◌∙◌}
use mathlib.Core.Logic.{◌⊎◌, inl, inr}
use mathlib.Core.Bool.{true, false}
use mathlib.Core.List.{List, []}
use native.Mathlib.Decide.{ℕ_discrete}
use native.Mathlib.Omega.{arith}
use lib.ListN.{length}
use lib.Dec.{eqb}
use borrow.Author.Tests.{eqb-true}
use Rattle.algebra.specs.Ops.{Ops}
use Rattle.algebra.specs.Field.{Field}
use Rattle.sha256.specs.Sha256.{words_of}
use Rattle.sha256.proofs.Bytes.{length_words}
use Rattle.circuit.specs.Gate.{Gate, gate, gates}
use Rattle.circuit.specs.Kind.{Class, Local, Owned, Opens, Output, shape, is_class, has_value, is_linear}
use Rattle.circuit.specs.Count.{unchecked}
use Rattle.circuit.specs.Round.{First, Second, Round, Own, Open, Commit, Reveal, is_commit, among, rounds, shape_words, words, nonce_in, nonce_size, nonce_words}
use Rattle.circuit.specs.Valid.{Valid}
use Rattle.circuit.proofs.Tests.{by_cases, false_no}
use Rattle.circuit.proofs.Counts.{unchecked_within}
use Rattle.circuit.proofs.KindLaws.{class_is, opens_facts}
use Rattle.circuit.proofs.Gates.{local_named}
use Rattle.circuit.proofs.RoundLaws.{class_at_round}
use Rattle.protocol.specs.Part.{Part}
use Rattle.protocol.specs.Scratch.{layout, slots_size, scratch_size, wire, put_wire, put_opened, put_nonce}
use Rattle.protocol.specs.Position.{Point, Stage, Send, Receive, Finished, Aborted, finished, aborted, reach, resume}
use Rattle.protocol.specs.Party.{Party, key}
use Rattle.protocol.specs.Send.{noted}
use Rattle.protocol.specs.Receive.{operand_of, after_input, put_differences, after_opening, after_open_output, linear, put_linear, after_linear, settle, passed, onward, own_received, check_passed, received, left}
use Rattle.protocol.specs.Joint.{Joint, party}
use Rattle.protocol.specs.Run.{State, begun, said, notes, ends, step}
use Rattle.protocol.proofs.Writing.{Elements, shift_elements, product_elements}
use Rattle.protocol.proofs.Settling.{linear_elements}
use Rattle.protocol.proofs.Slots.{length_put, length_opened, wire_put_same, wire_put_other, wire_opened}
use Rattle.protocol.proofs.Tails.{slots_room, marks_room, nonce_room, nonce_length, marks_length, read_nonce, read_marks, SameSlots, wire_same}
use Rattle.protocol.proofs.Lengths.{length_noted}
use Rattle.protocol.proofs.Following.{followed, next_followed, next_aborted, start_is}
use Rattle.protocol.proofs.Points.{Reached, reached, Entered, ended, begun as beginning, entered, FitsStage}
use Rattle.theorems.specs.Premises.{Enough, after}
use Rattle.theorems.proofs.KindValues.{local_second}
use Rattle.theorems.proofs.Runs.{Idle, after_step, after_idle}
use Rattle.theorems.proofs.Sealing.{Kept, kept_room, kept_after, said_long, going_at}
use Rattle.theorems.proofs.Standing.{handed_nonce, handed_long, notes_handed}

-- A gate of another class needs a round.
not_local : {A : Type 0} {h : Class} (k : Class) → is_class Local k ≡ false → h ≡ k → h ≡ Local → A
not_local k other e q = false_no (sym other ∙ class_is (sym e ∙ q))

module _ {O : Ops} (F : Field O) (P : Party) (ok : Valid P.parties O.size P.circuit) where
  open O use {size}

  -- the party's part of gate x
  abbrev part : List ℕ → ℕ → Part
  part l x = wire (layout P.circuit) l x

  -- what a kind that needs no round makes of the gates that gate g names
  abbrev pub makes : List ℕ → Gate → Part
  makes l g = linear O P.me (key P) g.kind (part l g.first) (part l g.second) (operand_of O g)

  pub record Made (l : List ℕ) (x : ℕ) : Type 0 where
    pub low : Elements size (part l x)
    pub is : (shape (gate P.circuit x)).class ≡ Local → part l x ≡ makes l (gate P.circuit x)

  -- all gates before j that have a value
  pub record Done (l : List ℕ) (j : ℕ) : Type 0 where
    pub within : j ≤ gates P.circuit
    pub room : slots_size (layout P.circuit) ≤ length l
    pub made : (x : ℕ) → x < j → has_value (gate P.circuit x) ≡ true → Made l x

  -- The gates that a gate names are earlier.
  makes_alike : (l l' : List ℕ) (x : ℕ) → x < gates P.circuit → (shape (gate P.circuit x)).class ≡ Local → ((z : ℕ) → z < x → part l' z ≡ part l z)
      → makes l (gate P.circuit x) ≡ makes l' (gate P.circuit x)
  makes_alike l l' x h k e =
      let g = gate P.circuit x in
      ap₂ (λ (v w : Part). linear O P.me (key P) g.kind v w (operand_of O g))
      (sym (e g.first (local_named ok x h k).earlier)) (sym (e g.second (local_second F ok x h k).earlier))

  -- Where the gates before j read alike, they are made alike.
  done_alike : (l l' : List ℕ) (j : ℕ) → length l' ≡ length l → ((z : ℕ) → z < j → part l' z ≡ part l z) → Done l j → Done l' j
  done_alike l l' j len e d =
      record {
        within = d.within;
        room = rw len d.room;
        made =
            λ x h v.
            let m = d.made x h v in
            record {
              low = rw (e x h) m.low;
              is = λ k. e x h ∙ m.is k ∙ makes_alike l l' x (omega (arith, d.within)) k (λ z lz. e z (omega arith));
            };
      }

  done_same : (l l' : List ℕ) {j : ℕ} → length l' ≡ length l → SameSlots (layout P.circuit) l l' → Done l j → Done l' j
  unfolding layout
  done_same l l' len same d = done_alike l l' _ len (λ z h. wire_same (layout P.circuit) l l' z same (omega (arith, d.within))) d

  -- Gate j is written.
  done_put : {l : List ℕ} {j : ℕ} (p : Part) → Done l j → j < gates P.circuit → Elements size p
      → ((shape (gate P.circuit j)).class ≡ Local → p ≡ makes l (gate P.circuit j))
      → Done (put_wire (layout P.circuit) l j p) (suc j)
  unfolding layout
  done_put {l} {j} p d h low e =
      record { within = h; room = stays.room; made = λ x lx v. go x lx v (ℕ_discrete x j) }
    where
      l' : List ℕ
      l' = put_wire (layout P.circuit) l j p

      others : (z : ℕ) → z < j → part l' z ≡ part l z
      others z lz = wire_put_other (layout P.circuit) l j z p h (omega arith) (omega arith)

      stays : Done l' j
      stays = done_alike l l' j (length_put (layout P.circuit) l j p) others d

      here : part l' j ≡ p
      here = wire_put_same (layout P.circuit) l j p d.room h

      go : (x : ℕ) → x < suc j → has_value (gate P.circuit x) ≡ true → Dec (x ≡ j) → Made l' x
      go x lx v (yes q) =
          rw q (record { low = rw here low; is = λ k. here ∙ e k ∙ makes_alike l l' j h k others })
      go x lx v (no ne) = stays.made x (omega arith) v

  -- An opened entry is written.
  done_opened : {l : List ℕ} {j : ℕ} (t v m : ℕ) → t < (layout P.circuit).capacity → Done l j → Done (put_opened (layout P.circuit) l t v m) j
  unfolding layout
  done_opened t v m h d =
      done_alike _ _ _ (length_opened (layout P.circuit) _ t v m)
      (λ z lz. wire_opened (layout P.circuit) _ z t v m (omega (arith, d.within)) h) d

  -- A gate without a value is passed.
  done_pass : {l : List ℕ} {j : ℕ} → Done l j → j < gates P.circuit → has_value (gate P.circuit j) ≡ false → Done l (suc j)
  done_pass {l} {j} d h e = record { within = h; room = d.room; made = λ x lx v. go x lx v (ℕ_discrete x j) }
    where
      go : (x : ℕ) → x < suc j → has_value (gate P.circuit x) ≡ true → Dec (x ≡ j) → Made l x
      go x lx v (yes q) = let n : has_value (gate P.circuit x) ≡ false = rw q e in false_no (sym n ∙ v)
      go x lx v (no ne) = d.made x (omega arith) v

  -- What is done before a gate is done before an earlier one.
  done_less : {l : List ℕ} {j k : ℕ} → k ≤ j → Done l j → Done l k
  done_less h d = record { within = omega (arith, d.within); room = d.room; made = λ x lx v. d.made x (omega arith) v }

  -- The gates up to the next stop are worked out ..
  done_settle : (left j : ℕ) (l : List ℕ) → j + left ≤ gates P.circuit → Done l j
      → Done (settle O P.me (key P) P.circuit (layout P.circuit) left j l) (reach P.circuit left j)
  unfolding reach settle after_linear put_linear
  done_settle zero j l b d = d
  done_settle (suc left) j l b d =
      by_cases (is_linear (gate P.circuit j))
      (λ e. rw e
      (done_settle left (suc j) _ (omega arith)
      (done_put _ d (omega arith) (linear_elements F P.me (key P) (gate P.circuit j).kind _ _ _ e) (λ k. refl))))
      (λ e. rw e d)

  -- .. and the run goes on there.
  done_onward : (j : ℕ) (l : List ℕ) → Done l (suc j) → Done (onward O P j l) (resume P.circuit (suc j)).gate
  unfolding onward resume
  done_onward j l d = go (entered P.circuit _ r.within r.stands) (done_settle (gates P.circuit - suc j) (suc j) l (omega (arith, d.within)) d)
    where
      k : ℕ
      k = reach P.circuit (gates P.circuit - suc j) (suc j)

      r : Reached P.circuit (suc j) k
      r = reached P.circuit (gates P.circuit - suc j) (suc j) (omega (arith, d.within))

      go : {p : Point} {l : List ℕ} → Entered P.circuit k p → Done l k → Done l p.gate
      go (ended e q) d = rw q (unfold finished in done_less (omega arith) d)
      go (beginning t ts h e b q) d = rw q d

  module _ (l : List ℕ) (j : ℕ) (heard : List ℕ) (room : scratch_size P.parties P.circuit ≤ length l) (lt : j < gates P.circuit) (d : Done l j) where
    -- There is room for what is opened.
    entries : unchecked P.circuit j + (shape (gate P.circuit j)).openings < (layout P.circuit).capacity
    unfolding layout
    entries = unchecked_within P.circuit j lt

    differences_done : (x z : ℕ) (m : List ℕ) (k e f : ℕ) → k ≡ (shape (gate P.circuit j)).openings → 1 ≤ k
        → Done (put_differences O (layout P.circuit) l x z m k (unchecked P.circuit j) e f) j
    unfolding put_differences
    differences_done x z m k e f q some =
        let one = done_opened (unchecked P.circuit j) e _ (omega (arith, entries)) d in
        by_cases (eqb k 2)
        (λ b. let two : k ≡ 2 = eqb-true k 2 b in rw b (done_opened (unchecked P.circuit j + 1) f _ (omega (arith, entries)) one))
        (λ b. rw b one)

    -- A gate's own round is received, by its class.
    own_done : ((shape (gate P.circuit j)).class ≡ Owned) ⊎ ((shape (gate P.circuit j)).class ≡ Opens)
        → Done (received O P l j Own heard) (resume P.circuit (suc j)).gate
    unfolding received own_received after_input after_opening is_class
    own_done (inl k) =
        rw k (done_onward j _ (done_put _ d lt (shift_elements F _ _ _ _) (not_local Owned refl k)))
    own_done (inr k) =
        rw k
        (done_onward j _
        (done_put _ (differences_done _ _ _ _ _ _ refl (opens_facts (gate P.circuit j) k).some) lt (product_elements F _ _ _ _ _ _ _) (not_local Opens refl k)))

    -- What is worked out stays where a round is received.
    received_done : (r : Round) → among r (rounds P.circuit j) ≡ true → length heard ≡ P.parties * words (gate P.circuit j) r
        → Done (received O P l j r heard) (followed P.circuit j r).gate
    unfolding received check_passed after_open_output
    received_done Own o e = own_done (class_at_round P.circuit j Own o)
    received_done Open o e = done_opened 0 _ _ (omega (arith, entries)) d
    received_done (Commit h) o e =
        done_same l _ (marks_length (layout P.circuit) l heard)
        (read_marks (layout P.circuit) l P.parties heard (unfold shape_words in e) (marks_room P.parties P.circuit room)) d
    received_done (Reveal First) o e = d
    received_done (Reveal Second) o e =
        let k : (shape (gate P.circuit j)).class ≡ Output = class_at_round P.circuit j (Reveal Second) o in
        done_onward j l (done_pass d lt (rw (class_is k)))

    -- And so it does where a round is sent.
    noted_done : (r : Round) (nonce : List ℕ) → length nonce ≡ nonce_in r → Done (noted O P l r nonce) j
    unfolding noted nonce_in
    noted_done r nonce e = by_cases (is_commit r) (λ c. rw c (put (rw c at e))) (λ c. rw c d)
      where
        put : length nonce ≡ nonce_size → Done (put_nonce (layout P.circuit) l (words_of nonce)) j
        put long =
            done_same l _ (nonce_length (layout P.circuit) l (words_of nonce))
            (read_nonce (layout P.circuit) l (words_of nonce) (length_words nonce_words nonce long) (nonce_room P.parties P.circuit room)) d

module _ {O : Ops} (F : Field O) (J : Joint) (ok : Valid J.parties O.size J.circuit) (i : ℕ) (l : i < J.parties) where
  -- Each party has the circuit.
  pub party_valid : Valid (party J i).parties O.size (party J i).circuit
  unfolding party
  party_valid = ok

  -- party i in a run
  abbrev pub DoneIn : State → Type 0
  DoneIn s = Done F (party J i) party_valid (s.scratch i) s.point.gate

  -- A round keeps what is worked out, whether it stops the run or not ..
  done_step : (s : State) → Kept O J s → (r : Round) → s.point.stage ≡ Send r → FitsStage J.circuit s.point.gate (Send r) → DoneIn s
      → DoneIn (step O J s r)
  unfolding step left aborted party
  done_step s kept r e fits d =
      by_cases (passed (ends O J s r))
      (λ h. rw (next_followed J.circuit at (ends O J s r) r fits.1 h, h)
      (received_done F (party J i) party_valid (notes O J s r i) at (said O J s r) room fits.0 sent r fits.1 (said_long O J s kept r fits)))
      (λ h. rw (next_aborted J.circuit at (ends O J s r) r fits.1 h, h) sent)
    where
      at : ℕ
      at = s.point.gate

      sent : Done F (party J i) party_valid (notes O J s r i) at
      sent =
          rw (notes_handed F J ok s kept r e fits i)
          (noted_done F (party J i) party_valid (s.scratch i) at [] (kept_room O J s kept i l) fits.0 d r (handed_nonce F J ok s kept r e fits i)
          (handed_long F J ok s kept r e fits i l))

      room : scratch_size J.parties J.circuit ≤ length (notes O J s r i)
      room = unfold notes in rw (length_noted O (party J i) (s.scratch i) r _) (kept_room O J s kept i l)

  -- .. where a run begins nothing is asked ..
  done_begun : (scratch : List ℕ) → Kept O J (begun O J scratch) → DoneIn (begun O J scratch)
  unfolding party
  done_begun scratch kept =
      let q : (begun O J scratch).point.gate ≡ 0 = (unfold begun in ap (λ (x : Point). x.gate) (start_is J.circuit J.parties O.size ok)) in
      record {
        within = omega (arith, q);
        room = slots_room J.parties J.circuit (kept_room O J _ kept i l);
        made = λ x h v. absurd (omega (arith, q));
      }

  -- .. and so it is after any number of rounds.
  pub done_after : (scratch : List ℕ) → Enough J scratch → (k : ℕ) → DoneIn (after O J scratch k)
  unfolding after
  done_after scratch enough zero = done_begun scratch (kept_after O J scratch enough ok 0)
  done_after scratch enough (suc k) = go (after O J scratch k).point.stage refl (done_after scratch enough k)
    where
      kept : Kept O J (after O J scratch k)
      kept = kept_after O J scratch enough ok k

      rest : Idle (after O J scratch k).point.stage → DoneIn (after O J scratch k) → DoneIn (after O J scratch (suc k))
      rest h d = subst DoneIn (sym (after_idle O J scratch k h)) d

      go : (g : Stage) → (after O J scratch k).point.stage ≡ g → DoneIn (after O J scratch k) → DoneIn (after O J scratch (suc k))
      go (Send r) e d =
          going_at O J (after O J scratch k) kept.course r e
          (λ fits used checks. subst DoneIn (sym (after_step O J scratch k r e)) (done_step (after O J scratch k) kept r e fits d))
      go (Receive r) e d = rest (subst Idle (sym e) tt) d
      go Finished e d = rest (subst Idle (sym e) tt) d
      go Aborted e d = rest (subst Idle (sym e) tt) d
