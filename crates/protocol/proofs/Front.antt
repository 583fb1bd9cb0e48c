-- A scratch that is longer than its layout: what is read lies in front, what is written stays in front, and the excess is untouched.
-- Assumes nothing.
use Prim.Native.Nat.{ℕ, zero, suc, ◌+◌, ◌*◌, ◌<◌, ◌≤◌}
use mathlib.Core.Path.{◌≡◌, refl, ap, ap₂, ◌∙◌}
use mathlib.Core.Logic.{◌⊎◌, inl, inr}
use mathlib.Core.Bool.{cond}
use mathlib.Core.List.{List, ◌++◌}
use native.Mathlib.Omega.{arith}
use lib.Dec.{eqb}
use lib.ListN.{length, get_or-append}
use lib.Seq.{set-append_left}
use borrow.Author.Tests.{eqb-true}
use Rattle.algebra.specs.Ops.{Ops}
use Rattle.algebra.specs.Field.{Field}
use Rattle.algebra.proofs.Sums.{sum_ext}
use Rattle.circuit.specs.Gate.{Gate, gate, gates}
use Rattle.circuit.specs.Kind.{Local, Owned, Opens, Wire, shape, is_linear, factor}
use Rattle.circuit.specs.Round.{First, Second, Round, Own, Open, Commit, Reveal, is_commit, shape_words, words, nonce_in, nonce_words}
use Rattle.circuit.specs.Valid.{Valid}
use Rattle.circuit.proofs.Counts.{unchecked_fits}
use Rattle.circuit.proofs.KindLaws.{is_class_lem, opens_facts}
use Rattle.circuit.proofs.Gates.{second_fits, local_named, opens_named, factor_named}
use Rattle.circuit.proofs.RoundLaws.{class_at_round}
use Rattle.circuit.proofs.Tests.{by_cases}
use Rattle.protocol.specs.Part.{Part}
use Rattle.protocol.specs.Scratch.{Layout, layout, Slot, Share, Mac, Value, ValueMac, offset, slots_size, read, write, wire, put_wire, put_opened}
use Rattle.protocol.specs.Party.{Party, key}
use Rattle.protocol.specs.Send.{masked, shown, check_share, opening, own_words, showing, sent, holds, noted}
use Rattle.protocol.specs.Receive.{after_input, put_differences, after_opening, after_open_output, put_linear, after_linear, settle, Ruling, passed, onward, own_received, check_passed, received, finds, left}
use Rattle.protocol.specs.Holding.{Within, Worked}
use Rattle.protocol.proofs.Slots.{slot_fits, length_write, length_put, length_opened}
use Rattle.protocol.proofs.Writing.{OpenedTo}
use Rattle.protocol.proofs.Settling.{linear_second}
use Rattle.sha256.specs.Sha256.{words_of}
use Rattle.sha256.proofs.Bytes.{length_words}
use Rattle.protocol.proofs.Tails.{nonce_room, marks_room, nonce_front, marks_front, put_nonce_front, put_marks_front}
use Rattle.protocol.proofs.Keeping.{Stood, stood_room, shown_held, entries}
use Rattle.protocol.proofs.Lengths.{length_differences, length_after_linear}

module _ (y : Layout) (e : List ℕ) where
  read_front : (l : List ℕ) (s : Slot) → slots_size y ≤ length l → Within y s → read y (l ++ e) s ≡ read y l s
  unfolding read
  read_front l s room w = get_or-append l e 0 (offset y s) (slot_fits y s room w)

  write_front : (l : List ℕ) (s : Slot) (x : ℕ) → slots_size y ≤ length l → Within y s → write y (l ++ e) s x ≡ write y l s x ++ e
  unfolding write
  write_front l s x room w = set-append_left l e (offset y s) x (slot_fits y s room w)

  wire_front : (l : List ℕ) (x : ℕ) → slots_size y ≤ length l → x < y.gates → wire y (l ++ e) x ≡ wire y l x
  unfolding wire
  wire_front l x room w = λ i. record { share = read_front l (Share x) room w i; mac = read_front l (Mac x) room w i }

  put_front : (l : List ℕ) (j : ℕ) (x : Part) → slots_size y ≤ length l → j < y.gates → put_wire y (l ++ e) j x ≡ put_wire y l j x ++ e
  unfolding put_wire
  put_front l j x room w =
      ap (λ (z : List ℕ). write y z (Mac j) x.mac) (write_front l (Share j) x.share room w)
      ∙ write_front (write y l (Share j) x.share) (Mac j) x.mac (rw (length_write y l (Share j) x.share) room) w

  opened_front : (l : List ℕ) (t v m : ℕ) → slots_size y ≤ length l → t < y.capacity → put_opened y (l ++ e) t v m ≡ put_opened y l t v m ++ e
  unfolding put_opened
  opened_front l t v m room w =
      ap (λ (z : List ℕ). write y z (ValueMac t) m) (write_front l (Value t) v room w)
      ∙ write_front (write y l (Value t) v) (ValueMac t) m (rw (length_write y l (Value t) v) room) w

  -- two opened entries
  two_front : (l : List ℕ) (t v m t' v' m' : ℕ) → slots_size y ≤ length l → t < y.capacity → t' < y.capacity
      → put_opened y (put_opened y (l ++ e) t v m) t' v' m' ≡ put_opened y (put_opened y l t v m) t' v' m' ++ e
  two_front l t v m t' v' m' room w w' =
      ap (λ (z : List ℕ). put_opened y z t' v' m') (opened_front l t v m room w)
      ∙ opened_front (put_opened y l t v m) t' v' m' (rw (length_opened y l t v m) room) w'

  -- what is asked of the scratch stays in front too
  pub worked_front : {q : ℕ} (c l : List ℕ) (j : ℕ) → slots_size y ≤ length l → Worked q c y l j → Worked q c y (l ++ e) j
  worked_front c l j room w x h v =
      let k = w x h v in
      record {
        within = k.within;
        share = rw (read_front l (Share x) room k.within) k.share;
        mac = rw (read_front l (Mac x) room k.within) k.mac;
      }

  pub opened_to_front : {q : ℕ} (l : List ℕ) (u : ℕ) → slots_size y ≤ length l → OpenedTo q y l u → OpenedTo q y (l ++ e) u
  opened_to_front l u room o t h =
      let k = o t h in
      record {
        within = k.within;
        value = rw (read_front l (Value t) room k.within) k.value;
        mac = rw (read_front l (ValueMac t) room k.within) k.mac;
      }

  pub value_front : (l : List ℕ) (t : ℕ) → slots_size y ≤ length l → t < y.capacity → read y (l ++ e) (Value t) ≡ read y l (Value t)
  value_front l t room w = read_front l (Value t) room w

module _ (O : Ops) (e : List ℕ) where
  -- a linear gate
  linear_front : {n q : ℕ} {c : List ℕ} → Valid n q c → (i key j : ℕ) (l : List ℕ) → slots_size (layout c) ≤ length l → j < gates c
      → (shape (gate c j)).class ≡ Local
      → after_linear O i key (layout c) (l ++ e) j (gate c j) ≡ after_linear O i key (layout c) l j (gate c j) ++ e
  unfolding after_linear put_linear layout
  linear_front {c = c} ok i key j l room h k =
      let y = layout c in
      let g = gate c j in
      let first : wire y (l ++ e) g.first ≡ wire y l g.first = wire_front y e l _ room (omega (arith, (local_named ok j h k).earlier)) in
      let second : (shape g).second ≡ Wire → wire y (l ++ e) g.second ≡ wire y l g.second =
      (λ r. wire_front y e l _ room (omega (arith, (second_fits ok j h r).earlier))) in
      rw first (ap (put_wire y (l ++ e) j) (linear_second O i key g.kind _ _ _ _ second))
      ∙ put_front y e l j _ room h

  -- the linear gates up to the next stop
  settle_front : {n q : ℕ} {c : List ℕ} → Valid n q c → (i key left j : ℕ) (l : List ℕ) → slots_size (layout c) ≤ length l → j + left ≤ gates c
      → settle O i key c (layout c) left j (l ++ e) ≡ settle O i key c (layout c) left j l ++ e
  unfolding settle
  settle_front ok i key zero j l room w = refl
  settle_front {c = c} ok i key (suc left) j l room w =
      by_cases (is_linear (gate c j))
      (λ b.
      rw b
      (ap (settle O i key c (layout c) left (suc j)) (linear_front ok i key j l room (omega arith) (is_class_lem Local b))
      ∙ settle_front ok i key left (suc j) _ (rw (length_after_linear O i key (layout c) l j (gate c j)) room) (omega arith)))
      (λ b. rw b)

  -- the opened differences of one or two values
  differences_front : (y : Layout) (l : List ℕ) (x z : ℕ) (m : List ℕ) (k u v w : ℕ) → slots_size y ≤ length l
      → x < y.gates
      → z < y.gates
      → 1 ≤ k
      → u + k ≤ y.capacity
      → put_differences O y (l ++ e) x z m k u v w ≡ put_differences O y l x z m k u v w ++ e
  unfolding put_differences masked
  differences_front y l x z m k u v w room hx hz some fits =
      rw (wire_front y e l x room hx, wire_front y e l z room hz)
      (by_cases (eqb k 2)
      (λ h.
      let two : k ≡ 2 = eqb-true k 2 h in
      rw h (two_front y e l u v _ (u + 1) w _ room (omega arith) (omega arith)))
      (λ h. rw h (opened_front y e l u v _ room (omega arith))))

  -- and the product
  opening_front : (i key : ℕ) (y : Layout) (l : List ℕ) (j x z : ℕ) (m : List ℕ) (k u v w : ℕ) → slots_size y ≤ length l
      → j < y.gates
      → x < y.gates
      → z < y.gates
      → 1 ≤ k
      → u + k ≤ y.capacity
      → after_opening O i key y (l ++ e) j x z m k u v w ≡ after_opening O i key y l j x z m k u v w ++ e
  unfolding after_opening
  opening_front i key y l j x z m k u v w room h hx hz some fits =
      rw (differences_front y l x z m k u v w room hx hz some fits)
      (put_front y e (put_differences O y l x z m k u v w) j _ (rw (length_differences O y l x z m k u v w) room) h)

module _ {O : Ops} (F : Field O) (P : Party) (l e : List ℕ) (j : ℕ) where
  -- the circuit's layout, and the gate
  abbrev y : Layout
  y = layout P.circuit

  abbrev g : Gate
  g = gate P.circuit j

  -- what is asked where round r is sent
  abbrev Asks : Round → Type 0
  Asks r = Stood P.parties O.size P.circuit l j r

  -- the gate itself, and what it names, lies in the scratch
  here : {r : Round} → Asks r → j < y.gates
  unfolding layout
  here k = k.within

  module _ (k : Asks Own) (c : (shape g).class ≡ Opens) where
    opens_low : (g.first < y.gates) × (factor g < y.gates)
    opens_low =
        (omega (arith, here k, (opens_named k.valid j k.within c).earlier), omega (arith, here k, (factor_named k.valid j k.within c).earlier))

    -- the two wires that a product names
    first_front : wire y (l ++ e) g.first ≡ wire y l g.first
    first_front = wire_front y e l _ (stood_room k) opens_low.0

    factor_front : wire y (l ++ e) (factor g) ≡ wire y l (factor g)
    factor_front = wire_front y e l _ (stood_room k) opens_low.1

  -- what an output shows
  shown_front : Asks Open → showing O P (l ++ e) j ≡ showing O P l j
  unfolding showing shown masked
  shown_front k = rw (wire_front y e l g.first (stood_room k) (shown_held k).within)

  own_front : Asks Own → ((shape g).class ≡ Owned) ⊎ ((shape g).class ≡ Opens) → own_words O P (l ++ e) j (shape g).class ≡ own_words O P l j (shape g).class
  unfolding own_words opening masked
  own_front k (inl c) = rw c
  own_front k (inr c) = rw (c, first_front k c, factor_front k c)

  -- The check share that is held.
  pub holds_front : (r : Round) → Asks r → (coefficients : List ℕ) → holds O P (l ++ e) j r coefficients ≡ holds O P l j r coefficients
  unfolding holds check_share
  holds_front r k coefficients =
      ap (λ (x : ℕ). cond (is_commit r) x 0)
      (ap₂ O.sub
      (sum_ext F _ _ _ (λ t h. ap (O.mul _) (read_front y e l (ValueMac t) (stood_room k) (k.opened t h).within)))
      (ap (O.mul (key P))
      (sum_ext F _ _ _ (λ t h. ap (O.mul _) (read_front y e l (Value t) (stood_room k) (k.opened t h).within)))))

  -- The words of a round.
  pub sent_front : (held : ℕ) (coefficients nonce : List ℕ) (r : Round) → Asks r → sent O P (l ++ e) j held coefficients nonce r ≡ sent O P l j held coefficients nonce r
  unfolding sent
  sent_front held coefficients nonce Own k = own_front k (class_at_round P.circuit j Own k.occurs)
  sent_front held coefficients nonce Open k = rw (shown_front k)
  sent_front held coefficients nonce (Commit h) k = rw (holds_front (Commit h) k coefficients)
  sent_front held coefficients nonce (Reveal h) k = rw (nonce_front y l e (nonce_room P.parties P.circuit k.room))

  -- The scratch once a round is sent.
  pub noted_front : (r : Round) → Asks r → (nonce : List ℕ) → length nonce ≡ nonce_in r → noted O P (l ++ e) r nonce ≡ noted O P l r nonce ++ e
  unfolding noted nonce_in
  noted_front r k nonce h =
      by_cases (is_commit r)
      (λ c. rw c (put_nonce_front y l e (words_of nonce) (length_words nonce_words nonce (rw c at h)) (nonce_room P.parties P.circuit k.room)))
      (λ c. rw c)

  -- How a round ends.
  pub finds_front : (r : Round) → Asks r → (heard : List ℕ) → finds O P (l ++ e) r heard ≡ finds O P l r heard
  unfolding finds
  finds_front r k heard = rw (marks_front y l e P.parties (marks_room P.parties P.circuit k.room))

  -- The linear gates that follow.
  onward_front : (r : Round) → Asks r → (l' : List ℕ) → length l' ≡ length l → onward O P j (l' ++ e) ≡ onward O P j l' ++ e
  unfolding onward
  onward_front r k l' same = settle_front O e k.valid P.me (key P) _ (suc j) l' (rw same (stood_room k)) (omega (arith, k.within))

  own_received_front : Asks Own → (heard : List ℕ) → ((shape g).class ≡ Owned) ⊎ ((shape g).class ≡ Opens)
      → own_received O P (l ++ e) j heard (shape g).class ≡ own_received O P l j heard (shape g).class ++ e
  unfolding own_received after_input
  own_received_front k heard (inl c) =
      rw c (ap (onward O P j) (put_front y e l j _ (stood_room k) (here k)) ∙ onward_front Own k _ (length_put y l j _))
  own_received_front k heard (inr c) =
      let z = opens_low k c in
      rw c
      (ap (onward O P j)
      (opening_front O e P.me (key P) y l j g.first (factor g) _ (shape g).openings _ _ _ (stood_room k) (here k) z.0 z.1
      (opens_facts g c).some (omega (arith, entries k)))
      ∙ onward_front Own k _ (length_opening _ _ _ _ _ _ _ _ _))
    where
      length_opening : (i' key' x z : ℕ) (m : List ℕ) (n u v w : ℕ) → length (after_opening O i' key' y l j x z m n u v w) ≡ length l
      length_opening i' key' x z m n u v w = unfold after_opening in length_put y _ j _ ∙ length_differences O y l x z m n u v w

  -- The scratch once a round is received.
  pub received_front : (r : Round) → Asks r → (heard : List ℕ) → length heard ≡ P.parties * words g r → received O P (l ++ e) j r heard ≡ received O P l j r heard ++ e
  unfolding received check_passed after_open_output layout
  received_front Own k heard h = own_received_front k heard (class_at_round P.circuit j Own k.occurs)
  received_front Open k heard h =
      rw (shown_front k) (opened_front y e l 0 _ _ (stood_room k) (omega (arith, unchecked_fits P.circuit j (omega (arith, k.within)))))
  received_front (Commit x) k heard h = put_marks_front y l e P.parties heard (unfold shape_words in h) (marks_room P.parties P.circuit k.room)
  received_front (Reveal First) k heard h = refl
  received_front (Reveal Second) k heard h = onward_front (Reveal Second) k l refl

  pub left_front : (v : Ruling) (r : Round) → Asks r → (heard : List ℕ) → length heard ≡ P.parties * words g r → left O P v (l ++ e) j r heard ≡ left O P v l j r heard ++ e
  unfolding left
  left_front v r k heard h = by_cases (passed v) (λ b. rw b (received_front r k heard h)) (λ b. rw b)
