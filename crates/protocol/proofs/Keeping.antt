-- The invariant of a run: receiving a round leaves what the next round asks.
-- Assumes nothing.
use Prim.Native.Nat.{ℕ, suc, ◌+◌, ◌-◌, ◌*◌, ◌<◌, ◌≤◌}
use mathlib.Core.Path.{◌≡◌, refl, sym, ◌∙◌, subst}
use mathlib.Core.Logic.{◌⊎◌, inl, inr}
use mathlib.Core.Bool.{true, false}
use mathlib.Core.List.{List}
use native.Mathlib.Omega.{arith}
use lib.Dec.{eqb, ltb}
use lib.ListN.{length}
use Rattle.algebra.specs.Ops.{Ops}
use Rattle.algebra.specs.Field.{Field}
use Rattle.algebra.proofs.Sums.{sum_lt}
use Rattle.circuit.specs.Gate.{gate, gates}
use Rattle.circuit.specs.Kind.{Class, Local, Owned, Opens, Output, shape, is_class, is_give}
use Rattle.circuit.specs.Count.{unchecked}
use Rattle.circuit.specs.Round.{First, Second, Round, Own, Open, Commit, Reveal, is_commit, check_rounds, class_rounds, rounds, among, shape_words, words, checked, opened_in, nonce_in, nonce_size, nonce_words}
use Rattle.circuit.specs.Valid.{Valid}
use Rattle.circuit.proofs.Counts.{unchecked_valued, unchecked_out, unchecked_fits, unchecked_within}
use Rattle.circuit.proofs.KindLaws.{class_is, owned_no_out, opens_no_out, owned_facts, opens_facts}
use Rattle.circuit.proofs.Gates.{output_named}
use Rattle.circuit.proofs.RoundLaws.{class_at_round}
use Rattle.circuit.proofs.Tests.{by_cases}
use Rattle.protocol.specs.Scratch.{layout, slots_size, scratch_size, put_nonce}
use Rattle.sha256.specs.Sha256.{words_of}
use Rattle.sha256.proofs.Bytes.{length_words}
use Rattle.protocol.specs.Send.{masked, shown, showing, noted}
use Rattle.protocol.specs.Position.{Stage, stage_occurs, Send, Receive, Finished, Aborted, Point, finished, aborted, begin, reach, enter, resume}
use Rattle.protocol.specs.Party.{Party, key}
use Rattle.protocol.specs.Receive.{Ruling, passed, heard_sum, next, onward, own_received, check_passed, received, left}
use Rattle.protocol.specs.declared.Layout.{Layout}
use Rattle.protocol.specs.declared.Site.{Site}
use Rattle.protocol.specs.Holding.{Held, Worked}
use Rattle.protocol.specs.Code.{Sited}
use Rattle.protocol.specs.Ready.{Ready}
use Rattle.protocol.proofs.Following.{followed, unchecked_reach, next_followed, next_aborted}
use Rattle.protocol.proofs.Writing.{OpenedTo, Elements, worked_skip, wire_elements, minus_elements}
use Rattle.protocol.proofs.Tails.{slots_room, marks_room, nonce_room, nonce_length, marks_length, read_nonce, read_marks, worked_same, opened_same}
use Rattle.protocol.proofs.Settling.{Keeps, settle_keeps}
use Rattle.protocol.proofs.Steps.{input_keeps, opening_keeps, open_output_keeps}

-- what either half of a round asks of the scratch l, in a field of q elements
abbrev pub Stands : ℕ → List ℕ → List ℕ → ℕ → Stage → Type 0
Stands q c l j (Send r) = Worked q c (layout c) l j × OpenedTo q (layout c) l (opened_in (unchecked c j) r)
Stands q c l j (Receive r) = Worked q c (layout c) l j × OpenedTo q (layout c) l (opened_in (unchecked c j) r)
Stands q c l j Finished = Unit {0}
Stands q c l j Aborted = Unit {0}

-- l is as long as l₀ and holds what is asked at the point x
pub record Standing (q : ℕ) (c : List ℕ) (l₀ l : List ℕ) (x : Point) : Type 0 where
  pub len : length l ≡ length l₀
  pub stands : Stands q c l x.gate x.stage

-- what a round asks of a circuit of n parties and of the scratch l: r is a round of gate j, and what lies before it is worked out
pub record Stood (n q : ℕ) (c l : List ℕ) (j : ℕ) (r : Round) : Type 0 where
  pub valid : Valid n q c
  pub room : scratch_size n c ≤ length l
  pub within : j < gates c
  pub occurs : among r (rounds c j) ≡ true
  pub worked : Worked q c (layout c) l j
  pub opened : OpenedTo q (layout c) l (opened_in (unchecked c j) r)

-- the slots lie in the scratch
pub stood_room : {n q : ℕ} {c l : List ℕ} {j : ℕ} {r : Round} → Stood n q c l j r → slots_size (layout c) ≤ length l
stood_room {n} {c = c} k = slots_room n c k.room

-- what a step asks has that
pub ready_stood : {q : ℕ} {P : Party} {l : List ℕ} {y : Layout} {at : Site} {r : Round} → Ready q P l y at r
    → Stood P.parties q P.circuit l at.gate r
ready_stood k =
    record {
      valid = k.valid;
      room = k.room;
      within = k.sited.within;
      occurs = k.occurs;
      worked = k.worked;
      opened = k.opened;
    }

module _ {q : ℕ} (c l : List ℕ) where
  -- the first round of a gate
  begin_stands : (k : ℕ) (h : Class)
      → Worked q c (layout c) l k
      → OpenedTo q (layout c) l (unchecked c k)
      → Stands q c l (begin c k (class_rounds (unchecked c k) h)).gate (begin c k (class_rounds (unchecked c k) h)).stage
  unfolding begin class_rounds check_rounds finished
  begin_stands k Local w o = tt
  begin_stands k Owned w o = (w, o)
  begin_stands k Opens w o = (w, o)
  begin_stands k Output w o =
      by_cases (eqb (unchecked c k) 0) (λ z. rw z (w, λ t h. absurd (omega arith))) (λ z. rw z (w, o))

  enter_stands : (k : ℕ) → Worked q c (layout c) l k → OpenedTo q (layout c) l (unchecked c k)
      → Stands q c l (enter c k).gate (enter c k).stage
  unfolding enter rounds finished
  enter_stands k w o = by_cases (ltb k (gates c)) (λ z. rw z (begin_stands k (shape (gate c k)).class w o)) (λ z. rw z tt)

-- the entries that are unchecked after a gate
module _ (c : List ℕ) (j : ℕ) where
  after_valued : is_class Output (shape (gate c j)).class ≡ false → unchecked c j + (shape (gate c j)).openings ≡ unchecked c (suc j)
  unfolding unchecked
  after_valued e = sym (unchecked_valued (shape (gate c j)) (unchecked c j) e)

  after_out : (shape (gate c j)).class ≡ Output → 0 ≡ unchecked c (suc j)
  unfolding unchecked
  after_out e = sym (unchecked_out (shape (gate c j)) (unchecked c j) (class_is e))

module _ {n q : ℕ} {c l : List ℕ} {j : ℕ} where
  -- the value that an output shows can be read
  pub shown_held : Stood n q c l j Open → Held q (layout c) l (gate c j).first
  shown_held k =
      let m = output_named k.valid j k.within (class_at_round c j Open k.occurs) in
      k.worked (gate c j).first m.earlier m.valued

-- what it shows is of elements
pub showing_elements : {O : Ops} (F : Field O) (P : Party) {l : List ℕ} {j : ℕ} → Stood P.parties O.size P.circuit l j Open → Elements O.size (showing O P l j)
unfolding showing shown masked
showing_elements F P {l} {j} k =
    by_cases (is_give (gate P.circuit j))
    (λ e. rw e (minus_elements F _ _))
    (λ e. rw e (wire_elements (layout P.circuit) l (gate P.circuit j).first (shown_held k)))

module _ {n q : ℕ} {c l : List ℕ} {j : ℕ} where
  -- there is room for the entries that a gate opens
  pub entries : {r : Round} → Stood n q c l j r → unchecked c j + (shape (gate c j)).openings < (layout c).capacity
  unfolding layout
  entries k = unchecked_within c j k.within

module _ {O : Ops} (F : Field O) where
  open O use {size}

  pub heard_low : (n k t : ℕ) (heard : List ℕ) → heard_sum O n k t heard < size
  unfolding heard_sum
  heard_low n k t heard = sum_lt F n _

  module _ (P : Party) (l : List ℕ) (j : ℕ) (room : slots_size (layout P.circuit) ≤ length l) (within : j < gates P.circuit) where
    -- once gate j is done, the linear gates after it lead to a point where all that is asked is there
    onward_stands : (u : ℕ) (l' : List ℕ)
        → Keeps size P.circuit (layout P.circuit) u l (suc j) l'
        → u ≡ unchecked P.circuit (suc j)
        → Standing size P.circuit l (onward O P j l') (resume P.circuit (suc j))
    unfolding onward resume layout
    onward_stands u l' s e =
        let k =
        settle_keeps F P.circuit (layout P.circuit) P.me (key P) u (gates P.circuit - suc j) (suc j) l'
        (omega arith) (rw s.len room) s.worked s.opened in
        record {
          len = k.len ∙ s.len;
          stands = enter_stands P.circuit _ (reach P.circuit (gates P.circuit - suc j) (suc j)) k.worked
              (rw (unchecked_reach P.circuit (gates P.circuit - suc j) (suc j), ← e) k.opened);
        }

  module _ (P : Party) (l : List ℕ) (j : ℕ) (heard : List ℕ) where
    -- a gate's own round, by its class
    owned_stands : Stood P.parties size P.circuit l j Own
        → (shape (gate P.circuit j)).class ≡ Owned
        → Standing size P.circuit l (own_received O P l j heard Owned) (resume P.circuit (suc j))
    unfolding own_received layout
    owned_stands k e =
        onward_stands P l j (stood_room k) k.within (unchecked P.circuit j) _
        (input_keeps F P.circuit (layout P.circuit) l j (stood_room k) k.worked (unchecked P.circuit j) _ _ _ _ k.within k.opened)
        (omega (arith, after_valued P.circuit j (owned_no_out e), (owned_facts (gate P.circuit j) e).openings))

    opens_stands : Stood P.parties size P.circuit l j Own
        → (shape (gate P.circuit j)).class ≡ Opens
        → Standing size P.circuit l (own_received O P l j heard Opens) (resume P.circuit (suc j))
    unfolding own_received layout
    opens_stands k e =
        let f = opens_facts (gate P.circuit j) e in
        onward_stands P l j (stood_room k) k.within (unchecked P.circuit j + (shape (gate P.circuit j)).openings) _
        (opening_keeps F P.circuit (layout P.circuit) l j (stood_room k) k.worked _ _ _ _ _ (shape (gate P.circuit j)).openings
        (unchecked P.circuit j) _ _ f.some f.few k.within (omega (arith, entries k)) (heard_low _ _ _ _) (heard_low _ _ _ _) k.opened)
        (after_valued P.circuit j (opens_no_out e))

    own_stands : Stood P.parties size P.circuit l j Own
        → ((shape (gate P.circuit j)).class ≡ Owned) ⊎ ((shape (gate P.circuit j)).class ≡ Opens)
        → Standing size P.circuit l (received O P l j Own heard) (resume P.circuit (suc j))
    unfolding received
    own_stands k (inl e) = rw e (owned_stands k e)
    own_stands k (inr e) = rw e (opens_stands k e)

    -- the point after a round that does not stop the run
    followed_stands : (r : Round)
        → Stood P.parties size P.circuit l j r
        → length heard ≡ P.parties * words (gate P.circuit j) r
        → Standing size P.circuit l (received O P l j r heard) (followed P.circuit j r)
    unfolding received check_passed layout
    followed_stands Own k e = own_stands k (class_at_round P.circuit j Own k.occurs)
    followed_stands Open k e =
        let s =
        open_output_keeps F P.circuit (layout P.circuit) l j (stood_room k) k.worked _ _
        (omega (arith, unchecked_fits P.circuit j (omega (arith, k.within)))) (heard_low _ _ _ _) (showing_elements F P k) in
        record { len = s.len; stands = (s.worked, s.opened) }
    followed_stands (Commit h) k e =
        let s = read_marks (layout P.circuit) l P.parties heard (unfold shape_words in e) (marks_room P.parties P.circuit k.room) in
        record {
          len = marks_length (layout P.circuit) l heard;
          stands = (worked_same P.circuit j s k.worked, opened_same (checked (unchecked P.circuit j) h) s k.opened);
        }
    followed_stands (Reveal First) k e = record { len = refl; stands = (k.worked, λ t h. absurd (omega arith)) }
    followed_stands (Reveal Second) k e =
        let o = class_at_round P.circuit j (Reveal Second) k.occurs in
        onward_stands P l j (stood_room k) k.within 0 l
        (record {
          len = refl;
          worked = worked_skip (layout P.circuit) l P.circuit j (rw (class_is o)) k.worked;
          opened = λ t h. absurd (omega arith);
        })
        (after_out P.circuit j o)

    -- receiving leaves what is asked at the point that follows
    pub received_stands : (r : Round)
        → Stood P.parties size P.circuit l j r
        → length heard ≡ P.parties * words (gate P.circuit j) r
        → (v : Ruling)
        → Standing size P.circuit l (left O P v l j r heard) (next P.circuit j r v)
    unfolding aborted left
    received_stands r k e v =
        by_cases (passed v)
        (λ z. rw (next_followed P.circuit j v r k.occurs z, z) (followed_stands r k e))
        (λ z. rw (next_aborted P.circuit j v r k.occurs z, z) (record { len = refl; stands = tt }))

    -- and so does sending
    pub noted_stood : (r : Round) (nonce : List ℕ) → length nonce ≡ nonce_in r
        → Stood P.parties size P.circuit l j r → Stood P.parties size P.circuit (noted O P l r nonce) j r
    unfolding noted nonce_in
    noted_stood r nonce e k = by_cases (is_commit r) (λ c. rw c (put (rw c at e))) (λ c. rw c k)
      where
        put : length nonce ≡ nonce_size → Stood P.parties size P.circuit (put_nonce (layout P.circuit) l (words_of nonce)) j r
        put long =
            let s = read_nonce (layout P.circuit) l (words_of nonce) (length_words nonce_words nonce long) (nonce_room P.parties P.circuit k.room) in
            record {
              valid = k.valid;
              room = rw (nonce_length (layout P.circuit) l (words_of nonce)) k.room;
              within = k.within;
              occurs = k.occurs;
              worked = worked_same P.circuit j s k.worked;
              opened = opened_same _ s k.opened;
            }

-- what stands at a sending half is what a step there asks, of the same party with the same lists
pub ready_next : {q : ℕ} (P : Party) (l₀ l : List ℕ) (y : Layout) (at₀ at : Site) (r₀ r : Round) (x : Point)
    → Ready q P l₀ y at₀ r₀
    → Standing q P.circuit l₀ l x
    → stage_occurs P.circuit x.gate x.stage ≡ true
    → Sited P.circuit P.me at
    → at.gate ≡ x.gate
    → x.stage ≡ Send r
    → Ready q P l y at r
unfolding stage_occurs
ready_next {q} P l₀ l y at₀ at r₀ r x k s o sited e f =
    let t =
    subst (λ (z : Stage). Stands q P.circuit l at.gate z) f
    (subst (λ (n : ℕ). Stands q P.circuit l n x.stage) (sym e) s.stands)
    in
    record {
      valid = k.valid;
      prep_long = k.prep_long;
      prep_low = k.prep_low;
      inputs_long = k.inputs_long;
      inputs_low = k.inputs_low;
      lay = k.lay;
      room = rw s.len k.room;
      sited = sited;
      occurs = rw e (rw f at o);
      worked = t.0;
      opened = t.1;
    }

-- nothing is asked of the scratch where a run starts
pub start_stands : (q : ℕ) (c l : List ℕ) → Stands q c l 0 (Send Own)
unfolding unchecked
start_stands q c l = (λ x h v. absurd (omega arith), λ t h. absurd (omega arith))
