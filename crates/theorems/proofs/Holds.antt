-- What a party's scratch holds where words are heard as they are sent: the party's parts of the closed form. Every step keeps it.
-- Assumes nothing.
use Prim.Native.Nat.{ℕ, zero, suc, ◌+◌, ◌<◌, ◌≤◌}
use mathlib.Core.Path.{◌≡◌, refl, sym, ap, ap₂, ◌∙◌}
use mathlib.Core.Bool.{true, false}
use mathlib.Core.List.{List, [], ◌∷◌, ◌++◌, append_assoc}
use native.Mathlib.Decide.{ℕ_discrete}
use native.Mathlib.Omega.{arith}
use lib.ListN.{length, get_or, length-append, get_or-append}
use lib.Seq.{get_or-append_seam}
use lib.Dec.{eqb}
use borrow.Author.Tests.{eqb-true}
use Rattle.algebra.specs.Ops.{Ops}
use Rattle.algebra.specs.Field.{Field}
use Rattle.circuit.specs.Gate.{gate, gates}
use Rattle.circuit.specs.Kind.{Local, Owned, Opens, Output, shape, is_give, has_value, is_linear, factor}
use Rattle.circuit.specs.Count.{capacity, unchecked}
use Rattle.circuit.specs.Valid.{Ref, Valid}
use Rattle.circuit.proofs.Tests.{by_cases, false_no}
use Rattle.circuit.proofs.Counts.{unchecked_within}
use Rattle.circuit.proofs.KindLaws.{is_class_lem, opens_facts}
use Rattle.circuit.proofs.Gates.{local_named, output_named, opens_named, factor_named}
use Rattle.protocol.specs.Part.{Part, part_at, minus, shift, product}
use Rattle.protocol.specs.Scratch.{layout, slots_size, Value, ValueMac, read, wire, put_wire, put_opened}
use Rattle.protocol.specs.Position.{reach}
use Rattle.protocol.specs.Party.{record_of, mask_at, a_at, b_at, c_at}
use Rattle.protocol.specs.Send as Send
use Rattle.protocol.specs.Receive.{operand_of, after_input, put_differences, after_opening, after_open_output, linear, put_linear, after_linear, settle}
use Rattle.protocol.specs.Joint.{Joint, party}
use Rattle.protocol.proofs.Tails.{SameSlots, wire_same}
use Rattle.protocol.proofs.Slots.{length_put, length_opened, wire_put_same, wire_put_other, value_put}
use Rattle.protocol.proofs.Slots.{value_mac_put, wire_opened}
use Rattle.protocol.proofs.Slots.{value_opened_same, value_mac_opened_same, value_opened_other, value_mac_opened_other}
use Rattle.theorems.proofs.KindValues.{local_second}
use Rattle.theorems.proofs.Closed.{Opening, Masked, Shown, shows, differences, openings, length_openings, openings_local, openings_owned, openings_opens}
use Rattle.theorems.proofs.Closed.{keys, prepared, owner_word, masked, sum_of, multiplied, wire_by, wires, opened, wires_are}

-- There is room for one opened value.
pub room_one : (c : List ℕ) → 1 ≤ capacity c
unfolding capacity
room_one c = omega arith

module _ (O : Ops) (J : Joint) where
  -- the scratch l of party i, when gate j is reached: the parts of the earlier gates are those of the closed form, and the opened entries
  -- are what is opened in os, with the party's MAC shares
  pub record Holds (i j : ℕ) (os : List Opening) (l : List ℕ) : Type 0 where
    pub within : j ≤ gates J.circuit
    pub few : length os ≤ capacity J.circuit
    pub long : slots_size (layout J.circuit) ≤ length l
    pub worked : (x : ℕ) → x < j → has_value (gate J.circuit x) ≡ true → wire (layout J.circuit) l x ≡ wires O J x i
    pub values : (t : ℕ) → t < length os → read (layout J.circuit) l (Value t) ≡ sum_of O J (opened O J (get_or os t (Shown 0)))
    pub macs : (t : ℕ) → t < length os → read (layout J.circuit) l (ValueMac t) ≡ (opened O J (get_or os t (Shown 0)) i).mac

  -- Another scratch with the same slots holds the same.
  pub holds_alike : {i j : ℕ} {os : List Opening} {l l' : List ℕ} → length l' ≡ length l → SameSlots (layout J.circuit) l l' → Holds i j os l → Holds i j os l'
  unfolding layout
  holds_alike {i} {j} {os} {l} {l'} same slots h =
      record {
        within = h.within;
        few = h.few;
        long = rw same h.long;
        worked = λ x lx v. wire_same (layout J.circuit) l l' x slots (omega (arith, h.within)) ∙ h.worked x lx v;
        values = λ t lx. slots (Value t) (omega (arith, h.few)) ∙ h.values t lx;
        macs = λ t lx. slots (ValueMac t) (omega (arith, h.few)) ∙ h.macs t lx;
      }

  -- A party's part of gate j is written.
  pub holds_wire : {i j : ℕ} {os : List Opening} {l : List ℕ} (p : Part) → Holds i j os l → j < gates J.circuit → p ≡ wires O J j i
      → Holds i (suc j) os (put_wire (layout J.circuit) l j p)
  unfolding layout
  holds_wire {i} {j} {os} {l} p h lt e =
      record {
        within = lt;
        few = h.few;
        long = rw length_put h.long;
        worked = λ x lx v. go x lx v (ℕ_discrete x j);
        values = λ t lx. value_put (layout J.circuit) l j t p lt (omega (arith, h.few)) ∙ h.values t lx;
        macs = λ t lx. value_mac_put (layout J.circuit) l j t p lt (omega (arith, h.few)) ∙ h.macs t lx;
      }
    where
      go : (x : ℕ) → x < suc j → has_value (gate J.circuit x) ≡ true → Dec (x ≡ j)
          → wire (layout J.circuit) (put_wire (layout J.circuit) l j p) x ≡ wires O J x i
      go x lx v (yes q) = rw q (wire_put_same (layout J.circuit) l j p h.long lt ∙ e)
      go x lx v (no ne) = wire_put_other (layout J.circuit) l j x p lt (omega arith) ne ∙ h.worked x (omega arith) v

  -- A gate without a value is passed, and what was opened is checked.
  pub holds_pass : {i j : ℕ} {os : List Opening} {l : List ℕ} → Holds i j os l → j < gates J.circuit → has_value (gate J.circuit j) ≡ false
      → Holds i (suc j) [] l
  holds_pass {i} {j} {os} {l} h lt e =
      record {
        within = lt;
        few = omega arith;
        long = h.long;
        worked = λ x lx v. go x lx v (ℕ_discrete x j);
        values = λ t lx. absurd (omega arith);
        macs = λ t lx. absurd (omega arith);
      }
    where
      go : (x : ℕ) → x < suc j → has_value (gate J.circuit x) ≡ true → Dec (x ≡ j) → wire (layout J.circuit) l x ≡ wires O J x i
      go x lx v (yes q) = let n : has_value (gate J.circuit x) ≡ false = rw q e in false_no (sym n ∙ v)
      go x lx v (no ne) = h.worked x (omega arith) v

  -- What was opened is checked.
  pub holds_checked : {i j : ℕ} {os : List Opening} {l : List ℕ} → Holds i j os l → Holds i j [] l
  holds_checked h =
      record {
        within = h.within;
        few = omega arith;
        long = h.long;
        worked = h.worked;
        values = λ t lx. absurd (omega arith);
        macs = λ t lx. absurd (omega arith);
      }

  -- One more value is opened.
  pub holds_opened : {i j : ℕ} {os : List Opening} {l : List ℕ} (o : Opening) (u v m : ℕ) → Holds i j os l → length os < capacity J.circuit
      → u ≡ length os
      → v ≡ sum_of O J (opened O J o)
      → m ≡ (opened O J o i).mac
      → Holds i j (os ++ (o ∷ [])) (put_opened (layout J.circuit) l u v m)
  unfolding layout
  holds_opened {i} {j} {os} {l} o u v m h lt eu ev em =
      record {
        within = h.within;
        few = rw len lt;
        long = rw length_opened h.long;
        worked = λ x lx w. wire_opened (layout J.circuit) l x u v m (omega (arith, h.within)) (omega arith) ∙ h.worked x lx w;
        values = λ t lx. value t (omega (arith, len)) (ℕ_discrete t (length os));
        macs = λ t lx. mac t (omega (arith, len)) (ℕ_discrete t (length os));
      }
    where
      len : length (os ++ (o ∷ [])) ≡ suc (length os)
      len = length-append os (o ∷ []) ∙ omega arith

      value : (t : ℕ) → t < suc (length os) → Dec (t ≡ length os)
          → read (layout J.circuit) (put_opened (layout J.circuit) l u v m) (Value t)
          ≡ sum_of O J (opened O J (get_or (os ++ (o ∷ [])) t (Shown 0)))
      value t lt₁ (yes q) =
          rw (q, eu, get_or-append_seam os o [] (Shown 0))
          (value_opened_same (layout J.circuit) l (length os) v m h.long (omega arith) ∙ ev)
      value t lt₁ (no ne) =
          rw (get_or-append os (o ∷ []) (Shown 0) t (omega arith))
          (value_opened_other (layout J.circuit) l u t v m (omega arith) (omega arith) (omega arith) ∙ h.values t (omega arith))

      mac : (t : ℕ) → t < suc (length os) → Dec (t ≡ length os)
          → read (layout J.circuit) (put_opened (layout J.circuit) l u v m) (ValueMac t)
          ≡ (opened O J (get_or (os ++ (o ∷ [])) t (Shown 0)) i).mac
      mac t lt₁ (yes q) =
          rw (q, eu, get_or-append_seam os o [] (Shown 0))
          (value_mac_opened_same (layout J.circuit) l (length os) v m h.long (omega arith) ∙ em)
      mac t lt₁ (no ne) =
          rw (get_or-append os (o ∷ []) (Shown 0) t (omega arith))
          (value_mac_opened_other (layout J.circuit) l u t v m (omega arith) (omega arith) (omega arith) ∙ h.macs t (omega arith))

  -- What a party reads of its scratch is its part of what is opened:
  module _ {i j : ℕ} {os : List Opening} {l : List ℕ} (x : ℕ) (h : Holds i j os l) (r : Ref J.circuit j x) where
    -- of the difference of a wire and the mask that stands at k in the gate's record,
    pub own_masked : (k : ℕ) → Send.masked O (layout J.circuit) l x (record_of (party J i) j) k ≡ opened O J (Masked j x k) i
    unfolding Send.masked opened masked prepared
    own_masked k = ap (λ (p : Part). minus O p (part_at (record_of (party J i) j) k)) (h.worked x r.earlier r.valued)

    -- of a wire,
    pub own_shown : wire (layout J.circuit) l x ≡ opened O J (Shown x) i
    unfolding opened
    own_shown = h.worked x r.earlier r.valued

  -- and of an output.
  pub own_showing : {i j : ℕ} {os : List Opening} {l : List ℕ} → Holds i j os l → Ref J.circuit j (gate J.circuit j).first
      → Send.showing O (party J i) l j ≡ opened O J (shows j (gate J.circuit j)) i
  unfolding Send.showing Send.shown shows party
  own_showing {j = j} h r =
      by_cases (is_give (gate J.circuit j))
      (λ g. rw g (own_masked (gate J.circuit j).first h r mask_at))
      (λ g. rw g (own_shown (gate J.circuit j).first h r))

  module _ (F : Field O) {n q : ℕ} (ok : Valid n q J.circuit) {i j : ℕ} {l : List ℕ} (lt : j < gates J.circuit) where
    -- The owner's word is received.
    pub holds_input : (e : ℕ) → Holds i j (openings J.circuit j) l → (shape (gate J.circuit j)).class ≡ Owned
        → e ≡ owner_word O J j (gate J.circuit j).first
        → Holds i (suc j) (openings J.circuit (suc j)) (after_input O i (keys O J i) (layout J.circuit) l j (record_of (party J i) j) e)
    unfolding after_input
    holds_input e h k ee =
        rw (openings_owned J.circuit j k)
        (holds_wire _ h lt
        (ap (shift O i (keys O J i) (part_at (record_of (party J i) j) mask_at)) ee
        ∙ (unfold wire_by prepared in ap (λ (w : ℕ → Part). w i) (sym (wires_are O J F ok j lt k)))))

    -- The differences of a product are received and written: two, or one.
    holds_differences : (x z k u e d : ℕ) → Holds i j (openings J.circuit j) l
        → Ref J.circuit j x
        → Ref J.circuit j z
        → 1 ≤ k
        → u + k ≤ capacity J.circuit
        → u ≡ length (openings J.circuit j)
        → e ≡ sum_of O J (opened O J (Masked j x a_at))
        → d ≡ sum_of O J (opened O J (Masked j z (b_at k)))
        → Holds i j (openings J.circuit j ++ differences j x z k)
        (put_differences O (layout J.circuit) l x z (record_of (party J i) j) k u e d)
    unfolding put_differences differences
    holds_differences x z k u e d h rx rz some fits len ee ed =
        by_cases (eqb k 2)
        (λ b. let two : k ≡ 2 = eqb-true k 2 b in
        rw b
        (rw (← (append_assoc (openings J.circuit j) (Masked j x a_at ∷ []) (Masked j z (b_at k) ∷ [])))
        (holds_opened (Masked j z (b_at k)) _ _ _ once (omega (arith, length_once)) (omega (arith, length_once)) ed
        (ap (λ (p : Part). p.mac) (own_masked z h rz (b_at k))))))
        (λ b. rw b once)
      where
        once : Holds i j (openings J.circuit j ++ (Masked j x a_at ∷ []))
            (put_opened (layout J.circuit) l u e (Send.masked O (layout J.circuit) l x (record_of (party J i) j) a_at).mac)
        once = holds_opened (Masked j x a_at) _ _ _ h (omega arith) len ee (ap (λ (p : Part). p.mac) (own_masked x h rx a_at))

        length_once : length (openings J.circuit j ++ (Masked j x a_at ∷ [])) ≡ u + 1
        length_once = length-append (openings J.circuit j) (Masked j x a_at ∷ []) ∙ omega arith

    -- And then the product.
    pub holds_product : (e d : ℕ) → Holds i j (openings J.circuit j) l → (shape (gate J.circuit j)).class ≡ Opens
        → e ≡ sum_of O J (opened O J (Masked j (gate J.circuit j).first a_at))
        → d ≡ sum_of O J (opened O J (Masked j (factor (gate J.circuit j)) (b_at (shape (gate J.circuit j)).openings)))
        → Holds i (suc j) (openings J.circuit (suc j))
        (after_opening O i (keys O J i) (layout J.circuit) l j (gate J.circuit j).first (factor (gate J.circuit j)) (record_of (party J i) j)
        (shape (gate J.circuit j)).openings (unchecked J.circuit j) e d)
    unfolding after_opening
    holds_product e d h k ee ed = rw (openings_opens J.circuit j k) (holds_wire _ both lt part)
      where
        both : Holds i j (openings J.circuit j ++ differences j (gate J.circuit j).first (factor (gate J.circuit j)) (shape (gate J.circuit j)).openings)
            (put_differences O (layout J.circuit) l (gate J.circuit j).first (factor (gate J.circuit j)) (record_of (party J i) j)
            (shape (gate J.circuit j)).openings (unchecked J.circuit j) e d)
        both =
            holds_differences _ _ _ _ e d h (opens_named ok j lt k) (factor_named ok j lt k) (opens_facts (gate J.circuit j) k).some
            (omega (arith, unchecked_within J.circuit j lt)) (sym (length_openings J.circuit j)) ee ed

        made : ℕ → ℕ → Part
        made =
            product O i (keys O J i) (part_at (record_of (party J i) j) a_at) (part_at (record_of (party J i) j) (b_at (shape (gate J.circuit j)).openings))
            (part_at (record_of (party J i) j) (c_at (shape (gate J.circuit j)).openings))

        part : made e d ≡ wires O J j i
        part = ap₂ made ee ed ∙ (unfold wire_by multiplied prepared opened in ap (λ (w : ℕ → Part). w i) (sym (wires_are O J F ok j lt k)))

    -- The shares of an output are received.
    pub holds_shown : (s : ℕ) → Holds i j [] l → (shape (gate J.circuit j)).class ≡ Output
        → s ≡ sum_of O J (opened O J (shows j (gate J.circuit j)))
        → Holds i j (shows j (gate J.circuit j) ∷ []) (after_open_output O (layout J.circuit) l (Send.showing O (party J i) l j) s)
    unfolding after_open_output
    holds_shown s h k es =
        holds_opened (shows j (gate J.circuit j)) 0 s _ h (room_one J.circuit) refl es
        (ap (λ (p : Part). p.mac) (own_showing h (output_named ok j lt k)))

    -- A gate that needs no round is worked out.
    holds_linear : Holds i j (openings J.circuit j) l → (shape (gate J.circuit j)).class ≡ Local
        → Holds i (suc j) (openings J.circuit (suc j)) (after_linear O i (keys O J i) (layout J.circuit) l j (gate J.circuit j))
    unfolding after_linear put_linear
    holds_linear h k =
        rw (openings_local J.circuit j k)
        (holds_wire _ h lt
        (ap₂ (λ (x z : Part). linear O i (keys O J i) (gate J.circuit j).kind x z (operand_of O (gate J.circuit j)))
        (own_shown _ h (local_named ok j lt k)) (own_shown _ h (local_second F ok j lt k))
        ∙ (unfold wire_by opened in ap (λ (w : ℕ → Part). w i) (sym (wires_are O J F ok j lt k)))))

  -- The gates up to the next stop are worked out.
  pub holds_settle : (F : Field O) {n q : ℕ} (ok : Valid n q J.circuit) (i left j : ℕ) (l : List ℕ) → j + left ≤ gates J.circuit
      → Holds i j (openings J.circuit j) l
      → Holds i (reach J.circuit left j) (openings J.circuit (reach J.circuit left j))
      (settle O i (keys O J i) J.circuit (layout J.circuit) left j l)
  unfolding reach settle
  holds_settle F ok i zero j l b h = h
  holds_settle F ok i (suc left) j l b h =
      by_cases (is_linear (gate J.circuit j))
      (λ e. rw e (holds_settle F ok i left (suc j) _ (omega arith) (holds_linear F ok (omega arith) h (is_class_lem Local e))))
      (λ e. rw e h)
