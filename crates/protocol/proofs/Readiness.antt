-- What the questions make sure of gives what the steps ask.
-- Assumes nothing.
use Prim.Native.Nat.{ℕ, suc, ◌+◌, ◌-◌, ◌*◌, ◌<◌, ◌≤◌}
use mathlib.Core.Path.{◌≡◌, refl, ap, sym, ◌∙◌}
use mathlib.Core.Logic.{inl, inr}
use mathlib.Core.Bool.{true, false}
use mathlib.Core.List.{List}
use native.Mathlib.Omega.{arith}
use native.Mathlib.Numerals.{add-one}
use lib.ListN.{length, get_or, drop, take, length-drop}
use lib.Seq.{get_or-drop, take_all}
use Rattle.algebra.specs.Ops.{Ops}
use Rattle.algebra.specs.Field.{Field}
use Rattle.circuit.specs.Gate.{Gate, gate_size, gate, gates}
use Rattle.circuit.specs.Kind.{Class, Owned, Opens, Output, Shape, shape, is_class, is_give, factor}
use Rattle.circuit.specs.Count.{capacity, unchecked, unchecked_after}
use Rattle.circuit.specs.Round.{Second, Round, Own, Open, Reveal, shape_words, words, opened_in, commit_words}
use Rattle.circuit.proofs.Counts.{prep_within, prep_positive, unchecked_within}
use Rattle.circuit.proofs.KindLaws.{is_class_lem, class_is, owned_facts, opens_facts, output_facts, give_prep}
use Rattle.circuit.proofs.Gates.{opens_named, factor_named, output_named}
use Rattle.circuit.proofs.RoundLaws.{RoundClass, class_at_round}
use Rattle.circuit.proofs.Tests.{false_no}
use Rattle.protocol.specs.Scratch as S
use Rattle.protocol.specs.Position.{reach}
use Rattle.protocol.specs.Party.{Party}
use Rattle.protocol.specs.Receive.{after_input, after_opening}
use Rattle.protocol.specs.declared.Layout.{Layout}
use Rattle.protocol.specs.declared.Site.{Site}
use Rattle.protocol.specs.Holding.{Below, Held, Worked}
use Rattle.protocol.specs.Code.{layout_of}
use Rattle.protocol.specs.Ready.{Opening, Settles, Ready, Named}
use Rattle.protocol.proofs.Following.{unchecked_reach}
use Rattle.protocol.proofs.Tails.{slots_room, marks_room}
use Rattle.protocol.proofs.Writing.{OpenedTo, worked_skip}
use Rattle.protocol.proofs.Steps.{input_keeps, opening_keeps}

-- a part that runs to the end of a list
pub tail_part : (a : ℕ) (l : List ℕ) → take (length l - a) (drop a l) ≡ drop a l
tail_part a l = take_all (length l - a) (drop a l) (simp length-drop (omega arith))

pub part_below : {q : ℕ} (a : ℕ) (l : List ℕ) {m : List ℕ} → m ≡ drop a l → Below q l → Below q m
part_below a l e h k = rw (e, get_or-drop a l k 0) (h (a + k))

pub part_longer : (a k : ℕ) (l : List ℕ) {m : List ℕ} → m ≡ drop a l → a + k ≤ length l → k ≤ length m
part_longer a k l e h = rw e (simp length-drop (omega arith))

-- the code's numbers of gates and entries
module _ (c : List ℕ) (y : Layout) (e : layout_of y ≡ S.layout c) where
  pub lay_gates : y.gates ≡ gates c
  unfolding layout_of S.layout
  lay_gates = ap (λ (z : S.Layout). z.gates) e

  pub lay_capacity : y.capacity ≡ capacity c
  unfolding layout_of S.layout
  lay_capacity = ap (λ (z : S.Layout). z.capacity) e

-- the words of a gate's own round, and of an output's opening
module _ (g : Gate) where
  pub input_words : (shape g).class ≡ Owned → words g Own ≡ 1
  unfolding shape_words
  input_words c = (owned_facts g c).words

  pub opening_words : (shape g).class ≡ Opens → words g Own ≡ (shape g).openings
  unfolding shape_words
  opening_words c = (opens_facts g c).words

  pub output_words : (shape g).class ≡ Output → words g Open ≡ 1
  unfolding shape_words
  output_words c = (output_facts g c).words

module _ {q : ℕ} (P : Party) (l : List ℕ) (y : Layout) (at : Site) where
  module _ (r : Round) (k : Ready q P l y at r) where
    pub gate_there : gate_size * at.gate + gate_size ≤ length P.circuit
    gate_there = omega (arith, k.valid.whole, k.sited.within)

    pub prep_some : 0 < length P.prep
    prep_some = omega (arith, k.prep_long, prep_within P.circuit at.gate k.sited.within, prep_positive P.circuit at.gate)

    -- the gate's record lies in the preprocessing
    pub record_fits : at.prep + (shape (gate P.circuit at.gate)).prep ≤ length P.prep
    record_fits = omega (arith, k.sited.prep, k.prep_long, prep_within P.circuit at.gate k.sited.within)

    -- and so does the mask of a give
    pub mask_there : (at.prep ≤ length P.prep) × (is_give (gate P.circuit at.gate) ≡ true → at.prep + 2 < length P.prep)
    mask_there = (omega (arith, record_fits), λ e. omega (arith, record_fits, give_prep (gate P.circuit at.gate) e))

    pub room_there : S.slots_size (layout_of y) ≤ length l
    room_there = rw k.lay (slots_room P.parties P.circuit k.room)

    -- and so do the nonce and the marks
    pub tail_there : S.marks_at (layout_of y) + P.parties * commit_words ≤ length l
    tail_there = rw k.lay (marks_room P.parties P.circuit k.room)

    pub worked_there : Worked q P.circuit (layout_of y) l at.gate
    worked_there = rw k.lay k.worked

    pub opened_there : OpenedTo q (layout_of y) l (opened_in (unchecked P.circuit at.gate) r)
    opened_there = rw k.lay k.opened

    pub within_there : at.gate < y.gates
    within_there = omega (arith, lay_gates P.circuit y k.lay, k.sited.within)

    -- the entries that the gate opens fit
    pub entries_there : at.unchecked + (shape (gate P.circuit at.gate)).openings < y.capacity
    entries_there = omega (arith, lay_capacity P.circuit y k.lay, k.sited.unchecked, unchecked_within P.circuit at.gate k.sited.within)

    pub capacity_some : 0 < y.capacity
    capacity_some = omega (arith, entries_there)

    pub class_of : RoundClass r (shape (gate P.circuit at.gate)).class
    class_of = class_at_round P.circuit at.gate r k.occurs

    -- the part of the preprocessing that starts at the gate's record
    pub part_long : {m : List ℕ} → m ≡ drop at.prep P.prep → (shape (gate P.circuit at.gate)).prep ≤ length m
    part_long e = part_longer at.prep _ P.prep e record_fits

    pub mask_long : {m : List ℕ} → m ≡ drop at.prep P.prep → is_give (gate P.circuit at.gate) ≡ true → 2 < length m
    mask_long e g = omega (arith, part_long e, give_prep (gate P.circuit at.gate) g)

    pub part_low : {m : List ℕ} → m ≡ drop at.prep P.prep → Below q m
    part_low e = part_below at.prep P.prep e k.prep_low

    -- what linear gates would ask before gate j is done
    pub settles_here : Settles q P.circuit (layout_of y) (get_or P.prep 0 0) l at.gate
    unfolding layout_of
    settles_here =
        record {
          parties = P.parties;
          valid = k.valid;
          count = lay_gates P.circuit y k.lay;
          key_low = k.prep_low 0;
          room = room_there;
          upto = omega (arith, within_there);
          worked = worked_there;
        }

    -- what the linear gates ask once gate j is done
    pub settles : (l' : List ℕ)
        → length l' ≡ length l
        → Worked q P.circuit (layout_of y) l' (suc at.gate)
        → Settles q P.circuit (layout_of y) (get_or P.prep 0 0) l' (at.gate + 1)
    unfolding layout_of
    settles l' e w =
        rw (add-one)
        (record {
          parties = P.parties;
          valid = k.valid;
          count = lay_gates P.circuit y k.lay;
          key_low = k.prep_low 0;
          room = rw e room_there;
          upto = within_there;
          worked = w;
        })

  -- a gate that opens values
  module _ (k : Ready q P l y at Own) (c : (shape (gate P.circuit at.gate)).class ≡ Opens) where
    pub opening_held : Held q (layout_of y) l (gate P.circuit at.gate).first × Held q (layout_of y) l (factor (gate P.circuit at.gate))
    opening_held =
        let x = opens_named k.valid at.gate k.sited.within c in
        let z = factor_named k.valid at.gate k.sited.within c in
        (worked_there Own k _ x.earlier x.valued, worked_there Own k _ z.earlier z.valued)

    pub opening_asks : {m : List ℕ} {x z o e d : ℕ}
        → m ≡ drop at.prep P.prep
        → Named (gate P.circuit at.gate) x z o
        → e < q
        → d < q
        → Opening q (get_or P.prep 0 0) (layout_of y) l at.gate x z m o at.unchecked e d
    unfolding layout_of
    opening_asks em n le ld =
        let f = opens_facts (gate P.circuit at.gate) c in
        record {
          some = omega (arith, n.openings, f.some);
          few = omega (arith, n.openings, f.few);
          key_low = k.prep_low 0;
          e_low = le;
          d_low = ld;
          prep_long = omega (arith, n.openings, part_long Own k em, f.prep);
          prep_low = part_low Own k em;
          room = room_there Own k;
          within = within_there Own k;
          first_held = rw n.first opening_held.0;
          second_held = rw n.second opening_held.1;
          entries = omega (arith, n.openings, entries_there Own k);
        }

  -- an output names a gate that can be read
  pub output_held : Ready q P l y at Open → Held q (layout_of y) l (gate P.circuit at.gate).first
  output_held k =
      let x = output_named k.valid at.gate k.sited.within (class_of Open k) in
      worked_there Open k _ x.earlier x.valued

  -- and has no value to be worked out
  pub output_settles : Ready q P l y at (Reveal Second) → Settles q P.circuit (layout_of y) (get_or P.prep 0 0) l (at.gate + 1)
  output_settles k =
      settles (Reveal Second) k l refl
      (worked_skip (layout_of y) l P.circuit at.gate (rw (class_is (class_of (Reveal Second) k))) (worked_there (Reveal Second) k))

-- what the linear gates ask after an input, and after a gate that opens values
module _ {O : Ops} (F : Field O) (P : Party) (l : List ℕ) (y : Layout) (at : Site) (k : Ready O.size P l y at Own) where
  pub input_settles : (i : ℕ) (m : List ℕ) (e : ℕ) {l' : List ℕ}
      → l' ≡ after_input O i (get_or P.prep 0 0) (layout_of y) l at.gate m e
      → Settles O.size P.circuit (layout_of y) (get_or P.prep 0 0) l' (at.gate + 1)
  unfolding layout_of
  input_settles i m e d =
      let s =
      input_keeps F P.circuit (layout_of y) l at.gate (room_there P l y at Own k) (worked_there P l y at Own k) 0 i (get_or P.prep 0 0) m e
      (within_there P l y at Own k) (λ t z. absurd (omega arith)) in
      rw d (settles P l y at Own k _ s.len s.worked)

  pub opening_settles : (i x z : ℕ) (m : List ℕ) (o e d : ℕ) {l' : List ℕ}
      → Opening O.size (get_or P.prep 0 0) (layout_of y) l at.gate x z m o at.unchecked e d
      → l' ≡ after_opening O i (get_or P.prep 0 0) (layout_of y) l at.gate x z m o at.unchecked e d
      → Settles O.size P.circuit (layout_of y) (get_or P.prep 0 0) l' (at.gate + 1)
  opening_settles i x z m o e d a f =
      let s =
      opening_keeps F P.circuit (layout_of y) l at.gate a.room (worked_there P l y at Own k) i (get_or P.prep 0 0) x z m o at.unchecked e d
      a.some a.few a.within a.entries a.e_low a.d_low (rw k.sited.unchecked (opened_there P l y at Own k)) in
      rw f (settles P l y at Own k _ s.len s.worked)

-- what waits at the next stop is what waits after the gate
pub resume_waits : (c : List ℕ) (j left : ℕ) {u v k : ℕ} {s : Shape}
    → u ≡ unchecked c j
    → s ≡ shape (gate c j)
    → v ≡ unchecked_after s u
    → k ≡ reach c left (j + 1)
    → v ≡ unchecked c k
unfolding unchecked
resume_waits c j left eu es ev ek = ev ∙ rw (eu, es, ek, unchecked_reach c left (j + 1), add-one j)

-- the class of a gate at its own round, by the code's test of it
module _ {q : ℕ} {P : Party} {l : List ℕ} {y : Layout} {at : Site} (k : Ready q P l y at Own) {h : Class} (e : h ≡ (shape (gate P.circuit at.gate)).class) where
  pub own_owned : is_class Owned h ≡ true → (shape (gate P.circuit at.gate)).class ≡ Owned
  own_owned o = sym e ∙ is_class_lem Owned o

  pub own_opens : is_class Owned h ≡ false → (shape (gate P.circuit at.gate)).class ≡ Opens
  own_opens n = go (class_of P l y at Own k)
    where
      go : RoundClass Own (shape (gate P.circuit at.gate)).class → (shape (gate P.circuit at.gate)).class ≡ Opens
      go (inl o) = false_no (sym n ∙ class_is (e ∙ o))
      go (inr o) = o
