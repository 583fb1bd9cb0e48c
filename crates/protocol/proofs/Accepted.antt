-- What acceptance gives: everything that a step asks.
-- Assumes nothing.
use Prim.Native.Nat.{ℕ, ◌*◌, ◌<◌, ◌≤◌}
use mathlib.Core.Path.{◌≡◌, refl}
use mathlib.Core.Bool.{Bool, true, false, not, ◌||◌}
use mathlib.Core.List.{List}
use native.Mathlib.Omega.{arith}
use lib.ListN.{length, get_or}
use lib.Dec.{ltb, leb}
use borrow.Author.Tests.{ltb-true, leb-true, eqb-true}
use Rattle.circuit.specs.Verdict.{Accepted, ask, ◌then◌}
use Rattle.circuit.specs.Gate.{gate, gates}
use Rattle.circuit.specs.Kind.{has_value}
use Rattle.circuit.specs.Count.{prep_size, capacity, input_count, unchecked}
use Rattle.circuit.specs.Round.{Check, First, Second, Round, Own, Open, Commit, Reveal, reveal_words, rounds, among, checked, opened_in}
use Rattle.circuit.specs.Accept.{ask_circuit}
use Rattle.circuit.specs.Valid.{Valid}
use Rattle.circuit.proofs.Tests.{false_no, both_left, both_right}
use Rattle.circuit.proofs.Verdicts.{ask_true, then_left, then_right, each_below, elements_below}
use Rattle.circuit.proofs.Valid.{valid}
use Rattle.circuit.proofs.Counts.{unchecked_fits}
use Rattle.protocol.specs.Scratch.{Slot, Share, Mac, Value, ValueMac, layout, scratch_size, read}
use Rattle.protocol.specs.Position.{Position, stage_occurs, occurs}
use Rattle.protocol.specs.Party.{Party}
use Rattle.protocol.specs.Holding.{Below, Worked, Opened}
use Rattle.protocol.specs.Code.{Sited, layout_of}
use Rattle.protocol.specs.Ready.{Ready, Sends, Receives, HeardLow}
use Rattle.protocol.specs.declared.Layout.{Layout}
use Rattle.protocol.specs.declared.Site.{Site}
use Rattle.protocol.specs.Ask.{fewest_parties, most_parties, ask_parties, slot_question, ask_slots, ask_worked, ask_send_round, ask_receive_round, ask_heard, ask_lent}

-- what 1 to 12 make sure of, in a field of q elements
pub record Lends (q : ℕ) (P : Party) (l : List ℕ) : Type 0 where
  pub parties : ask_parties P.parties ≡ Accepted
  pub circuit : ask_circuit P.parties q P.circuit ≡ Accepted
  pub valid : Valid P.parties q P.circuit
  pub prep_long : length P.prep ≡ prep_size P.circuit
  pub prep_low : Below q P.prep
  pub inputs_long : length P.inputs ≡ input_count P.circuit P.me
  pub inputs_low : Below q P.inputs
  pub room : scratch_size P.parties P.circuit ≤ length l

pub lends : {q : ℕ} → 0 < q → (P : Party) (l : List ℕ) → ask_lent q P l ≡ Accepted → Lends q P l
unfolding ask_lent
lends {q} some P l e =
    let after-1 = then_right _ _ e in
    let after-2 = then_right _ _ after-1 in
    let after-7 = then_right _ _ after-2 in
    let after-8 = then_right _ _ after-7 in
    let after-9 = then_right _ _ after-8 in
    let after-10 = then_right _ _ after-9 in
    record {
      parties = then_left _ _ e;
      circuit = then_left _ _ after-2;
      valid = valid P.parties q P.circuit (then_left _ _ after-2);
      prep_long = eqb-true _ _ (ask_true 8 0 _ (then_left _ _ after-7));
      prep_low = elements_below 9 q P.prep some (then_left _ _ after-8);
      inputs_long = eqb-true _ _ (ask_true 10 0 _ (then_left _ _ after-9));
      inputs_low = elements_below 11 q P.inputs some (then_left _ _ after-10);
      room = leb-true _ _ (ask_true 12 0 _ (then_right _ _ after-10));
    }

-- question 1
pub parties_few : (q : ℕ) (P : Party) (l : List ℕ) → ask_lent q P l ≡ Accepted → P.parties ≤ most_parties
unfolding ask_lent ask_parties
parties_few q P l e = leb-true _ _ (both_right (leb fewest_parties P.parties) _ (ask_true 1 0 _ (then_left _ _ e)))

-- a wanted slot that passes question 15 is an element
module _ (q : ℕ) (c l : List ℕ) where
  slot_low : (wanted : Bool) (s : Slot) → slot_question q c l wanted s ≡ Accepted → wanted ≡ true → read (layout c) l s < q
  unfolding slot_question
  slot_low wanted s e w = ltb-true _ _ (go wanted (ask_true 15 _ _ e) w)
    where
      go : (b : Bool) → (not b || ltb (read (layout c) l s) q) ≡ true → b ≡ true → ltb (read (layout c) l s) q ≡ true
      go true h k = h
      go false h k = false_no k

  slots_low : (k : ℕ) (wanted : ℕ → Bool) (slot : ℕ → Slot) → ask_slots q c l k wanted slot ≡ Accepted
      → (t : ℕ) → t < k → wanted t ≡ true → read (layout c) l (slot t) < q
  unfolding ask_slots
  slots_low k wanted slot e t h w = slot_low (wanted t) (slot t) (each_below (λ t. slot_question q c l (wanted t) (slot t)) k e t h) w

-- what question 15 makes sure of
module _ (q : ℕ) (c l : List ℕ) (j : ℕ) (r : Round) (e : ask_worked q c l j r ≡ Accepted) where
  shares : ask_slots q c l j (λ x. has_value (gate c x)) Share ≡ Accepted
  unfolding ask_worked
  shares = then_left _ _ e

  past_shares : (ask_slots q c l j (λ x. has_value (gate c x)) Mac then ask_slots q c l (opened_in (unchecked c j) r) (λ t. true) Value then ask_slots q c l (opened_in (unchecked c j) r) (λ t. true) ValueMac) ≡ Accepted
  unfolding ask_worked
  past_shares = then_right (ask_slots q c l j (λ x. has_value (gate c x)) Share) _ e

  pub worked_low : j ≤ gates c → Worked q c (layout c) l j
  unfolding layout
  worked_low h x k w =
      record {
        within = omega arith;
        share = slots_low q c l j (λ x. has_value (gate c x)) Share shares x k w;
        mac = slots_low q c l j (λ x. has_value (gate c x)) Mac (then_left _ _ past_shares) x k w;
      }

  pub opened_low : opened_in (unchecked c j) r ≤ capacity c → (t : ℕ) → t < opened_in (unchecked c j) r → Opened q (layout c) l t
  unfolding layout
  opened_low h t k =
      record {
        within = omega arith;
        value = slots_low q c l _ (λ t. true) Value (then_left _ _ (then_right _ _ past_shares)) t k refl;
        mac = slots_low q c l _ (λ t. true) ValueMac (then_right _ _ (then_right _ _ past_shares)) t k refl;
      }

-- the opened entries of a round fit
pub entries_fit : (c : List ℕ) (j : ℕ) (r : Round) → j < gates c → opened_in (unchecked c j) r ≤ capacity c
entries_fit c j r h = go r (unchecked_fits c j (omega arith))
  where
    check : (k : Check) → unchecked c j < capacity c → checked (unchecked c j) k ≤ capacity c
    check First f = omega arith
    check Second f = omega arith

    go : (r : Round) → unchecked c j < capacity c → opened_in (unchecked c j) r ≤ capacity c
    go Own f = omega arith
    go Open f = omega arith
    go (Commit k) f = check k f
    go (Reveal k) f = check k f

-- what question 13 makes sure of
module _ (q : ℕ) (c : List ℕ) (at : Position) (e : occurs q c at ≡ true) where
  pub gate_occurs : at.gate < gates c
  unfolding occurs
  gate_occurs = ltb-true _ _ (both_left _ _ (both_left _ _ e))

  pub stage_occurs_lem : stage_occurs c at.gate at.stage ≡ true
  unfolding occurs
  stage_occurs_lem = both_right (ltb at.gate (gates c)) (stage_occurs c at.gate at.stage) (both_left _ _ e)

-- what a step asks
module _ {q : ℕ} (some : 0 < q) (P : Party) (l : List ℕ) (y : Layout) (at : Site) (r : Round) (lent : Lends q P l) (lay : layout_of y ≡ layout P.circuit) (sited : Sited P.circuit P.me at)
    (occurs : among r (rounds P.circuit at.gate) ≡ true) where
  pub ready : ask_worked q P.circuit l at.gate r ≡ Accepted → Ready q P l y at r
  ready e =
      record {
        valid = lent.valid;
        prep_long = lent.prep_long;
        prep_low = lent.prep_low;
        inputs_long = lent.inputs_long;
        inputs_low = lent.inputs_low;
        lay = lay;
        room = lent.room;
        sited = sited;
        occurs = occurs;
        worked = worked_low q P.circuit l at.gate r e (omega (arith, sited.within));
        opened = opened_low q P.circuit l at.gate r e (entries_fit P.circuit at.gate r sited.within);
      }

  pub sends : (held : ℕ) (coefficients nonce : List ℕ) (room : ℕ) → ask_send_round q P.circuit l at.gate coefficients nonce room r ≡ Accepted → Sends q P l y at r held coefficients nonce room
  unfolding ask_send_round
  sends held coefficients nonce room e =
      let after-15 = then_right _ _ e in
      let after_16 = then_right _ _ after-15 in
      let after-17 = then_right _ _ after_16 in
      record {
        ready = ready (then_left _ _ e);
        has_coefficient_count = eqb-true _ _ (ask_true 16 0 _ (then_left _ _ after-15));
        coefficients_low = elements_below 17 q coefficients some (then_left _ _ after_16);
        nonce_long = eqb-true _ _ (ask_true 25 0 _ (then_left _ _ after-17));
        space = leb-true _ _ (ask_true 18 0 _ (then_right _ _ after-17));
      }

  pub receives : (heard : List ℕ) → ask_receive_round q P.circuit P.parties l at.gate heard r ≡ Accepted → Receives q P l y at r heard
  unfolding ask_receive_round
  receives heard e =
      record {
        ready = ready (then_left _ _ e);
        whole = eqb-true _ _ (ask_true 19 0 _ (then_left _ _ (then_right _ _ e)));
        heard_low = low r (then_right _ _ (then_right _ _ e));
      }
    where
      low : (r : Round) → ask_heard q P.parties r heard ≡ Accepted → HeardLow q P.parties r heard
      low Own h = elements_below 20 q heard some h
      low Open h = elements_below 20 q heard some h
      low (Commit k) h = tt
      low (Reveal k) h =
          λ i lt.
          ltb-true _ _ (ask_true 20 _ _ (each_below (λ (i : ℕ). ask 20 (i * reveal_words) (ltb (get_or heard (i * reveal_words) 0) q)) P.parties h i lt))
