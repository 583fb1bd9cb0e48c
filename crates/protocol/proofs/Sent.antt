-- Sending: words written one after another at the start of a list, what the steps of each round ask, and that they send what is defined.
-- Assumes nothing.
use Prim.Native.Nat.{ℕ, ◌+◌, ◌*◌, ◌<◌, ◌≤◌}
use mathlib.Core.Path.{◌≡◌, refl, ◌∙◌}
use mathlib.Core.Bool.{true, false}
use mathlib.Core.List.{List, [], ◌∷◌}
use native.Mathlib.Omega.{arith}
use lib.ListN.{length, get_or, set, drop}
use borrow.Author.Tests.{eq-eqb, ne_eqb}
use Rattle.algebra.specs.Ops.{Ops}
use Rattle.algebra.specs.Element.{Is}
use Rattle.circuit.specs.Gate.{gate_size, gate}
use Rattle.circuit.specs.Kind.{Owned, Opens, shape, is_give}
use Rattle.circuit.specs.Count.{unchecked}
use Rattle.circuit.specs.Round.{Round, Own, Open, is_commit, words, opened_in, coefficients_in, nonce_in}
use Rattle.circuit.proofs.KindLaws.{owned_facts, opens_facts}
use Rattle.protocol.specs.Scratch as S
use Rattle.protocol.specs.Party.{Party, key, record_in, record_of, input_of, a_at, b_at}
use Rattle.protocol.specs.Send.{input_word, masked, shown, check_share, opening, own_words, showing, sent, holds, overwrite, words_of_opening}
use Rattle.protocol.specs.declared.Layout.{Layout}
use Rattle.protocol.specs.declared.Site.{Site}
use Rattle.protocol.specs.Holding.{Below, Held}
use Rattle.protocol.specs.Code.{layout_of}
use Rattle.protocol.specs.Ready.{Ready, Sends, Named}
use Rattle.protocol.proofs.Writing.{OpenedTo}
use Rattle.protocol.proofs.Readiness.{gate_there, record_fits, mask_there, room_there, opened_there, class_of, input_words, opening_words, opening_held, output_words, output_held}

pub overwrite_one : (w : ℕ) (out : List ℕ) → 0 < length out → set out 0 w ≡ overwrite (w ∷ []) out
unfolding overwrite
overwrite_one w [] h = absurd (omega arith)
overwrite_one w (x ∷ xs) h = refl

pub overwrite_two : (v w : ℕ) (out : List ℕ) → 1 < length out → set (set out 0 v) 1 w ≡ overwrite (v ∷ w ∷ []) out
unfolding overwrite
overwrite_two v w [] h = absurd (omega arith)
overwrite_two v w (x ∷ []) h = absurd (omega arith)
overwrite_two v w (x ∷ y ∷ xs) h = refl

-- the words of an opening, of two values or of one, from the parts that the calls made
module _ (O : Ops) (y : S.Layout) (l : List ℕ) (x z : ℕ) (m : List ℕ) (k : ℕ) (out : List ℕ) {e : ℕ} (ee : e ≡ (masked O y l x m a_at).share) where
  pub opening_one : (k ≡ 2 → ⊥) → 0 < length out → set out 0 e ≡ overwrite (words_of_opening O y l x z m k) out
  opening_one ek h = rw (ne_eqb k 2 ek, ← ee) (overwrite_one e out h)

  pub opening_two : {d : ℕ} → k ≡ 2 → d ≡ (masked O y l z m (b_at k)).share → 1 < length out → set (set out 0 e) 1 d ≡ overwrite (words_of_opening O y l x z m k) out
  opening_two {d} ek ed h = rw (eq-eqb k 2 ek, ← ee, ← ed) (overwrite_two e d out h)

-- a gate's own round takes neither coefficients nor a nonce
pub own_sends : {q : ℕ} (P : Party) (l : List ℕ) (y : Layout) (at : Site) {room : ℕ} → Ready q P l y at Own
    → words (gate P.circuit at.gate) Own ≤ room
    → Sends q P l y at Own 0 [] [] room
unfolding coefficients_in nonce_in
own_sends P l y at k h =
    record { ready = k; has_coefficient_count = refl; coefficients_low = λ t. omega (arith, k.prep_low 0); nonce_long = refl; space = h }

-- what the steps ask
module _ {q : ℕ} (P : Party) (l : List ℕ) (y : Layout) (at : Site) (held : ℕ) (coefficients nonce : List ℕ) (room : ℕ) where
  module _ (s : Sends q P l y at Own held coefficients nonce room) where
    pub sends_input : (shape (gate P.circuit at.gate)).class ≡ Owned
        → (gate_size * at.gate + gate_size ≤ length P.circuit) × (at.prep + 2 < length P.prep) × Below q P.prep × Below q P.inputs × (0 < room)
    sends_input c =
        let k = s.ready in
        let g = gate P.circuit at.gate in
        (gate_there P l y at Own k, omega (arith, record_fits P l y at Own k, (owned_facts g c).prep), k.prep_low, k.inputs_low, omega (arith, s.space, input_words g c))

    pub sends_opening : {x z o : ℕ}
        → (shape (gate P.circuit at.gate)).class ≡ Opens
        → Named (gate P.circuit at.gate) x z o
        → (gate_size * at.gate + gate_size ≤ length P.circuit)
        × (1 ≤ o)
        × (o ≤ 2)
        × (at.prep + (2 * o + 1) < length P.prep)
        × Below q P.prep
        × (S.slots_size (layout_of y) ≤ length l)
        × Held q (layout_of y) l x
        × Held q (layout_of y) l z
        × (o ≤ room)
    sends_opening c n =
        let k = s.ready in
        let g = gate P.circuit at.gate in
        let f = opens_facts g c in
        let h = opening_held P l y at k c in (
          gate_there P l y at Own k,
          omega (arith, n.openings, f.some),
          omega (arith, n.openings, f.few),
          omega (arith, n.openings, record_fits P l y at Own k, f.prep),
          k.prep_low,
          room_there P l y at Own k,
          rw n.first h.0,
          rw n.second h.1,
          omega (arith, n.openings, s.space, opening_words g c),
        )

  pub sends_output : Sends q P l y at Open held coefficients nonce room
      → (gate_size * at.gate + gate_size ≤ length P.circuit)
      × (at.prep ≤ length P.prep)
      × (is_give (gate P.circuit at.gate) ≡ true → at.prep + 1 < length P.prep)
      × Below q P.prep
      × (S.slots_size (layout_of y) ≤ length l)
      × Held q (layout_of y) l (gate P.circuit at.gate).first
      × (0 < room)
  sends_output s =
      let k = s.ready in
      let record_there = mask_there P l y at Open k in
      (gate_there P l y at Open k, record_there.0, (λ e. omega (arith, record_there.1 e)), k.prep_low, room_there P l y at Open k, output_held P l y at k, omega (arith, s.space, output_words (gate P.circuit at.gate) (class_of P l y at Open k)))

  module _ (r : Round) (s : Sends q P l y at r held coefficients nonce room) where
    -- a commitment has a coefficient for each entry that it checks
    pub sends_check : {k : ℕ} → is_commit r ≡ true → k ≡ opened_in (unchecked P.circuit at.gate) r
        → (S.slots_size (layout_of y) ≤ length l) × (get_or P.prep 0 0 < q) × (k ≤ length coefficients) × Below q coefficients × OpenedTo q (layout_of y) l k
    unfolding coefficients_in
    sends_check {k} c e =
        let d : length coefficients ≡ opened_in (unchecked P.circuit at.gate) r = s.has_coefficient_count ∙ rw c in
        (room_there P l y at r s.ready, s.ready.prep_low 0, omega arith, s.coefficients_low, rw e (opened_there P l y at r s.ready))

-- the check share that the code holds is what is defined
module _ (O : Ops) (P : Party) (l : List ℕ) (y : Layout) (at : Site) (r : Round) (k : Ready O.size P l y at r) (coefficients : List ℕ) where
  pub holds_check : {n h : ℕ}
      → is_commit r ≡ true
      → n ≡ opened_in (unchecked P.circuit at.gate) r
      → Is O.size (check_share O (layout_of y) l n (get_or P.prep 0 0) coefficients) h
      → Is O.size (holds O P l at.gate r coefficients) h
  unfolding holds key
  holds_check c e h = record { is = h.is ∙ rw (c, e, k.lay); below = h.below }

  pub holds_none : is_commit r ≡ false → Is O.size (holds O P l at.gate r coefficients) 0
  unfolding holds
  holds_none c = record { is = rw c; below = omega (arith, k.prep_low 0) }

-- what the code wrote is what is defined
module _ (O : Ops) (P : Party) (l : List ℕ) (y : Layout) (at : Site) (held : ℕ) (coefficients nonce out : List ℕ) {ws : List ℕ} where
  pub sent_input : Ready O.size P l y at Own
      → (shape (gate P.circuit at.gate)).class ≡ Owned
      → ws ≡ overwrite (input_word O P.me (gate P.circuit at.gate).first (drop at.prep P.prep) (get_or P.inputs at.input 0) ∷ []) out
      → ws ≡ overwrite (sent O P l at.gate held coefficients nonce Own) out
  unfolding sent own_words record_of record_in input_of
  sent_input k c e = e ∙ rw (c, k.sited.prep, k.sited.input)

  pub sent_opening : Ready O.size P l y at Own
      → (shape (gate P.circuit at.gate)).class ≡ Opens
      → {x z o : ℕ}
      → Named (gate P.circuit at.gate) x z o
      → ws ≡ overwrite (words_of_opening O (layout_of y) l x z (drop at.prep P.prep) o) out
      → ws ≡ overwrite (sent O P l at.gate held coefficients nonce Own) out
  unfolding sent own_words opening record_of record_in
  sent_opening k c n e = e ∙ rw (c, n.first, n.second, n.openings, k.sited.prep, k.lay)

  pub sent_output : Ready O.size P l y at Open
      → ws ≡ overwrite ((shown O (layout_of y) l (is_give (gate P.circuit at.gate)) (gate P.circuit at.gate).first (drop at.prep P.prep)).share ∷ []) out
      → ws ≡ overwrite (sent O P l at.gate held coefficients nonce Open) out
  unfolding sent showing record_of record_in
  sent_output k e = e ∙ rw (k.lay, k.sited.prep)
