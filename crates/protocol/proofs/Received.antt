-- Receiving: what the steps of each round ask, and that they leave what is defined.
-- Assumes nothing.
use Prim.Native.Nat.{ℕ, ◌+◌, ◌-◌, ◌*◌, ◌<◌, ◌≤◌}
use mathlib.Core.Path.{◌≡◌, refl, sym, ap, ◌∙◌}
use mathlib.Core.Bool.{Bool, true, false}
use mathlib.Core.List.{List}
use native.Mathlib.Numerals.{add-one}
use native.Mathlib.Omega.{arith}
use lib.ListN.{length, get_or, drop}
use Rattle.algebra.specs.Ops.{Ops}
use Rattle.circuit.specs.Gate.{gate_size, gate}
use Rattle.circuit.specs.Kind.{Owned, Opens, shape, is_give}
use Rattle.circuit.specs.Round.{Check, First, Second, Round, Own, Open, Commit, Reveal}
use Rattle.circuit.proofs.KindLaws.{owned_facts}
use Rattle.protocol.specs.Scratch as S
use Rattle.protocol.specs.Party.{Party, key, record_in, record_of}
use Rattle.protocol.specs.Position.{reach}
use Rattle.protocol.specs.Send.{shown, showing}
use Rattle.protocol.specs.Receive.{after_input, after_opening, after_open_output, Ruling, passed, settle, onward, own_received, check_passed, received, left}
use Rattle.protocol.specs.declared.Layout.{Layout}
use Rattle.protocol.specs.declared.Site.{Site}
use Rattle.protocol.specs.Holding.{Below, Held}
use Rattle.protocol.specs.Code.{layout_of}
use Rattle.protocol.specs.Ready.{Ready, Stands, Receives, heard_first, Named, Hears, Summed}
use Rattle.protocol.proofs.HeardWords.{owner_heard, first_heard, second_heard, output_heard}
use Rattle.protocol.proofs.Readiness.{lay_gates, room_there, within_there, capacity_some, part_long, part_low, mask_long, class_of, output_held}

module _ {q : ℕ} (P : Party) (l : List ℕ) (y : Layout) (at : Site) where
  -- what summing the words asks, where all are elements
  pub hears : {r : Round} {heard : List ℕ} → Receives q P l y at r heard → Below q heard → Hears q P.parties P.circuit at.gate r heard
  hears s low =
      record { valid = s.ready.valid; within = s.ready.sited.within; occurs = s.ready.occurs; whole = s.whole; heard_low = low }

  -- and finding the next stop
  pub reach_asks : {r : Round} → Ready q P l y at r → (gate_size * y.gates ≤ length P.circuit) × (at.gate + 1 ≤ y.gates)
  reach_asks k = let e = lay_gates P.circuit y k.lay in (omega (arith, e, k.valid.whole), omega (arith, e, k.sited.within))

  pub stands : {r : Round}
      → Ready q P l y at r
      → {stop : ℕ}
      → stop ≡ reach P.circuit (y.gates - (at.gate + 1)) (at.gate + 1)
      → Stands P.circuit y.gates at.gate stop at.unchecked
  stands k s =
      let e = lay_gates P.circuit y k.lay in
      record { all = e; whole = omega (arith, e, k.valid.whole); few = omega (arith, e, k.valid.few); within = omega (arith, e, k.sited.within); reached = s; waits = k.sited.unchecked }

  pub input_asks : Ready q P l y at Own
      → (shape (gate P.circuit at.gate)).class ≡ Owned
      → {e : ℕ} {m : List ℕ}
      → e < q
      → m ≡ drop at.prep P.prep
      → (get_or P.prep 0 0 < q) × (e < q) × (1 < length m) × Below q m × (S.slots_size (layout_of y) ≤ length l) × (at.gate < y.gates)
  input_asks k c h e =
      (k.prep_low 0, h, omega (arith, part_long P l y at Own k e, (owned_facts (gate P.circuit at.gate) c).prep), part_low P l y at Own k e, room_there P l y at Own k, within_there P l y at Own k)

  pub output_asks : Ready q P l y at Open
      → {x : ℕ} {give : Bool} {m : List ℕ}
      → x ≡ (gate P.circuit at.gate).first
      → give ≡ is_give (gate P.circuit at.gate)
      → m ≡ drop at.prep P.prep
      → (S.slots_size (layout_of y) ≤ length l) × (0 < y.capacity) × Held q (layout_of y) l x × (give ≡ true → 1 < length m) × Below q m
  output_asks k ex eg em = (
    room_there P l y at Open k,
    capacity_some P l y at Open k,
    rw ex (output_held P l y at k),
    (λ e. omega (arith, mask_long P l y at Open k em (sym eg ∙ e))),
    part_low P l y at Open k em,
  )

module _ (O : Ops) (P : Party) (l : List ℕ) (y : Layout) (at : Site) (heard : List ℕ) where
  -- the linear gates that the code went on with
  onward_is : (r : Round)
      → Ready O.size P l y at r
      → (l₁ : List ℕ) {l₂ : List ℕ}
      → l₂ ≡ settle O P.me (get_or P.prep 0 0) P.circuit (layout_of y) (y.gates - (at.gate + 1)) (at.gate + 1) l₁
      → l₂ ≡ onward O P at.gate l₁
  unfolding onward key
  onward_is r k l₁ e = e ∙ rw (add-one, k.lay, lay_gates P.circuit y k.lay)

  pub input_made : Ready O.size P l y at Own
      → (shape (gate P.circuit at.gate)).class ≡ Owned
      → {m : List ℕ}
      → m ≡ drop at.prep P.prep
      → {e : ℕ}
      → e ≡ heard_first O P.parties (gate P.circuit at.gate) Own heard
      → {l₁ l₂ : List ℕ}
      → l₁ ≡ after_input O P.me (get_or P.prep 0 0) (layout_of y) l at.gate m e
      → l₂ ≡ settle O P.me (get_or P.prep 0 0) P.circuit (layout_of y) (y.gates - (at.gate + 1)) (at.gate + 1) l₁
      → l₂ ≡ received O P l at.gate Own heard
  unfolding received own_received record_of record_in key
  input_made k c em ee e₁ e₂ =
      rw c
      (onward_is Own k _ e₂
      ∙ ap (onward O P at.gate) (e₁ ∙ rw (ee, owner_heard O P.parties heard Own (gate P.circuit at.gate) c, em, k.lay, k.sited.prep)))

  pub opening_received : Ready O.size P l y at Own
      → (shape (gate P.circuit at.gate)).class ≡ Opens
      → {m : List ℕ}
      → m ≡ drop at.prep P.prep
      → {x z o e d : ℕ}
      → Named (gate P.circuit at.gate) x z o
      → Summed O P.parties (gate P.circuit at.gate) Own heard e d
      → {l₁ l₂ : List ℕ}
      → l₁ ≡ after_opening O P.me (get_or P.prep 0 0) (layout_of y) l at.gate x z m o at.unchecked e d
      → l₂ ≡ settle O P.me (get_or P.prep 0 0) P.circuit (layout_of y) (y.gates - (at.gate + 1)) (at.gate + 1) l₁
      → l₂ ≡ received O P l at.gate Own heard
  unfolding received own_received record_of record_in key
  opening_received k c em n w e₁ e₂ =
      let g = gate P.circuit at.gate in
      rw c
      (onward_is Own k _ e₂
      ∙ ap (onward O P at.gate)
      (e₁ ∙ rw (w.first.is, w.second.is, first_heard O P.parties heard Own g c, second_heard O P.parties heard Own g c, em, n.first, n.second, n.openings, k.lay, k.sited.prep, k.sited.unchecked)))

  pub output_received : Ready O.size P l y at Open
      → {x : ℕ} {give : Bool} {m : List ℕ} {e : ℕ}
      → x ≡ (gate P.circuit at.gate).first
      → give ≡ is_give (gate P.circuit at.gate)
      → m ≡ drop at.prep P.prep
      → e ≡ heard_first O P.parties (gate P.circuit at.gate) Open heard
      → {l₁ : List ℕ}
      → l₁ ≡ after_open_output O (layout_of y) l (shown O (layout_of y) l give x m) e
      → l₁ ≡ received O P l at.gate Open heard
  unfolding received showing record_of record_in
  output_received k ex eg em ee e =
      e ∙ rw (ee, ex, eg, em, k.sited.prep, output_heard O P.parties heard Open (gate P.circuit at.gate) (class_of P l y at Open k), k.lay)

  pub reveal_received : Ready O.size P l y at (Reveal Second)
      → {l₁ : List ℕ}
      → l₁ ≡ settle O P.me (get_or P.prep 0 0) P.circuit (layout_of y) (y.gates - (at.gate + 1)) (at.gate + 1) l
      → l₁ ≡ received O P l at.gate (Reveal Second) heard
  unfolding received check_passed
  reveal_received k e = onward_is (Reveal Second) k l e

  -- a commitment's marks
  pub commit_received : (t : Check) → Ready O.size P l y at (Commit t)
      → {l₁ : List ℕ}
      → l₁ ≡ S.put_marks (layout_of y) l heard
      → l₁ ≡ received O P l at.gate (Commit t) heard
  unfolding received
  commit_received t k e = e ∙ rw k.lay

-- the reveal of what was opened, a stop, and the own round of a class that has none write nothing
module _ (O : Ops) (P : Party) (l : List ℕ) (j : ℕ) (heard : List ℕ) where
  pub first_received : l ≡ received O P l j (Reveal First) heard
  unfolding received check_passed
  first_received = refl

  pub left_passed : (v : Ruling) (r : Round) → passed v ≡ true → {l₁ : List ℕ} → l₁ ≡ received O P l j r heard → l₁ ≡ left O P v l j r heard
  unfolding left
  left_passed v r h e = e ∙ rw h

  pub left_stopped : (v : Ruling) (r : Round) → passed v ≡ false → l ≡ left O P v l j r heard
  unfolding left
  left_stopped v r h = rw h
