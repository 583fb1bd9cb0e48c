-- What follows a round: which gates have it, which round or gate comes next, and that every point so reached can occur.
-- Assumes nothing.
use Prim.Native.Nat.{ℕ, zero, suc, ◌-◌, ◌<◌, ◌≤◌}
use mathlib.Core.Path.{◌≡◌, refl, sym, ap, ◌∙◌}
use mathlib.Core.Bool.{Bool, true, false, cond}
use mathlib.Core.List.{List, [], ◌∷◌}
use native.Mathlib.Omega.{arith}
use lib.Dec.{eqb, ltb}
use borrow.Author.Tests.{ltb-true, lt-ltb, le-ltb, eq-eqb, ne_eqb}
use Rattle.algebra.specs.Ops.{Ops}
use Rattle.circuit.specs.Gate.{Gate, gate, gates}
use Rattle.circuit.specs.Kind.{Class, Local, Owned, Opens, Output, shape, is_class, is_linear}
use Rattle.circuit.specs.Count.{unchecked, unchecked_after}
use Rattle.circuit.specs.Round.{Check, First, Second, Round, Own, Open, Commit, Reveal, round_number, is_commit, is_reveal, check_rounds, class_rounds, rounds, among, reveal_words}
use Rattle.circuit.specs.Valid.{Valid}
use Rattle.circuit.proofs.Tests.{false_no, by_cases}
use Rattle.circuit.proofs.KindLaws.{is_class_lem, local_no_out, local_facts}
use Rattle.circuit.proofs.Counts.{unchecked_valued}
use Rattle.circuit.proofs.Gates.{gate_zero}
use Rattle.circuit.proofs.RoundLaws.{Has, after, is_among, class_at_round, after_round}
use Rattle.protocol.specs.Position.{Send, Point, finished, aborted, begin, reach, enter, resume, start, proceed, follow, stage_occurs, may_hold}
use Rattle.protocol.specs.Receive.{Nobody, Blames, Ruling, Passed, Stopped, passed, misfit, weighs, heard_sum, ruling, next}

-- what follows a check, and each round, that stops no run
abbrev pub followed_check : List ℕ → ℕ → Check → Point
followed_check c j First = record { gate = j; stage = Send Open }
followed_check c j Second = resume c (suc j)

abbrev pub followed : List ℕ → ℕ → Round → Point
followed c j Own = resume c (suc j)
followed c j Open = record { gate = j; stage = Send (Commit Second) }
followed c j (Commit k) = record { gate = j; stage = Send (Reveal k) }
followed c j (Reveal k) = followed_check c j k

-- where a gate is entered
pub enter_at : (c : List ℕ) (k : ℕ) {u : ℕ} {h : Class}
    → k < gates c
    → u ≡ unchecked c k
    → h ≡ (shape (gate c k)).class
    → begin c k (class_rounds u h) ≡ enter c k
unfolding enter rounds
enter_at c k h e f = rw (lt-ltb k (gates c) h, e, f)

pub enter_end : (c : List ℕ) (k : ℕ) → gates c ≤ k → finished c ≡ enter c k
unfolding enter
enter_end c k h = rw (le-ltb k (gates c) h)

module _ (c : List ℕ) (j : ℕ) where
  pub follow_is : (r : Round) → among r (rounds c j) ≡ true → follow c j r ≡ followed c j r
  unfolding follow proceed begin
  follow_is r e = rw (after_round c j r e) (go r)
    where
      go : (r : Round) → proceed c j (after r) ≡ followed c j r
      go Own = refl
      go Open = refl
      go (Commit k) = refl
      go (Reveal First) = refl
      go (Reveal Second) = refl

module _ (O : Ops) (n : ℕ) (marks heard : List ℕ) where
  -- no round but a reveal stops a run
  pub ruling_other : (r : Round) → is_reveal r ≡ false → ruling O n r marks heard ≡ Passed
  unfolding ruling
  ruling_other r e = rw e

  pub ruling_reveals : (r : Round) → passed (ruling O n r marks heard) ≡ false → is_reveal r ≡ true
  ruling_reveals r h = by_cases (is_reveal r) (λ e. e) (λ e. false_no (sym h ∙ ap passed (ruling_other r e)))

  -- a reveal of which all parties' words fit their marks is decided by the sum alone
  pub ruling_fits : (r : Round) → is_reveal r ≡ true → misfit n marks heard ≡ Nobody
      → ruling O n r marks heard ≡ weighs Nobody (eqb (heard_sum O n reveal_words 0 heard) 0)
  unfolding ruling
  ruling_fits r e m = rw (e, m)

  -- and one of which some do not names the lowest of these parties
  pub ruling_blames : (r : Round) (i : ℕ) → is_reveal r ≡ true → misfit n marks heard ≡ Blames i → ruling O n r marks heard ≡ Stopped (Blames i)
  unfolding ruling
  ruling_blames r i e m = rw (e, m)

-- a sum decides by whether it is zero
pub weighs_zero : (v : ℕ) → v ≡ 0 → weighs Nobody (eqb v 0) ≡ Passed
weighs_zero v e = rw (eq-eqb v 0 e)

pub weighs_not : (v : ℕ) → (v ≡ 0 → ⊥) → weighs Nobody (eqb v 0) ≡ Stopped Nobody
weighs_not v e = rw (ne_eqb v 0 e)

-- linear gates open nothing
linear_unchecked : (g : Gate) (u : ℕ) → is_linear g ≡ true → unchecked_after (shape g) u ≡ u
linear_unchecked g u e =
    let k : (shape g).class ≡ Local = is_class_lem Local e in
    omega (arith, unchecked_valued (shape g) u (local_no_out k), (local_facts g k).openings)

module _ (c : List ℕ) where
  -- as many entries are unchecked at the next stop as after the gate
  pub unchecked_reach : (left j : ℕ) → unchecked c (reach c left j) ≡ unchecked c j
  unfolding reach unchecked
  unchecked_reach zero j = refl
  unchecked_reach (suc left) j = go (is_linear (gate c j)) refl (unchecked_reach left (suc j))
    where
      go : (b : Bool)
          → is_linear (gate c j) ≡ b
          → unchecked c (reach c left (suc j)) ≡ unchecked c (suc j)
          → unchecked c (cond b (reach c left (suc j)) j) ≡ unchecked c j
      go true q ih = ih ∙ linear_unchecked (gate c j) (unchecked c j) q
      go false q ih = refl

  -- a point that can occur
  pub record Possible (x : Point) : Type 0 where
    pub within : x.gate < gates c
    pub occurs : stage_occurs c x.gate x.stage ≡ true

  module _ (some : 0 < gates c) where
    finished_possible : Possible (finished c)
    unfolding finished stage_occurs
    finished_possible = record { within = omega arith; occurs = eq-eqb (suc (gates c - 1)) (gates c) (omega arith) }

    -- a gate is entered at its first round, and one that has none ends the run
    begin_possible : (k : ℕ) (rs : List Round) → k < gates c → rounds c k ≡ rs → Possible (begin c k rs)
    unfolding begin stage_occurs among
    begin_possible k [] h e = finished_possible
    begin_possible k (r ∷ rs) h e = record { within = h; occurs = rw (e, eq-eqb (round_number r) (round_number r) refl) }

    pub enter_possible : (k : ℕ) → Possible (enter c k)
    unfolding enter
    enter_possible k =
        by_cases (ltb k (gates c))
        (λ z. rw z (begin_possible k (rounds c k) (ltb-true k (gates c) z) refl))
        (λ z. rw z finished_possible)

    pub resume_possible : (j : ℕ) → Possible (resume c j)
    unfolding resume
    resume_possible j = enter_possible (reach c (gates c - j) j)

  -- no check share is held where a gate is entered
  begin_free : (k u : ℕ) (h : Class) → may_hold (begin c k (class_rounds u h)).stage ≡ false
  unfolding begin class_rounds check_rounds may_hold finished
  begin_free k u Local = refl
  begin_free k u Owned = refl
  begin_free k u Opens = refl
  begin_free k u Output = by_cases (eqb u 0) (λ z. rw z) (λ z. rw z)

  pub enter_free : (k : ℕ) → may_hold (enter c k).stage ≡ false
  unfolding enter rounds may_hold finished
  enter_free k =
      by_cases (ltb k (gates c)) (λ z. rw z (begin_free k (unchecked c k) (shape (gate c k)).class)) (λ z. rw z)

  pub resume_free : (j : ℕ) → may_hold (resume c j).stage ≡ false
  unfolding resume
  resume_free j = enter_free (reach c (gates c - j) j)

  -- an output has the rounds of its class
  pub output_has : (j : ℕ) → (shape (gate c j)).class ≡ Output → (r : Round) → Has r (unchecked c j) Output ≡ true → among r (rounds c j) ≡ true
  unfolding rounds
  output_has j o r e = is_among (unchecked c j) r (shape (gate c j)).class ∙ rw o e

  followed_possible : (j : ℕ) (r : Round) → among r (rounds c j) ≡ true → j < gates c → Possible (followed c j r)
  unfolding rounds stage_occurs is_class
  followed_possible j Own e h = resume_possible (omega arith) (suc j)
  followed_possible j Open e h =
      record { within = h; occurs = output_has j (class_at_round c j Open e) (Commit Second) refl }
  followed_possible j (Commit k) e h =
      record {
        within = h;
        occurs =
            is_among (unchecked c j) (Reveal k) (shape (gate c j)).class
            ∙ sym (is_among (unchecked c j) (Commit k) (shape (gate c j)).class)
            ∙ e;
      }
  followed_possible j (Reveal First) e h =
      record { within = h; occurs = output_has j (class_at_round c j (Reveal First) e) Open refl }
  followed_possible j (Reveal Second) e h = resume_possible (omega arith) (suc j)

  followed_holds : (j : ℕ) (r : Round) → may_hold (followed c j r).stage ≡ is_commit r
  unfolding may_hold
  followed_holds j Own = resume_free (suc j)
  followed_holds j Open = refl
  followed_holds j (Commit k) = refl
  followed_holds j (Reveal First) = refl
  followed_holds j (Reveal Second) = resume_free (suc j)

  module _ (j : ℕ) (v : Ruling) where
    aborted_possible : (r : Round) → among r (rounds c j) ≡ true → (passed v ≡ false → is_reveal r ≡ true) → passed v ≡ false → j < gates c → Possible (aborted j)
    unfolding aborted stage_occurs is_class
    aborted_possible Own e k z h = false_no (k z)
    aborted_possible Open e k z h = false_no (k z)
    aborted_possible (Commit t) e k z h = false_no (k z)
    aborted_possible (Reveal t) e k z h =
        record { within = h; occurs = output_has j (class_at_round c j (Reveal t) e) (Reveal Second) refl }

    -- a check share is held after a commitment alone, so a commitment is followed by its reveal or by nothing
    pub aborted_holds : (r : Round) → (passed v ≡ false → is_reveal r ≡ true) → passed v ≡ false → false ≡ is_commit r
    aborted_holds Own k z = refl
    aborted_holds Open k z = refl
    aborted_holds (Commit t) k z = false_no (k z)
    aborted_holds (Reveal t) k z = refl

    pub next_stops : (r : Round) → passed v ≡ false → {x : Point} → x ≡ aborted j → x ≡ next c j r v
    unfolding next
    next_stops r e d = d ∙ rw e

    module _ (r : Round) (has : among r (rounds c j) ≡ true) where
      -- the point after a round, by whether it stops the run
      pub next_followed : passed v ≡ true → next c j r v ≡ followed c j r
      unfolding next
      next_followed e = rw e (follow_is c j r has)

      pub next_aborted : passed v ≡ false → next c j r v ≡ aborted j
      unfolding next
      next_aborted e = rw e

      pub next_follows : passed v ≡ true → {x : Point} → x ≡ followed c j r → x ≡ next c j r v
      next_follows e d = d ∙ sym (next_followed e)

      module _ (lawful : passed v ≡ false → is_reveal r ≡ true) where
        -- the point after a round that the gate has can occur
        pub next_possible : j < gates c → Possible (next c j r v)
        next_possible h =
            by_cases (passed v) (λ z. rw (next_followed z) (followed_possible j r has h))
            (λ z. rw (next_aborted z) (aborted_possible r has lawful z h))

        -- a check share may be held there just where the round was a commitment
        pub next_holds : may_hold (next c j r v).stage ≡ is_commit r
        unfolding may_hold aborted
        next_holds =
            by_cases (passed v) (λ z. rw (next_followed z) (followed_holds j r))
            (λ z. rw (next_aborted z) (aborted_holds r lawful z))

  -- the first gate of an accepted circuit is an input, where a run starts
  pub start_is : (n q : ℕ) → Valid n q c → start c ≡ record { gate = 0; stage = Send Own }
  unfolding start begin class_rounds
  start_is n q v = sym (enter_at c 0 (omega (arith, v.two)) refl (sym (gate_zero v)))
