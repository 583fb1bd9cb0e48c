-- Where a run stands between two rounds, and what of the circuit's rounds lies behind it.
-- Assumes nothing.
use Prim.Native.Nat.{ℕ, zero, suc, ◌+◌, ◌-◌, ◌<◌, ◌≤◌}
use mathlib.Core.Path.{◌≡◌, refl, sym, ap, subst, ◌∙◌}
use mathlib.Core.Bool.{Bool, true, false, cond}
use mathlib.Core.List.{List, [], ◌∷◌}
use native.Mathlib.Decide.{ℕ_discrete}
use native.Mathlib.Omega.{arith}
use lib.Dec.{ltb}
use borrow.Author.Tests.{ltb-true, ltb-false, eq-eqb}
use Rattle.circuit.specs.Gate.{gate, gates}
use Rattle.circuit.specs.Kind.{Local, shape, is_class, is_linear}
use Rattle.circuit.specs.Count.{unchecked}
use Rattle.circuit.specs.Round.{Round, round_number, class_rounds, rounds, among, following, over_rounds, over_run}
use Rattle.circuit.specs.Valid.{Valid}
use Rattle.circuit.proofs.KindLaws.{is_class_lem}
use Rattle.circuit.proofs.Gates.{gate_zero}
use Rattle.protocol.specs.Position.{Point, Stage, Send, Receive, Finished, Aborted, finished, begin, reach, enter, resume, start, proceed, follow}
use Rattle.protocol.proofs.InOrder.{preceding, Distinct, distinct_rounds, over_rounds_split, among_first, follows, begins, Rounds, has_round}

-- What never falls from one number to the next never falls.
pub rising : (f : ℕ → ℕ) → ((j : ℕ) → f j ≤ f (suc j)) → (j m : ℕ) → j ≤ m → f j ≤ f m
rising f up j zero l = let e : j ≡ 0 = omega arith in rw e (omega arith)
rising f up j (suc m) l = go (ℕ_discrete j (suc m)) (rising f up j m)
  where
    go : Dec (j ≡ suc m) → (j ≤ m → f j ≤ f m) → f j ≤ f (suc m)
    go (yes e) earlier = rw e (omega arith)
    go (no e) earlier = omega (arith, earlier (omega arith), up m)

-- about to send round r of gate j
abbrev pub sending : ℕ → Round → Point
sending j r = record { gate = j; stage = Send r }

module _ (c : List ℕ) where
  -- gate k is where a run goes on once the gates before j are done: the end, or a gate that is not linear, with linear gates between
  pub record Reached (j k : ℕ) : Type 1 where
    pub within : k ≤ gates c
    pub stands : k < gates c → is_linear (gate c k) ≡ false
    pub passes : {A : Type 0} (f : ℕ → A) → ((x : ℕ) → is_linear (gate c x) ≡ true → f (suc x) ≡ f x) → f k ≡ f j

  -- A run goes on at the first gate that is not linear.
  pub reached : (left j : ℕ) → j + left ≡ gates c → Reached j (reach c left j)
  unfolding reach
  reached zero j e = record { within = omega arith; stands = λ l. absurd (omega arith); passes = λ f p. refl }
  reached (suc left) j e = go (is_linear (gate c j)) refl (reached left (suc j) (omega arith))
    where
      go : (b : Bool) → is_linear (gate c j) ≡ b → Reached (suc j) (reach c left (suc j)) → Reached j (cond b (reach c left (suc j)) j)
      go true q later = record { within = later.within; stands = later.stands; passes = λ f p. later.passes f p ∙ p j q }
      go false q later = record { within = omega arith; stands = λ l. q; passes = λ f p. refl }

  -- p is the end, or the first round of gate k
  pub data Entered (k : ℕ) (p : Point) : Type 0 where
    ended : k ≡ gates c → p ≡ finished c → Entered k p
    begun : (r : Round) (rs : List Round) → k < gates c → rounds c k ≡ r ∷ rs → begins r ≡ true → p ≡ sending k r → Entered k p

  -- A run that goes on at gate k is at the end or at the gate's first round.
  pub entered : (k : ℕ) → k ≤ gates c → (k < gates c → is_linear (gate c k) ≡ false) → Entered k (enter c k)
  unfolding enter
  entered k w stands = go (ltb k (gates c)) refl
    where
      at : (l : k < gates c) → Rounds (rounds c k) → Entered k (begin c k (rounds c k))
      at l n = begun n.first n.rest l n.are n.first_begins (ap (begin c k) n.are ∙ (unfold begin in refl))

      go : (b : Bool) → ltb k (gates c) ≡ b → Entered k (cond b (begin c k (rounds c k)) (finished c))
      go true e =
          let l : k < gates c = ltb-true k (gates c) e in
          at l (unfold rounds in has_round (unchecked c k) (shape (gate c k)).class (stands l))
      go false e = ended (omega (arith, ltb-false k (gates c) e)) refl

  -- a point of a run that no check has stopped
  abbrev pub FitsStage : ℕ → Stage → Type 0
  FitsStage j (Send r) = (j < gates c) × (among r (rounds c j) ≡ true)
  FitsStage j (Receive r) = ⊥
  FitsStage j Finished = j ≡ gates c - 1
  FitsStage j Aborted = ⊥

  -- the same of a point
  abbrev pub Fits : Point → Type 0
  Fits p = FitsStage p.gate p.stage

  -- the sum of f over the rounds that lie behind a point
  unfoldable pub spent_stage : (ℕ → Round → ℕ) → ℕ → Stage → ℕ
  spent_stage f j (Send r) = over_run f c j + over_rounds (f j) (preceding r (rounds c j))
  spent_stage f j (Receive r) = 0
  spent_stage f j Finished = over_run f c (gates c)
  spent_stage f j Aborted = 0

  -- the same of a point
  abbrev pub spent : (ℕ → Round → ℕ) → Point → ℕ
  spent f p = spent_stage f p.gate p.stage

  -- the gates that are done at a point
  unfoldable pub done_stage : ℕ → Stage → ℕ
  done_stage j (Send r) = j
  done_stage j (Receive r) = j
  done_stage j Finished = gates c
  done_stage j Aborted = j

  -- the same of a point
  abbrev pub done : Point → ℕ
  done p = done_stage p.gate p.stage

  -- a point where the gates before j, and linear gates, are done
  pub record Goes (j : ℕ) (p : Point) : Type 1 where
    pub fits : Fits p
    pub spent_is : (f : ℕ → Round → ℕ) → spent f p ≡ over_run f c j
    pub done_is : {A : Type 0} (f : ℕ → A) → ((x : ℕ) → is_linear (gate c x) ≡ true → f (suc x) ≡ f x) → f (done p) ≡ f j

  -- A linear gate has no round, so it changes no sum over rounds.
  over_run_linear : (f : ℕ → Round → ℕ) (x : ℕ) → is_linear (gate c x) ≡ true → over_run f c (suc x) ≡ over_run f c x
  unfolding over_run rounds class_rounds over_rounds
  over_run_linear f x e =
      let k : (shape (gate c x)).class ≡ Local = is_class_lem Local e in
      rw k (omega arith)

  -- A gate that a run enters is where it goes.
  pub goes_entered : (k : ℕ) (p : Point) → Entered k p → Goes k p
  unfolding spent_stage done_stage
  goes_entered k p (ended e q) =
      subst (Goes k) (sym q)
      (unfold finished in record { fits = refl; spent_is = λ f. ap (over_run f c) (sym e); done_is = λ f h. ap f (sym e) })
  goes_entered k p (begun r rs l e b q) =
      subst (Goes k) (sym q)
      (record {
        fits = (l, rw e (among_first r rs));
        spent_is =
            λ f. let z : over_rounds (f k) (preceding r (rounds c k)) ≡ 0 =
            (rw e (unfold over_rounds preceding in rw (eq-eqb (round_number r) (round_number r) refl))) in
            omega arith;
        done_is = λ f h. refl;
      })

  -- Where a run goes once the gates before j are done.
  pub goes_resume : (j : ℕ) → j ≤ gates c → Goes j (resume c j)
  unfolding resume
  goes_resume j l =
      let k : Reached j (reach c (gates c - j) j) = reached (gates c - j) j (omega arith) in
      let g : Goes (reach c (gates c - j) j) (enter c (reach c (gates c - j) j)) = goes_entered _ _ (entered _ k.within k.stands) in
      record {
        fits = g.fits;
        spent_is = λ f. g.spent_is f ∙ k.passes (over_run f c) (over_run_linear f);
        done_is = λ f h. g.done_is f h ∙ k.passes f h;
      }

  -- No round of a gate comes twice.
  distinct : (j : ℕ) → Distinct (rounds c j)
  unfolding rounds
  distinct j = distinct_rounds (unchecked c j) (shape (gate c j)).class

  -- p is another round of gate j, or what comes after the gate
  pub data Followed (j : ℕ) (r : Round) (p : Point) : Type 0 where
    stays : (r' : Round) (rest : List Round) → following r (rounds c j) ≡ r' ∷ rest → p ≡ sending j r' → Followed j r p
    leaves : following r (rounds c j) ≡ [] → p ≡ resume c (suc j) → Followed j r p

  -- Where rounds of the gate are left, the first of them comes next.
  pub follow_stays : (j : ℕ) (r r' : Round) (rest : List Round) → following r (rounds c j) ≡ r' ∷ rest → follow c j r ≡ sending j r'
  unfolding follow proceed begin
  follow_stays j r r' rest e = ap (proceed c j) e

  -- Where none is left, the run leaves the gate.
  pub follow_leaves : (j : ℕ) (r : Round) → following r (rounds c j) ≡ [] → follow c j r ≡ resume c (suc j)
  unfolding follow proceed
  follow_leaves j r e = ap (proceed c j) e

  -- After a round comes another round of the gate, or what comes after the gate.
  pub followed : (j : ℕ) (r : Round) → Followed j r (follow c j r)
  followed j r = go (following r (rounds c j)) refl
    where
      go : (rs : List Round) → following r (rounds c j) ≡ rs → Followed j r (follow c j r)
      go [] e = leaves e (follow_leaves j r e)
      go (r' ∷ rest) e = stays r' rest e (follow_stays j r r' rest e)

  -- The point after a round fits.
  pub fits_follow : (j : ℕ) (r : Round) → FitsStage j (Send r) → Fits (follow c j r)
  fits_follow j r h = go (follow c j r) (followed j r)
    where
      go : (p : Point) → Followed j r p → Fits p
      go p (stays r' rest e q) =
          subst Fits (sym q)
          (h.0, (follows (λ s. 0) r r' rest (rounds c j) (distinct j) h.1 e).is_round)
      go p (leaves e q) = subst Fits (sym q) (goes_resume (suc j) h.0).fits

  -- One round more lies behind it.
  pub spent_follow : (f : ℕ → Round → ℕ) (j : ℕ) (r : Round) → FitsStage j (Send r) → spent f (follow c j r) ≡ spent f (sending j r) + f j r
  spent_follow f j r h = go (follow c j r) (followed j r)
    where
      last : following r (rounds c j) ≡ [] → over_rounds (f j) (following r (rounds c j)) ≡ 0
      last e = rw e (unfold over_rounds in refl)

      whole : following r (rounds c j) ≡ [] → over_run f c (suc j) ≡ spent f (sending j r) + f j r
      whole e = unfold spent_stage over_run in omega (arith, over_rounds_split (f j) r (rounds c j) h.1, last e)

      go : (p : Point) → Followed j r p → spent f p ≡ spent f (sending j r) + f j r
      go p (stays r' rest e q) =
          let n = follows (f j) r r' rest (rounds c j) (distinct j) h.1 e in
          rw q (unfold spent_stage in omega (arith, n.before))
      go p (leaves e q) = rw q ((goes_resume (suc j) h.0).spent_is f ∙ whole e)

  -- A sum over the rounds of more gates is no less.
  over_run_rises : (f : ℕ → Round → ℕ) (j m : ℕ) → j ≤ m → over_run f c j ≤ over_run f c m
  unfolding over_run
  over_run_rises f = rising (over_run f c) (λ j. omega arith)

  -- What lies behind a round, and the round itself, are a part of the whole.
  pub spent_le : (f : ℕ → Round → ℕ) (j : ℕ) (r : Round) → FitsStage j (Send r) → spent f (sending j r) + f j r ≤ over_run f c (gates c)
  unfolding spent_stage over_run
  spent_le f j r h = omega (arith, over_rounds_split (f j) r (rounds c j) h.1, over_run_rises f (suc j) (gates c) h.0)

  -- A run starts at the first round of gate 0: an accepted circuit's gate 0 is an input.
  pub entered_start : {n q : ℕ} → Valid n q c → Entered 0 (start c)
  unfolding start is_class
  entered_start ok = entered 0 (omega arith) (λ l. ap (is_class Local) (gate_zero ok))

  -- Nothing lies behind it.
  pub goes_start : {n q : ℕ} → Valid n q c → Goes 0 (start c)
  goes_start ok = goes_entered 0 (start c) (entered_start ok)
