-- The invariant of an honest run: between two rounds every party's scratch holds its parts of the closed form, and the check shares that
-- are held for a reveal sum to zero. Every round keeps it, so no check stops the run.
-- Assumes nothing.
use Prim.Native.Nat.{ℕ, suc, ◌+◌, ◌-◌, ◌*◌, ◌<◌, ◌≤◌}
use mathlib.Core.Path.{◌≡◌, refl, sym, ap, ap₂, subst, ◌∙◌}
use mathlib.Core.Logic.{inl, inr}
use mathlib.Core.Bool.{true}
use mathlib.Core.List.{List, [], ◌∷◌}
use native.Mathlib.Omega.{arith}
use lib.ListN.{length, get_or}
use borrow.Author.Tests.{eq-eqb}
use Rattle.algebra.specs.Ops.{Ops}
use Rattle.algebra.specs.Field.{Field}
use Rattle.algebra.specs.Sum.{sum}
use Rattle.algebra.proofs.Sums.{sum_ext}
use Rattle.circuit.specs.Gate.{Gate, gate, gates}
use Rattle.circuit.specs.Kind.{Class, Owned, Opens, Output, shape, is_out, factor}
use Rattle.circuit.specs.Count.{unchecked}
use Rattle.circuit.specs.Round.{Check, First, Second, Round, Own, Open, Commit, Reveal, is_commit, is_reveal, rounds, following, shape_words, words, checked, opened_in}
use Rattle.circuit.proofs.Tests.{by_cases, false_no}
use Rattle.circuit.proofs.KindLaws.{class_is, owned_facts, opens_facts, output_facts}
use Rattle.circuit.proofs.Gates.{owner_named, output_named, opens_named, factor_named}
use Rattle.circuit.proofs.RoundLaws as Order
use Rattle.protocol.specs.Part.{Part}
use Rattle.protocol.specs.Scratch.{layout, scratch_size}
use Rattle.protocol.specs.Position.{Point, Stage, Send, Receive, Finished, Aborted, finished, reach, resume, start, follow, keep}
use Rattle.protocol.specs.Party.{a_at, b_at}
use Rattle.protocol.specs.Send.{input_word, check_share, opening, own_words, sent, holds, noted}
use Rattle.protocol.specs.Receive.{Nobody, Ruling, Passed, weighs, heard_sum, onward, own_received, check_passed, received, next, left}
use Rattle.protocol.specs.Joint.{Joint, party, nonce_for}
use Rattle.protocol.specs.Run.{State, begun, taken, said, notes, ends, step}
use Rattle.theorems.proofs.Given.{Given}
use Rattle.theorems.proofs.Closed.{Opening, Masked, Shown, shows, openings, length_openings, openings_output, Every, every_at, keys}
use Rattle.theorems.proofs.Closed.{owner_word, sum_of, opened, CarriesOpened, carries_shown, carries_openings, check_zero}
use Rattle.protocol.proofs.Words.{length_band, get_d_joined, heard_sum_lem}
use Rattle.protocol.proofs.Said.{length_sent}
use Rattle.protocol.proofs.Tails.{slots_room, nonce_room, nonce_length, marks_length}
use Rattle.protocol.proofs.Marks.{ends_other}
use Rattle.theorems.proofs.Sealing.{Kept, kept_room, ends_sum, commit_slots}
use Rattle.theorems.proofs.Holds.{Holds, holds_alike, holds_pass, holds_checked, own_masked, own_showing, holds_input, holds_product}
use Rattle.theorems.proofs.Holds.{holds_shown, holds_settle}
use Rattle.protocol.proofs.InOrder.{begins}
use Rattle.protocol.proofs.Points.{Reached, reached, Entered, ended, begun as beginning, entered, Fits, FitsStage, goes_entered}
use Rattle.protocol.proofs.Points.{sending, follow_stays, follow_leaves, fits_follow, entered_start}
use Rattle.theorems.proofs.Sent.{said_by, sent_class, opening_first, opening_last, revealed_sum_lem}

-- what a check of gate j is of: what is opened and unchecked when it is reached, or what it shows
unfoldable pub under_check : List ℕ → ℕ → Check → List Opening
under_check c j First = openings c j
under_check c j Second = shows j (gate c j) ∷ []

-- what is opened and unchecked in round r of gate j
unfoldable pub pending : List ℕ → ℕ → Round → List Opening
pending c j Own = openings c j
pending c j Open = []
pending c j (Commit k) = under_check c j k
pending c j (Reveal k) = under_check c j k

-- As many values are opened and unchecked in a round as the circuit says.
length_check : (c : List ℕ) (j : ℕ) (k : Check) → length (under_check c j k) ≡ checked (unchecked c j) k
unfolding under_check
length_check c j First = length_openings c j
length_check c j Second = refl

pub length_pending : (c : List ℕ) (j : ℕ) (r : Round) → length (pending c j r) ≡ opened_in (unchecked c j) r
unfolding pending
length_pending c j Own = length_openings c j
length_pending c j Open = refl
length_pending c j (Commit k) = length_check c j k
length_pending c j (Reveal k) = length_check c j k

module _ (O : Ops) (J : Joint) where
  -- what party i's scratch holds at a stage of gate j
  abbrev pub HoldsAt : ℕ → ℕ → Stage → List ℕ → Type 0
  HoldsAt i j (Send r) l = Holds O J i j (pending J.circuit j r) l
  HoldsAt i j (Receive r) l = ⊥
  HoldsAt i j Finished l = Holds O J i (gates J.circuit) [] l
  HoldsAt i j Aborted l = ⊥

  -- what the check shares that are held come to
  abbrev pub ChecksAt : Stage → (ℕ → ℕ) → Type 0
  ChecksAt (Send r) held = is_reveal r ≡ true → sum O J.parties held ≡ 0
  ChecksAt (Receive r) held = Unit {0}
  ChecksAt Finished held = Unit {0}
  ChecksAt Aborted held = Unit {0}

  -- an honest run at point p
  pub record Sound (p : Point) (held : ℕ → ℕ) (scratch : ℕ → List ℕ) : Type 0 where
    pub fits : Fits J.circuit p
    pub bands : (i : ℕ) → i < J.parties → HoldsAt i p.gate p.stage (scratch i)
    pub checks : ChecksAt p.stage held

  -- the invariant
  abbrev pub Inv : State → Type 0
  Inv s = Sound s.point s.held s.scratch

  -- What the invariant says where round r is about to be sent:
  module _ (s : State) (r : Round) (e : s.point.stage ≡ Send r) (inv : Inv s) where
    -- r is a round of the gate;
    pub fits_at : FitsStage J.circuit s.point.gate (Send r)
    fits_at = subst (FitsStage J.circuit s.point.gate) e inv.fits

    -- every scratch holds what is pending;
    pub holds_at : (i : ℕ) → i < J.parties → Holds O J i s.point.gate (pending J.circuit s.point.gate r) (s.scratch i)
    holds_at i l = subst (λ (g : Stage). HoldsAt i s.point.gate g (s.scratch i)) e (inv.bands i l)

    -- and at a reveal the check shares sum to zero
    pub checks_at : is_reveal r ≡ true → sum O J.parties s.held ≡ 0
    checks_at = subst (λ (g : Stage). ChecksAt g s.held) e inv.checks

  -- A gate begins with what was opened before it.
  begin_holds : {i k : ℕ} {l : List ℕ} (r : Round) → begins r ≡ true → Holds O J i k (openings J.circuit k) l → Holds O J i k (pending J.circuit k r) l
  unfolding begins pending under_check
  begin_holds Own b h = h
  begin_holds Open b h = holds_checked O J h
  begin_holds (Commit First) b h = h
  begin_holds (Commit Second) b h = false_no b
  begin_holds (Reveal k) b h = false_no b

  -- No reveal begins a gate.
  begin_no_reveal : {A : Type 0} (r : Round) → begins r ≡ true → is_reveal r ≡ true → A
  unfolding begins
  begin_no_reveal Own b h = false_no h
  begin_no_reveal Open b h = false_no h
  begin_no_reveal (Commit k) b h = false_no h
  begin_no_reveal (Reveal k) b h = false_no b

  -- A run that enters gate k is sound where the scratch holds what is worked out before it.
  sound_entered : (k : ℕ) (p : Point) (held : ℕ → ℕ) (scratch : ℕ → List ℕ) → Entered J.circuit k p
      → ((i : ℕ) → i < J.parties → Holds O J i k (openings J.circuit k) (scratch i))
      → Sound p held scratch
  sound_entered k p held scratch (ended e q) h =
      subst (λ (p : Point). Sound p held scratch) (sym q)
      (unfold finished in
      record {
        fits = refl;
        bands = λ i l. rw (← e) (holds_checked O J (h i l));
        checks = tt;
      })
  sound_entered k p held scratch (beginning r rs lt e b q) h =
      subst (λ (p : Point). Sound p held scratch) (sym q)
      (record {
        fits = (goes_entered J.circuit k (sending k r) (beginning r rs lt e b refl)).fits;
        bands = λ i l. begin_holds r b (h i l);
        checks = λ z. begin_no_reveal r b z;
      })

  -- party i's scratch once the gates before j, and the linear gates after them, are done
  abbrev pub Resumed : ℕ → ℕ → List ℕ → Type 0
  Resumed i j l =
      Holds O J i (reach J.circuit (gates J.circuit - j) j)
      (openings J.circuit (reach J.circuit (gates J.circuit - j) j)) l

  -- There the run goes on.
  sound_resume : (j : ℕ) (held : ℕ → ℕ) (scratch : ℕ → List ℕ) → j ≤ gates J.circuit → ((i : ℕ) → i < J.parties → Resumed i j (scratch i))
      → Sound (resume J.circuit j) held scratch
  unfolding resume
  sound_resume j held scratch l h =
      let k : Reached J.circuit j (reach J.circuit (gates J.circuit - j) j) = reached J.circuit (gates J.circuit - j) j (omega arith) in
      sound_entered _ _ held scratch (entered J.circuit _ k.within k.stands) h

module _ {O : Ops} (F : Field O) (J : Joint) (has : Given O J) where
  -- The check shares of what is opened sum to zero, whatever the coefficients.
  check_sum_lem : (j k : ℕ) (os : List Opening) (scratch : ℕ → List ℕ) (taken : List ℕ) → k ≡ length os
      → ((i : ℕ) → i < J.parties → Holds O J i j os (scratch i))
      → Every (CarriesOpened F J has) os
      → sum O J.parties (λ i. check_share O (layout J.circuit) (scratch i) k (keys O J i) taken) ≡ 0
  check_sum_lem j k os scratch taken e h every =
      sum_ext F J.parties _ _ own
      ∙ check_zero F J.parties k (keys O J) (λ t. get_or taken t 0) value (λ t i. mac i t) authentic
    where
      value : ℕ → ℕ
      value t = sum_of O J (opened O J (get_or os t (Shown 0)))

      mac : ℕ → ℕ → ℕ
      mac i t = (opened O J (get_or os t (Shown 0)) i).mac

      authentic : (t : ℕ) → t < k → sum O J.parties (λ i. mac i t) ≡ O.mul (sum O J.parties (keys O J)) (value t)
      authentic t l =
          let o = every_at (CarriesOpened F J has) os every t (omega arith) in
          o.macs ∙ ap (O.mul (sum O J.parties (keys O J))) (unfold sum_of in sym o.shares)

      own : (i : ℕ) → i < J.parties
          → check_share O (layout J.circuit) (scratch i) k (keys O J i) taken
          ≡ O.sub (sum O k (λ t. O.mul (get_or taken t 0) (mac i t))) (O.mul (keys O J i) (sum O k (λ t. O.mul (get_or taken t 0) (value t))))
      own i l =
          unfold check_share in
          ap₂ O.sub
          (sum_ext F k _ _ (λ t lt. ap (O.mul (get_or taken t 0)) ((h i l).macs t (omega arith))))
          (ap (O.mul (keys O J i)) (sum_ext F k _ _ (λ t lt. ap (O.mul (get_or taken t 0)) ((h i l).values t (omega arith)))))

  -- What is opened and unchecked in a round carries its value on plain inputs.
  carries_check : (j : ℕ) (k : Check) → j < gates J.circuit → (shape (gate J.circuit j)).class ≡ Output → Every (CarriesOpened F J has) (under_check J.circuit j k)
  unfolding under_check
  carries_check j First l e = carries_openings F J has j (omega arith)
  carries_check j Second l e = (carries_shown F J has j l e, tt)

  pub carries_pending : (j : ℕ) (r : Round) → FitsStage J.circuit j (Send r) → Every (CarriesOpened F J has) (pending J.circuit j r)
  unfolding pending
  carries_pending j Own f = carries_openings F J has j (omega (arith, f.0))
  carries_pending j Open f = tt
  carries_pending j (Commit k) f = carries_check j k f.0 (Order.class_at_round J.circuit j (Commit k) f.1)
  carries_pending j (Reveal k) f = carries_check j k f.0 (Order.class_at_round J.circuit j (Reveal k) f.1)

  -- A reveal fits its marks and its check shares sum to zero, so every round passes.
  pub passing : (s : State) (r : Round) → s.point.stage ≡ Send r → Kept O J s → Inv O J s → ends O J s r ≡ Passed
  passing s r e kept inv = by_cases (is_reveal r) reveals (ends_other O J s r)
    where
      reveals : is_reveal r ≡ true → ends O J s r ≡ Passed
      reveals q =
          ends_sum O J s kept has.some r e q
          ∙ ap (weighs Nobody) (eq-eqb _ 0 (revealed_sum_lem F J s r q (kept_room O J s kept) ∙ checks_at O J s r e inv q))

  -- The scratch after the gates that follow gate j up to the next stop.
  holds_onward : (i j : ℕ) (l : List ℕ) → j < gates J.circuit → Holds O J i (suc j) (openings J.circuit (suc j)) l
      → Resumed O J i (suc j) (onward O (party J i) j l)
  unfolding onward party keys
  holds_onward i j l lt h = holds_settle O J F has.valid i (gates J.circuit - suc j) (suc j) l (omega arith) h

  module _ (s : State) (kept : Kept O J s) (inv : Inv O J s) where
    -- the gate of the round
    abbrev at : ℕ
    at = s.point.gate

    -- the words that are heard
    abbrev heard : Round → List ℕ
    heard r = said O J s r

    -- party i's scratch after round r
    abbrev later : Round → ℕ → List ℕ
    later r i = received O (party J i) (notes O J s r i) at r (heard r)

    -- What party i receives in a gate's own round, by the gate's class.
    later_class : (i : ℕ) {k : Class} → (shape (gate J.circuit at)).class ≡ k → later Own i ≡ own_received O (party J i) (s.scratch i) at (heard Own) k
    unfolding received party notes noted
    later_class i e = ap (own_received O (party J i) (s.scratch i) at (heard Own)) e

    -- Every party sends the words of the round.
    sent_long : (r : Round) → s.point.stage ≡ Send r → (i : ℕ) → i < J.parties → length (said_by O J s r i) ≡ words (gate J.circuit at) r
    unfolding party
    sent_long r e i l =
        length_sent O (party J i) (s.scratch i) at (s.held i) (taken O J s r) (nonce_for J s.checks i) r (fits_at O J s r e inv).1
        (nonce_room J.parties J.circuit (kept_room O J s kept i l))

    -- What is heard of the words t is what is opened, where each party sends its share of that.
    heard_opened : (r : Round) → s.point.stage ≡ Send r → (t : ℕ) (o : Opening) → t < words (gate J.circuit at) r
        → ((i : ℕ) → i < J.parties → get_or (said_by O J s r i) t 0 ≡ (opened O J o i).share)
        → heard_sum O J.parties (words (gate J.circuit at) r) t (heard r) ≡ sum_of O J (opened O J o)
    unfolding said sum_of
    heard_opened r e t o lt h =
        heard_sum_lem F J.parties (words (gate J.circuit at) r) t (said_by O J s r)
        (sent_long r e) lt
        ∙ sum_ext F J.parties _ _ h

    -- What is heard of an input is the owner's word.
    heard_input : s.point.stage ≡ Send Own → (shape (gate J.circuit at)).class ≡ Owned
        → get_or (heard Own) ((gate J.circuit at).first * words (gate J.circuit at) Own) 0 ≡ owner_word O J at (gate J.circuit at).first
    heard_input e k = ap (λ (t : ℕ). get_or (heard Own) t 0) place ∙ sent_by ∙ word
      where
        x : ℕ
        x = (gate J.circuit at).first

        one : 0 < words (gate J.circuit at) Own
        one = unfold shape_words in omega (arith, (owned_facts (gate J.circuit at) k).words)

        place : x * words (gate J.circuit at) Own ≡ x * words (gate J.circuit at) Own + 0
        place = omega arith

        sent_by : get_or (heard Own) (x * words (gate J.circuit at) Own + 0) 0 ≡ get_or (said_by O J s Own x) 0 0
        sent_by =
            unfold said in
            get_d_joined J.parties (words (gate J.circuit at) Own) (said_by O J s Own)
            (sent_long Own e) x 0
            (owner_named has.valid at (fits_at O J s Own e inv).0 k) one

        word : get_or (said_by O J s Own x) 0 0 ≡ owner_word O J at x
        word = ap (λ (ws : List ℕ). get_or ws 0 0) (sent_class O J x _ at _ _ _ k) ∙ (unfold own_words input_word owner_word party in rw (eq-eqb x x refl))

    -- After the round of an input every scratch holds the owner's input.
    after_input_lem : s.point.stage ≡ Send Own → (shape (gate J.circuit at)).class ≡ Owned → (i : ℕ) → i < J.parties → Resumed O J i (suc at) (later Own i)
    after_input_lem e k i l =
        rw (later_class i k)
        (unfold own_received party keys in
        holds_onward i at _ lt (holds_input O J F has.valid lt _ (unfold pending in holds_at O J s Own e inv i l) k (heard_input e k)))
      where
        lt : at < gates J.circuit
        lt = (fits_at O J s Own e inv).0

    -- After the round of a product every scratch holds the party's part of it, and what is opened.
    after_product : s.point.stage ≡ Send Own → (shape (gate J.circuit at)).class ≡ Opens → (i : ℕ) → i < J.parties → Resumed O J i (suc at) (later Own i)
    unfolding party
    after_product e k i l =
        rw (later_class i k)
        (unfold own_received party keys in
        holds_onward i at _ lt (holds_product O J F has.valid lt _ _ (own i l) k heard_first_lem heard_second_lem))
      where
        g : Gate
        g = gate J.circuit at

        lt : at < gates J.circuit
        lt = (fits_at O J s Own e inv).0

        own : (i : ℕ) → i < J.parties → Holds O J i at (openings J.circuit at) (s.scratch i)
        own i l = unfold pending in holds_at O J s Own e inv i l

        many : (1 ≤ (shape g).openings) × (words g Own ≡ (shape g).openings)
        many = ((opens_facts g k).some, unfold shape_words in (opens_facts g k).words)

        word : (i t : ℕ) → get_or (said_by O J s Own i) t 0 ≡ get_or (opening O (party J i) (s.scratch i) at (shape g).openings) t 0
        word i t = ap (λ (ws : List ℕ). get_or ws t 0) (sent_class O J i _ at _ _ _ k) ∙ (unfold own_words party in refl)

        heard_first_lem : heard_sum O J.parties (words g Own) 0 (heard Own) ≡ sum_of O J (opened O J (Masked at g.first a_at))
        heard_first_lem =
            heard_opened Own e 0 _ (omega (arith, many.0, many.1))
            (λ i l. word i 0
            ∙ opening_first O (party J i) (s.scratch i) at (shape g).openings
            ∙ ap (λ (p : Part). p.share) (own_masked O J _ (own i l) (opens_named has.valid at lt k) a_at))

        heard_second_lem : heard_sum O J.parties (words g Own) ((shape g).openings - 1) (heard Own)
            ≡ sum_of O J (opened O J (Masked at (factor g) (b_at (shape g).openings)))
        heard_second_lem =
            heard_opened Own e ((shape g).openings - 1) _ (omega (arith, many.0, many.1))
            (λ i l. word i ((shape g).openings - 1)
            ∙ opening_last O (party J i) (s.scratch i) at k
            ∙ ap (λ (p : Part). p.share) (own_masked O J _ (own i l) (factor_named has.valid at lt k) (b_at (shape g).openings)))

    -- After the round of an output every scratch holds the sum of the shares.
    after_open : s.point.stage ≡ Send Open → (shape (gate J.circuit at)).class ≡ Output
        → (i : ℕ)
        → i < J.parties
        → Holds O J i at (under_check J.circuit at Second) (later Open i)
    unfolding received party notes noted under_check
    after_open e k i l = holds_shown O J F has.valid lt _ (own i l) k heard_shown
      where
        lt : at < gates J.circuit
        lt = (fits_at O J s Open e inv).0

        own : (i : ℕ) → i < J.parties → Holds O J i at [] (s.scratch i)
        own i l = unfold pending in holds_at O J s Open e inv i l

        one : 0 < words (gate J.circuit at) Open
        one = unfold shape_words in omega (arith, (output_facts (gate J.circuit at) k).words)

        heard_shown : heard_sum O J.parties (words (gate J.circuit at) Open) 0 (heard Open) ≡ sum_of O J (opened O J (shows at (gate J.circuit at)))
        heard_shown =
            heard_opened Open e 0 _ one
            (λ i l. unfold sent party in ap (λ (p : Part). p.share) (own_showing O J (own i l) (output_named has.valid at lt k)))

    -- After an output's last check the run goes on.
    after_output : s.point.stage ≡ Send (Reveal Second) → (shape (gate J.circuit at)).class ≡ Output
        → (i : ℕ)
        → i < J.parties
        → Resumed O J i (suc at) (later (Reveal Second) i)
    unfolding received check_passed party notes noted
    after_output e k i l =
        holds_onward i at _ lt (rw (openings_output J.circuit at k) (holds_pass O J (holds_at O J s (Reveal Second) e inv i l) lt (rw out)))
      where
        lt : at < gates J.circuit
        lt = (fits_at O J s (Reveal Second) e inv).0

        out : is_out (gate J.circuit at) ≡ true
        out = class_is k

    -- A commitment writes nonce and marks, and nothing else.
    after_commit : (k : Check) → s.point.stage ≡ Send (Commit k) → (i : ℕ) → i < J.parties
        → Holds O J i at (under_check J.circuit at k) (later (Commit k) i)
    unfolding received party notes noted
    after_commit k e i l =
        holds_alike O J (marks_length _ _ (heard (Commit k)) ∙ nonce_length _ (s.scratch i) _)
        (commit_slots O J s kept k e (fits_at O J s (Commit k) e inv) i l)
        (unfold pending in holds_at O J s (Commit k) e inv i l)

    -- The check shares made at a commitment sum to zero.
    committed : (r : Round) → s.point.stage ≡ Send r → is_commit r ≡ true → (taken : List ℕ)
        → sum O J.parties (λ i. keep r (holds O (party J i) (s.scratch i) at r taken)) ≡ 0
    unfolding keep holds party keys
    committed r e q taken =
        rw q
        (check_sum_lem at (opened_in (unchecked J.circuit at) r) (pending J.circuit at r) s.scratch taken
        (sym (length_pending J.circuit at r)) (holds_at O J s r e inv) (carries_pending at r (fits_at O J s r e inv)))

    -- Round r of gate j is followed by round r' of it.
    stays : (r r' : Round) (rest : List Round) (held : ℕ → ℕ) (scratch : ℕ → List ℕ) → s.point.stage ≡ Send r
        → following r (rounds J.circuit at) ≡ r' ∷ rest
        → ((i : ℕ) → i < J.parties → Holds O J i at (pending J.circuit at r') (scratch i))
        → (is_reveal r' ≡ true → sum O J.parties held ≡ 0)
        → Sound O J (follow J.circuit at r) held scratch
    stays r r' rest held scratch e q bands checks =
        subst (λ (p : Point). Sound O J p held scratch) (sym place)
        (record {
          fits = subst (Fits J.circuit) place (fits_follow J.circuit at r (fits_at O J s r e inv));
          bands = bands;
          checks = checks;
        })
      where
        place : follow J.circuit at r ≡ sending at r'
        place = follow_stays J.circuit at r r' rest q

    -- Round r of gate j is its last.
    leaves : (r : Round) (held : ℕ → ℕ) (scratch : ℕ → List ℕ) → s.point.stage ≡ Send r
        → following r (rounds J.circuit at) ≡ []
        → ((i : ℕ) → i < J.parties → Resumed O J i (suc at) (scratch i))
        → Sound O J (follow J.circuit at r) held scratch
    leaves r held scratch e q bands =
        subst (λ (p : Point). Sound O J p held scratch) (sym (follow_leaves J.circuit at r q))
        (sound_resume O J (suc at) held scratch (fits_at O J s r e inv).0 bands)

    -- Where a round leads to what follows it, the run is sound there.
    after_round : (r : Round) → s.point.stage ≡ Send r → (taken : List ℕ)
        → Sound O J (follow J.circuit at r) (λ i. keep r (holds O (party J i) (s.scratch i) at r taken)) (later r)
    after_round r e taken = go r e (Order.class_at_round J.circuit at r (fits_at O J s r e inv).1) (Order.after_round J.circuit at r (fits_at O J s r e inv).1)
      where
        go : (r : Round) → s.point.stage ≡ Send r → Order.RoundClass r (shape (gate J.circuit at)).class
            → following r (rounds J.circuit at) ≡ Order.after r
            → Sound O J (follow J.circuit at r) (λ i. keep r (holds O (party J i) (s.scratch i) at r taken)) (later r)
        go Own e (inl k) f = leaves Own _ _ e f (after_input_lem e k)
        go Own e (inr k) f = leaves Own _ _ e f (after_product e k)
        go Open e k f =
            stays Open (Commit Second) _ _ _ e f (λ i l. unfold pending in after_open e k i l) (λ z. false_no z)
        go (Commit h) e k f =
            stays (Commit h) (Reveal h) _ _ _ e f
            (λ i l. unfold pending in after_commit h e i l)
            (λ z. committed (Commit h) e refl taken)
        go (Reveal First) e k f =
            stays (Reveal First) Open _ _ _ e f
            (λ i l. unfold received check_passed notes noted pending in holds_checked O J (holds_at O J s (Reveal First) e inv i l))
            (λ z. false_no z)
        go (Reveal Second) e k f = leaves (Reveal Second) _ _ e f (after_output e k)

    -- A round leads to what follows it.
    pub point_step : (r : Round) → s.point.stage ≡ Send r → (step O J s r).point ≡ follow J.circuit at r
    unfolding step next
    point_step r e = rw (passing s r e kept inv)

    -- A round keeps the invariant.
    pub inv_step : (r : Round) → s.point.stage ≡ Send r → Inv O J (step O J s r)
    unfolding step next left
    inv_step r e =
        subst
        (λ (v : Ruling).
        Sound O J (next J.circuit at r v) (λ i. keep r (holds O (party J i) (s.scratch i) at r (taken O J s r)))
        (λ i. left O (party J i) v (notes O J s r i) at r (heard r)))
        (sym (passing s r e kept inv)) (after_round r e (taken O J s r))

  -- A run on enough scratch starts with the invariant.
  pub inv_begun : (scratch : List ℕ) → J.parties * scratch_size J.parties J.circuit ≤ length scratch → Inv O J (begun O J scratch)
  unfolding begun
  inv_begun scratch room =
      sound_entered O J 0 (start J.circuit) _ _ (entered_start J.circuit has.valid)
      (λ i l.
      record {
        within = omega arith;
        few = unfold openings in omega arith;
        long =
            slots_room J.parties J.circuit
            (let e = length_band (scratch_size J.parties J.circuit) J.parties scratch room i l in omega (arith, e));
        worked = λ x lx. absurd (omega arith);
        values = λ t lx. unfold openings in absurd (omega arith);
        macs = λ t lx. unfold openings in absurd (omega arith);
      })
