-- The rounds of a gate, but for checks: what is asked on the way, and what they leave.
-- Assumes nothing.
use Prim.Native.Nat.{ℕ, suc, ◌+◌, ◌-◌, ◌*◌, ◌<◌, ◌≤◌}
use mathlib.Core.Path.{◌≡◌, refl, sym, ap, subst, ◌∙◌}
use mathlib.Core.Bool.{Bool, true, false, cond}
use mathlib.Core.List.{List, [], ◌∷◌}
use native.Mathlib.Numerals.{add-one}
use native.Mathlib.Omega.{arith}
use lib.ListN.{length, get_or, set, take, drop}
use Rattle.algebra.specs.Element.{Is}
use Rattle.field.specs.Words.{size, ops}
use Rattle.circuit.specs.Gate.{gate_size, gate, gates}
use Rattle.circuit.specs.Kind.{Owned, Opens, Output, mask_size, shape, is_class, is_give, factor}
use Rattle.circuit.specs.Count.{total, prep_at, unchecked, unchecked_after}
use Rattle.circuit.specs.Round.{Second, Round, Own, Open, Commit, is_commit, is_reveal, shape_words, words, coefficients_in, commits_in}
use Rattle.circuit.specs.Accept.{most_gates}
use Rattle.circuit.specs.Code.{class_of, shape_of}
use Rattle.circuit.specs.declared.Shape as S
use Rattle.circuit.proofs.KindLaws.{class_is, owned_no_out, opens_no_in, opens_no_out, owned_facts, opens_facts, shape_class, shape_prep, shape_openings, shape_words_lem}
use Rattle.circuit.proofs.Counts.{unchecked_few}
use Rattle.circuit.proofs.RoundLaws.{class_at_round}
use Rattle.protocol.specs.Scratch.{band}
use Rattle.protocol.specs.Position.{Point, Send, resume}
use Rattle.protocol.specs.Receive.{Nobody, passed, heard_sum}
use Rattle.protocol.specs.Holding.{Below, Held}
use Rattle.protocol.specs.Code.{layout_of}
use Rattle.protocol.specs.Ready.{Opening, heard_first, Named, Hears, Summed}
use Rattle.protocol.specs.Send.{input_word, shown}
use Rattle.protocol.specs.Ask.{most_parties}
use Rattle.protocol.specs.Joint.{Joint, joined}
use Rattle.protocol.specs.Run.{blamed, takes, said, step}
use Rattle.protocol.proofs.Following.{next_follows}
use Rattle.protocol.proofs.Marks.{ends_other}
use Rattle.protocol.proofs.Bands.{band_end}
use Rattle.protocol.proofs.Gathering.{zeros}
use Rattle.protocol.proofs.HeardWords.{first_asks, first_found, second_found, output_heard}
use Rattle.protocol.proofs.Readiness.{input_words, opening_words, output_words}
use Rattle.joint.specs.declared.Frame.{Frame}
use Rattle.joint.specs.Code.{Course, Small, Placed, due_at, state_of, prep_from, key_in, Prepared, Banded, EachBand, rebanded, received_in, none_held, SettlesAll, settled_all, Going, Moving, Moved}
use Rattle.joint.proofs.Parties.{undrawn, lent_undrawn, lent_record, lent_key}
use Rattle.joint.proofs.Going.{within, occurs, ends_in}
use Rattle.joint.proofs.Rows.{all_hear}
use Rattle.joint.proofs.Arrays.{owner_there, owner_few, counted_in, placed_small, placed_on}
use Rattle.joint.proofs.Later.{resumed_prep}
use Rattle.joint.proofs.SendTurns.{lent_all, held_zero, opened_words, input_asks, said_input, opening_asks, said_opening, output_asks, said_output}
use Rattle.joint.proofs.ReceiveTurns.{input_left, opening_left, output_left, inputs_ask, inputs_settle, inputs_received, openings_ask, openings_settle, openings_received, outputs_ask, outputs_received}
use Rattle.joint.proofs.Rounding.{sent_at, heard_at, round_gate, said_low, round_end, round_room, heard_is, sent_to, round_long, round_receives, said_long, received_step, round_moved}

-- where each party has one word, there are as many as parties
one_each : (n : ℕ) {k : ℕ} → k ≡ 1 → n ≡ n * k
one_each n e = rw e (omega arith)

module _ {f : Frame} {s : Course} {c preps inputs coefficients nonces held l : List ℕ} {r : Round} (g : Going (lent_all f c preps inputs coefficients nonces) f s r held l) where
  -- nobody holds a check share after a round that is no commitment
  pub none_held_lem : is_commit r ≡ false → (i : ℕ) → i < f.parties
      → Is size ((step ops (lent_all f c preps inputs coefficients nonces) (state_of f s held l) r).held i) (get_or none_held i 0)
  none_held_lem e i h = held_zero g e i (zeros most_parties i)

  -- which uses no coefficient
  pub none_taken : is_commit r ≡ false → s.used ≡ s.used + takes ops (lent_all f c preps inputs coefficients nonces) (state_of f s held l) r
  unfolding takes state_of coefficients_in
  none_taken e = rw e (omega arith)

  -- and begins no check
  pub none_begun : is_commit r ≡ false → s.checks ≡ s.checks + commits_in r
  unfolding commits_in
  none_begun e = rw e (omega arith)

  -- a round that is no reveal passes, and names nobody
  pub quiet_passed : is_reveal r ≡ false → passed (ends_in (lent_all f c preps inputs coefficients nonces) f s r held l g) ≡ true
  quiet_passed e = ap passed (ends_other ops (lent_all f c preps inputs coefficients nonces) (state_of f s held l) r e)

  pub quiet_named : is_reveal r ≡ false → blamed (ends_in (lent_all f c preps inputs coefficients nonces) f s r held l g) ≡ Nobody
  quiet_named e = ap blamed (ends_other ops (lent_all f c preps inputs coefficients nonces) (state_of f s held l) r e)

-- a gate's own round, of which m words come back as ws: what it leaves once the bands are those of the definition
module _ {f : Frame} {s : Course} {c preps inputs coefficients nonces l t : List ℕ} (u : Moving (lent_all f c preps inputs coefficients nonces) f s Own none_held l t) where
  abbrev J : Joint
  J = lent_all f c preps inputs coefficients nonces

  within_gates : s.point.gate < gates c
  within_gates = within J f s Own none_held l u.going

  some_parties : 0 < f.parties
  some_parties = omega (arith, u.going.lent.some)

  -- where the numbers of the next gates start, and what waits there
  next_record : (r : Round) → (resume c (suc s.point.gate)).stage ≡ Send r → prep_at c (resume c (suc s.point.gate)).gate ≡ prep_at c s.point.gate + (shape (gate c s.point.gate)).prep
  unfolding prep_at total
  next_record r e = resumed_prep c s.point.gate within_gates r e ∙ omega arith

  pub next_waits : {w k : ℕ} → is_class Output (shape (gate c s.point.gate)).class ≡ false
      → w ≡ unchecked c s.point.gate
      → k ≡ (shape (gate c s.point.gate)).openings
      → w + k ≡ unchecked c (s.point.gate + 1)
  unfolding unchecked unchecked_after
  next_waits shut ew ek = rw (add-one s.point.gate, shut, ew, ek)

  -- the record fits the preprocessing, and what waits the scratch
  pub next_fits : s.prep + (shape (gate c s.point.gate)).prep ≤ f.prep
  next_fits = lent_record u.going.lent u.going.prep_is within_gates

  pub next_small : (g : S.Shape) → shape_of g ≡ shape (gate c s.point.gate) → s.prep + g.prep ≤ length preps
  next_small g eg =
      omega (arith, shape_prep g _ eg, next_fits, band_end f.parties f.prep 0 some_parties, (lent_key u.going.lent).long)

  module _ {m : ℕ} (m-is : m ≡ f.parties * words (gate c s.point.gate) Own) {ws : List ℕ}
      (d : ws ≡ said ops (lent_all f c preps inputs coefficients nonces) (state_of f s none_held l) Own) where
    own_hears : Hears size f.parties c s.point.gate Own (heard_at s m t ws)
    own_hears = all_hear (undrawn J) f s Own (heard_at s m t ws) l (round_receives u m-is d) (round_receives u m-is d 0 some_parties).heard_low some_parties

    own_moved : {l' : List ℕ} → l' ≡ rebanded f (received_in f (undrawn J) s.point.gate l Own (heard_at s m t ws)) l → {s' : Course}
        → s'.point ≡ resume c (suc s.point.gate)
        → s'.prep ≡ s.prep + (shape (gate c s.point.gate)).prep
        → s'.used ≡ s.used
        → s'.checks ≡ s.checks
        → s'.written ≡ s.written + m
        → s'.rounds ≡ s.rounds + 1
        → Moved (lent_all f c preps inputs coefficients nonces) f s Own none_held l t s' none_held l' (sent_at s m t ws)
    own_moved {l'} el at ep eu ec ew en =
        round_moved u _ (received_step u refl (quiet_passed u.going refl))
        (subst (λ (z : List ℕ). l' ≡ rebanded f (received_in f (undrawn J) s.point.gate l Own z) l) (heard_is u m-is d) el)
        (quiet_named u.going refl)
        (next_follows c s.point.gate _ Own (occurs J f s Own none_held l u.going) (quiet_passed u.going refl) at)
        (λ r' e. ep ∙ omega (arith, u.going.prep_is, next_record r' (ap (λ (x : Point). x.stage) (sym at) ∙ e)) ∙ ap (λ (x : Point). prep_at c x.gate) (sym at))
        refl (none_held_lem u.going refl) (eu ∙ none_taken u.going refl) (ec ∙ none_begun u.going refl) (sent_to u m-is d) (ew ∙ omega (arith, said_long u, m-is)) en

  -- an in gate
  module _ (cl : (shape (gate c s.point.gate)).class ≡ Owned) where
    each_one : f.parties ≡ f.parties * words (gate c s.point.gate) Own
    each_one = one_each f.parties (input_words (gate c s.point.gate) cl)

    pub input_end : s.written + f.parties ≤ length t
    input_end = round_end u each_one

    -- of which the code knows the shape, the owner x and the places of the next inputs
    module _ (g : S.Shape) (eg : shape_of g ≡ shape (gate c s.point.gate)) {x : ℕ} (ex : x ≡ (gate c s.point.gate).first)
        {places : List ℕ} (placed : Placed f.parties c s.point.gate places) where
      pub input_sends : (f.parties ≤ most_parties)
          × Prepared f preps s.prep 3
          × Below size inputs
          × (f.parties ≤ length places)
          × (length (take (s.written + f.parties - s.written) (drop s.written t)) ≡ f.parties)
      input_sends = input_asks u.going cl placed (take (s.written + f.parties - s.written) (drop s.written t)) (round_room u each_one)

      -- the place of the owner's next input moves on
      small : Small f.parties places
      small = placed_small placed u.going.lent.valid (omega (arith, within_gates))

      pub input_place : x < length places
      input_place = owner_there small u.going.lent.valid u.going.lent.few within_gates (class_is cl) ex

      pub input_few : get_or places x 0 ≤ most_gates
      input_few = owner_few small u.going.lent.valid u.going.lent.few within_gates (class_is cl) ex

      pub input_placed : Placed f.parties c (s.point.gate + 1) (set places x (get_or places x 0 + 1))
      input_placed =
          placed_on placed (counted_in small u.going.lent.valid u.going.lent.few within_gates (class_is cl) ex)

      pub input_waits : {w : ℕ} → w ≡ unchecked c s.point.gate → w ≡ unchecked c (s.point.gate + 1)
      input_waits {w} ew =
          let z : w + 0 ≡ _ = next_waits (owned_no_out cl) ew (sym (owned_facts (gate c s.point.gate) cl).openings) in omega (arith, z)

      module _ {ws : List ℕ} (d : ws ≡ joined f.parties (λ i. input_word ops i x (prep_from f preps s.prep i) (get_or inputs (get_or places i 0) 0) ∷ [])) where
        input_said : ws ≡ said ops (lent_all f c preps inputs coefficients nonces) (state_of f s none_held l) Own
        input_said = said_input u.going cl placed ex d

        pub input_long : length (sent_at s f.parties t ws) ≡ length t
        input_long = round_long u each_one input_said

        words_are : g.words ≡ words (gate c s.point.gate) Own
        unfolding shape_words
        words_are = shape_words_lem g _ eg

        pub input_hears : (0 < g.words)
            × (f.parties * g.words ≤ length (heard_at s f.parties t ws))
            × Below size (heard_at s f.parties t ws)
            × (is_class Owned (class_of g.class) ≡ true → x < f.parties)
        input_hears = first_asks (own_hears each_one input_said) (shape_class g _ eg) words_are ex

        module _ {e : ℕ} (ee : Is size (cond (is_class Owned (class_of g.class)) (get_or (heard_at s f.parties t ws) (x * g.words) 0) (heard_sum ops f.parties g.words 0 (heard_at s f.parties t ws))) e) where
          heard_first_lem : Is size (heard_first ops f.parties (gate c s.point.gate) Own (heard_at s f.parties t ws)) e
          heard_first_lem = first_found (own_hears each_one input_said) (shape_class g _ eg) words_are ops ex ee

          pub input_asked : Prepared f preps s.prep 2 × Banded f l × (s.point.gate < f.layout.gates) × (e < size)
          input_asked = inputs_ask f s c preps inputs l (heard_at s f.parties t ws) (lent_undrawn u.going.lent) u.going.room (round_receives u each_one input_said) cl heard_first_lem.below

          module _ {l₁ : List ℕ} (el : l₁ ≡ rebanded f (input_left f preps l s.point.gate s.prep e) l) where
            pub input_settles : SettlesAll f c preps l₁ (s.point.gate + 1)
            input_settles = inputs_settle f s c preps inputs l (heard_at s f.parties t ws) (lent_undrawn u.going.lent) u.going.room (round_receives u each_one input_said) cl heard_first_lem.below el

            pub input_moved : {s' : Course}
                → s'.point ≡ resume c (suc s.point.gate)
                → s'.prep ≡ s.prep + g.prep
                → s'.used ≡ s.used
                → s'.checks ≡ s.checks
                → s'.written ≡ s.written + f.parties
                → s'.rounds ≡ s.rounds + 1
                → Moved (lent_all f c preps inputs coefficients nonces) f s Own none_held l t s' none_held (settled_all f c preps l₁ (s.point.gate + 1)) (sent_at s f.parties t ws)
            input_moved at ep =
                own_moved each_one input_said
                (inputs_received f s c preps inputs l (heard_at s f.parties t ws) (lent_undrawn u.going.lent) u.going.room (round_receives u each_one input_said) cl heard_first_lem.below el
                heard_first_lem.is refl)
                at (ep ∙ ap (λ (k : ℕ). s.prep + k) (shape_prep g _ eg))

  -- a gate that opens values
  module _ (g : S.Shape) (eg : shape_of g ≡ shape (gate c s.point.gate)) (cl : (shape (gate c s.point.gate)).class ≡ Opens) {w : ℕ} (ew : w ≡ unchecked c s.point.gate) where
    openings_are : g.openings ≡ (shape (gate c s.point.gate)).openings
    openings_are = shape_openings g _ eg

    words_of : g.openings ≡ words (gate c s.point.gate) Own
    words_of = openings_are ∙ sym (opening_words (gate c s.point.gate) cl)

    each_words : f.parties * g.openings ≡ f.parties * words (gate c s.point.gate) Own
    each_words = ap (λ (k : ℕ). f.parties * k) words_of

    pub opening_few : w + g.openings ≤ 514
    opening_few = omega (arith, openings_are, (opens_facts (gate c s.point.gate) cl).few, ew, unchecked_few c s.point.gate, within_gates, u.going.lent.valid.few)

    pub opening_end : s.written + f.parties * g.openings ≤ length t
    opening_end = round_end u each_words

    pub opening_gate : (gate_size * s.point.gate + gate_size ≤ length c) × (g.openings ≡ (shape (gate c s.point.gate)).openings)
    opening_gate = (round_gate u, openings_are)

    pub opening_waits : w + g.openings ≡ unchecked c (s.point.gate + 1)
    opening_waits = next_waits (opens_no_out cl) ew openings_are

    module _ {x z : ℕ} (ex : x ≡ (gate c s.point.gate).first) (ez : z ≡ factor (gate c s.point.gate)) where
      named : Named (gate c s.point.gate) x z g.openings
      named = record { first = ex; second = ez; openings = openings_are }

      pub opening_sends : (1 ≤ g.openings)
          × (g.openings ≤ 2)
          × Prepared f preps s.prep (2 * g.openings + 2)
          × Banded f l
          × EachBand f l (λ i m. Held size (layout_of f.layout) m x × Held size (layout_of f.layout) m z)
          × (length (take (s.written + f.parties * g.openings - s.written) (drop s.written t)) ≡ f.parties * g.openings)
          × (f.parties ≤ most_parties)
      opening_sends = opening_asks u.going cl named (take (s.written + f.parties * g.openings - s.written) (drop s.written t)) (round_room u each_words)

      module _ {ws : List ℕ} (d : ws ≡ joined f.parties (opened_words f preps l s.prep x z g.openings)) where
        opening_said : ws ≡ said ops (lent_all f c preps inputs coefficients nonces) (state_of f s none_held l) Own
        opening_said = said_opening u.going cl named d

        pub opening_long : length (sent_at s (f.parties * g.openings) t ws) ≡ length t
        opening_long = round_long u each_words opening_said

        -- what is heard is what was said
        heard_same : heard_at s (f.parties * g.openings) t ws ≡ ws
        heard_same = heard_is u each_words opening_said ∙ sym opening_said

        class_same : class_of g.class ≡ Opens
        class_same = shape_class g _ eg ∙ cl

        module _ {e : ℕ} (ee : Is size (heard_sum ops f.parties g.openings 0 ws) e)
            {v : ℕ} (ev : Is size (heard_sum ops f.parties g.openings (g.openings - 1) ws) v) where
          summed : Summed ops f.parties (gate c s.point.gate) Own (heard_at s (f.parties * g.openings) t ws) e v
          summed =
              record {
                first = first_found (own_hears each_words opening_said) (shape_class g _ eg) words_of ops ex (rw (opens_no_in class_same, heard_same) ee);
                second = second_found (own_hears each_words opening_said) (shape_class g _ eg) words_of ops openings_are (rw (class_is class_same, heard_same) ev);
              }

          pub opening_asked : Prepared f preps s.prep (2 * g.openings + 2)
              × Banded f l
              × EachBand f l (λ i m. Opening size (key_in f preps i) (layout_of f.layout) m s.point.gate x z (prep_from f preps s.prep i) g.openings w e v)
          opening_asked =
              rw ew
              (openings_ask f s c preps inputs l (heard_at s (f.parties * g.openings) t ws) (lent_undrawn u.going.lent) u.going.room (round_receives u each_words opening_said) cl named summed)

          module _ {l₁ : List ℕ} (el : l₁ ≡ rebanded f (opening_left f preps l s.point.gate x z s.prep g.openings w e v) l) where
            opened_is : l₁ ≡ rebanded f (opening_left f preps l s.point.gate x z s.prep g.openings (unchecked c s.point.gate) e v) l
            opened_is = subst (λ (k : ℕ). l₁ ≡ rebanded f (opening_left f preps l s.point.gate x z s.prep g.openings k e v) l) ew el

            pub opening_settled : SettlesAll f c preps l₁ (s.point.gate + 1)
            opening_settled = openings_settle f s c preps inputs l (heard_at s (f.parties * g.openings) t ws) (lent_undrawn u.going.lent) u.going.room (round_receives u each_words opening_said) cl named summed opened_is

            pub opening_moved : {s' : Course}
                → s'.point ≡ resume c (suc s.point.gate)
                → s'.prep ≡ s.prep + g.prep
                → s'.used ≡ s.used
                → s'.checks ≡ s.checks
                → s'.written ≡ s.written + f.parties * g.openings
                → s'.rounds ≡ s.rounds + 1
                → Moved (lent_all f c preps inputs coefficients nonces) f s Own none_held l t s' none_held (settled_all f c preps l₁ (s.point.gate + 1)) (sent_at s (f.parties * g.openings) t ws)
            opening_moved at ep =
                own_moved each_words opening_said
                (openings_received f s c preps inputs l (heard_at s (f.parties * g.openings) t ws) (lent_undrawn u.going.lent) u.going.room (round_receives u each_words opening_said) cl named summed opened_is refl)
                at (ep ∙ ap (λ (k : ℕ). s.prep + k) (shape_prep g _ eg))

-- the opening of an output
module _ {f : Frame} {s : Course} {c preps inputs coefficients nonces l t : List ℕ}
    (u : Moving (lent_all f c preps inputs coefficients nonces) f s Open none_held l t) where
  is_out_lem : (shape (gate c s.point.gate)).class ≡ Output
  is_out_lem = class_at_round c s.point.gate Open (occurs _ f _ Open none_held l u.going)

  one_word : words (gate c s.point.gate) Open ≡ 1
  one_word = output_words (gate c s.point.gate) is_out_lem

  shown_each : f.parties ≡ f.parties * words (gate c s.point.gate) Open
  shown_each = one_each f.parties one_word

  pub show_end : s.written + f.parties ≤ length t
  show_end = round_end u shown_each

  module _ {x : ℕ} (ex : x ≡ (gate c s.point.gate).first) {give : Bool} (eg : give ≡ is_give (gate c s.point.gate)) where
    pub show_sends : (f.parties ≤ most_parties)
        × Prepared f preps s.prep 0
        × (give ≡ true → s.prep + mask_size ≤ f.prep)
        × Banded f l
        × EachBand f l (λ i m. Held size (layout_of f.layout) m x)
        × (length (take (s.written + f.parties - s.written) (drop s.written t)) ≡ f.parties)
    show_sends = output_asks u.going ex eg (take (s.written + f.parties - s.written) (drop s.written t)) (round_room u shown_each)

    module _ {ws : List ℕ} (d : ws ≡ joined f.parties (λ i. (shown ops (layout_of f.layout) (band f.scratch l i) give x (prep_from f preps s.prep i)).share ∷ [])) where
      said_is : ws ≡ said ops (lent_all f c preps inputs coefficients nonces) (state_of f s none_held l) Open
      said_is = said_output u.going ex eg d

      pub show_long : length (sent_at s f.parties t ws) ≡ length t
      show_long = round_long u shown_each said_is

      pub show_sums : (0 < 1) × (f.parties * 1 ≤ length (heard_at s f.parties t ws)) × ((i : ℕ) → i < f.parties → get_or (heard_at s f.parties t ws) (i * 1 + 0) 0 < size)
      show_sums = rw (heard_is u shown_each said_is) (omega arith, omega (arith, said_long u, shown_each), λ i h. said_low u (i * 1 + 0))

      pub show_asks : Banded f l
          × Prepared f preps s.prep 0
          × (give ≡ true → s.prep + mask_size ≤ f.prep)
          × (0 < f.layout.capacity)
          × EachBand f l (λ i m. Held size (layout_of f.layout) m x)
      show_asks =
          outputs_ask f s c preps inputs l (heard_at s f.parties t ws) (lent_undrawn u.going.lent) u.going.room
          (round_receives u shown_each said_is) ex eg

      module _ {e : ℕ} (ee : Is size (heard_sum ops f.parties 1 0 (heard_at s f.parties t ws)) e) {l₁ : List ℕ} (el : l₁ ≡ rebanded f (output_left f preps l s.prep x give e) l) where
        shown_is : e ≡ heard_first ops f.parties (gate c s.point.gate) Open (heard_at s f.parties t ws)
        shown_is =
            ee.is
            ∙ ap (λ (k : ℕ). heard_sum ops f.parties k 0 (heard_at s f.parties t ws)) (sym one_word)
            ∙ sym (output_heard ops f.parties (heard_at s f.parties t ws) Open (gate c s.point.gate) is_out_lem)

        left_is : l₁ ≡ rebanded f (received_in f (undrawn (lent_all f c preps inputs coefficients nonces)) s.point.gate l Open (heard_at s f.parties t ws)) l
        left_is =
            outputs_received f s c preps inputs l (heard_at s f.parties t ws) (lent_undrawn u.going.lent) u.going.room
            (round_receives u shown_each said_is) ex eg shown_is el

        pub show_moved : {s' : Course} → s'.point ≡ due_at s.point.gate (Commit Second) → s'.prep ≡ s.prep → s'.used ≡ s.used → s'.checks ≡ s.checks
            → s'.written ≡ s.written + f.parties
            → s'.rounds ≡ s.rounds + 1
            → Moved (lent_all f c preps inputs coefficients nonces) f s Open none_held l t s' none_held l₁ (sent_at s f.parties t ws)
        show_moved at ep eu ec ew en =
            round_moved u _ (received_step u refl (quiet_passed u.going refl))
            (subst (λ (z : List ℕ). l₁ ≡ rebanded f (received_in f (undrawn (lent_all f c preps inputs coefficients nonces)) s.point.gate l Open z) l) (heard_is u shown_each said_is) left_is)
            (quiet_named u.going refl)
            (next_follows c s.point.gate _ Open (occurs _ f _ Open none_held l u.going) (quiet_passed u.going refl) at)
            (λ r' w. ep ∙ u.going.prep_is ∙ ap (λ (x : Point). prep_at c x.gate) (sym at)) refl (none_held_lem u.going refl) (eu ∙ none_taken u.going refl) (ec ∙ none_begun u.going refl) (sent_to u shown_each said_is)
            (ew ∙ omega (arith, said_long u, shown_each)) en
