-- All parties receive: what becomes of their bands in each sort of round, what that asks, and that it is what is defined.
-- Assumes nothing.
use Prim.Native.Nat.{ℕ, ◌+◌, ◌-◌, ◌*◌, ◌<◌, ◌≤◌}
use mathlib.Core.Path.{◌≡◌, refl, sym, ap, ◌∙◌}
use mathlib.Core.Bool.{Bool, true, false}
use mathlib.Core.List.{List, [], ◌++◌}
use native.Mathlib.Omega.{arith}
use lib.ListN.{length, drop, length-append, length-drop}
use lib.Seq.{drop_at}
use Rattle.field.specs.Words.{size, ops}
use Rattle.field.proofs.Laws.{laws}
use Rattle.circuit.specs.Gate.{gate_size, Gate, gate}
use Rattle.circuit.specs.Kind.{Owned, Opens, mask_size, shape, is_linear, is_divisor, is_give}
use Rattle.circuit.specs.Count.{unchecked}
use Rattle.circuit.specs.Round.{First, Second, Round, Own, Open, Reveal, nonce_size}
use Rattle.circuit.proofs.KindLaws.{owned_facts, opens_facts, give_prep}
use Rattle.protocol.specs.Position.{reach}
use Rattle.protocol.specs.Send.{shown}
use Rattle.protocol.specs.Receive.{after_input, after_opening, after_open_output, put_linear, settle}
use Rattle.protocol.specs.Holding.{Held, Reads}
use Rattle.protocol.specs.Code.{layout_of}
use Rattle.protocol.specs.Ready.{Opening, Settles, Receives, heard_first, Named, Summed}
use Rattle.protocol.proofs.Slots.{length_put, length_opened}
use Rattle.protocol.proofs.Lengths.{length_differences, length_put_linear}
use Rattle.protocol.proofs.Settling.{Settling, Reaching, operated, put_operated, divisor_low, settling_start, settling_asks, settling_again, settling_end, reaching_start, reaching_again, reaching_stop, reaching_done}
use Rattle.protocol.proofs.Readiness.{within_there, input_settles, opening_asks, opening_settles, output_settles}
use Rattle.protocol.proofs.Received as R
use Rattle.sha256.specs.Sha256.{words_of}
use Rattle.protocol.specs.Scratch.{band, put_nonce, put_marks}
use Rattle.protocol.proofs.Tails.{nonce_length, marks_length}
use Rattle.protocol.specs.Joint.{Joint, joined, party}
use Rattle.joint.specs.declared.Frame.{Frame}
use Rattle.joint.specs.Code.{Course, site_of, Lent, prep_from, key_in, Prepared, Banded, EachBand, rebanded, received_in, SettlesAll}
use Rattle.protocol.proofs.Words.{length_joined, joined_ext}
use Rattle.protocol.proofs.Bands.{band_front, band_joined, joined_bands}
use Rattle.joint.proofs.Cutting.{band_long}
use Rattle.joint.proofs.Parties.{lent_prepared, lent_key, lent_banded, lent_keyed, lent_record, lent_record_is}
use Rattle.joint.proofs.SendTurns.{lent_all}

-- what becomes of party i's band: at in gate j ..
abbrev pub input_left : Frame → List ℕ → List ℕ → ℕ → ℕ → ℕ → ℕ → List ℕ
input_left f preps l j a e i = after_input ops i (key_in f preps i) (layout_of f.layout) (band f.scratch l i) j (prep_from f preps a i) e

-- .. at gate j, which opens k values ..
abbrev pub opening_left : Frame → List ℕ → List ℕ → ℕ → ℕ → ℕ → ℕ → ℕ → ℕ → ℕ → ℕ → ℕ → List ℕ
opening_left f preps l j x z a k u e d i = after_opening ops i (key_in f preps i) (layout_of f.layout) (band f.scratch l i) j x z (prep_from f preps a i) k u e d

-- .. where an output is opened ..
abbrev pub output_left : Frame → List ℕ → List ℕ → ℕ → ℕ → Bool → ℕ → ℕ → List ℕ
output_left f preps l at x give e i =
    after_open_output ops (layout_of f.layout) (band f.scratch l i)
    (shown ops (layout_of f.layout) (band f.scratch l i) give x (prep_from f preps at i)) e

-- .. at linear gate j, which is g with what it is worked out with as its constant ..
abbrev pub linear_left : Frame → List ℕ → List ℕ → ℕ → Gate → ℕ → List ℕ
linear_left f preps l j g i =
    put_linear ops i (key_in f preps i) (layout_of f.layout) (band f.scratch l i) j g.kind g.first g.second g.constant

-- .. where its nonce is noted, and where the marks of all are ..
abbrev pub nonce_left : Frame → List ℕ → List ℕ → ℕ → List ℕ
nonce_left f l nonces i = put_nonce (layout_of f.layout) (band f.scratch l i) (words_of (band nonce_size nonces i))

abbrev pub marks_left : Frame → List ℕ → List ℕ → ℕ → List ℕ
marks_left f l marks i = put_marks (layout_of f.layout) (band f.scratch l i) marks

-- .. and by the linear gates from gate a on
abbrev pub settled_left : Frame → List ℕ → List ℕ → List ℕ → ℕ → ℕ → List ℕ
settled_left f c preps l a i = settle ops i (key_in f preps i) c (layout_of f.layout) (f.layout.gates - a) a (band f.scratch l i)

-- it is as long as before
module _ {f : Frame} {l : List ℕ} (b : Banded f l) where
  pub input_each : (preps : List ℕ) (j a e i : ℕ) → i < f.parties → length (input_left f preps l j a e i) ≡ f.scratch
  unfolding after_input
  input_each preps j a e i h = length_put (layout_of f.layout) (band f.scratch l i) j _ ∙ band_long b i h

  pub opening_each : (preps : List ℕ) (j x z a k u e d i : ℕ) → i < f.parties → length (opening_left f preps l j x z a k u e d i) ≡ f.scratch
  unfolding after_opening
  opening_each preps j x z a k u e d i h =
      length_put (layout_of f.layout) _ j _ ∙ length_differences ops (layout_of f.layout) (band f.scratch l i) x z (prep_from f preps a i) k u e d ∙ band_long b i h

  pub output_each : (preps : List ℕ) (at x : ℕ) (give : Bool) (e i : ℕ) → i < f.parties → length (output_left f preps l at x give e i) ≡ f.scratch
  unfolding after_open_output
  output_each preps at x give e i h = length_opened (layout_of f.layout) (band f.scratch l i) 0 e _ ∙ band_long b i h

  pub linear_each : (preps : List ℕ) (j : ℕ) (g : Gate) (i : ℕ) → i < f.parties → length (linear_left f preps l j g i) ≡ f.scratch
  linear_each preps j g i h = length_put_linear ops i (key_in f preps i) (layout_of f.layout) (band f.scratch l i) j g.kind g.first g.second g.constant ∙ band_long b i h

  pub nonce_each : (nonces : List ℕ) (i : ℕ) → i < f.parties → length (nonce_left f l nonces i) ≡ f.scratch
  nonce_each nonces i h = nonce_length (layout_of f.layout) (band f.scratch l i) _ ∙ band_long b i h

  pub marks_each : (marks : List ℕ) (i : ℕ) → i < f.parties → length (marks_left f l marks i) ≡ f.scratch
  marks_each marks i h = marks_length (layout_of f.layout) (band f.scratch l i) marks ∙ band_long b i h

-- bands that came back as F i
module _ {f : Frame} {l : List ℕ} (b : Banded f l) (F : ℕ → List ℕ) (each : (i : ℕ) → i < f.parties → length (F i) ≡ f.scratch)
    {l₁ : List ℕ} (e : l₁ ≡ rebanded f F l) where
  front : length (joined f.parties F) ≡ f.parties * f.scratch
  front = length_joined f.parties f.scratch F each

  pub reband_band : (i : ℕ) → i < f.parties → band f.scratch l₁ i ≡ F i
  reband_band i h =
      ap (λ (z : List ℕ). band f.scratch z i) e
      ∙ band_front f.scratch f.parties (joined f.parties F) (drop (f.parties * f.scratch) l) front i h
      ∙ band_joined f.scratch f.parties F each i h

  pub reband_banded : Banded f l₁
  reband_banded = record { size = b.size; room = rw (e, length-append, front) (omega arith) }

  pub reband_excess : drop (f.parties * f.scratch) l₁ ≡ drop (f.parties * f.scratch) l
  reband_excess =
      ap (drop (f.parties * f.scratch)) e ∙ drop_at (joined f.parties F) (drop (f.parties * f.scratch) l) (f.parties * f.scratch) front

  pub reband_length : length l₁ ≡ length l
  reband_length = ap length e ∙ rw (length-append, front, length-drop) (omega (arith, b.room))

  -- and then once more, as G of what they were
  pub reband_twice : (G H : ℕ → List ℕ) → ((i : ℕ) → i < f.parties → G i ≡ H i) → {l₂ : List ℕ} → l₂ ≡ rebanded f G l₁ → l₂ ≡ rebanded f H l
  reband_twice G H same d =
      d
      ∙ ap (λ (z : List ℕ). z ++ drop (f.parties * f.scratch) l₁) (joined_ext f.parties G H same)
      ∙ ap (λ (z : List ℕ). joined f.parties H ++ z) reband_excess

-- The linear gates began at gate a with the scratch l₀ of all, and gate j is next with the scratch l: so for each party, and what lies
-- beyond their bands is as it was.
pub record SettlingAll (f : Frame) (c preps : List ℕ) (a : ℕ) (l₀ : List ℕ) (j : ℕ) (l : List ℕ) : Type 0 where
  pub banded : Banded f l
  pub long : length l ≡ length l₀
  pub excess : drop (f.parties * f.scratch) l ≡ drop (f.parties * f.scratch) l₀
  pub each : (i : ℕ) → i < f.parties → Settling ops c (layout_of f.layout) i (key_in f preps i) a (band f.scratch l₀ i) j (band f.scratch l i)
  pub reaching : Reaching c f.layout.gates a j

module _ (f : Frame) (c preps : List ℕ) (a : ℕ) (l₀ : List ℕ) (b : Banded f l₀) (some : 0 < f.parties)
    (s : EachBand f l₀ (λ i k. Settles size c (layout_of f.layout) (key_in f preps i) k a)) where
  pub all_start : SettlingAll f c preps a l₀ a l₀
  unfolding layout_of
  all_start =
      record {
        banded = b;
        long = refl;
        excess = refl;
        each = λ i h. settling_start c (layout_of f.layout) i (key_in f preps i) a (band f.scratch l₀ i) (s i h);
        reaching = reaching_start c f.layout.gates a (s 0 some).upto;
      }

  module _ {j : ℕ} {l : List ℕ} (inv : SettlingAll f c preps a l₀ j l) where
    module _ (h : j < f.layout.gates) where
      -- gate j can be read off the circuit ..
      pub all_there : gate_size * j + gate_size ≤ length c
      unfolding layout_of
      all_there = omega (arith, (s 0 some).valid.whole, (s 0 some).count)

      -- .. its divisor is an element ..
      pub all_low : is_divisor (shape (gate c j)).constant ≡ true → (gate c j).constant < size
      unfolding layout_of
      all_low = divisor_low ((s 0 some).valid.each j (omega (arith, (s 0 some).count)))

      -- .. and it is the stop unless it is linear
      pub all_stop : is_linear (gate c j) ≡ false → j ≡ reach c (f.layout.gates - a) a
      all_stop = reaching_stop c f.layout.gates a j inv.reaching h

      module _ (linear : is_linear (gate c j) ≡ true) {g : Gate} (eg : g ≡ operated ops (gate c j)) where
        pub all_reads : EachBand f l (λ i k. Reads size (layout_of f.layout) k g)
        unfolding layout_of
        all_reads i k =
            (settling_asks c (layout_of f.layout) i (key_in f preps i) a (band f.scratch l₀ i) j (band f.scratch l i) (inv.each i k) laws (s i k) h eg).1

        pub all_again : {l₁ : List ℕ} → l₁ ≡ rebanded f (linear_left f preps l j g) l → SettlingAll f c preps a l₀ (j + 1) l₁
        unfolding layout_of
        all_again d =
            let each = linear_each inv.banded preps j g in
            record {
              banded = reband_banded inv.banded (linear_left f preps l j g) each d;
              long = reband_length inv.banded (linear_left f preps l j g) each d ∙ inv.long;
              excess = reband_excess inv.banded (linear_left f preps l j g) each d ∙ inv.excess;
              each = λ i k.
                  settling_again c (layout_of f.layout) i (key_in f preps i) a (band f.scratch l₀ i) j (band f.scratch l i) (inv.each i k) laws
                  (s i k).room h linear
                  (reband_band inv.banded (linear_left f preps l j g) each d i k ∙ put_operated ops i (key_in f preps i) (layout_of f.layout) (band f.scratch l i) j (gate c j) eg);
              reaching = reaching_again c f.layout.gates a j inv.reaching h linear;
            }

    pub all_last : f.layout.gates ≤ j → f.layout.gates ≡ j
    all_last h = omega (arith, inv.reaching)

    pub all_done : f.layout.gates ≤ j → j ≡ reach c (f.layout.gates - a) a
    all_done = reaching_done c f.layout.gates a j inv.reaching

    -- at the stop all is done
    pub all_settled : j ≡ reach c (f.layout.gates - a) a → l ≡ rebanded f (settled_left f c preps l₀ a) l₀
    unfolding layout_of
    all_settled e =
        sym (joined_bands f.parties f.scratch l inv.banded.room)
        ∙ ap (λ (z : List ℕ). joined f.parties (band f.scratch l) ++ z) inv.excess
        ∙ ap (λ (z : List ℕ). z ++ drop (f.parties * f.scratch) l₀)
        (joined_ext f.parties (band f.scratch l) (settled_left f c preps l₀ a)
        (λ i k. settling_end c (layout_of f.layout) i (key_in f preps i) a (band f.scratch l₀ i) j (band f.scratch l i) (inv.each i k) inv.reaching (omega (arith, e))))

module _ (f : Frame) (s : Course) (c preps inputs l heard : List ℕ) (t : Lent (lent_all f c preps inputs [] []) f) (room : f.parties * f.scratch ≤ length l) where
  abbrev J : Joint
  J = lent_all f c preps inputs [] []

  banded : Banded f l
  banded = lent_banded t room

  -- what each party is to receive
  abbrev asked : Round → Type 0
  asked r = (i : ℕ) → i < f.parties → Receives size (party J i) (band f.scratch l i) f.layout (site_of c s i) r heard

  some : 0 < f.parties
  some = omega (arith, t.some)

  -- the bands as they are defined
  abbrev bands_of : Round → ℕ → List ℕ
  bands_of r = received_in f J s.point.gate l r heard

  -- a round that leaves the bands
  pub left_alone : l ≡ rebanded f (band f.scratch l) l
  left_alone = sym (joined_bands f.parties f.scratch l room)

  pub first_left : l ≡ rebanded f (bands_of (Reveal First)) l
  first_left =
      left_alone
      ∙ ap (λ (z : List ℕ). z ++ drop (f.parties * f.scratch) l)
      (joined_ext f.parties (band f.scratch l) (bands_of (Reveal First)) (λ i h. R.first_received ops (party J i) (band f.scratch l i) s.point.gate heard))

  -- a round that leaves each band as F i, and then settles it
  module _ (F : ℕ → List ℕ) (each : (i : ℕ) → i < f.parties → length (F i) ≡ f.scratch) {l₁ : List ℕ} (d : l₁ ≡ rebanded f F l) where
    settling_asked : ((i : ℕ) → i < f.parties → band f.scratch l₁ i ≡ F i → Settles size c (layout_of f.layout) (key_in f preps i) (band f.scratch l₁ i) (s.point.gate + 1))
        → SettlesAll f c preps l₁ (s.point.gate + 1)
    settling_asked k = (lent_key t, reband_banded banded F each d, some, λ i h. k i h (reband_band banded F each d i h))

    settling_made : (r : Round)
        → ((i : ℕ) → i < f.parties → band f.scratch l₁ i ≡ F i → settled_left f c preps l₁ (s.point.gate + 1) i ≡ bands_of r i)
        → {l₂ : List ℕ} → l₂ ≡ rebanded f (settled_left f c preps l₁ (s.point.gate + 1)) l₁
        → l₂ ≡ rebanded f (bands_of r) l
    settling_made r k =
        reband_twice banded F each d (settled_left f c preps l₁ (s.point.gate + 1)) (bands_of r) (λ i h. k i h (reband_band banded F each d i h))

  -- the record of the gate
  module _ {r : Round} (w : asked r) where
    record_there : s.prep + (shape (gate c s.point.gate)).prep ≤ f.prep
    unfolding site_of party
    record_there = lent_record t (w 0 some).ready.sited.prep (w 0 some).ready.sited.within

    record_here : (i : ℕ) → prep_from f preps s.prep i ≡ drop s.prep (party J i).prep
    unfolding site_of party
    record_here i = lent_record_is t (w 0 some).ready.sited.prep (w 0 some).ready.sited.within i

  -- a gate's own round
  module _ (w : asked Own) where
    -- in gates
    module _ (cl : (shape (gate c s.point.gate)).class ≡ Owned) {e : ℕ} (e_low : e < size) where
      pub inputs_ask : Prepared f preps s.prep 2 × Banded f l × (s.point.gate < f.layout.gates) × (e < size)
      unfolding site_of party
      inputs_ask = (
        lent_prepared t s.prep 2 (omega (arith, record_there w, (owned_facts (gate c s.point.gate) cl).prep)),
        banded,
        within_there (party J 0) (band f.scratch l 0) f.layout (site_of c s 0) Own (w 0 some).ready,
        e_low,
      )

      module _ {l₁ : List ℕ} (d : l₁ ≡ rebanded f (input_left f preps l s.point.gate s.prep e) l) where
        lengths : (i : ℕ) → i < f.parties → length (input_left f preps l s.point.gate s.prep e i) ≡ f.scratch
        lengths = input_each banded preps s.point.gate s.prep e

        pub inputs_settle : SettlesAll f c preps l₁ (s.point.gate + 1)
        unfolding site_of party
        inputs_settle =
            settling_asked _ lengths d
            (λ i h q. rw (lent_keyed t i)
            (input_settles laws (party J i) (band f.scratch l i) f.layout (site_of c s i) (w i h).ready i (prep_from f preps s.prep i) e
            (q ∙ rw (lent_keyed t i))))

        pub inputs_received : e ≡ heard_first ops f.parties (gate c s.point.gate) Own heard → {l₂ : List ℕ}
            → l₂ ≡ rebanded f (settled_left f c preps l₁ (s.point.gate + 1)) l₁
            → l₂ ≡ rebanded f (bands_of Own) l
        unfolding site_of party
        inputs_received ee =
            settling_made _ lengths d Own
            (λ i h q.
            R.input_made ops (party J i) (band f.scratch l i) f.layout (site_of c s i) heard (w i h).ready cl
            (record_here w i) ee
            (q ∙ rw (lent_keyed t i))
            (rw (lent_keyed t i)))

    -- gates that open values
    module _ (cl : (shape (gate c s.point.gate)).class ≡ Opens) {x z k e d : ℕ} (n : Named (gate c s.point.gate) x z k)
        (v : Summed ops f.parties (gate c s.point.gate) Own heard e d) where
      abbrev opened : ℕ → List ℕ
      opened = opening_left f preps l s.point.gate x z s.prep k (unchecked c s.point.gate) e d

      each_asks : EachBand f l (λ i m. Opening size (key_in f preps i) (layout_of f.layout) m s.point.gate x z (prep_from f preps s.prep i) k (unchecked c s.point.gate) e d)
      unfolding site_of party
      each_asks i h =
          rw (lent_keyed t i)
          (opening_asks (party J i) (band f.scratch l i) f.layout (site_of c s i) (w i h).ready cl (record_here w i) n v.first.below v.second.below)

      pub openings_ask : Prepared f preps s.prep (2 * k + 2)
          × Banded f l
          × EachBand f l (λ i m. Opening size (key_in f preps i) (layout_of f.layout) m s.point.gate x z (prep_from f preps s.prep i) k (unchecked c s.point.gate) e d)
      openings_ask = (
        lent_prepared t s.prep (2 * k + 2) (omega (arith, record_there w, n.openings, (opens_facts (gate c s.point.gate) cl).prep)),
        banded,
        each_asks,
      )

      module _ {l₁ : List ℕ} (q : l₁ ≡ rebanded f opened l) where
        opened_lengths : (i : ℕ) → i < f.parties → length (opened i) ≡ f.scratch
        opened_lengths = opening_each banded preps s.point.gate x z s.prep k (unchecked c s.point.gate) e d

        pub openings_settle : SettlesAll f c preps l₁ (s.point.gate + 1)
        unfolding site_of party
        openings_settle =
            settling_asked opened opened_lengths q
            (λ i h y. rw (lent_keyed t i)
            (opening_settles laws (party J i) (band f.scratch l i) f.layout (site_of c s i) (w i h).ready i x z (prep_from f preps s.prep i) k e d
            (rw (lent_keyed t i) at (each_asks i h)) (y ∙ rw (lent_keyed t i))))

        pub openings_received : {l₂ : List ℕ} → l₂ ≡ rebanded f (settled_left f c preps l₁ (s.point.gate + 1)) l₁ → l₂ ≡ rebanded f (bands_of Own) l
        unfolding site_of party
        openings_received =
            settling_made opened opened_lengths q Own
            (λ i h y.
            R.opening_received ops (party J i) (band f.scratch l i) f.layout (site_of c s i) heard (w i h).ready cl
            (record_here w i) n v
            (y ∙ rw (lent_keyed t i))
            (rw (lent_keyed t i)))

  -- opened outputs
  module _ (w : asked Open) {x : ℕ} (ex : x ≡ (gate c s.point.gate).first) {give : Bool} (eg : give ≡ is_give (gate c s.point.gate)) where
    pub outputs_ask : Banded f l
        × Prepared f preps s.prep 0
        × (give ≡ true → s.prep + mask_size ≤ f.prep)
        × (0 < f.layout.capacity)
        × EachBand f l (λ i m. Held size (layout_of f.layout) m x)
    unfolding site_of party
    outputs_ask = (
      banded,
      lent_prepared t s.prep 0 (omega (arith, record_there w)),
      (λ b. omega (arith, record_there w, give_prep (gate c s.point.gate) (sym eg ∙ b))),
      (R.output_asks (party J 0) (band f.scratch l 0) f.layout (site_of c s 0) (w 0 some).ready ex eg (record_here w 0)).1,
      λ i h. (R.output_asks (party J i) (band f.scratch l i) f.layout (site_of c s i) (w i h).ready ex eg (record_here w i)).2,
    )

    pub outputs_received : {e : ℕ} → e ≡ heard_first ops f.parties (gate c s.point.gate) Open heard → {l₁ : List ℕ} → l₁ ≡ rebanded f (output_left f preps l s.prep x give e) l → l₁ ≡ rebanded f (bands_of Open) l
    unfolding site_of party
    outputs_received {e} ee d =
        d
        ∙ ap (λ (z : List ℕ). z ++ drop (f.parties * f.scratch) l)
        (joined_ext f.parties (output_left f preps l s.prep x give e) (bands_of Open)
        (λ i h. R.output_received ops (party J i) (band f.scratch l i) f.layout (site_of c s i) heard (w i h).ready ex eg (record_here w i) ee refl))

  -- the reveal of the second check
  module _ (w : asked (Reveal Second)) where
    pub reveal_settles : SettlesAll f c preps l (s.point.gate + 1)
    unfolding site_of party
    reveal_settles = (
      lent_key t,
      banded,
      some,
      λ i h. rw (lent_keyed t i) (output_settles (party J i) (band f.scratch l i) f.layout (site_of c s i) (w i h).ready),
    )

    pub reveal_received : {l₁ : List ℕ} → l₁ ≡ rebanded f (settled_left f c preps l (s.point.gate + 1)) l → l₁ ≡ rebanded f (bands_of (Reveal Second)) l
    unfolding site_of party
    reveal_received d =
        d
        ∙ ap (λ (z : List ℕ). z ++ drop (f.parties * f.scratch) l)
        (joined_ext f.parties (settled_left f c preps l (s.point.gate + 1)) (bands_of (Reveal Second))
        (λ i h. R.reveal_received ops (party J i) (band f.scratch l i) f.layout (site_of c s i) heard (w i h).ready (rw (lent_keyed t i))))
