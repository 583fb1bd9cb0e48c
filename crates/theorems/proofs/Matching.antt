-- The matching takes good preprocessing to good preprocessing: the sums of a gate's shares move by the difference of what they hide, and
-- the sums of its MAC shares by the key times that. With the inputs exchanged it leads back, and at a party whose inputs agree and that
-- does not carry the differences, and to which equal values are given, it changes nothing.
-- Assumes nothing.
use Prim.Native.Nat.{ℕ, zero, suc, ◌+◌, ◌*◌, ◌<◌, ◌≤◌}
use mathlib.Core.Path.{◌≡◌, refl, sym, ap, ap₂, subst, ◌∙◌}
use mathlib.Core.Logic.{◌≢◌}
use mathlib.Core.Bool.{true, false}
use mathlib.Core.List.{List, ◌++◌}
use native.Mathlib.Decide.{ℕ_discrete}
use native.Mathlib.Omega.{arith}
use lib.ListN.{length, get_or, length-append, get_or-append}
use lib.Seq.{get_or-append-add, get_or-drop}
use lib.Dec.{eqb}
use borrow.Author.Tests.{eq-eqb, ne_eqb, eqb-true, eqb-false}
use Rattle.algebra.specs.Ops.{Ops}
use Rattle.algebra.specs.Field.{Field}
use Rattle.algebra.specs.Sum.{sum}
use Rattle.algebra.proofs.Ring.{norm_zero, mul_zero, sub_add, sub_flip}
use Rattle.algebra.proofs.Sums.{norm_sum, sum_ext, sum_moved}
use Rattle.circuit.specs.Gate.{gate, gates}
use Rattle.circuit.specs.Kind.{Class, Local, Owned, Opens, Output, mask_size, shape, is_give, factor}
use Rattle.circuit.specs.Count.{total, prep_at, prep_size}
use Rattle.circuit.specs.Valid.{Valid}
use Rattle.circuit.proofs.Tests.{by_cases}
use Rattle.circuit.proofs.Counts.{total_within}
use Rattle.circuit.proofs.KindLaws.{local_facts, owned_facts, opens_facts, give_output, give_prep, give_second, bare_prep}
use Rattle.circuit.proofs.Gates.{second_fits, owner_named}
use Rattle.protocol.specs.Part.{part_at}
use Rattle.protocol.specs.Party.{record_in, mask_at, whole_mask_at, a_at, b_at, c_at}
use Rattle.protocol.specs.Scratch.{band}
use Rattle.protocol.specs.Joint.{joined}
use Rattle.protocol.specs.Good.{Good, GoodRecord, GoodMask, GoodTriple, record_at, whole_key, share_sum, mac_sum}
use Rattle.theorems.specs.Matching.{only, add_lists, input_move, value_move, moved, product_move, mask_move, mask_record_move, record_move, prep_move, match}
use Rattle.protocol.proofs.Words.{length_band, length_joined}
use Rattle.protocol.proofs.Bands.{band_joined}
use Rattle.theorems.proofs.Bands.{length_add_lists, get_d_add_lists, band_add_lists, Elements, elements_of, elements_band, elements_add_lists, Zeros, no_more, zero_then, zeros_append, add_zeros, Cancel, cancel_none, cancel_then, cancel_append, cancel_joined, add_cancel}

-- The record of a gate ends before the records of the gates after it.
pub record_end : (c : List ℕ) (j r : ℕ) → j < r → prep_at c j + (shape (gate c j)).prep ≤ prep_at c r
unfolding prep_at
record_end c j r l = omega (arith, total_within (λ g. (shape g).prep) c j r l)

-- The difference of a party is all there ..
pub only_here : (s d i : ℕ) → i ≡ s → only s d i ≡ d
unfolding only
only_here s d i e = rw (eq-eqb i s e)

-- .. and every other party has none.
pub only_elsewhere : (s d i : ℕ) → i ≢ s → only s d i ≡ 0
unfolding only
only_elsewhere s d i e = rw (ne_eqb i s e)

module _ {O : Ops} (F : Field O) (n : ℕ) (c : List ℕ) (h : ℕ) (x x' preps : List ℕ) where
  open O use {size, add, sub, mul, norm}
  open F use {norm_of_lt, norm_mul, add_comm, add_assoc, add-zero, mul-add}

  -- the preprocessing matched with preps
  abbrev pub matched : List ℕ
  matched = match O n c h x x' preps

  -- each party's numbers, and its record of each gate, before and after
  abbrev part : ℕ → List ℕ
  part i = band (prep_size c) preps i

  abbrev part' : ℕ → List ℕ
  part' i = band (prep_size c) matched i

  abbrev rec : ℕ → ℕ → List ℕ
  rec i j = record_at O n c preps i j

  abbrev rec' : ℕ → ℕ → List ℕ
  rec' i j = record_at O n c matched i j

  -- the key, and the sums of the shares and of the MAC shares at a place of a gate's records, before and after
  abbrev key : ℕ
  key = whole_key O n c preps

  abbrev key' : ℕ
  key' = whole_key O n c matched

  abbrev sums : ℕ → ℕ → ℕ
  sums j k = share_sum O n c preps j k

  abbrev sums' : ℕ → ℕ → ℕ
  sums' j k = share_sum O n c matched j k

  abbrev mac_sums : ℕ → ℕ → ℕ
  mac_sums j k = mac_sum O n c preps j k

  abbrev mac_sums' : ℕ → ℕ → ℕ
  mac_sums' j k = mac_sum O n c matched j k

  -- the differences of party i, and those in its record of gate j, by its class
  abbrev prep_by : ℕ → ℕ → List ℕ
  prep_by i r = prep_move O n c h x x' preps i r

  abbrev record_by : ℕ → ℕ → Class → List ℕ
  record_by i j k = record_move O n c h x x' preps i j (gate c j) k

  abbrev class : ℕ → Class
  class j = (shape (gate c j)).class

  -- by how much an input, a value, and the product of what hides two values differ
  abbrev by_input : ℕ → ℕ
  by_input j = input_move O n c h x x' j

  abbrev by_value : ℕ → ℕ
  by_value y = value_move O n c h x x' y

  abbrev by_product : ℕ → ℕ → ℕ → ℕ → ℕ
  by_product j k y z = product_move O n c h x x' preps j k (by_value y) (by_value z)

  -- the differences of a shared number and its MAC, and of the masks of a product
  abbrev moved_by : ℕ → ℕ → List ℕ
  moved_by i d = moved O n c h x x' preps i d

  abbrev masks_by : ℕ → ℕ → ℕ → ℕ → List ℕ
  masks_by i y z k = mask_move O n c h x x' preps i y z k

  -- the differences of a mask that party o knows whole
  abbrev mask_by : ℕ → ℕ → ℕ → List ℕ
  mask_by i o d = mask_record_move O n c h x x' preps i o d

  -- The differences in a record are as many as its numbers.
  length_masks : (i y z k : ℕ) → 1 ≤ k → k ≤ 2 → length (masks_by i y z k) ≡ k + k
  unfolding mask_move moved
  length_masks i y z k some few = by_cases (eqb k 2) (λ e. rw e (omega (arith, eqb-true k 2 e))) (λ e. rw e (omega (arith, eqb-false k 2 e)))

  length_record_move : (i j : ℕ) (k : Class) → class j ≡ k → length (record_by i j k) ≡ (shape (gate c j)).prep
  unfolding record_move mask_record_move moved
  length_record_move i j Local e = sym (local_facts (gate c j) e).prep
  length_record_move i j Owned e = sym (owned_facts (gate c j) e).prep
  length_record_move i j Opens e =
      let f = opens_facts (gate c j) e in
      length-append (masks_by i (gate c j).first (factor (gate c j)) (shape (gate c j)).openings) _
      ∙ omega (arith, length_masks i (gate c j).first (factor (gate c j)) (shape (gate c j)).openings f.some f.few, f.prep)
  length_record_move i j Output e =
      by_cases (is_give (gate c j)) (λ g. rw (g, give_prep (gate c j) g)) (λ g. rw (g, bare_prep (gate c j) e g))

  -- A party's differences up to gate j are as many as its numbers.
  length_prep_move : (i j : ℕ) → length (prep_by i j) ≡ prep_at c j
  unfolding prep_move prep_at total
  length_prep_move i zero = refl
  length_prep_move i (suc j) =
      length-append (prep_by i j) _
      ∙ omega (arith, length_prep_move i j, length_record_move i j (class j) refl)

  -- The differences of gate j stand where its record stands.
  prep_move_at : (i j t r : ℕ) → j < r → t < (shape (gate c j)).prep
      → get_or (prep_by i r) (prep_at c j + t) 0 ≡ get_or (record_by i j (class j)) t 0
  unfolding prep_move
  prep_move_at i j t zero l lt = absurd (omega arith)
  prep_move_at i j t (suc r) l lt = go (ℕ_discrete j r) (λ k. prep_move_at i j t r k lt)
    where
      before : ℕ → List ℕ
      before r = prep_by i r

      last : ℕ → List ℕ
      last r = record_by i r (class r)

      go : Dec (j ≡ r) → (j < r → get_or (before r) (prep_at c j + t) 0 ≡ get_or (last j) t 0)
          → get_or (before r ++ last r) (prep_at c j + t) 0 ≡ get_or (last j) t 0
      go (yes here) earlier =
          subst (λ (r : ℕ). get_or (before r ++ last r) (prep_at c j + t) 0 ≡ get_or (last j) t 0) here
          (rw (← (length_prep_move i j)) (get_or-append-add (before j) (last j) t 0))
      go (no there) earlier =
          get_or-append (before r) (last r) 0 (prep_at c j + t)
          (omega (arith, length_prep_move i r, record_end c j r (omega arith)))
          ∙ earlier (omega arith)

  -- There is no difference in the key share.
  prep_move_key : (i r : ℕ) → get_or (prep_by i r) 0 0 ≡ 0
  unfolding prep_move
  prep_move_key i zero = refl
  prep_move_key i (suc r) =
      get_or-append (prep_by i r) _ 0 0 (unfold prep_at in omega (arith, length_prep_move i r))
      ∙ prep_move_key i r

  module _ (good : Good O n c preps) where
    -- A party's numbers in good preprocessing are as many as its circuit asks for.
    pub length_prep : (i : ℕ) → i < n → length (part i) ≡ prep_size c
    length_prep i l = length_band (prep_size c) n preps (omega (arith, good.long)) i l

    -- All differences are as many as all numbers.
    length_moves : length preps ≡ length (joined n (λ i. prep_by i (gates c)))
    unfolding prep_size
    length_moves = good.long ∙ sym (length_joined n (prep_size c) _ (λ i l. length_prep_move i (gates c)))

    -- A party's matched numbers are its numbers with its differences added.
    pub band_matched : (i : ℕ) → i < n
        → part' i ≡ add_lists O (part i) (prep_by i (gates c))
    unfolding match prep_size
    band_matched i l =
        band_add_lists F (prep_size c) preps _ i
        ∙ ap (add_lists O (part i)) (band_joined (prep_size c) n _ (λ i l. length_prep_move i (gates c)) i l)

    -- A party has a difference for each of its numbers.
    as_long : (i : ℕ) → i < n → length (part i) ≡ length (prep_by i (gates c))
    as_long i l = unfold prep_size in length_prep i l ∙ sym (length_prep_move i (gates c))

    -- Each number of a party's matched record is its number with the difference there.
    matched_at : (j : ℕ) {k : Class} → class j ≡ k → j < gates c → (t : ℕ) → t < (shape (gate c j)).prep → (i : ℕ) → i < n
        → get_or (rec' i j) t 0
        ≡ add (get_or (rec i j) t 0) (get_or (record_by i j k) t 0)
    unfolding record_at record_in
    matched_at j e lj t lt i l =
        get_or-drop (prep_at c j) (part' i) t 0
        ∙ ap (λ (xs : List ℕ). get_or xs (prep_at c j + t) 0) (band_matched i l)
        ∙ get_d_add_lists F (part i) _ (as_long i l) (prep_at c j + t)
        ∙ ap₂ add (sym (get_or-drop (prep_at c j) (part i) t 0))
        (prep_move_at i j t (gates c) lj lt ∙ ap (λ (k : Class). get_or (record_by i j k) t 0) e)

    -- Every number of good preprocessing is an element.
    pub elements_prep : (i : ℕ) → Elements F (part i)
    elements_prep i = elements_band F (prep_size c) preps i (elements_of F preps good.elements)

    -- Every number of a record is its own element.
    element : (i j t : ℕ) → norm (get_or (rec i j) t 0) ≡ get_or (rec i j) t 0
    unfolding record_at record_in
    element i j t = norm_of_lt (rw (get_or-drop (prep_at c j) (part i) t 0) (elements_prep i (prep_at c j + t)))

    -- No party's key share changes.
    pub same_key : (i : ℕ) → i < n → get_or (part' i) 0 0 ≡ get_or (part i) 0 0
    same_key i l =
        ap (λ (xs : List ℕ). get_or xs 0 0) (band_matched i l)
        ∙ get_d_add_lists F (part i) _ (as_long i l) 0
        ∙ ap (add _) (prep_move_key i (gates c))
        ∙ add-zero _
        ∙ norm_of_lt (elements_prep i 0)

    -- The key is the same.
    pub same_whole_key : key' ≡ key
    unfolding whole_key
    same_whole_key = sum_ext F n _ _ same_key

    -- what stands at k in the records of gate j differs by d: at party h alone, and its sums by d and by the key times d
    pub record Moved (j k d : ℕ) : Type 0 where
      pub kept : (i : ℕ) → i < n → i ≢ h → part_at (rec' i j) k ≡ part_at (rec i j) k
      pub shares : sums' j k ≡ add (sums j k) d
      pub macs : mac_sums' j k ≡ add (mac_sums j k) (mul key d)

    -- Where a number of each record differs at party h only, by d, so does the sum.
    sum_only : (j t d : ℕ) → h < n
        → ((i : ℕ) → i < n → get_or (rec' i j) t 0 ≡ add (get_or (rec i j) t 0) (only h d i))
        → ((i : ℕ) → i < n → i ≢ h → get_or (rec' i j) t 0 ≡ get_or (rec i j) t 0)
        × (sum O n (λ i. get_or (rec' i j) t 0) ≡ add (sum O n (λ i. get_or (rec i j) t 0)) d)
    sum_only j t d h_lt e =
        (others, sum_moved F n h d _ _ h_lt others (e h h_lt ∙ ap (add _) (only_here h d h refl)))
      where
        others : (i : ℕ) → i < n → i ≢ h → get_or (rec' i j) t 0 ≡ get_or (rec i j) t 0
        others i l ne = e i l ∙ ap (add _) (only_elsewhere h d i ne) ∙ add-zero _ ∙ element i j t

    -- Where a share and its MAC share differ so, what stands there has moved.
    moved_at : (j k d : ℕ) → h < n
        → ((i : ℕ) → i < n → get_or (rec' i j) k 0 ≡ add (get_or (rec i j) k 0) (only h d i))
        → ((i : ℕ) → i < n → get_or (rec' i j) (k + 1) 0 ≡ add (get_or (rec i j) (k + 1) 0) (only h (mul key d) i))
        → Moved j k d
    moved_at j k d h_lt s m =
        let one = sum_only j k d h_lt s in
        let two = sum_only j (k + 1) (mul key d) h_lt m in
        record {
          kept = λ i l ne u. unfold part_at in record { share = one.0 i l ne u; mac = two.0 i l ne u };
          shares = unfold share_sum part_at in one.1;
          macs = unfold mac_sum part_at in two.1;
        }

    -- what the matching does to the records of a mask that party s knows whole and that differs by d ..
    pub record MovedMask (j s d : ℕ) : Type 0 where
      pub mask : Moved j mask_at d
      pub whole : get_or (rec' s j) whole_mask_at 0 ≡ add (get_or (rec s j) whole_mask_at 0) d

    -- .. and of a product of y and z with k openings
    pub record MovedTriple (j k y z : ℕ) : Type 0 where
      pub at_a : Moved j a_at (by_value y)
      pub at_b : Moved j (b_at k) (by_value z)
      pub at_c : Moved j (c_at k) (by_product j k y z)

    -- Where the numbers of a mask's record differ as the rule says, the mask and the whole mask move alike.
    moved_record : (j s d : ℕ) → h < n → s < n
        → ((t : ℕ) → t < mask_size → (i : ℕ) → i < n → get_or (rec' i j) t 0 ≡ add (get_or (rec i j) t 0) (get_or (mask_by i s d) t 0))
        → MovedMask j s d
    unfolding mask_record_move moved
    moved_record j s d h_lt s-lt at =
        record {
          mask = moved_at j mask_at d h_lt (at 0 (omega arith)) (at 1 (omega arith));
          whole = at whole_mask_at (omega arith) s s-lt ∙ ap (add _) (only_here s d s refl);
        }

    -- So they do in the records of an in gate, with the input ..
    pub moved_mask : (j : ℕ) → class j ≡ Owned → j < gates c → h < n → (gate c j).first < n → MovedMask j (gate c j).first (by_input j)
    unfolding record_move
    moved_mask j e lj h_lt s-lt =
        moved_record j _ _ h_lt s-lt (λ t lt. matched_at j e lj t (omega (arith, (owned_facts (gate c j) e).prep)))

    -- .. and in those of a give, with the value that it names.
    pub moved_give : (j : ℕ) → is_give (gate c j) ≡ true → j < gates c → h < n → (gate c j).second < n
        → MovedMask j (gate c j).second (by_value (gate c j).first)
    unfolding record_move
    moved_give j g lj h_lt s-lt =
        moved_record j _ _ h_lt s-lt
        (λ t lt i l. matched_at j (give_output (gate c j) g) lj t (omega (arith, give_prep (gate c j) g)) i l ∙ rw g)

    -- Where the numbers of a record with k openings differ as the rule says, its a and its b move with the values that they hide, and its c with
    -- their product.
    moved_openings : (j k y z : ℕ) → 1 ≤ k → k ≤ 2 → (eqb k 2 ≡ false → z ≡ y) → h < n
        → ((t : ℕ) → t < 2 * k + 2 → (i : ℕ) → i < n
        → get_or (rec' i j) t 0 ≡ add (get_or (rec i j) t 0) (get_or (masks_by i y z k ++ moved_by i (by_product j k y z)) t 0))
        → MovedTriple j k y z
    unfolding mask_move moved
    moved_openings j zero y z some few same h_lt at = absurd (omega arith)
    moved_openings j (suc zero) y z some few same h_lt at =
        let first : Moved j a_at (by_value y) = moved_at j a_at _ h_lt (at 0 (omega arith)) (at 1 (omega arith)) in
        record { at_a = first; at_b = rw (same refl) first; at_c = moved_at j 2 _ h_lt (at 2 (omega arith)) (at 3 (omega arith)) }
    moved_openings j (suc (suc zero)) y z some few same h_lt at =
        record {
          at_a = moved_at j a_at _ h_lt (at 0 (omega arith)) (at 1 (omega arith));
          at_b = moved_at j 2 _ h_lt (at 2 (omega arith)) (at 3 (omega arith));
          at_c = moved_at j 4 _ h_lt (at 4 (omega arith)) (at 5 (omega arith));
        }
    moved_openings j (suc (suc (suc k))) y z some few same h_lt at = absurd (omega arith)

    -- So they do in the records of a product.
    pub moved_triple : (j : ℕ) → class j ≡ Opens → j < gates c → h < n
        → MovedTriple j (shape (gate c j)).openings (gate c j).first (factor (gate c j))
    unfolding record_move factor
    moved_triple j e lj h_lt =
        let f = opens_facts (gate c j) e in
        moved_openings j (shape (gate c j)).openings _ _ f.some f.few (λ one. rw one) h_lt
        (λ t lt. matched_at j e lj t (omega (arith, f.prep)))

    -- Authentic shares stay authentic.
    moved_authentic : (j k d : ℕ) → Moved j k d → mac_sums j k ≡ mul key (sums j k)
        → mac_sums' j k ≡ mul key' (sums' j k)
    moved_authentic j k d m e =
        m.macs
        ∙ ap (λ (s : ℕ). add s (mul key d)) e
        ∙ sym (mul-add _ _ _)
        ∙ ap₂ mul (sym same_whole_key) (sym m.shares)

    -- A moved mask is good.
    good_mask : (j s d : ℕ) → MovedMask j s d → GoodMask O n c preps j s → GoodMask O n c matched j s
    good_mask j s d m g =
        record {
          mask = moved_authentic j mask_at d m.mask g.mask;
          whole = m.whole ∙ ap (λ (w : ℕ). add w d) g.whole ∙ sym m.mask.shares;
        }

    -- The moved triple of a product is good: its c is the product of its a and its b.
    good_triple : (j k y z : ℕ) → MovedTriple j k y z → GoodTriple O n c preps j k → GoodTriple O n c matched j k
    unfolding product_move
    good_triple j k y z m g =
        record {
          mac_a = moved_authentic j a_at _ m.at_a g.mac_a;
          mac_b = moved_authentic j (b_at k) _ m.at_b g.mac_b;
          mac_c = moved_authentic j (c_at k) _ m.at_c g.mac_c;
          product =
              m.at_c.shares
              ∙ ap (λ (w : ℕ). add w (by_product j k y z)) g.product
              ∙ add_comm _ _
              ∙ sub_add F _ _
              ∙ norm_mul _ _
              ∙ ap₂ mul (sym m.at_a.shares) (sym m.at_b.shares);
        }

    module _ (ok : Valid n size c) (h_lt : h < n) where
      -- The moved records of a gate are good.
      good_record : (j : ℕ) (k : Class) → class j ≡ k → j < gates c → GoodRecord O n c preps j (gate c j) k → GoodRecord O n c matched j (gate c j) k
      good_record j Local e lj g = tt
      good_record j Owned e lj g = good_mask j _ _ (moved_mask j e lj h_lt (owner_named ok j lj e)) g
      good_record j Opens e lj g = good_triple j _ _ _ (moved_triple j e lj h_lt) g
      good_record j Output e lj g =
          λ give. good_mask j _ _ (moved_give j give lj h_lt (second_fits ok j lj (give_second (gate c j) give))) (g give)

      -- Good preprocessing is matched with good preprocessing.
      pub matched_good : Good O n c matched
      unfolding match
      matched_good =
          record {
            long = length_add_lists F preps _ ∙ good.long;
            elements = λ k l. elements_add_lists F preps _ length_moves k;
            records = λ j lj. good_record j (class j) refl lj (good.records j lj);
          }

    -- a party that does not carry the differences, whose inputs agree, and to which equal values are given
    module _ (i : ℕ) (other : i ≢ h) (agree : (j : ℕ) → class j ≡ Owned → (gate c j).first ≡ i → by_input j ≡ 0)
        (given : (j : ℕ) → j < gates c → is_give (gate c j) ≡ true → (gate c j).second ≡ i → by_value (gate c j).first ≡ 0) where
      -- All its differences of a gate are zero ..
      zeros_moved : (d : ℕ) → Zeros F (moved_by i d)
      unfolding moved
      zeros_moved d = zero_then (only_elsewhere h _ i other) (zero_then (only_elsewhere h _ i other) no_more)

      zeros_masks : (y z k : ℕ) → Zeros F (masks_by i y z k)
      unfolding mask_move
      zeros_masks y z k = by_cases (eqb k 2) (λ e. rw e (zeros_append F (zeros_moved _) (zeros_moved _))) (λ e. rw e (zeros_moved _))

      zeros_mask : (o d : ℕ) → (o ≡ i → d ≡ 0) → Zeros F (mask_by i o d)
      unfolding mask_record_move
      zeros_mask o d none = zeros_append F (zeros_moved d) (zero_then (own (ℕ_discrete i o)) no_more)
        where
          own : Dec (i ≡ o) → only o d i ≡ 0
          own (yes q) = only_here o d i q ∙ none (sym q)
          own (no q) = only_elsewhere o d i q

      zeros_record : (j : ℕ) (k : Class) → class j ≡ k → j < gates c → Zeros F (record_by i j k)
      unfolding record_move
      zeros_record j Local e lj = no_more
      zeros_record j Owned e lj = zeros_mask _ _ (agree j e)
      zeros_record j Opens e lj = zeros_append F (zeros_masks _ _ _) (zeros_moved _)
      zeros_record j Output e lj = by_cases (is_give (gate c j)) (λ g. rw g (zeros_mask _ _ (given j lj g))) (λ g. rw g no_more)

      -- .. and so are all its differences.
      zeros_prep : (r : ℕ) → r ≤ gates c → Zeros F (prep_by i r)
      unfolding prep_move
      zeros_prep zero l = zero_then refl no_more
      zeros_prep (suc r) l = zeros_append F (zeros_prep r (omega arith)) (zeros_record r (class r) refl (omega arith))

      -- So its numbers are kept.
      pub matched_kept : i < n → part' i ≡ part i
      matched_kept l = band_matched i l ∙ add_zeros F (part i) (elements_prep i) (zeros_prep (gates c) (omega arith))

    module _ (h_lt : h < n) where
      -- the differences with the inputs exchanged
      abbrev back_record : ℕ → ℕ → Class → List ℕ
      back_record i j k = record_move O n c h x' x matched i j (gate c j) k

      abbrev back_input : ℕ → ℕ
      back_input j = input_move O n c h x' x j

      abbrev back_value : ℕ → ℕ
      back_value y = value_move O n c h x' x y

      -- What cancels at one party cancels at every party.
      cancel_only : (s d e i : ℕ) → add d e ≡ 0 → add (only s d i) (only s e i) ≡ 0
      cancel_only s d e i z = go (ℕ_discrete i s)
        where
          go : Dec (i ≡ s) → add (only s d i) (only s e i) ≡ 0
          go (yes q) = ap₂ add (only_here s d i q) (only_here s e i q) ∙ z
          go (no q) = ap₂ add (only_elsewhere s d i q) (only_elsewhere s e i q) ∙ add-zero 0 ∙ norm_zero F

      -- The key is the same both ways, so that what cancels, cancels under it.
      cancel_key : (d e : ℕ) → add d e ≡ 0 → add (mul key d) (mul key' e) ≡ 0
      cancel_key d e z =
          ap (λ (k : ℕ). add (mul key d) (mul k e)) same_whole_key
          ∙ sym (mul-add _ d e)
          ∙ ap (mul _) z
          ∙ mul_zero F _

      -- A difference of a shared number and of its MAC is taken back.
      cancel_moved : (i d e : ℕ) → add d e ≡ 0 → Cancel F (moved_by i d) (moved O n c h x' x matched i e)
      unfolding moved
      cancel_moved i d e z = cancel_then (cancel_only h d e i z) (cancel_then (cancel_only h _ _ i (cancel_key d e z)) cancel_none)

      -- The differences of an input, and of a value, cancel.
      cancel_input : (j : ℕ) → add (by_input j) (back_input j) ≡ 0
      unfolding input_move
      cancel_input j = sub_flip F _ _

      cancel_value : (y : ℕ) → add (by_value y) (back_value y) ≡ 0
      unfolding value_move
      cancel_value y = sub_flip F _ _

      -- A sum that has moved comes back.
      sum_back : (j k y : ℕ) → sums' j k ≡ add (sums j k) (by_value y)
          → add (sums' j k) (back_value y) ≡ sums j k
      sum_back j k y e =
          ap (λ (s : ℕ). add s (back_value y)) e
          ∙ add_assoc _ _ _
          ∙ ap (add _) (cancel_value y)
          ∙ add-zero _
          ∙ (unfold share_sum in norm_sum F n _)

      -- The differences of a product cancel.
      cancel_product : (j k y z : ℕ) → MovedTriple j k y z
          → add (by_product j k y z)
          (product_move O n c h x' x matched j k (back_value y) (back_value z))
          ≡ 0
      unfolding product_move
      cancel_product j k y z m =
          ap (add _)
          (ap₂ sub (ap₂ mul (sum_back j a_at y m.at_a.shares) (sum_back j (b_at k) z m.at_b.shares))
          (ap₂ mul m.at_a.shares m.at_b.shares))
          ∙ sub_flip F _ _

      -- The differences of the masks of a product cancel.
      cancel_masks : (i y z k : ℕ) → Cancel F (masks_by i y z k) (mask_move O n c h x' x matched i y z k)
      unfolding mask_move
      cancel_masks i y z k =
          by_cases (eqb k 2)
          (λ e. rw e (cancel_append F (cancel_moved i _ _ (cancel_value y)) (cancel_moved i _ _ (cancel_value z))))
          (λ e. rw e (cancel_moved i _ _ (cancel_value y)))

      -- The differences of a mask's record cancel.
      cancel_mask : (i o d e : ℕ) → add d e ≡ 0 → Cancel F (mask_by i o d) (mask_record_move O n c h x' x matched i o e)
      unfolding mask_record_move
      cancel_mask i o d e z = cancel_append F (cancel_moved i d e z) (cancel_then (cancel_only o d e i z) cancel_none)

      -- The differences of a gate's record cancel ..
      cancel_record : (i j : ℕ) (k : Class) → class j ≡ k → j < gates c → Cancel F (record_by i j k) (back_record i j k)
      unfolding record_move
      cancel_record i j Local e lj = cancel_none
      cancel_record i j Owned e lj = cancel_mask i _ _ _ (cancel_input j)
      cancel_record i j Opens e lj =
          cancel_append F (cancel_masks i _ _ _) (cancel_moved i _ _ (cancel_product j _ _ _ (moved_triple j e lj h_lt)))
      cancel_record i j Output e lj =
          by_cases (is_give (gate c j)) (λ g. rw g (cancel_mask i _ _ _ (cancel_value (gate c j).first))) (λ g. rw g cancel_none)

      -- .. and so do all of a party's.
      cancel_prep : (i r : ℕ) → r ≤ gates c → Cancel F (prep_by i r) (prep_move O n c h x' x matched i r)
      unfolding prep_move
      cancel_prep i zero l = cancel_then (add-zero 0 ∙ norm_zero F) cancel_none
      cancel_prep i (suc r) l = cancel_append F (cancel_prep i r (omega arith)) (cancel_record i r (class r) refl (omega arith))

      -- With the inputs exchanged, the matching leads back.
      pub matched_back : match O n c h x' x matched ≡ preps
      unfolding match
      matched_back =
          add_cancel F preps (elements_of F preps good.elements)
          (cancel_joined F n _ _ (λ i l. cancel_prep i (gates c) (omega arith)))
