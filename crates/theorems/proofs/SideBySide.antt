-- Two runs in closed form, on two sets of inputs and on matched preprocessing: at every party but h the parts of every wire are the same,
-- what is opened is the same, and so party h sends the same words, since all words together have the same sum.
-- Assumes nothing.
use Prim.Native.Nat.{ℕ, ◌<◌, ◌≤◌}
use mathlib.Core.Path.{◌≡◌, refl, sym, ap, ap₂, ◌∙◌}
use mathlib.Core.Logic.{◌≢◌}
use mathlib.Core.Bool.{Bool, true, false}
use mathlib.Core.List.{List}
use native.Mathlib.Decide.{ℕ_discrete}
use native.Mathlib.Omega.{arith}
use lib.ListN.{length, get_or}
use Rattle.algebra.specs.Ops.{Ops}
use Rattle.algebra.specs.Field.{Field}
use Rattle.algebra.specs.Sum.{sum}
use Rattle.algebra.proofs.Ring.{norm_zero, norm_sub, sub_moved}
use Rattle.algebra.proofs.Sums.{sum_ext, sum_pin}
use Rattle.circuit.specs.Gate.{gate, gates}
use Rattle.circuit.specs.Kind.{Class, Local, Owned, Opens, Output, shape, is_give, factor}
use Rattle.circuit.proofs.Tests.{by_cases}
use Rattle.circuit.proofs.KindLaws.{give_second}
use Rattle.circuit.proofs.Gates.{second_fits, owner_named, local_named, output_named, opens_named, factor_named}
use Rattle.circuit.specs.Valid.{Valid, Ref}
use Rattle.protocol.specs.Part.{Part, plus, minus, shift, product}
use Rattle.protocol.specs.Party.{key, record_of, input_of, mask_at, whole_mask_at, a_at, b_at, c_at}
use Rattle.protocol.specs.Joint.{Joint, party}
use Rattle.protocol.specs.Plain.{plain_input, values, value, score_of, scores_seen}
use Rattle.protocol.specs.Good.{Good, record_at, share_sum}
use Rattle.theorems.specs.Matching.{plainly, input_move, value_move, match}
use Rattle.theorems.proofs.Course.{strong}
use Rattle.theorems.proofs.Given.{Given}
use Rattle.theorems.proofs.KindValues.{local_computes, local_second}
use Rattle.theorems.proofs.Closed.{Opening, Masked, Shown, shows, openings, Every, every_at, Both, every_opening, keys, prepared, owner_word, masked, sum_of, multiplied, wire_by, wires, opened, opened_value, wires_are, CarriesOpened, carries_differences, carries_shown, check_zero}
use Rattle.theorems.proofs.Matching.{Moved, MovedMask, MovedTriple, same_key, moved_mask, moved_give, moved_triple}

-- a joint run of n parties
abbrev pub run_with : ℕ → List ℕ → List ℕ → List ℕ → List ℕ → List ℕ → Joint
run_with n c preps inputs coefficients nonces =
    record { parties = n; circuit = c; preps = preps; inputs = inputs; coefficients = coefficients; nonces = nonces }

-- two rows of parts, one part a party, that are the same at every party but h
abbrev pub Beside : ℕ → ℕ → (ℕ → Part) → (ℕ → Part) → Type 0
Beside n h w w' = (i : ℕ) → i < n → i ≢ h → w' i ≡ w i

-- A value on plain inputs depends on the circuit and the inputs alone.
pub plain_value : (O : Ops) (n : ℕ) (c m x co ns : List ℕ) (j : ℕ) → value O (run_with n c m x co ns) j ≡ value O (plainly n c x) j
unfolding value values plain_input plainly input_of party
plain_value O n c m x co ns j = refl

-- So do the scores.
pub plain_scores : (O : Ops) (n : ℕ) (c m x co ns : List ℕ) (A : ℕ → Bool) (j : ℕ) → scores_seen O (run_with n c m x co ns) A j ≡ scores_seen O (plainly n c x) A j
unfolding scores_seen score_of value values plain_input plainly input_of party
plain_scores O n c m x co ns A j = refl

-- party i's check share of what is opened in os, with coefficients r
abbrev pub sigma : Ops → Joint → List Opening → (ℕ → ℕ) → ℕ → ℕ
sigma O J os r i =
    O.sub (sum O (length os) (λ t. O.mul (r t) (opened O J (get_or os t (Shown 0)) i).mac))
    (O.mul (keys O J i) (sum O (length os) (λ t. O.mul (r t) (sum_of O J (opened O J (get_or os t (Shown 0)))))))

-- The check shares of all parties sum to zero where what is opened carries its value.
sigma_sum : {O : Ops} (F : Field O) (J : Joint) (has : Given O J) (os : List Opening) (r : ℕ → ℕ)
    → ((t : ℕ) → t < length os → CarriesOpened F J has (get_or os t (Shown 0)))
    → sum O J.parties (sigma O J os r) ≡ 0
unfolding sum_of
sigma_sum {O} F J has os r carries =
    check_zero F J.parties (length os) (keys O J) r _ (λ t i. (opened O J (get_or os t (Shown 0)) i).mac)
    (λ t lt. (carries t lt).macs ∙ ap (O.mul _) (sym (carries t lt).shares))

-- n parties run circuit c twice with coefficients co and nonces ns: on inputs x with good preprocessing m, and on x' with its match, in which party h
-- carries the differences
pub record Pair {O : Ops} (F : Field O) : Type 0 where
  pub n : ℕ
  pub c : List ℕ
  pub h : ℕ
  pub x : List ℕ
  pub x' : List ℕ
  pub m : List ℕ
  pub co : List ℕ
  pub ns : List ℕ
  pub h_lt : h < n
  pub good : Good O n c m
  pub has : Given O (run_with n c m x co ns)
  pub has' : Given O (run_with n c (match O n c h x x' m) x' co ns)
  -- the values that out gates name are equal
  pub outputs : (j : ℕ) → j < gates c → (shape (gate c j)).class ≡ Output → is_give (gate c j) ≡ false
      → value O (plainly n c x') (gate c j).first ≡ value O (plainly n c x) (gate c j).first

module _ {O : Ops} {F : Field O} (P : Pair F) where
  open P use {n, c, h, x, x', m, co, ns, h_lt, good, has, has', outputs}
  open O use {norm, add, sub, mul}
  open F use {norm_add}

  -- the two runs
  abbrev pub J : Joint
  J = run_with n c m x co ns

  abbrev pub J' : Joint
  J' = run_with n c (match O n c h x x' m) x' co ns

  -- The key shares are the same.
  pub same_keys : (i : ℕ) → i < n → keys O J' i ≡ keys O J i
  unfolding keys key party
  same_keys i l = same_key F n c h x x' m good i l

  -- What has moved is the same at every party but h ..
  beside_prepared : (j k d : ℕ) → Moved F n c h x x' m good j k d → Beside n h (prepared O J j k) (prepared O J' j k)
  unfolding prepared record_of party record_at
  beside_prepared j k d v i l ne = v.kept i l ne

  -- .. and its sum moves.
  sum_prepared : (j k d : ℕ) → Moved F n c h x x' m good j k d → sum_of O J' (prepared O J' j k) ≡ add (sum_of O J (prepared O J j k)) d
  unfolding prepared record_of party record_at sum_of share_sum
  sum_prepared j k d v = v.shares

  -- The mask of an in gate, that of a give, and the triple of a product have moved.
  mask_moves : (j : ℕ) → j < gates c → (shape (gate c j)).class ≡ Owned → MovedMask F n c h x x' m good j (gate c j).first (input_move O n c h x x' j)
  mask_moves j l e = moved_mask F n c h x x' m good j e l h_lt (owner_named has.valid j l e)

  give_moves : (j : ℕ) → j < gates c → is_give (gate c j) ≡ true
      → MovedMask F n c h x x' m good j (gate c j).second (value_move O n c h x x' (gate c j).first)
  give_moves j l g = moved_give F n c h x x' m good j g l h_lt (second_fits has.valid j l (give_second (gate c j) g))

  triple_moves : (j : ℕ) → j < gates c → (shape (gate c j)).class ≡ Opens
      → MovedTriple F n c h x x' m good j (shape (gate c j)).openings (gate c j).first (factor (gate c j))
  triple_moves j l e = moved_triple F n c h x x' m good j e l h_lt

  -- The owner of an in gate sends the same word.
  pub same_owner : (j : ℕ) → j < gates c → (shape (gate c j)).class ≡ Owned → owner_word O J' j (gate c j).first ≡ owner_word O J j (gate c j).first
  unfolding owner_word record_of party record_at input_move
  same_owner j l e =
      ap₂ sub (sym (own x' (match O n c h x x' m))) (mask_moves j l e).whole
      ∙ sub_moved F (plain_input O (plainly n c x) j) (plain_input O (plainly n c x') j) _
      ∙ ap (λ (u : ℕ). sub u (get_or (record_of (party J (gate c j).first) j) whole_mask_at 0)) (own x m)
    where
      own : (x m : List ℕ) → plain_input O (plainly n c x) j ≡ input_of (party (run_with n c m x co ns) (gate c j).first) j
      own x m = unfold plain_input plainly input_of party in refl

  -- What hides a value moves with it, so that what is opened is the same.
  same_masked : (j y k : ℕ) → Moved F n c h x x' m good j k (value_move O n c h x x' y)
      → opened_value O J' (Masked j y k) ≡ opened_value O J (Masked j y k)
  unfolding opened_value value_move
  same_masked j y k v =
      ap₂ sub (plain_value O n c (match O n c h x x' m) x' co ns y) (sum_prepared j k _ v)
      ∙ sub_moved F (value O (plainly n c x) y) (value O (plainly n c x') y) _
      ∙ ap (λ (u : ℕ). sub u (sum_of O J (prepared O J j k))) (sym (plain_value O n c m x co ns y))

  -- what is opened carries its value in both runs, and the value is the same
  pub record SameValue (o : Opening) : Type 0 where
    pub carries : CarriesOpened F J has o
    pub carries' : CarriesOpened F J' has' o
    pub values : opened_value O J' o ≡ opened_value O J o

  -- What is heard is the same.
  pub same_sum : (o : Opening) → SameValue o → sum_of O J' (opened O J' o) ≡ sum_of O J (opened O J o)
  unfolding sum_of
  same_sum o s = s.carries'.shares ∙ s.values ∙ sym s.carries.shares

  -- The two differences of a product are the same.
  pub same_differences : (j : ℕ) → j < gates c → (shape (gate c j)).class ≡ Opens → Both SameValue c j
  same_differences j l e =
      let moves = triple_moves j l e in
      let here = carries_differences F J has j l e in
      let there = carries_differences F J' has' j l e in (
        record { carries = here.0; carries' = there.0; values = same_masked j _ a_at moves.at_a },
        record { carries = here.1; carries' = there.1; values = same_masked j _ (b_at (shape (gate c j)).openings) moves.at_b },
      )

  -- A gate's parts are the same at every party but h where those are that it names.
  beside_gate : (j : ℕ) → j < gates c → (k : Class) → (shape (gate c j)).class ≡ k
      → ((y : ℕ) → Ref c j y → Beside n h (wires O J y) (wires O J' y))
      → Beside n h (wire_by O J j (wires O J) (gate c j) k) (wire_by O J' j (wires O J') (gate c j) k)
  unfolding wire_by
  beside_gate j l Local e earlier i li ne =
      let x = earlier (gate c j).first (local_named has.valid j l e) i li ne in
      let z = earlier (gate c j).second (local_second F has.valid j l e) i li ne in
      cc (same_keys i li, x, z)
  beside_gate j l Owned e earlier i li ne =
      cc (same_keys i li, same_owner j l e, beside_prepared j mask_at _ (mask_moves j l e).mask i li ne)
  beside_gate j l Opens e earlier i li ne =
      unfold multiplied in
      cc (
        same_keys i li,
        beside_prepared j a_at _ moves.at_a i li ne,
        beside_prepared j (b_at k) _ moves.at_b i li ne,
        beside_prepared j (c_at k) _ moves.at_c i li ne,
        heard.0,
        heard.1,
      )
    where
      k : ℕ
      k = (shape (gate c j)).openings

      moves : MovedTriple F n c h x x' m good j k (gate c j).first (factor (gate c j))
      moves = triple_moves j l e

      heard : (sum_of O J' (masked O J' (wires O J' (gate c j).first) j a_at) ≡ sum_of O J (masked O J (wires O J (gate c j).first) j a_at))
          × (sum_of O J' (masked O J' (wires O J' (factor (gate c j))) j (b_at k)) ≡ sum_of O J (masked O J (wires O J (factor (gate c j))) j (b_at k)))
      heard = let s = same_differences j l e in (unfold opened in same_sum _ s.0, unfold opened in same_sum _ s.1)
  beside_gate j l Output e earlier i li ne = refl

  -- Each wire's parts are the same at every party but h.
  pub beside : (j : ℕ) → j < gates c → Beside n h (wires O J j) (wires O J' j)
  beside =
      strong (λ j. j < gates c → Beside n h (wires O J j) (wires O J' j))
      (λ j earlier l.
      rw (wires_are O J F has.valid j l refl, wires_are O J' F has'.valid j l refl)
      (beside_gate j l (shape (gate c j)).class refl (λ y r. earlier y r.earlier (omega (arith, r.earlier)))))

  -- The shares of a gate are elements ..
  reduced_gate : (J : Joint) (j : ℕ) (w : ℕ → ℕ → Part) (k : Class) → (shape (gate J.circuit j)).class ≡ k
      → (i : ℕ)
      → norm (wire_by O J j w (gate J.circuit j) k i).share ≡ (wire_by O J j w (gate J.circuit j) k i).share
  unfolding wire_by multiplied plus shift product
  reduced_gate J j w Local e i = (local_computes F (gate J.circuit j) e).low _ _ _ _ _
  reduced_gate J j w Owned e i = norm_add _ _
  reduced_gate J j w Opens e i = norm_add _ _
  reduced_gate J j w Output e i = norm_zero F

  -- .. and so are those of every wire.
  reduced : (J : Joint) → Valid n O.size J.circuit → (j : ℕ) → j < gates J.circuit → (i : ℕ) → norm (wires O J j i).share ≡ (wires O J j i).share
  reduced J ok j l i = rw (wires_are O J F ok j l refl) (reduced_gate J j (wires O J) (shape (gate J.circuit j)).class refl i)

  -- what is opened is the same, at every party but h so are the parts, and all shares are elements
  pub record Agrees (o : Opening) : Type 0 where
    pub same : SameValue o
    pub others : Beside n h (opened O J o) (opened O J' o)
    pub low : norm (opened O J o h).share ≡ (opened O J o h).share
    pub low' : norm (opened O J' o h).share ≡ (opened O J' o h).share

  -- So every party sends the same.
  pub same_words : (o : Opening) → Agrees o → (i : ℕ) → i < n → (opened O J' o i).share ≡ (opened O J o i).share
  same_words o a i l = go (ℕ_discrete i h)
    where
      go : Dec (i ≡ h) → (opened O J' o i).share ≡ (opened O J o i).share
      go (yes q) =
          rw q
          (sym a.low'
          ∙ sum_pin F n h _ _ h_lt (λ k lk ne. ap (λ (p : Part). p.share) (a.others k lk ne)) (unfold sum_of in same_sum o a.same)
          ∙ a.low)
      go (no ne) = ap (λ (p : Part). p.share) (a.others i l ne)

  -- What is left of a wire once a mask that moves with it is taken away.
  agrees_masked : (j y k : ℕ) → j < gates c → Ref c j y → Moved F n c h x x' m good j k (value_move O n c h x x' y) → SameValue (Masked j y k)
      → Agrees (Masked j y k)
  unfolding opened masked minus
  agrees_masked j y k l r v s =
      record {
        same = s;
        others = λ i li ne. ap₂ (minus O) (beside y (omega (arith, r.earlier)) i li ne) (beside_prepared j k _ v i li ne);
        low = norm_sub F _ _;
        low' = norm_sub F _ _;
      }

  -- The two differences of a product.
  pub agrees_differences : (j : ℕ) → j < gates c → (shape (gate c j)).class ≡ Opens → Both Agrees c j
  agrees_differences j l e =
      let moves = triple_moves j l e in
      let same = same_differences j l e in (
        agrees_masked j _ a_at l (opens_named has.valid j l e) moves.at_a same.0,
        agrees_masked j _ (b_at (shape (gate c j)).openings) l (factor_named has.valid j l e) moves.at_b same.1,
      )

  -- A wire whose value is the same.
  agrees_wire : (y : ℕ) → y < gates c → SameValue (Shown y) → Agrees (Shown y)
  unfolding opened
  agrees_wire y l s =
      record { same = s; others = beside y l; low = reduced J has.valid y l h; low' = reduced J' has'.valid y l h }

  -- What an output shows: of an out gate a value that is the same, of a give a value behind a mask that moves with it.
  pub agrees_shown : (j : ℕ) → j < gates c → (shape (gate c j)).class ≡ Output → Agrees (shows j (gate c j))
  unfolding shows
  agrees_shown j l e =
      by_cases (is_give (gate c j))
      (λ g. rw g
      (let moves = (give_moves j l g).mask in
      agrees_masked j y mask_at l ref moves
      (record { carries = rw g at here; carries' = rw g at there; values = same_masked j y mask_at moves })))
      (λ g. rw g
      (agrees_wire y (omega (arith, ref.earlier))
      (record {
        carries = rw g at here;
        carries' = rw g at there;
        values =
            unfold opened_value in
            plain_value O n c (match O n c h x x' m) x' co ns y ∙ outputs j l e g ∙ sym (plain_value O n c m x co ns y);
      })))
    where
      y : ℕ
      y = (gate c j).first

      ref : Ref c j y
      ref = output_named has.valid j l e

      here : CarriesOpened F J has (shows j (gate c j))
      here = carries_shown F J has j l e

      there : CarriesOpened F J' has' (shows j (gate c j))
      there = carries_shown F J' has' j l e

  -- All that is opened and unchecked when a gate is reached.
  pub agrees_openings : (j : ℕ) → j ≤ gates c → Every Agrees (openings c j)
  agrees_openings = every_opening Agrees c (gates c) agrees_differences

  -- All check shares sum to zero in both runs, so party h's is the same too.
  pub same_check : (os : List Opening) → Every Agrees os → (r : ℕ → ℕ) (i : ℕ) → i < n → sigma O J' os r i ≡ sigma O J os r i
  same_check os all r i l = go (ℕ_discrete i h)
    where
      at : (t : ℕ) → t < length os → Agrees (get_or os t (Shown 0))
      at = every_at Agrees os all

      others : (i : ℕ) → i < n → i ≢ h → sigma O J' os r i ≡ sigma O J os r i
      others i l ne =
          ap₂ sub (sum_ext F (length os) _ _ (λ t lt. ap (λ (p : Part). mul (r t) p.mac) ((at t lt).others i l ne)))
          (ap₂ mul (same_keys i l) (sum_ext F (length os) _ _ (λ t lt. ap (mul (r t)) (same_sum _ (at t lt).same))))

      sums : sum O n (sigma O J' os r) ≡ sum O n (sigma O J os r)
      sums = sigma_sum F J' has' os r (λ t lt. (at t lt).same.carries') ∙ sym (sigma_sum F J has os r (λ t lt. (at t lt).same.carries))

      go : Dec (i ≡ h) → sigma O J' os r i ≡ sigma O J os r i
      go (yes q) = rw q (sym (norm_sub F _ _) ∙ sum_pin F n h (sigma O J' os r) (sigma O J os r) h_lt others sums ∙ norm_sub F _ _)
      go (no ne) = others i l ne
