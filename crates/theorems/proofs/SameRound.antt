-- One round of two runs side by side: where each party's scratch holds its parts of the closed form, every party sends the same words
-- and holds the same check share in both.
-- Assumes nothing.
use Prim.Native.Nat.{ℕ, ◌<◌}
use mathlib.Core.Path.{◌≡◌, sym, ap, ap₂, ◌∙◌}
use mathlib.Core.Bool.{cond}
use mathlib.Core.List.{List, [], ◌∷◌}
use native.Mathlib.Decide.{ℕ_discrete}
use lib.Dec.{eqb}
use lib.ListN.{length, get_or}
use borrow.Author.Tests.{ne_eqb}
use Rattle.algebra.specs.Ops.{Ops}
use Rattle.algebra.specs.Field.{Field}
use Rattle.algebra.proofs.Sums.{sum_ext}
use Rattle.circuit.specs.Gate.{gate, gates}
use Rattle.circuit.specs.Kind.{Owned, Opens, Output, shape, factor}
use Rattle.circuit.specs.Round.{Own, Open}
use Rattle.circuit.proofs.Tests.{by_cases}
use Rattle.circuit.proofs.Gates.{output_named, opens_named, factor_named}
use Rattle.protocol.specs.Part.{Part}
use Rattle.protocol.specs.Scratch.{layout}
use Rattle.protocol.specs.Party.{key, record_of, input_of, whole_mask_at, a_at, b_at}
use Rattle.protocol.specs.Send.{input_word, masked, check_share, opening, own_words, sent}
use Rattle.protocol.specs.Joint.{Joint, party}
use Rattle.theorems.proofs.Closed.{Opening, Every, keys, owner_word, opened}
use Rattle.theorems.proofs.Holds.{Holds, own_masked, own_showing}
use Rattle.theorems.proofs.Sent.{sent_class}
use Rattle.theorems.proofs.SideBySide.{Pair, J as run, J' as run', Agrees, same_owner, same_words, agrees_differences, agrees_shown, sigma, same_check}

-- A check share is that of the closed form.
check_is : {O : Ops} (F : Field O) (J : Joint) {i j : ℕ} {os : List Opening} {l : List ℕ} → Holds O J i j os l → (taken : List ℕ)
    → check_share O (layout J.circuit) l (length os) (key (party J i)) taken ≡ sigma O J os (λ t. get_or taken t 0) i
unfolding check_share keys
check_is {O} F J {i} {j} {os} p taken =
    ap₂ O.sub (sum_ext F (length os) _ _ (λ t lt. ap (O.mul (get_or taken t 0)) (p.macs t lt)))
    (ap (O.mul (key (party J i))) (sum_ext F (length os) _ _ (λ t lt. ap (O.mul (get_or taken t 0)) (p.values t lt))))

module _ {O : Ops} {F : Field O} (P : Pair F) where
  open P use {n, c, has}
  open O use {sub}

  -- the two runs

  abbrev J : Joint
  J = run P

  abbrev J' : Joint
  J' = run' P

  -- An in gate: its owner sends the same, and all others send 0.
  pub same_input : (j : ℕ) → j < gates c → (shape (gate c j)).class ≡ Owned → (l l' : List ℕ) (held held' i : ℕ) (co ns : List ℕ)
      → sent O (party J' i) l' j held' co ns Own ≡ sent O (party J i) l j held co ns Own
  same_input j lj e l l' held held' i co ns = sent_class O J' i l' j held' co ns e ∙ same ∙ sym (sent_class O J i l j held co ns e)
    where
      word : Joint → ℕ
      word J = sub (input_of (party J i) j) (get_or (record_of (party J i) j) whole_mask_at 0)

      go : Dec (i ≡ (gate c j).first)
          → ◌≡◌ {A = List ℕ} (cond (eqb i (gate c j).first) (word J') 0 ∷ []) (cond (eqb i (gate c j).first) (word J) 0 ∷ [])
      go (yes q) =
          rw q
          (ap {B = List ℕ} (λ (w : ℕ). cond (eqb (gate c j).first (gate c j).first) w 0 ∷ []) (unfold owner_word in same_owner P j lj e))
      go (no q) = rw (ne_eqb i (gate c j).first q)

      same : own_words O (party J' i) l' j Owned ≡ own_words O (party J i) l j Owned
      same = unfold own_words input_word party in go (ℕ_discrete i (gate c j).first)

  module _ (i : ℕ) (li : i < n) {j : ℕ} {os : List Opening} {l l' : List ℕ} (p : Holds O J i j os l) (p' : Holds O J' i j os l') where
    -- Where a party's two parts of what is opened are those of the closed form, it sends the same share of it.
    same_share : (o : Opening) → Agrees P o → {w w' : Part} → w ≡ opened O J o i → w' ≡ opened O J' o i → w'.share ≡ w.share
    same_share o a e e' =
        ap (λ (q : Part). q.share) e'
        ∙ same_words P o a i li
        ∙ sym (ap (λ (q : Part). q.share) e)

    -- A product: every party sends the same parts of what is opened.
    pub same_opening : j < gates c → (shape (gate c j)).class ≡ Opens → (held held' : ℕ) (co ns : List ℕ)
        → sent O (party J' i) l' j held' co ns Own ≡ sent O (party J i) l j held co ns Own
    same_opening lj e held held' co ns = sent_class O J' i l' j held' co ns e ∙ same ∙ sym (sent_class O J i l j held co ns e)
      where
        part : Joint → List ℕ → ℕ → ℕ → ℕ
        part J l x k = (masked O (layout c) l x (record_of (party J i) j) k).share

        first : part J' l' (gate c j).first a_at ≡ part J l (gate c j).first a_at
        first =
            let ref = opens_named has.valid j lj e in
            same_share _ (agrees_differences P j lj e).0 (own_masked O J _ p ref a_at) (own_masked O J' _ p' ref a_at)

        second : part J' l' (factor (gate c j)) (b_at (shape (gate c j)).openings) ≡ part J l (factor (gate c j)) (b_at (shape (gate c j)).openings)
        second =
            let ref = factor_named has.valid j lj e in
            let k = b_at (shape (gate c j)).openings in
            same_share _ (agrees_differences P j lj e).1 (own_masked O J _ p ref k) (own_masked O J' _ p' ref k)

        same : own_words O (party J' i) l' j Opens ≡ own_words O (party J i) l j Opens
        same =
            unfold own_words opening party in
            by_cases (eqb (shape (gate c j)).openings 2)
            (λ b. rw b (ap₂ {C = List ℕ} (λ (u v : ℕ). u ∷ v ∷ []) first second))
            (λ b. rw b (ap {B = List ℕ} (λ (u : ℕ). u ∷ []) first))

    -- An output: every party sends the same share of what is shown.
    pub same_shown : j < gates c → (shape (gate c j)).class ≡ Output → (held held' : ℕ) (co ns : List ℕ)
        → sent O (party J' i) l' j held' co ns Open ≡ sent O (party J i) l j held co ns Open
    unfolding sent party
    same_shown lj e held held' co ns =
        let ref = output_named has.valid j lj e in
        ap {B = List ℕ} (λ (u : ℕ). u ∷ []) (same_share _ (agrees_shown P j lj e) (own_showing O J p ref) (own_showing O J' p' ref))

    -- Every party holds the same check share.
    pub same_held : Every (Agrees P) os → (taken : List ℕ) (k : ℕ) → k ≡ length os
        → check_share O (layout c) l' k (key (party J' i)) taken ≡ check_share O (layout c) l k (key (party J i)) taken
    same_held all taken k e =
        rw e (check_is F J' p' taken ∙ same_check P os all (λ t. get_or taken t 0) i li ∙ sym (check_is F J p taken))
