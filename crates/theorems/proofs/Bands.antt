-- Lists joined in party order and taken apart again, and lists added number by number.
-- Assumes nothing.
use Prim.Native.Nat.{ℕ, zero, suc, ◌*◌, ◌<◌}
use mathlib.Core.Path.{◌≡◌, refl, sym, ap, ap₂, ◌∙◌}
use mathlib.Core.List.{List, [], ◌∷◌, ◌++◌}
use native.Mathlib.Omega.{arith}
use lib.ListN.{length, get_or, take, drop}
use Rattle.algebra.specs.Ops.{Ops}
use Rattle.algebra.specs.Field.{Field}
use Rattle.algebra.proofs.Ring.{norm_zero, add_lt}
use Rattle.protocol.specs.Scratch.{band}
use Rattle.protocol.specs.Joint.{joined}
use Rattle.protocol.specs.Holding.{Below}
use Rattle.protocol.proofs.Said.{below_of, below_part}
use Rattle.theorems.specs.Matching.{add_lists}

module _ {O : Ops} (F : Field O) where
  open O use {size, add}
  open F use {one_lt, norm_of_lt, add_assoc, add-zero}

  -- Adding nothing changes nothing.
  pub add_lists_none : (xs : List ℕ) → add_lists O xs [] ≡ xs
  unfolding add_lists
  add_lists_none [] = refl
  add_lists_none (x ∷ xs) = refl

  -- The first list gives the length.
  pub length_add_lists : (xs ys : List ℕ) → length (add_lists O xs ys) ≡ length xs
  unfolding add_lists
  length_add_lists [] ys = refl
  length_add_lists (x ∷ xs) [] = refl
  length_add_lists (x ∷ xs) (y ∷ ys) = ap suc (length_add_lists xs ys)

  -- Of two lists of one length the numbers are added one by one.
  pub get_d_add_lists : (xs ys : List ℕ) → length xs ≡ length ys → (k : ℕ) → get_or (add_lists O xs ys) k 0 ≡ add (get_or xs k 0) (get_or ys k 0)
  unfolding add_lists
  get_d_add_lists [] [] e k = sym (add-zero 0 ∙ norm_zero F)
  get_d_add_lists [] (y ∷ ys) e k = absurd (omega arith)
  get_d_add_lists (x ∷ xs) [] e k = absurd (omega arith)
  get_d_add_lists (x ∷ xs) (y ∷ ys) e zero = refl
  get_d_add_lists (x ∷ xs) (y ∷ ys) e (suc k) = get_d_add_lists xs ys (omega arith) k

  -- The first numbers of two lists added are those of the two, added.
  take_add_lists : (k : ℕ) (xs ys : List ℕ) → take k (add_lists O xs ys) ≡ add_lists O (take k xs) (take k ys)
  unfolding add_lists
  take_add_lists zero xs ys = refl
  take_add_lists (suc k) [] ys = refl
  take_add_lists (suc k) (x ∷ xs) [] = refl
  take_add_lists (suc k) (x ∷ xs) (y ∷ ys) = ap {B = List ℕ} (λ (zs : List ℕ). add x y ∷ zs) (take_add_lists k xs ys)

  -- The rests of two lists added are the rest of the two added.
  pub drop_add_lists : (k : ℕ) (xs ys : List ℕ) → drop k (add_lists O xs ys) ≡ add_lists O (drop k xs) (drop k ys)
  unfolding add_lists
  drop_add_lists zero xs ys = refl
  drop_add_lists (suc k) [] ys = refl
  drop_add_lists (suc k) (x ∷ xs) [] = sym (add_lists_none (drop k xs))
  drop_add_lists (suc k) (x ∷ xs) (y ∷ ys) = drop_add_lists k xs ys

  -- A party's parts of two lists added are its part of the two added.
  pub band_add_lists : (k : ℕ) (xs ys : List ℕ) (i : ℕ) → band k (add_lists O xs ys) i ≡ add_lists O (band k xs i) (band k ys i)
  unfolding band
  band_add_lists k xs ys i =
      ap (take k) (drop_add_lists (i * k) xs ys) ∙ take_add_lists k (drop (i * k) xs) (drop (i * k) ys)

  -- All numbers of a list are elements. Past its end stand zeros, which are elements too.
  abbrev pub Elements : List ℕ → Type 0
  Elements xs = Below size xs

  -- It is enough to look at the numbers in the list.
  pub elements_of : (xs : List ℕ) → ((k : ℕ) → k < length xs → get_or xs k 0 < size) → Elements xs
  elements_of xs e = below_of xs (omega (arith, one_lt)) e

  -- A party's numbers are elements where all are.
  pub elements_band : (k : ℕ) (xs : List ℕ) (i : ℕ) → Elements xs → Elements (band k xs i)
  unfolding band
  elements_band k xs i e = below_part xs k (i * k) e

  -- With numbers added one by one to a list as long, every number is an element.
  pub elements_add_lists : (xs ys : List ℕ) → length xs ≡ length ys → Elements (add_lists O xs ys)
  elements_add_lists xs ys e k = rw (get_d_add_lists xs ys e k) (add_lt F (get_or xs k 0) (get_or ys k 0))

  -- Every number of the list is zero.
  pub data Zeros : List ℕ → Type 0 where
    no_more : Zeros []
    zero_then : {d : ℕ} {ds : List ℕ} → d ≡ 0 → Zeros ds → Zeros (d ∷ ds)

  -- Zeros followed by zeros are zeros.
  pub zeros_append : {ds es : List ℕ} → Zeros ds → Zeros es → Zeros (ds ++ es)
  zeros_append no_more q = q
  zeros_append (zero_then z p) q = zero_then z (zeros_append p q)

  -- Zeros added to elements change nothing.
  pub add_zeros : (xs : List ℕ) {ds : List ℕ} → Elements xs → Zeros ds → add_lists O xs ds ≡ xs
  unfolding add_lists
  add_zeros [] es z = refl
  add_zeros (x ∷ xs) es no_more = refl
  add_zeros (x ∷ xs) es (zero_then z p) =
      ap₂ {C = List ℕ} (λ (a : ℕ) (b : List ℕ). a ∷ b) (ap (add x) z ∙ add-zero x ∙ norm_of_lt (es 0))
      (add_zeros xs (λ k. es (suc k)) p)

  -- Two lists of one length whose numbers cancel one by one.
  pub data Cancel : List ℕ → List ℕ → Type 0 where
    cancel_none : Cancel [] []
    cancel_then : {d e : ℕ} {ds es : List ℕ} → add d e ≡ 0 → Cancel ds es → Cancel (d ∷ ds) (e ∷ es)

  -- Cancelling lists one after the other cancel.
  pub cancel_append : {ds es us vs : List ℕ} → Cancel ds es → Cancel us vs → Cancel (ds ++ us) (es ++ vs)
  cancel_append cancel_none q = q
  cancel_append (cancel_then z p) q = cancel_then z (cancel_append p q)

  -- Cancelling lists, one a party, make up cancelling lists.
  pub cancel_joined : (n : ℕ) (f g : ℕ → List ℕ) → ((i : ℕ) → i < n → Cancel (f i) (g i)) → Cancel (joined n f) (joined n g)
  unfolding joined
  cancel_joined zero f g e = cancel_none
  cancel_joined (suc n) f g e = cancel_append (cancel_joined n f g (λ i l. e i (omega arith))) (e n (omega arith))

  -- Of two lists that cancel, the second takes back what the first added to elements.
  pub add_cancel : (xs : List ℕ) {ds es : List ℕ} → Elements xs → Cancel ds es → add_lists O (add_lists O xs ds) es ≡ xs
  unfolding add_lists
  add_cancel [] els c = refl
  add_cancel (x ∷ xs) els cancel_none = refl
  add_cancel (x ∷ xs) els (cancel_then {d} {e} z p) =
      ap₂ {C = List ℕ} (λ (a : ℕ) (b : List ℕ). a ∷ b)
      (add_assoc x d e ∙ ap (add x) z ∙ add-zero x ∙ norm_of_lt (els 0))
      (add_cancel xs (λ k. els (suc k)) p)
