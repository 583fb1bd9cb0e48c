-- A list in which each party has its part, while each in turn is lent it.
-- Assumes nothing.
use Prim.Native.Nat.{ℕ, ◌+◌, ◌-◌, ◌*◌, ◌<◌, ◌≤◌}
use mathlib.Core.Path.{◌≡◌, refl, sym, ap, ◌∙◌}
use mathlib.Core.List.{List, [], ◌∷◌, ◌++◌, append_assoc, append-nil}
use native.Mathlib.Decide.{ℕ_discrete}
use native.Mathlib.Nat.{add-sub_cancel_left, suc-mul}
use native.Mathlib.Numerals.{add-one}
use native.Mathlib.Omega.{arith}
use lib.ListN.{length, get_or, set, length-set, drop_of_length-le, take, drop, length-drop, length-append, take-append-drop}
use lib.Seq.{length-take-le, take_at, drop_at, drop-drop, drop-cons}
use borrow.Rule.Slice.PartMut.{put_mid, same_len_mid}
use denote.Ref.{MutBor}
use denote.Param.Members.{Shared}
use Rattle.std.specs.Fork.{ChangesAt}
use Rattle.protocol.specs.Scratch.{band}
use Rattle.protocol.specs.Joint.{joined}
use Rattle.protocol.proofs.Words.{length_band, joined_ext}
use Rattle.protocol.proofs.Filling.{Filled}
use Rattle.protocol.proofs.Gathering.{each_set}
use Rattle.protocol.specs.Send.{overwrite}
use Rattle.protocol.proofs.Bands.{band_end, band_front, joined_bands}
use Rattle.joint.specs.Parts.{PartsLeft, WordsGiven}

-- the part from number a on is put back as ys
module _ (k i : ℕ) (xs ys : List ℕ) (fits : i * k + k ≤ length xs) (long : length ys ≡ k) where
  abbrev pub put : List ℕ
  put = put_mid (i * k) k xs ys

  front : length (take (i * k) xs) ≡ i * k
  front = length-take-le (i * k) xs (omega arith)

  both : length (take (i * k) xs ++ ys) ≡ i * k + k
  both = rw (length-append, front, long)

  split : take (i * k) xs ++ drop (i * k) xs ≡ xs
  split = take-append-drop (i * k) xs

  pub put_before : (j : ℕ) → j < i → band k put j ≡ band k xs j
  put_before j h =
      band_front k i (take (i * k) xs) (ys ++ drop k (drop (i * k) xs)) front j h
      ∙ sym (band_front k i (take (i * k) xs) (drop (i * k) xs) front j h)
      ∙ ap (λ (z : List ℕ). band k z j) split

  pub put_here : band k put i ≡ ys
  unfolding band
  put_here = rw (drop_at (take (i * k) xs) (ys ++ drop k (drop (i * k) xs)) (i * k) front) (take_at ys (drop k (drop (i * k) xs)) k long)

  pub put_after : drop (i * k + k) put ≡ drop (i * k + k) xs
  put_after =
      ap (drop (i * k + k)) (sym (append_assoc (take (i * k) xs) ys (drop k (drop (i * k) xs))))
      ∙ drop_at (take (i * k) xs ++ ys) (drop k (drop (i * k) xs)) (i * k + k) both
      ∙ drop-drop k (i * k) xs

-- and is as long
pub part_long : (a k : ℕ) (xs ys : List ℕ) → a + k ≤ length xs → length ys ≡ length (take (a + k - a) (drop a xs)) → length ys ≡ k
part_long a k xs ys fits e = e ∙ rw (add-sub_cancel_left a k) (length-take-le k (drop a xs) (simp length-drop (omega arith)))

module _ {F : Type 0} (g : Shared F (ℕ × (MutBor (List ℕ) × Unit {0})) (Unit {0} × (MutBor (List ℕ) × Unit {0}))) (f : F) (k : ℕ) (l₀ : List ℕ) where
  -- the parts before party i's are done
  pub record PartsDone (l : List ℕ) (i : ℕ) : Type 0 where
    pub each : (j : ℕ) → j < i → ChangesAt g f j (band k l₀ j) (band k l j)
    pub rest : drop (i * k) l ≡ drop (i * k) l₀
    pub long : length l ≡ length l₀

  pub parts_start : PartsDone l₀ 0
  parts_start = record { each = λ j h. absurd (omega arith); rest = refl; long = refl }

  module _ {l : List ℕ} {i : ℕ} (d : PartsDone l i) where
    pub parts_fit : (n : ℕ) → n * k ≤ length l₀ → i < n → i * k + k ≤ length l
    parts_fit n room h = omega (arith, band_end n k i h, d.long)

    -- the next part is as it was
    pub part_kept : take (i * k + k - i * k) (drop (i * k) l) ≡ band k l₀ i
    unfolding band
    part_kept = rw (add-sub_cancel_left (i * k) k) (ap (take k) d.rest)

    pub parts_again : {ys : List ℕ} → i * k + k ≤ length l → length ys ≡ k → ChangesAt g f i (band k l₀ i) ys → PartsDone (put_mid (i * k) (i * k + k - i * k) l ys) (i + 1)
    parts_again {ys} fits long here =
        rw (add-sub_cancel_left (i * k) k)
        record {
          each = λ j h. go j h (ℕ_discrete j i);
          rest = rw (add-one, suc-mul i k) (put_after k i l ys fits long ∙ sym (drop-drop k (i * k) l) ∙ ap (drop k) d.rest ∙ drop-drop k (i * k) l₀);
          long = same_len_mid (i * k) k l ys (long ∙ sym (length-take-le k (drop (i * k) l) (simp length-drop (omega arith)))) ∙ d.long;
        }
      where
        go : (j : ℕ) → j < i + 1 → Dec (j ≡ i) → ChangesAt g f j (band k l₀ j) (band k (put_mid (i * k) k l ys) j)
        go j h (yes e) = rw (e, put_here k i l ys fits long) here
        go j h (no e) = rw (put_before k i l ys fits long j (omega arith)) (d.each j (omega arith))

    pub parts_done : (n : ℕ) → n ≤ i → i ≤ n → PartsLeft g f n k l₀ l
    parts_done n h h' = let e : n ≡ i = omega arith in record { each = λ j q. d.each j (omega arith); excess = rw e d.rest; long = d.long }

module _ {F : Type 0} {g : Shared F (ℕ × (MutBor (List ℕ) × Unit {0})) (Unit {0} × (MutBor (List ℕ) × Unit {0}))} {f : F} {n k : ℕ} {l l' : List ℕ} (d : PartsLeft g f n k l l') where
  -- where a call leaves G i of party i's part, the parts are those
  pub parts_joined : n * k ≤ length l → (G : ℕ → List ℕ)
      → ((i : ℕ) → i < n → (p q : MutBor (List ℕ)) → p.now ≡ band k l i → g.post f (i, (p, tt)) (tt, (q, tt)) → q.now ≡ G i)
      → l' ≡ joined n G ++ drop (n * k) l
  parts_joined room G h =
      sym (joined_bands n k l' (omega (arith, d.long)))
      ∙ ap (λ (z : List ℕ). joined n (band k l') ++ z) d.excess
      ∙ ap (λ (z : List ℕ). z ++ drop (n * k) l)
      (joined_ext n (band k l') G (λ i q. let w = d.each i q in sym w.left ∙ h i q w.argument w.after_call w.argument_is w.call))

module _ {F : Type 0} (g : Shared F (ℕ × Unit {0}) ℕ) (f : F) (l₀ : List ℕ) where
  -- the words before party i's are given
  pub record WordsDone (l : List ℕ) (i : ℕ) : Type 0 where
    pub each : (j : ℕ) → j < i → g.post f (j, tt) (get_or l j 0)
    pub long : length l ≡ length l₀

  pub words_start : WordsDone l₀ 0
  words_start = record { each = λ j h. absurd (omega arith); long = refl }

  module _ {l : List ℕ} {i : ℕ} (d : WordsDone l i) where
    pub words_again : {x : ℕ} → i < length l → g.post f (i, tt) x → WordsDone (set l i x) (i + 1)
    words_again {x} h here =
        record {
          each = each_set 0 (λ j y. g.post f (j, tt) y) l i x h d.each here;
          long = length-set l i x ∙ d.long;
        }

    pub words_done : length l₀ ≤ i → WordsGiven g f l₀ l
    words_done h = record { each = λ j q. d.each j (omega arith); long = d.long }

one_band : (l : List ℕ) (i : ℕ) → i < length l → band 1 l i ≡ get_or l i 0 ∷ []
unfolding band
one_band l i h = let z : i * 1 ≡ i = omega arith in rw (z, drop-cons l i 0 h)

-- a list of n words w i
words_of : (n : ℕ) (w : ℕ → ℕ) (l : List ℕ) → length l ≡ n → ((i : ℕ) → i < n → get_or l i 0 ≡ w i) → l ≡ joined n (λ i. w i ∷ [])
words_of n w l long h =
    sym (joined_bands n 1 l (omega (arith, long)))
    ∙ ap (λ (z : List ℕ). joined n (band 1 l) ++ z) (drop_of_length-le l {i = n * 1} (omega (arith, long)))
    ∙ append-nil (joined n (band 1 l))
    ∙ joined_ext n (band 1 l) (λ i. w i ∷ []) one
  where
    one : (i : ℕ) → i < n → band 1 l i ≡ w i ∷ []
    one i q = one_band l i (omega (arith, long)) ∙ ap (λ (x : ℕ). x ∷ []) (h i q)

module _ {F : Type 0} {g : Shared F (ℕ × Unit {0}) ℕ} {f : F} {l l' : List ℕ} (d : WordsGiven g f l l') where
  -- where party i gives w i, the words are those
  pub words_joined : (n : ℕ) → length l ≡ n → (w : ℕ → ℕ) → ((i : ℕ) → i < n → (x : ℕ) → g.post f (i, tt) x → x ≡ w i) → l' ≡ joined n (λ i. w i ∷ [])
  words_joined n long w h =
      words_of n w l' (d.long ∙ long) (λ i q. h i q (get_or l' i 0) (d.each i (omega (arith, long))))

-- words that fill a part
pub fills : (n k : ℕ) (l : List ℕ) → length l ≡ n * k → (i : ℕ) → i < n → {xs : List ℕ} → xs ≡ band k l i → {ws ys : List ℕ} → length ws ≡ k → ys ≡ overwrite ws xs → ys ≡ ws
unfolding overwrite
fills n k l e i h {xs} b {ws} long d =
    d
    ∙ ap (λ (zs : List ℕ). ws ++ zs) (drop_of_length-le xs {i = length ws} (omega (arith, ap length b, length_band k n l (omega (arith, e)) i h, long)))
    ∙ append-nil ws

module _ {F : Type 0} {g : Shared F (ℕ × (MutBor (List ℕ) × Unit {0})) (Unit {0} × (MutBor (List ℕ) × Unit {0}))} {f : F} {n k : ℕ} {l l' : List ℕ} (d : PartsLeft g f n k l l') where
  -- where the parts are all of the list
  pub parts_all : length l ≡ n * k → (G : ℕ → List ℕ)
      → ((i : ℕ) → i < n → (p q : MutBor (List ℕ)) → p.now ≡ band k l i → g.post f (i, (p, tt)) (tt, (q, tt)) → q.now ≡ G i)
      → l' ≡ joined n G
  parts_all e G h =
      parts_joined d (omega (arith, e)) G h
      ∙ ap (λ (zs : List ℕ). joined n G ++ zs) (drop_of_length-le l {i = n * k} (omega (arith, e)))
      ∙ append-nil (joined n G)

-- a list of parts that is filled up to party i's is so up to where it starts
pub filled_to : {n k : ℕ} {F : ℕ → List ℕ} {xs₀ xs : List ℕ} {i a : ℕ} → Filled n k F xs₀ xs i a → Filled n k F xs₀ xs i (i * k)
filled_to inv = record { upto = inv.upto; place = refl; are = inv.are }
