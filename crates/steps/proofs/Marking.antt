-- Words written in the middle of a list, and the lowest party whose reveal does not fit its mark.
-- Assumes nothing.
use Prim.Native.Nat.{ℕ, zero, suc, ◌+◌, ◌-◌, ◌*◌, ◌<◌, ◌≤◌}
use mathlib.Core.Path.{◌≡◌, refl, sym, ap, ◌∙◌}
use mathlib.Core.Bool.{Bool, true, false}
use mathlib.Core.List.{List, [], ◌∷◌, ◌++◌, append-nil}
use native.Mathlib.Omega.{arith}
use native.Mathlib.Nat.{zero-add, suc-add}
use borrow.Author.Rules.{rules}
use Rattle.std.specs.Prelude.{Option, None, Some, MatchOption, is_some}
use lib.ListN.{length, get_or, take, drop, set, length-set, drop_of_length-le}
use lib.Seq.{drop-drop}
use lib.Dec.{eqb}
use borrow.Author.Tests.{eq-eqb, ne_eqb}
use borrow.Rule.Slice.PartMut.{mid_of, put_mid, mid_len, same_len_mid}
use Rattle.sha256.specs.Sha256.{words_of}
use Rattle.sha256.specs.Digest.{digest, same}
use Rattle.sha256.specs.Digest.Laws.{digest_long}
use Rattle.sha256.proofs.Bytes.{length_words}
use Rattle.circuit.specs.Round.{commit_words, nonce_size, nonce_words, reveal_words}
use Rattle.protocol.specs.Scratch.{Layout, band, written_at, nonce_at, marks_at, nonce_of, put_nonce, put_marks}
use Rattle.protocol.specs.Send.{revealed, mark, overwrite}
use Rattle.protocol.specs.Receive.{Blame, Nobody, Blames, Passed, Stopped, fits, misfit, weighs}
use Rattle.protocol.specs.Code.{blame_of}
use Rattle.protocol.proofs.Tails.{written_is, length_nonce}

-- as many words as a list has are the list that they are written over
pub over_whole : (ws zs : List ℕ) → length zs ≤ length ws → overwrite ws zs ≡ ws
unfolding overwrite
over_whole ws zs h = ap (λ (r : List ℕ). ws ++ r) (drop_of_length-le zs h) ∙ append-nil ws

-- words that fill a part of a list are written where the part begins
pub part_filled : (k e : ℕ) (ws xs : List ℕ) → e ≡ k + length ws → e ≤ length xs
    → {ys : List ℕ} → ys ≡ overwrite ws (mid_of k (e - k) xs) → put_mid k (e - k) xs ys ≡ written_at k ws xs
part_filled k e ws xs w h {ys} f =
    let n : e - k ≡ length ws = omega arith in
    let g : k + (e - k) ≡ k + length ws = omega arith in
    let whole : ys ≡ ws = f ∙ over_whole ws _ (omega (arith, mid_len k e xs h)) in
    rw (whole, drop-drop (e - k) k xs, g) (sym (written_is k ws xs (omega arith)))

-- the eight words of a nonce, in the nonce's part of a scratch
pub nonce_filled : (y : Layout) (nonce l : List ℕ) {k : ℕ} → k ≡ nonce_at y → length nonce ≡ nonce_size → marks_at y ≤ length l
    → {ys : List ℕ} → ys ≡ words_of nonce ++ drop nonce_words (mid_of k (k + nonce_words - k) l)
    → put_mid k (k + nonce_words - k) l ys ≡ put_nonce y l (words_of nonce)
unfolding put_nonce marks_at overwrite
nonce_filled y nonce l {k} e long room f =
    let n : length (words_of nonce) ≡ nonce_words = length_words nonce_words nonce long in
    part_filled k (k + nonce_words) (words_of nonce) l (omega arith) (omega arith)
    (f ∙ ap (λ (m : ℕ). words_of nonce ++ drop m (mid_of k (k + nonce_words - k) l)) (sym n))
    ∙ ap (λ (j : ℕ). written_at j (words_of nonce) l) e

-- the marks of all
pub marks_filled : (y : Layout) (heard l : List ℕ) {k : ℕ} → k ≡ marks_at y → marks_at y + length heard ≤ length l
    → {ys : List ℕ} → ys ≡ overwrite heard (mid_of k (k + length heard - k) l)
    → put_mid k (k + length heard - k) l ys ≡ put_marks y l heard
unfolding put_marks
marks_filled y heard l {k} e room f =
    part_filled k (k + length heard) heard l refl (omega arith) f ∙ ap (λ (j : ℕ). written_at j heard l) e

-- a number and as many words as there is room for behind it
number_before : (share : ℕ) (ws ys out : List ℕ) (n : ℕ) → length ws ≡ n → suc n ≤ length out → ys ≡ ws
    → put_mid 1 n (set out 0 share) ys ≡ overwrite (share ∷ ws) out
unfolding overwrite
number_before share ws ys [] n long h e = absurd (omega arith)
number_before share ws ys (x ∷ out) n long h e = rw (e, long)

pub length_behind : (share n : ℕ) (out ys : List ℕ) → length ys ≡ length (mid_of 1 n (set out 0 share)) → length (put_mid 1 n (set out 0 share) ys) ≡ length out
length_behind share n out ys e = same_len_mid 1 n (set out 0 share) ys e ∙ length-set out 0 share

module _ (share : ℕ) (y : Layout) (l : List ℕ) (room : marks_at y ≤ length l) where
  -- what a reveal sends, once it is written
  pub revealed_written : (out : List ℕ) {k : ℕ} → k ≡ nonce_at y → reveal_words ≤ length out
      → {ys : List ℕ}
      → ys ≡ mid_of k (k + nonce_words - k) l ++ drop (length (mid_of k (k + nonce_words - k) l)) (mid_of 1 (reveal_words - 1) (set out 0 share))
      → put_mid 1 (reveal_words - 1) (set out 0 share) ys ≡ overwrite (revealed share (nonce_of y l)) out
  unfolding nonce_of marks_at overwrite
  revealed_written out {k} e h f =
      let n : k + nonce_words - k ≡ nonce_words = omega arith in
      let words : mid_of k (k + nonce_words - k) l ≡ nonce_of y l = rw (n, e) in
      let long = length_nonce y l room in
      let part : length (mid_of 1 (reveal_words - 1) (set out 0 share)) ≡ nonce_words = mid_len 1 reveal_words (set out 0 share) (omega (arith, length-set out 0 share)) in
      number_before share (nonce_of y l) _ out nonce_words long h (f ∙ rw words (over_whole (nonce_of y l) _ (omega arith)))

  -- and the mark of it
  pub mark_written : (out zs : List ℕ) → length zs ≡ reveal_words
      → {message : List ℕ} → message ≡ overwrite (revealed share (nonce_of y l)) zs
      → {sent : List ℕ} → sent ≡ digest message ++ drop commit_words out
      → sent ≡ overwrite (mark (revealed share (nonce_of y l))) out
  unfolding mark overwrite
  mark_written out zs long e f =
      let n : length (nonce_of y l) ≡ nonce_words = length_nonce y l room in
      let whole = e ∙ over_whole (revealed share (nonce_of y l)) zs (omega arith) in
      f ∙ rw (whole, digest_long (revealed share (nonce_of y l)))

-- what party i reveals, and its mark, as parts of their lists
pub fits_parts : (marks heard : List ℕ) (i : ℕ)
    → same (digest (take (i * reveal_words + reveal_words - i * reveal_words) (drop (i * reveal_words) heard)))
    (take (i * commit_words + commit_words - i * commit_words) (drop (i * commit_words) marks))
    ≡ fits marks heard i
unfolding fits mark band
fits_parts marks heard i =
    let m : i * reveal_words + reveal_words - i * reveal_words ≡ reveal_words = omega arith in
    let n : i * commit_words + commit_words - i * commit_words ≡ commit_words = omega arith in
    rw (m, n)

-- nobody is named where all fit their marks, and else the first who does not; the parties after it do not matter
module _ (marks heard : List ℕ) where
  fitting : (n : ℕ) → ((k : ℕ) → 0 ≤ k → k < n → fits marks heard k ≡ true) → misfit n marks heard ≡ Nobody
  unfolding misfit
  fitting zero h = refl
  fitting (suc n) h = rw (fitting n (λ k z l. h k z (omega arith)), h n (omega arith) (omega arith))

  named : (i k m : ℕ) → misfit m marks heard ≡ Blames i → misfit (k + m) marks heard ≡ Blames i
  unfolding misfit
  named i zero m e = rw (zero-add m) e
  named i (suc k) m e = rw (suc-add k m, named i k m e)

  pub first_misfit : (n : ℕ) (r : Option ℕ)
      → MatchOption r ((k : ℕ) → 0 ≤ k → k < n → fits marks heard k ≡ true)
      (λ i. (0 ≤ i) × (i < n) × (fits marks heard i ≡ false) × ((k : ℕ) → 0 ≤ k → k < i → fits marks heard k ≡ true))
      → blame_of r ≡ misfit n marks heard
  unfolding misfit blame_of
  first_misfit n None h = sym (fitting n h)
  first_misfit n (Some i) h =
      let m : misfit (suc i) marks heard ≡ Blames i = rw (fitting i h.3, h.2) in
      let k : n - suc i + suc i ≡ n = omega (arith, h.1) in
      sym (ap (λ (j : ℕ). misfit j marks heard) (sym k) ∙ named i (n - suc i) (suc i) m)

-- the check shares are the first words
pub shares_low : {q : ℕ} (n : ℕ) (heard : List ℕ) → ((i : ℕ) → i < n → get_or heard (i * reveal_words) 0 < q) → (i : ℕ) → i < n → get_or heard (i * reveal_words + 0) 0 < q
shares_low n heard h i l = let e : i * reveal_words + 0 ≡ i * reveal_words = omega arith in rw e (h i l)

-- a reveal ends by whom it names, and else by the sum
pub weighs_named : {b : Blame} (r : Option ℕ) (z : Bool) → blame_of r ≡ b → is_some r ≡ true → Stopped (blame_of r) ≡ weighs b z
unfolding blame_of
weighs_named None z e h = absurd (search rules)
weighs_named (Some i) z e h = rw (← e)

pub weighs_nonzero : {b : Blame} (r : Option ℕ) (v : ℕ) {e : ℕ} → blame_of r ≡ b → is_some r ≡ false → e ≡ v → (e ≡ 0 → ⊥) → Stopped (blame_of r) ≡ weighs b (eqb v 0)
unfolding blame_of
weighs_nonzero None v n s f h = rw (← n, ne_eqb v 0 (λ z. h (f ∙ z)))
weighs_nonzero (Some i) v n s f h = absurd (search rules)

pub weighs_zero : {b : Blame} (r : Option ℕ) (v : ℕ) {e : ℕ} → blame_of r ≡ b → is_some r ≡ false → e ≡ v → e ≡ 0 → Passed ≡ weighs b (eqb v 0)
unfolding blame_of
weighs_zero None v n s f h = rw (← n, eq-eqb v 0 (sym f ∙ h))
weighs_zero (Some i) v n s f h = absurd (search rules)
