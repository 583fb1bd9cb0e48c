-- Bytes over a text, one after another.
-- Assumes nothing.
use Prim.Native.Nat.{ℕ, suc, ◌+◌, ◌-◌, ◌≤◌, ◌<◌}
use mathlib.Core.Path.{◌≡◌, refl, sym, ap, ◌∙◌}
use mathlib.Core.List.{List, [], ◌∷◌, ◌++◌, append_assoc, append-nil}
use native.Mathlib.Nat.{add_assoc, add-zero, zero-add}
use native.Mathlib.Numerals.{add-one}
use native.Mathlib.Omega.{arith}
use lib.ListN.{length, get_or, take, drop, set, length-append, length-drop, length-set, take-append-drop}
use lib.Seq.{length-take-le, take_at, drop-append-add, drop-drop, take-suc, set_split, drop-cons, take-set-le, drop-set-lt, get_or-set_same}
use lib.Seq.{take-length, take-append_seam}
use borrow.Rule.Slice.PartMut.{put_mid}
use Rattle.std.proofs.lemmas.Slice.{put_mid-paste}
use Rattle.protocol.specs.Send.{overwrite}
use Rattle.writer.specs.Code.{over, Put}

module _ (text : List ℕ) (at : ℕ) where
  pub over_nothing : over text at [] ≡ text
  unfolding over
  over_nothing = rw (append-nil, add-zero) (take-append-drop at text)

  -- one byte is a store
  pub over_byte : (b : ℕ) → at < length text → set text at b ≡ over text at (b ∷ [])
  unfolding over
  over_byte b h = set_split text at b h ∙ rw add-one (sym (append_assoc (take at text) (b ∷ []) (drop (suc at) text)))

  pub length_over : (bytes : List ℕ) → at + length bytes ≤ length text → length (over text at bytes) ≡ length text
  unfolding over
  length_over bytes h = rw (length-append, length-append, length-take-le at text (omega arith), length-drop) (omega arith)

  module _ (xs ys : List ℕ) (h : at ≤ length text) where
    front : length (take at text ++ xs) ≡ at + length xs
    front = rw (length-append, length-take-le at text h)

    -- bytes over a text, and then others behind them
    pub over_over : over (over text at xs) (at + length xs) ys ≡ over text at (xs ++ ys)
    unfolding over
    over_over =
        rw (take_at (take at text ++ xs) (drop (at + length xs) text) (at + length xs) front)
        (ap (λ (l : List ℕ). take at text ++ xs ++ ys ++ l) behind ∙ simp append_assoc)
      where
        behind : drop (at + length xs + length ys) (take at text ++ xs ++ drop (at + length xs) text) ≡ drop (at + length (xs ++ ys)) text
        behind =
            rw (
              sym front,
              drop-append-add (take at text ++ xs) (drop (length (take at text ++ xs)) text) (length ys),
              front,
              drop-drop,
              length-append,
            )
            (ap (λ (n : ℕ). drop n text) (add_assoc at (length xs) (length ys)))

-- the byte behind some that are yet to be put
pub over_last : (text : List ℕ) (at : ℕ) (xs : List ℕ) (b : ℕ) → at + length xs < length text →
    over (set text (at + length xs) b) at xs ≡ over text at (xs ++ (b ∷ []))
unfolding over
over_last text at xs b h =
    rw (take-set-le at text (at + length xs) b (omega arith), behind, length-append, sym (add_assoc at (length xs) 1), add-one) (simp append_assoc)
  where
    behind : drop (at + length xs) (set text (at + length xs) b) ≡ b ∷ drop (suc (at + length xs)) text
    behind =
        drop-cons (set text (at + length xs) b) (at + length xs) 0 (rw length-set h)
        ∙ rw (get_or-set_same text (at + length xs) b 0 h, drop-set-lt (suc (at + length xs)) text (at + length xs) b (omega arith))

-- from the start -------------------------------------------------------------------------------------------------------

-- what was put, as it is lent
pub put_front : {before later bytes : List ℕ} {to : ℕ} → Put before later 0 to bytes → take to later ≡ bytes
unfolding over
put_front {before} {later} {bytes} {to} p =
    let e : to ≡ length bytes = omega (arith, p.ends) in
    rw (e, p.holds) (take-append_seam bytes (drop (0 + length bytes) before))

pub over_start : (text bytes : List ℕ) → over text 0 bytes ≡ overwrite bytes text
unfolding over overwrite
over_start text bytes = rw zero-add

-- what is put in two goes ------------------------------------------------------------------------------------------------

pub first_fits : (at n : ℕ) (xs ys : List ℕ) → at + length (xs ++ ys) ≤ n → at + length xs ≤ n
first_fits at n xs ys h = omega (arith, length-append xs ys)

module _ (xs ys : List ℕ) {a b : List ℕ} {at mid : ℕ} (fits : at + length (xs ++ ys) ≤ length a) (p : Put a b at mid xs) where
  pub put_long : length b ≡ length a
  put_long = rw p.holds (length_over a at xs (first_fits at (length a) xs ys fits))

  pub next_fits : mid + length ys ≤ length b
  next_fits = omega (arith, put_long, p.ends, length-append xs ys)

  pub put_next : {d : List ℕ} {to : ℕ} → Put b d mid to ys → Put a d at to (xs ++ ys)
  put_next {d} {to} q = record {
    ends = omega (arith, q.ends, p.ends, length-append xs ys);
    holds = q.holds ∙ rw (p.ends, p.holds) (over_over a at xs ys (omega arith));
  }

-- bytes that are copied over a part of the text
pub put_part : (text bytes : List ℕ) (at : ℕ) {part : List ℕ} → part ≡ bytes
    → Put text (put_mid at (at + length bytes - at) text part) at (at + length bytes) bytes
unfolding over
put_part text bytes at {part} e =
    record { ends = refl; holds = put_mid-paste at (at + length bytes - at) text part bytes (length bytes) e (omega arith) refl ∙ rw take-length }

-- byte by byte ----------------------------------------------------------------------------------------------------------

-- the first k bytes are put
pub record Begun (before : List ℕ) (at : ℕ) (bytes text : List ℕ) (to k : ℕ) : Type 0 where
  pub upto : k ≤ length bytes
  pub so_far : Put before text at to (take k bytes)

module _ (before : List ℕ) (at : ℕ) (bytes : List ℕ) where
  pub begun_none : Begun before at bytes before at 0
  begun_none = record { upto = omega arith; so_far = record { ends = sym (add-zero at); holds = sym (over_nothing before at) } }

  module _ (fits : at + length bytes ≤ length before) {text : List ℕ} {to k : ℕ} (s : Begun before at bytes text to k) where
    one_more : k < length bytes → at + length (take k bytes ++ (get_or bytes k 0 ∷ [])) ≤ length before
    one_more h = omega (arith, length-append (take k bytes) (get_or bytes k 0 ∷ []), length-take-le k bytes s.upto)

    pub begun_fits : k < length bytes → to < length text
    begun_fits h = omega (arith, next_fits (take k bytes) (get_or bytes k 0 ∷ []) (one_more h) s.so_far)

    pub begun_more : k < length bytes → {later : List ℕ} {end : ℕ} → Put text later to end (get_or bytes k 0 ∷ []) → Begun before at bytes later end (k + 1)
    begun_more h q = record {
      upto = omega arith;
      so_far = rw (add-one, take-suc bytes k 0 h) (put_next (take k bytes) (get_or bytes k 0 ∷ []) (one_more h) s.so_far q);
    }

    pub begun_all : length bytes ≤ k → Put before text at to bytes
    begun_all h =
        let e : k ≡ length bytes = omega (arith, s.upto) in
        rw (e, take-length) at s.so_far

-- three pieces, one after another: each fits where those before it are put
module _ (a : List ℕ) (at : ℕ) (xs ys zs : List ℕ) (fits : at + length (xs ++ ys ++ zs) ≤ length a) where
  two_fit : at + length (xs ++ ys) ≤ length a
  two_fit = first_fits at (length a) (xs ++ ys) zs fits

  pub fits_first : at + length xs ≤ length a
  fits_first = first_fits at (length a) xs ys two_fit

  module _ {b : List ℕ} {m : ℕ} (p : Put a b at m xs) where
    pub fits_second : m + length ys ≤ length b
    fits_second = next_fits xs ys two_fit p

    module _ {d : List ℕ} {n : ℕ} (q : Put b d m n ys) where
      pub fits_third : n + length zs ≤ length d
      fits_third = next_fits (xs ++ ys) zs fits (put_next xs ys two_fit p q)

      pub put_three : {e : List ℕ} {k : ℕ} → Put d e n k zs → Put a e at k (xs ++ ys ++ zs)
      put_three r = put_next (xs ++ ys) zs fits (put_next xs ys two_fit p q) r
