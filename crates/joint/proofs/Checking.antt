-- A check: each party's nonce and the marks of all in the scratch, and in the transcript the marks and then what is revealed.
-- Assumes nothing.
use Prim.Native.Nat.{ℕ, suc, ◌+◌, ◌-◌, ◌*◌, ◌<◌, ◌≤◌}
use mathlib.Core.Path.{◌≡◌, refl, ap, ◌∙◌}
use mathlib.Core.List.{List, [], ◌∷◌, ◌++◌}
use native.Mathlib.Nat.{add-sub_cancel_left, mul-add, mul_comm, mul-le-mul_right}
use native.Mathlib.Omega.{arith}
use lib.ListN.{length, get_or, take, drop, replicate, length-append, length-drop, length-replicate, get_or-append}
use lib.Seq.{length-take-le, take-take, drop-drop}
use borrow.Rule.Slice.PartMut.{put_mid}
use Rattle.algebra.specs.Element.{Is}
use Rattle.field.specs.Words.{size, ops}
use Rattle.field.proofs.Laws.{laws}
use Rattle.algebra.proofs.Ring.{sub_lt}
use Rattle.sha256.specs.Sha256.{words_of}
use Rattle.sha256.proofs.Bytes.{length_words}
use Rattle.circuit.specs.Round.{commit_words, nonce_size, nonce_words, reveal_words}
use Rattle.protocol.specs.Scratch.{band, written_at, nonce_of, put_nonce}
use Rattle.protocol.specs.Send.{mark, check_share}
use Rattle.protocol.specs.Receive.{heard_sum}
use Rattle.protocol.specs.Code.{layout_of}
use Rattle.protocol.specs.Ask.{most_parties}
use Rattle.protocol.specs.Joint.{joined}
use Rattle.protocol.proofs.Tails.{length_written, nonce_length, marks_length, nonce_put, nonce_marks}
use Rattle.protocol.proofs.Words.{length_band, joined_ext, length_joined, get_d_joined}
use Rattle.joint.specs.declared.Frame.{Frame}
use Rattle.joint.specs.Code.{Banded, rebanded, share_in, each, revealed_by, nonce_in, reveal_in, marks_in, reveals_in, noted_in, none_held, Checks, Checked}
use Rattle.joint.proofs.Cutting.{drop_take, band_long, band_tail}
use Rattle.joint.proofs.SendTurns.{mark_long}
use Rattle.joint.proofs.ReceiveTurns.{nonce_left, marks_left, nonce_each, marks_each, reband_band, reband_banded, reband_length, reband_twice}
use Rattle.joint.proofs.Rounding.{part_again, put_written, part_long}

-- one word of each of n parties
pub length_each : (n : ℕ) (w : ℕ → ℕ) → length (each n w) ≡ n
length_each n w = length_joined n 1 (λ i. w i ∷ []) (λ i h. refl) ∙ omega arith

-- what each of n parties holds, in an array for the most
abbrev pub held_of : ℕ → (ℕ → ℕ) → List ℕ
held_of n w = each n w ++ drop n none_held

pub held_long : (n : ℕ) (w : ℕ → ℕ) → n ≤ most_parties → length (held_of n w) ≡ most_parties
held_long n w h = rw (length-append, length_each n w, length-drop, length-replicate) (omega arith)

pub held_at : (n : ℕ) (w : ℕ → ℕ) (i : ℕ) → i < n → get_or (held_of n w) i 0 ≡ w i
held_at n w i h =
    let z : i ≡ i * 1 + 0 = omega arith in
    get_or-append (each n w) (drop n none_held) 0 i (omega (arith, length_each n w))
    ∙ ap (λ (k : ℕ). get_or (each n w) k 0) z
    ∙ get_d_joined n 1 (λ m. w m ∷ []) (λ m l. refl) i 0 h (omega arith)

-- a part of the array for each
pub held_room : (n : ℕ) → n ≤ most_parties → length (take (n - 0) (drop 0 none_held)) ≡ n
held_room n h = let z : n - 0 ≡ n = omega arith in rw z (length-take-le n none_held (omega (arith, h)))

-- check shares are elements
pub share_low : (f : Frame) (preps l : List ℕ) (k u : ℕ) (coefficients : List ℕ) (i : ℕ) → share_in f preps l k u coefficients i < size
unfolding check_share
share_low f preps l k u coefficients i = sub_lt laws _ _

-- the nonces of check q of n parties
module _ (n q : ℕ) (nonces : List ℕ) (long : nonce_size * (n * (q + 1)) ≤ length nonces) where
  -- they lie in the list
  pub nonces_end : q * n * nonce_size + n * nonce_size ≤ length nonces
  nonces_end = omega (arith, long, mul-add n q 1, mul_comm q n)

  -- a party's nonce is cut out of them
  pub nonce_cut : (i : ℕ) → i < n
      → band nonce_size (take (q * n * nonce_size + n * nonce_size - q * n * nonce_size) (drop (q * n * nonce_size) nonces)) i ≡ band nonce_size nonces (q * n + i)
  unfolding band
  nonce_cut i h =
      let m : ℕ = n * nonce_size - i * nonce_size in
      let z : n * nonce_size ≡ i * nonce_size + m = omega arith in
      let e : q * n * nonce_size + i * nonce_size ≡ (q * n + i) * nonce_size = omega arith in
      rw (add-sub_cancel_left (q * n * nonce_size) (n * nonce_size))
      (ap (λ (x : ℕ). take nonce_size (drop (i * nonce_size) (take x (drop (q * n * nonce_size) nonces)))) z
      ∙ ap (take nonce_size) (drop_take (i * nonce_size) m (drop (q * n * nonce_size) nonces) (simp length-drop (omega (arith, nonces_end))))
      ∙ take-take nonce_size m (drop (i * nonce_size) (drop (q * n * nonce_size) nonces)) (omega arith)
      ∙ ap (take nonce_size) (drop-drop (i * nonce_size) (q * n * nonce_size) nonces)
      ∙ ap (λ (x : ℕ). take nonce_size (drop x nonces)) e)

  pub nonces_cut : n * nonce_size ≤ length (take (q * n * nonce_size + n * nonce_size - q * n * nonce_size) (drop (q * n * nonce_size) nonces))
  nonces_cut = omega (arith, part_long (q * n * nonce_size) (n * nonce_size) nonces nonces_end)

  -- it is as long as it should be
  pub nonce_long : (i : ℕ) → i < n → length (words_of (band nonce_size nonces (q * n + i))) ≡ nonce_words
  nonce_long i h =
      length_words nonce_words _
      (length_band nonce_size (n * (q + 1)) nonces (omega (arith, long)) (q * n + i) (omega (arith, mul-add n q 1, mul_comm q n)))

-- the marks of all
marks_long : (f : Frame) (preps l : List ℕ) (k u : ℕ) (coefficients : List ℕ) (q : ℕ) (nonces : List ℕ)
    → length (marks_in f preps l k u coefficients q nonces) ≡ f.parties * commit_words
marks_long f preps l k u coefficients q nonces = length_joined f.parties commit_words _ (λ i h. mark_long _)

-- the scratch l₁ once nonces and marks are written
module _ {f : Frame} {l : List ℕ} (b : Banded f l) (preps : List ℕ) (k u : ℕ) (coefficients : List ℕ) (q : ℕ) (nonces : List ℕ)
    {l₁ : List ℕ} (d : l₁ ≡ rebanded f (noted_in f preps l k u coefficients q nonces) l) where
  noted_each : (i : ℕ) → i < f.parties → length (noted_in f preps l k u coefficients q nonces i) ≡ f.scratch
  noted_each i h = marks_length (layout_of f.layout) _ _ ∙ nonce_length (layout_of f.layout) (band f.scratch l i) _ ∙ band_long b i h

  pub noted_long : length l₁ ≡ length l
  noted_long = reband_length b (noted_in f preps l k u coefficients q nonces) noted_each d

  -- each party's nonce stands there
  pub noted_nonce : nonce_size * (f.parties * (q + 1)) ≤ length nonces → (i : ℕ) → i < f.parties
      → nonce_of (layout_of f.layout) (band f.scratch l₁ i) ≡ nonce_in f q nonces i
  noted_nonce long i h =
      ap (nonce_of (layout_of f.layout)) (reband_band b (noted_in f preps l k u coefficients q nonces) noted_each d i h)
      ∙ nonce_marks (layout_of f.layout) (put_nonce (layout_of f.layout) (band f.scratch l i) (nonce_in f q nonces i)) f.parties _ (marks_long f preps l k u coefficients q nonces)
      (rw (nonce_length (layout_of f.layout) (band f.scratch l i) (nonce_in f q nonces i)) (band_tail b i h))
      ∙ nonce_put (layout_of f.layout) (band f.scratch l i) (nonce_in f q nonces i) (nonce_long f.parties q nonces long i h) (omega (arith, band_tail b i h))

module _ {f : Frame} {preps l : List ℕ} {k u : ℕ} {coefficients : List ℕ} {q : ℕ} {nonces : List ℕ} {a : ℕ} {t : List ℕ}
    (h : Checks f preps l k u coefficients q nonces a t) where
  -- the words of all
  abbrev marks : List ℕ
  marks = marks_in f preps l k u coefficients q nonces

  abbrev reveals : List ℕ
  reveals = reveals_in f preps l k u coefficients q nonces

  reveal_long : (i : ℕ) → i < f.parties → length (reveal_in f preps l k u coefficients q nonces i) ≡ reveal_words
  reveal_long i z = ap suc (nonce_long f.parties q nonces h.nonce_count i z)

  reveals_long : length reveals ≡ f.parties * reveal_words
  reveals_long = length_joined f.parties reveal_words _ reveal_long

  -- few checks are begun
  pub begun_few : q + 1 ≤ length nonces
  begun_few = omega (arith, h.nonce_count, mul-le-mul_right {m = 1} {n = f.parties} (q + 1) h.some)

  pub words_end : a + f.parties * commit_words ≤ length t
  words_end = omega (arith, h.words_fit)

  -- the part of the nonces that the check takes
  abbrev nonces_here : List ℕ
  nonces_here = take (q * f.parties * nonce_size + f.parties * nonce_size - q * f.parties * nonce_size) (drop (q * f.parties * nonce_size) nonces)

  -- nonces are noted
  module _ {l₁ : List ℕ} (d₁ : l₁ ≡ rebanded f (nonce_left f l nonces_here) l) where
    pub noted_banded : Banded f l₁
    noted_banded = reband_banded h.banded (nonce_left f l nonces_here) (nonce_each h.banded nonces_here) d₁

    noted_is : (i : ℕ) → i < f.parties → band f.scratch l₁ i ≡ put_nonce (layout_of f.layout) (band f.scratch l i) (nonce_in f q nonces i)
    noted_is i z =
        reband_band h.banded (nonce_left f l nonces_here) (nonce_each h.banded nonces_here) d₁ i z
        ∙ ap (λ (x : List ℕ). put_nonce (layout_of f.layout) (band f.scratch l i) (words_of x)) (nonce_cut f.parties q nonces h.nonce_count i z)

    nonce_there : (i : ℕ) → i < f.parties → nonce_of (layout_of f.layout) (band f.scratch l₁ i) ≡ nonce_in f q nonces i
    nonce_there i z =
        ap (nonce_of (layout_of f.layout)) (noted_is i z)
        ∙ nonce_put (layout_of f.layout) (band f.scratch l i) (nonce_in f q nonces i) (nonce_long f.parties q nonces h.nonce_count i z) (omega (arith, band_tail h.banded i z))

    -- the marks are sent, and received
    module _ {ws : List ℕ} (dw : ws ≡ each f.parties (share_in f preps l k u coefficients)) where
      abbrev held : List ℕ
      held = put_mid 0 (f.parties - 0) (replicate most_parties 0) ws

      held_is : put_mid 0 (f.parties - 0) (replicate most_parties 0) ws ≡ held_of f.parties (share_in f preps l k u coefficients)
      held_is = let z : f.parties - 0 ≡ f.parties = omega arith in rw z (ap (λ (x : List ℕ). x ++ drop f.parties none_held) dw)

      pub held_count : length (put_mid 0 (f.parties - 0) (replicate most_parties 0) ws) ≡ most_parties
      held_count = ap length held_is ∙ held_long f.parties (share_in f preps l k u coefficients) h.few

      pub held_enough : f.parties ≤ length (put_mid 0 (f.parties - 0) (replicate most_parties 0) ws)
      held_enough = omega (arith, held_count, h.few)

      held_there : (i : ℕ) → i < f.parties → get_or held i 0 ≡ share_in f preps l k u coefficients i
      held_there i z = ap (λ (x : List ℕ). get_or x i 0) held_is ∙ held_at f.parties (share_in f preps l k u coefficients) i z

      module _ {ms : List ℕ} (dm : ms ≡ joined f.parties (λ i. mark (revealed_by f (put_mid 0 (f.parties - 0) (replicate most_parties 0) ws) l₁ i))) where
        marks_are : ms ≡ marks
        marks_are = dm ∙ joined_ext f.parties _ _ (λ i z. rw (held_there i z, nonce_there i z))

        ms_long : length ms ≡ f.parties * commit_words
        ms_long = ap length marks_are ∙ marks_long f preps l k u coefficients q nonces

        abbrev t₁ : List ℕ
        t₁ = put_mid a (a + f.parties * commit_words - a) t ms

        marked_to : t₁ ≡ written_at a marks t
        marked_to = put_written t ms a (f.parties * commit_words) words_end ms_long ∙ ap (λ (x : List ℕ). written_at a x t) marks_are

        pub marked_long : length (put_mid a (a + f.parties * commit_words - a) t ms) ≡ length t
        marked_long = ap length marked_to ∙ length_written a marks t

        abbrev heard : List ℕ
        heard = take (a + f.parties * commit_words - a) (drop a (put_mid a (a + f.parties * commit_words - a) t ms))

        heard_is : heard ≡ marks
        heard_is = part_again t ms a (f.parties * commit_words) words_end ms_long ∙ marks_are

        pub heard_long : length (take (a + f.parties * commit_words - a) (drop a (put_mid a (a + f.parties * commit_words - a) t ms))) ≡ f.parties * commit_words
        heard_long = ap length heard_is ∙ marks_long f preps l k u coefficients q nonces

        pub reveal_room : length (take (a + f.parties * commit_words + f.parties * reveal_words - (a + f.parties * commit_words)) (drop (a + f.parties * commit_words) (put_mid a (a + f.parties * commit_words - a) t ms))) ≡ f.parties * reveal_words
        reveal_room = part_long (a + f.parties * commit_words) (f.parties * reveal_words) t₁ (omega (arith, marked_long, h.words_fit))

        module _ {l₂ : List ℕ} (d₂ : l₂ ≡ rebanded f (marks_left f l₁ (take (a + f.parties * commit_words - a) (drop a (put_mid a (a + f.parties * commit_words - a) t ms)))) l₁) where
          pub marked_banded : Banded f l₂
          marked_banded = reband_banded noted_banded (marks_left f l₁ heard) (marks_each noted_banded heard) d₂

          scratch_is : l₂ ≡ rebanded f (noted_in f preps l k u coefficients q nonces) l
          scratch_is =
              reband_twice h.banded (nonce_left f l nonces_here) (nonce_each h.banded nonces_here) d₁ (marks_left f l₁ heard) (noted_in f preps l k u coefficients q nonces)
              (λ i z. rw (noted_is i z, heard_is)) d₂

          nonce_still : (i : ℕ) → i < f.parties → nonce_of (layout_of f.layout) (band f.scratch l₂ i) ≡ nonce_in f q nonces i
          nonce_still = noted_nonce h.banded preps k u coefficients q nonces scratch_is h.nonce_count

          -- what is revealed is sent, and summed
          module _ {rs : List ℕ} (dr : rs ≡ joined f.parties (revealed_by f (put_mid 0 (f.parties - 0) (replicate most_parties 0) ws) l₂)) where
            reveals_are : rs ≡ reveals
            reveals_are = dr ∙ joined_ext f.parties _ _ (λ i z. rw (held_there i z, nonce_still i z))

            rs_long : length rs ≡ f.parties * reveal_words
            rs_long = ap length reveals_are ∙ reveals_long

            rs_fit : a + f.parties * commit_words + f.parties * reveal_words ≤ length t₁
            rs_fit = omega (arith, marked_long, h.words_fit)

            abbrev t₂ : List ℕ
            t₂ = put_mid (a + f.parties * commit_words) (a + f.parties * commit_words + f.parties * reveal_words - (a + f.parties * commit_words)) t₁ rs

            transcript_is : t₂ ≡ written_at (a + f.parties * commit_words) reveals (written_at a marks t)
            transcript_is =
                put_written t₁ rs (a + f.parties * commit_words) (f.parties * reveal_words) rs_fit rs_long
                ∙ ap (λ (x : List ℕ). written_at (a + f.parties * commit_words) x t₁) reveals_are
                ∙ ap (written_at (a + f.parties * commit_words) reveals) marked_to

            pub revealed_long : length (put_mid (a + f.parties * commit_words) (a + f.parties * commit_words + f.parties * reveal_words - (a + f.parties * commit_words)) (put_mid a (a + f.parties * commit_words - a) t ms) rs) ≡ length t
            revealed_long = ap length transcript_is ∙ length_written (a + f.parties * commit_words) reveals (written_at a marks t) ∙ length_written a marks t

            abbrev revealed_there : List ℕ
            revealed_there = take (a + f.parties * commit_words + f.parties * reveal_words - (a + f.parties * commit_words)) (drop (a + f.parties * commit_words) t₂)

            revealed_is : revealed_there ≡ reveals
            revealed_is = part_again t₁ rs (a + f.parties * commit_words) (f.parties * reveal_words) rs_fit rs_long ∙ reveals_are

            pub reveals_sum : (0 < reveal_words)
                × (f.parties * reveal_words ≤ length (take (a + f.parties * commit_words + f.parties * reveal_words - (a + f.parties * commit_words)) (drop (a + f.parties * commit_words) (put_mid (a + f.parties * commit_words) (a + f.parties * commit_words + f.parties * reveal_words - (a + f.parties * commit_words)) (put_mid a (a + f.parties * commit_words - a) t ms) rs))))
                × ((i : ℕ) → i < f.parties → get_or (take (a + f.parties * commit_words + f.parties * reveal_words - (a + f.parties * commit_words)) (drop (a + f.parties * commit_words) (put_mid (a + f.parties * commit_words) (a + f.parties * commit_words + f.parties * reveal_words - (a + f.parties * commit_words)) (put_mid a (a + f.parties * commit_words - a) t ms) rs))) (i * reveal_words + 0) 0 < size)
            reveals_sum =
                rw revealed_is (
                  omega arith,
                  omega (arith, reveals_long),
                  λ i z. rw (get_d_joined f.parties reveal_words (reveal_in f preps l k u coefficients q nonces) reveal_long i 0 z (omega arith)) (share_low f preps l k u coefficients i),
                )

            pub checked : {e : ℕ}
                → Is size (heard_sum ops f.parties reveal_words 0 (take (a + f.parties * commit_words + f.parties * reveal_words - (a + f.parties * commit_words)) (drop (a + f.parties * commit_words) (put_mid (a + f.parties * commit_words) (a + f.parties * commit_words + f.parties * reveal_words - (a + f.parties * commit_words)) (put_mid a (a + f.parties * commit_words - a) t ms) rs)))) e
                → Checked f preps l k u coefficients q nonces a t e l₂ (put_mid (a + f.parties * commit_words) (a + f.parties * commit_words + f.parties * reveal_words - (a + f.parties * commit_words)) (put_mid a (a + f.parties * commit_words - a) t ms) rs)
            checked w = record { sum = rw revealed_is at w; scratch = scratch_is; transcript = transcript_is }

-- what a check leaves is as long as it was
module _ {f : Frame} {preps l : List ℕ} {k u : ℕ} {coefficients : List ℕ} {q : ℕ} {nonces : List ℕ} {a : ℕ} {t : List ℕ} {e : ℕ} {l' t' : List ℕ}
    (d : Checked f preps l k u coefficients q nonces a t e l' t') where
  pub checked_scratch : Banded f l → length l' ≡ length l
  checked_scratch b = noted_long b preps k u coefficients q nonces d.scratch

  pub checked_transcript : length t' ≡ length t
  checked_transcript = ap length d.transcript ∙ length_written (a + f.parties * commit_words) _ _ ∙ length_written a _ t
