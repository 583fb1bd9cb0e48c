-- What is cut out of the joined lists for a party: its preprocessing from a number on, its key share and its band of the scratch.
-- Assumes nothing.
use Prim.Native.Nat.{ℕ, ◌+◌, ◌-◌, ◌*◌, ◌<◌, ◌≤◌}
use mathlib.Core.Path.{◌≡◌, refl, sym, ap, ◌∙◌}
use mathlib.Core.List.{List}
use native.Mathlib.Nat.{add-sub_cancel_left}
use native.Mathlib.Omega.{arith}
use lib.ListN.{length, get_or, take, drop, length-drop}
use lib.Seq.{length-take-le, take-add, drop_at, drop-drop, get_or-take, get_or-drop}
use Rattle.field.specs.Words.{size}
use Rattle.circuit.specs.Kind.{mask_size}
use Rattle.circuit.specs.Round.{commit_words, nonce_size}
use Rattle.protocol.specs.Scratch.{slots_size, band, nonce_at, marks_at}
use Rattle.protocol.specs.Holding.{Below}
use Rattle.protocol.specs.Code.{layout_of}
use Rattle.protocol.proofs.Readiness.{part_below}
use Rattle.joint.specs.declared.Frame.{Frame}
use Rattle.joint.specs.Code.{prep_from, key_in, Prepared, Banded}
use Rattle.protocol.proofs.Words.{length_band}
use Rattle.protocol.proofs.Bands.{band_end}
use Rattle.protocol.proofs.Said.{below_part}

-- a part's part
pub drop_take : (a m : ℕ) (xs : List ℕ) → a ≤ length xs → drop a (take (a + m) xs) ≡ take m (drop a xs)
drop_take a m xs h = ap (drop a) (take-add a m xs) ∙ drop_at (take a xs) (take m (drop a xs)) a (length-take-le a xs h)

module _ {f : Frame} {preps : List ℕ} {a k : ℕ} (q : Prepared f preps a k) (i : ℕ) (h : i < f.parties) where
  pub prep_end : i * f.prep + f.prep ≤ length preps
  prep_end = omega (arith, band_end f.parties f.prep i h, q.long)

  -- from number a on
  pub cut_is : take (i * f.prep + f.prep - (i * f.prep + a)) (drop (i * f.prep + a) preps) ≡ prep_from f preps a i
  unfolding band
  cut_is =
      let e : i * f.prep + f.prep - (i * f.prep + a) ≡ f.prep - a = omega (arith, q.fits) in
      let n : f.prep ≡ a + (f.prep - a) = omega (arith, q.fits) in
      rw (e, ← drop-drop a (i * f.prep) preps) (sym (drop_take a (f.prep - a) (drop (i * f.prep) preps) (simp length-drop (omega (arith, prep_end, q.fits)))))
      ∙ ap (λ (z : ℕ). drop a (take z (drop (i * f.prep) preps))) (sym n)

  pub cut_long : k ≤ length (prep_from f preps a i)
  cut_long = simp length-drop (omega (arith, length_band f.prep f.parties preps q.long i h, q.fits))

  band_low : Below size (band f.prep preps i)
  unfolding band
  band_low = below_part preps f.prep (i * f.prep) q.low

  pub cut_low : Below size (prep_from f preps a i)
  cut_low = part_below a (band f.prep preps i) refl band_low

  -- the first number is the key share
  pub key_there : 0 < k → i * f.prep < length preps
  key_there s = omega (arith, prep_end, q.fits)

  pub key_is : 0 < k → get_or preps (i * f.prep) 0 ≡ key_in f preps i
  unfolding band
  key_is s = sym (get_or-take f.prep (drop (i * f.prep) preps) 0 0 (omega (arith, q.fits)) ∙ get_or-drop (i * f.prep) preps 0 0 ∙ ap (λ (z : ℕ). get_or preps z 0) (omega arith))

  -- so what a call has cut out for it
  pub taken_key : {key : ℕ} → key ≡ key_in f preps i → key < size
  taken_key e = rw e (band_low 0)

  pub taken_long : {m : List ℕ} → m ≡ prep_from f preps a i → k ≤ length m
  taken_long e = rw e cut_long

  pub taken_low : {m : List ℕ} → m ≡ prep_from f preps a i → Below size m
  taken_low e = rw e cut_low

-- reading more asks for reading the key share, and for reading on from the same number
module _ {f : Frame} {preps : List ℕ} {a k : ℕ} (q : Prepared f preps a k) where
  pub with_key : 0 < a + k → Prepared f preps 0 1
  with_key h = record { long = q.long; low = q.low; fits = omega (arith, q.fits) }

  pub from_there : Prepared f preps a 0
  from_there = record { long = q.long; low = q.low; fits = omega (arith, q.fits) }

-- the mask of a give
pub mask_cut : {f : Frame} {preps : List ℕ} {a : ℕ} → Prepared f preps a 0 → a + mask_size ≤ f.prep → (i : ℕ) → i < f.parties → mask_size ≤ length (prep_from f preps a i)
mask_cut {f} {preps} {a} q fits i h =
    let whole : Prepared f preps a mask_size = record { long = q.long; low = q.low; fits = fits } in
    cut_long whole i h

-- the slots lie in a band
pub banded_slots : {f : Frame} {l : List ℕ} → Banded f l → slots_size (layout_of f.layout) ≤ f.scratch
unfolding marks_at nonce_at
banded_slots b = omega (arith, b.size)

-- its nonce
pub nonce_part : (i : ℕ) (nonces : List ℕ) → take (i * nonce_size + nonce_size - i * nonce_size) (drop (i * nonce_size) nonces) ≡ band nonce_size nonces i
unfolding band
nonce_part i nonces = rw (add-sub_cancel_left (i * nonce_size) nonce_size)

module _ {f : Frame} {l : List ℕ} (b : Banded f l) (i : ℕ) (h : i < f.parties) where
  pub band_fits : i * f.scratch + f.scratch ≤ length l
  band_fits = omega (arith, band_end f.parties f.scratch i h, b.room)

  pub band_is : take (i * f.scratch + f.scratch - i * f.scratch) (drop (i * f.scratch) l) ≡ band f.scratch l i
  unfolding band
  band_is = rw (add-sub_cancel_left (i * f.scratch) f.scratch)

  pub band_long : length (band f.scratch l i) ≡ f.scratch
  band_long = length_band f.scratch f.parties l b.room i h

  pub band_tail : marks_at (layout_of f.layout) + f.parties * commit_words ≤ length (band f.scratch l i)
  band_tail = omega (arith, band_long, b.size)

  pub band_room : slots_size (layout_of f.layout) ≤ length (band f.scratch l i)
  band_room = omega (arith, band_long, banded_slots b)

  pub taken_room : {x : List ℕ} → x ≡ band f.scratch l i → slots_size (layout_of f.layout) ≤ length x
  taken_room e = rw e band_room
