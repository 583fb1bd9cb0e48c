-- A message of at most 13 words is one block when it is padded: its words, the bit 1, bits 0, and its length in bits.
-- Assumes nothing.
use Rattle.std.proofs.Common.{◌≡◌, ℕ, zero, suc, ◌+◌, ◌-◌, ◌*◌, ◌^◌, ◌<◌, ◌≤◌, List, [], ◌∷◌, ◌++◌, length, get_or, take, drop, set, replicate, sym, refl, ap, ◌∙◌, le_of_suc-le-suc, not-suc-le-zero, suc-add, zero-add, arith, length-append, length-drop, length-set, length-take-le}
use lib.Seq.{take-length, take-append-add}
use Rattle.sha256.specs.Sha256.{H₀, bytes_of, padding, pad, word_of, words_of, compress, blocks, sha256}
use Rattle.sha256.specs.Digest.{bytes, digest}
use Rattle.sha256.specs.Digest.Laws.{digest_is}
use Rattle.sha256.proofs.Bytes.{words_back, length_bytes}

set_append_add : (xs ys : List ℕ) (i a : ℕ) → set (xs ++ ys) (length xs + i) a ≡ xs ++ set ys i a
set_append_add [] ys i a = rw zero-add
set_append_add (x ∷ xs) ys i a = rw suc-add (ap (λ (l : List ℕ). x ∷ l) (set_append_add xs ys i a))

-- P at each number below n
abbrev Each : (ℕ → Type 0) → ℕ → Type 0
Each P zero = Unit
Each P (suc n) = P zero × Each (λ k. P (suc k)) n

at : (P : ℕ → Type 0) (n k : ℕ) → Each P n → k < n → P k
at P zero k e h = absurd (not-suc-le-zero h)
at P (suc n) zero e h = e.0
at P (suc n) (suc k) e h = at (λ j. P (suc j)) n k e.1 (le_of_suc-le-suc h)

-- what is written behind n words of a message is their padding: computed at each n
Behind : ℕ → Type 0
Behind n = take (16 - n) (set (set (drop n (replicate 64 0)) 0 0x8000_0000) (15 - n) (32 * n)) ≡ words_of (padding (4 * n))

behind : (n : ℕ) → n < 14 → Behind n
unfolding Behind word_of words_of padding bytes_of
behind n = at Behind 14 n (refl, (refl, (refl, (refl, (refl, (refl, (refl, (refl, (refl, (refl, (refl, (refl, (refl, (refl, tt))))))))))))))

-- one block is hashed at once
once : (b t : List ℕ) → t ≡ words_of (pad b) → length t ≡ 16 → compress H₀ t ≡ sha256 b
unfolding sha256 blocks
once b t p l =
    let whole : take 16 t ≡ t = ap (λ (k : ℕ). take k t) (sym l) ∙ take-length t in
    sym (rw (← p, l, whole))

-- what the code writes, of a message m that stands at the front of zeros
module _ (m w : List ℕ) (h : length m ≤ 13) (low : (i : ℕ) → get_or m i 0 < 2 ^ 32) (e : w ≡ m ++ drop (length m) (replicate 64 0)) where
  padded : take 16 (set (set w (length m) 0x8000_0000) 15 (32 * length m)) ≡ words_of (pad (bytes m))
  unfolding pad Behind
  padded =
      let n : ℕ = length m in
      let z : List ℕ = drop n (replicate 64 0) in
      let z₁ : List ℕ = set z 0 0x8000_0000 in
      let z₂ : List ℕ = set z₁ (15 - n) (32 * n) in
      let at₀ : n ≡ n + 0 = omega arith in
      let at₁₅ : 15 ≡ n + (15 - n) = omega arith in
      let at₁₆ : 16 ≡ n + (16 - n) = omega arith in
      let one : set w n 0x8000_0000 ≡ m ++ z₁ = (λ i. set (e i) (at₀ i) 0x8000_0000) ∙ set_append_add m z 0 0x8000_0000 in
      let two : set (set w n 0x8000_0000) 15 (32 * n) ≡ m ++ z₂ = (λ i. set (one i) (at₁₅ i) (32 * n)) ∙ set_append_add m z₁ (15 - n) (32 * n) in
      (λ i. take (at₁₆ i) (two i)) ∙ take-append-add m z₂ (16 - n)
      ∙ ap (λ (l : List ℕ). m ++ l) (behind n (omega arith) ∙ ap (λ (k : ℕ). words_of (padding k)) (sym (length_bytes m)))
      ∙ sym (words_back m (padding (length (bytes m))) low)

  pub one_block : compress H₀ (take 16 (set (set w (length m) 0x8000_0000) 15 (32 * length m))) ≡ digest m
  one_block =
      let lw : length w ≡ 64 = ap length e ∙ simp (length-append, length-drop) (omega arith) in
      let u : List ℕ = set (set w (length m) 0x8000_0000) 15 (32 * length m) in
      let lu : length u ≡ 64 = simp length-set (omega arith) in
      once (bytes m) (take 16 u) padded (length-take-le 16 u (omega arith)) ∙ sym (digest_is m)
