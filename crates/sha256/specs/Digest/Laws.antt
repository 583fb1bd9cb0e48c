-- What is promised of a hash: what it is, for the code that computes it and for examples; and that it is eight words, whatever the message, for all else.
-- Assumes nothing.
use Rattle.std.specs.Prelude.{◌≡◌, ℕ, zero, suc, ◌+◌, ◌%◌, ◌^◌, ◌<◌, List, [], ◌∷◌, length, take, drop, slice_index, refl}
use Rattle.std.proofs.Common.{mod-lt, pow_pos}
use Rattle.sha256.specs.Sha256.{◌⊞◌, K, H₀, rounds, schedule, sums, compress, blocks, sha256}
use Rattle.sha256.specs.Digest.{bytes, digest}

-- Words.
pub record Low (l : List ℕ) : Type 0 where
  pub low : (i : ℕ) → slice_index l i < 2 ^ 32

-- Eight words.
pub record Hash (h : List ℕ) : Type 0 where
  pub long : length h ≡ 8
  pub low : (i : ℕ) → slice_index h i < 2 ^ 32

sum_low : (x y : ℕ) {l : List ℕ} → Low l → Low (x ⊞ y ∷ l)
sum_low x y {l} r = record { low = each }
  where
    each : (i : ℕ) → slice_index ((x + y) % 2 ^ 32 ∷ l) i < 2 ^ 32
    each zero = mod-lt (x + y) (pow_pos 32)
    each (suc i) = r.low i

none_low : Low []
none_low = record { low = λ i. pow_pos 32 }

sums_hash : (v h : List ℕ) → Hash (sums v h)
unfolding sums
sums_hash v h =
    let eight : Low (sums v h) =
    sum_low _ _ (sum_low _ _ (sum_low _ _ (sum_low _ _ (sum_low _ _ (sum_low _ _ (sum_low _ _ (sum_low _ _ none_low))))))) in
    record { long = refl; low = eight.low }

compress_hash : (h b : List ℕ) → Hash (compress h b)
unfolding compress
compress_hash h b = sums_hash (rounds K (schedule b) h) h

blocks_hash : (n : ℕ) (w h : List ℕ) → Hash h → Hash (blocks n w h)
unfolding blocks
blocks_hash zero w h r = r
blocks_hash (suc n) w h r = blocks_hash n (drop 16 w) (compress h (take 16 w)) (compress_hash h (take 16 w))

-- Each word of the initial hash value is its sum with 0.
initial : Hash H₀
unfolding H₀ sums
initial = sums_hash H₀ []

-- The hash of a message of any length is eight words.
pub sha256_hash : (m : List ℕ) → Hash (sha256 m)
unfolding sha256
sha256_hash m = blocks_hash _ _ H₀ initial

-- What it is: not for the layers above, which need only what follows.
pub digest_is : (ws : List ℕ) → digest ws ≡ sha256 (bytes ws)
unfolding digest
digest_is ws = refl

pub digest_hash : (ws : List ℕ) → Hash (digest ws)
unfolding digest
digest_hash ws = sha256_hash (bytes ws)

pub digest_long : (ws : List ℕ) → length (digest ws) ≡ 8
digest_long ws = (digest_hash ws).long

pub digest_low : (ws : List ℕ) (i : ℕ) → slice_index (digest ws) i < 2 ^ 32
digest_low ws = (digest_hash ws).low
