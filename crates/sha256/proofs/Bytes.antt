-- Words as bytes and bytes as words, high byte first: each way undoes the other.
-- Assumes nothing.
use Rattle.std.proofs.Common.{◌≡◌, ℕ, zero, suc, ◌+◌, ◌*◌, ◌/◌, ◌%◌, ◌^◌, ◌<◌, ◌≤◌, List, [], ◌∷◌, ◌++◌, length, get_or, take, drop, set, sym, refl, ap, ◌∙◌, ap₂, append_assoc, div-add-mod', arith, pow_pos, shr-shr}
use Rattle.std.proofs.lemmas.List.{get_or-take, get_or-drop, drop-drop}
use Rattle.std.specs.Int.{w32, from_be_bytes}
use Rattle.std.specs.Simd.{first_chunks}
use Rattle.sha256.specs.Sha256.{bytes_of, word_of, words_of, sha256}
use Rattle.sha256.specs.Digest.{bytes, digest}
use Rattle.sha256.specs.Digest.Laws.{digest_is}
use Rattle.sha256.proofs.Written.{Written, written_start, written_again, written_done}

-- ---- words to bytes and back

-- a byte, and what stands above it
digit : (w k : ℕ) → w / 2 ^ (k + 8) * 2 ^ 8 + w / 2 ^ k % 2 ^ 8 ≡ w / 2 ^ k
digit w k = ap (λ (q : ℕ). q * 2 ^ 8 + w / 2 ^ k % 2 ^ 8) (sym (shr-shr w k 8)) ∙ div-add-mod' (w / 2 ^ k) (2 ^ 8)

word_back : (w : ℕ) (bs : List ℕ) → w < 2 ^ 32 → words_of (bytes_of 4 w ++ bs) ≡ w ∷ words_of bs
unfolding word_of words_of bytes_of
word_back w bs h =
    let top : w / 2 ^ 24 % 2 ^ 8 ≡ w / 2 ^ 24 = omega arith in
    let whole : w / 2 ^ 0 ≡ w = omega arith in
    rw (top, digit w 16, digit w 8, digit w 0, whole)

pub words_back : (ws bs : List ℕ) → ((i : ℕ) → get_or ws i 0 < 2 ^ 32) → words_of (bytes ws ++ bs) ≡ ws ++ words_of bs
unfolding bytes
words_back [] bs h = refl
words_back (w ∷ ws) bs h =
    ap words_of (append_assoc (bytes_of 4 w) (bytes ws) bs) ∙ word_back w (bytes ws ++ bs) (h 0)
    ∙ ap (λ (l : List ℕ). w ∷ l) (words_back ws bs (λ i. h (suc i)))

pub length_bytes : (ws : List ℕ) → length (bytes ws) ≡ 4 * length ws
unfolding bytes bytes_of
length_bytes [] = refl
length_bytes (w ∷ ws) = omega (arith, length_bytes ws)

-- ---- bytes to words and back, for n times four bytes

pub length_words : (n : ℕ) (bs : List ℕ) → length bs ≡ 4 * n → length (words_of bs) ≡ n
unfolding words_of
length_words n [] e = omega arith
length_words n (a ∷ []) e = absurd (omega arith)
length_words n (a ∷ b ∷ []) e = absurd (omega arith)
length_words n (a ∷ b ∷ c ∷ []) e = absurd (omega arith)
length_words zero (a ∷ b ∷ c ∷ d ∷ bs) e = absurd (omega arith)
length_words (suc n) (a ∷ b ∷ c ∷ d ∷ bs) e = ap suc (length_words n bs (omega arith))

-- words of bytes are words
pub words_low : (bs : List ℕ) → ((i : ℕ) → get_or bs i 0 < 2 ^ 8) → (i : ℕ) → get_or (words_of bs) i 0 < 2 ^ 32
unfolding words_of word_of
words_low [] h i = pow_pos 32
words_low (a ∷ []) h i = pow_pos 32
words_low (a ∷ b ∷ []) h i = pow_pos 32
words_low (a ∷ b ∷ c ∷ []) h i = pow_pos 32
words_low (a ∷ b ∷ c ∷ d ∷ bs) h zero =
    let ha : a < 2 ^ 8 = h 0 in
    let hb : b < 2 ^ 8 = h 1 in
    let hc : c < 2 ^ 8 = h 2 in
    let hd : d < 2 ^ 8 = h 3 in
    omega arith
words_low (a ∷ b ∷ c ∷ d ∷ bs) h (suc i) = words_low bs (λ j. h (suc (suc (suc (suc j))))) i

-- the word at i is made of the four bytes from 4 * i on
abbrev pub word_at : List ℕ → ℕ → ℕ
word_at bs i = word_of (get_or bs (4 * i) 0) (get_or bs (4 * i + 1) 0) (get_or bs (4 * i + 2) 0) (get_or bs (4 * i + 3) 0)

word_at_suc : (a b c d : ℕ) (bs : List ℕ) (i : ℕ) → word_at (a ∷ b ∷ c ∷ d ∷ bs) (suc i) ≡ word_at bs i
word_at_suc a b c d bs i =
    let four : 4 * suc i ≡ suc (suc (suc (suc (4 * i)))) = omega arith in
    let five : 4 * suc i + 1 ≡ suc (suc (suc (suc (4 * i + 1)))) = omega arith in
    let six : 4 * suc i + 2 ≡ suc (suc (suc (suc (4 * i + 2)))) = omega arith in
    let seven : 4 * suc i + 3 ≡ suc (suc (suc (suc (4 * i + 3)))) = omega arith in
    rw (five, six, seven, four)

pub get_d_words : (n : ℕ) (bs : List ℕ) (i : ℕ) → length bs ≡ 4 * n → i < n → get_or (words_of bs) i 0 ≡ word_at bs i
unfolding words_of
get_d_words n [] i e h = absurd (omega arith)
get_d_words n (a ∷ []) i e h = absurd (omega arith)
get_d_words n (a ∷ b ∷ []) i e h = absurd (omega arith)
get_d_words n (a ∷ b ∷ c ∷ []) i e h = absurd (omega arith)
get_d_words zero (a ∷ b ∷ c ∷ d ∷ bs) i e h = absurd (omega arith)
get_d_words (suc n) (a ∷ b ∷ c ∷ d ∷ bs) zero e h = refl
get_d_words (suc n) (a ∷ b ∷ c ∷ d ∷ bs) (suc i) e h = get_d_words n bs i (omega arith) (omega arith) ∙ sym (word_at_suc a b c d bs i)

-- which is what the library makes of the four bytes at i
chunk_at : (n i : ℕ) (bs d : List ℕ) → i < n → get_or (first_chunks 4 n bs) i d ≡ take 4 (drop (4 * i) bs)
chunk_at zero i bs d h = absurd (omega arith)
chunk_at (suc n) zero bs d h = refl
chunk_at (suc n) (suc i) bs d h = chunk_at n i (drop 4 bs) d (omega arith) ∙ ap (take 4) (drop-drop (4 * i) 4 bs ∙ ap (λ (k : ℕ). drop k bs) (omega arith))

pub word_at_chunk : {cs : List (List ℕ)} (n i : ℕ) (bs d : List ℕ) → cs ≡ first_chunks 4 n bs → i < n → from_be_bytes w32 (get_or cs i d) ≡ word_at bs i
unfolding word_of
word_at_chunk n i bs d e h =
    let byte = λ (k j : ℕ) (b : k < 4) (e : 4 * i + k ≡ j). get_or-take 4 (drop (4 * i) bs) k 0 b ∙ get_or-drop (4 * i) bs k 0 ∙ ap (λ (m : ℕ). get_or bs m 0) e in
    rw (e, chunk_at n i bs d h)
    (omega (arith, byte 0 (4 * i) (omega arith) (omega arith), byte 1 (4 * i + 1) (omega arith) refl, byte 2 (4 * i + 2) (omega arith) refl, byte 3 (4 * i + 3) (omega arith) refl))

four_back : (a b c d : ℕ) → a < 2 ^ 8 → b < 2 ^ 8 → c < 2 ^ 8 → d < 2 ^ 8 → bytes_of 4 (word_of a b c d) ≡ a ∷ b ∷ c ∷ d ∷ []
unfolding bytes_of word_of
four_back a b c d ha hb hc hd =
    let w : ℕ = ((a * 2 ^ 8 + b) * 2 ^ 8 + c) * 2 ^ 8 + d in
    let e₀ : w / 2 ^ 24 % 2 ^ 8 ≡ a = omega arith in
    let e₁ : w / 2 ^ 16 % 2 ^ 8 ≡ b = omega arith in
    let e₂ : w / 2 ^ 8 % 2 ^ 8 ≡ c = omega arith in
    let e₃ : w / 2 ^ 0 % 2 ^ 8 ≡ d = omega arith in
    λ i. e₀ i ∷ e₁ i ∷ e₂ i ∷ e₃ i ∷ []

pub bytes_back : (n : ℕ) (bs : List ℕ) → length bs ≡ 4 * n → ((i : ℕ) → get_or bs i 0 < 2 ^ 8) → bytes (words_of bs) ≡ bs
unfolding words_of bytes
bytes_back n [] e h = refl
bytes_back n (a ∷ []) e h = absurd (omega arith)
bytes_back n (a ∷ b ∷ []) e h = absurd (omega arith)
bytes_back n (a ∷ b ∷ c ∷ []) e h = absurd (omega arith)
bytes_back zero (a ∷ b ∷ c ∷ d ∷ bs) e h = absurd (omega arith)
bytes_back (suc n) (a ∷ b ∷ c ∷ d ∷ bs) e h =
    ap₂ ◌++◌ (four_back a b c d (h 0) (h 1) (h 2) (h 3)) (bytes_back n bs (omega arith) (λ i. h (suc (suc (suc (suc i))))))

-- ---- the words of 32 bytes

module _ (bs : List ℕ) (l : length bs ≡ 32) where
  eight : length (words_of bs) ≡ 8
  eight = length_words 8 bs l

  pub words_start : (z : List ℕ) → 8 ≤ length z → Written (words_of bs) z z 0
  words_start z h = written_start (words_of bs) z (omega (arith, eight))

  pub words_again : {z r : List ℕ} {i v : ℕ} → i < 8 → v ≡ word_at bs i → Written (words_of bs) z r i → Written (words_of bs) z (set r i v) (i + 1)
  words_again {i = i} h e c = written_again (omega (arith, eight)) (e ∙ sym (get_d_words 8 bs i l h)) c

  pub words_done : {z r : List ℕ} {i : ℕ} → 8 ≤ i → Written (words_of bs) z r i → r ≡ words_of bs ++ drop 8 z
  words_done {z} h c = written_done (omega (arith, eight)) c ∙ ap (λ (k : ℕ). words_of bs ++ drop k z) eight

  -- the hash of a word and the words of a nonce is that of the word's four bytes and the nonce
  pub digest_nonce : (w : ℕ) → ((i : ℕ) → get_or bs i 0 < 2 ^ 8) → digest (w ∷ words_of bs) ≡ sha256 (bytes_of 4 w ++ bs)
  unfolding bytes
  digest_nonce w h = digest_is (w ∷ words_of bs) ∙ ap (λ (b : List ℕ). sha256 (bytes_of 4 w ++ b)) (bytes_back 8 bs l h)
