-- The definition computed on messages whose hash is known: the standard's examples, the empty message, and a word followed by a nonce of 32 bytes 0.
-- Assumes nothing.
use Rattle.std.proofs.Common.{◌≡◌, ℕ, List, [], ◌∷◌, ◌++◌, replicate, refl}
use Rattle.sha256.specs.Sha256.{K, bytes_of, padding, pad, word_of, words_of, H₀, next, extend, schedule, T₁, T₂, round, rounds, sums, compress, blocks, sha256}

-- "abc"
pub abc : List ℕ
abc = 97 ∷ 98 ∷ 99 ∷ []

-- "abcdbcdecdefdefgefghfghighijhijkijkljklmklmnlmnomnopnopq", which with its padding is two blocks
pub alphabet : List ℕ
alphabet =
    97 ∷ 98 ∷ 99 ∷ 100 ∷ 98 ∷ 99 ∷ 100 ∷ 101 ∷ 99 ∷ 100 ∷ 101 ∷ 102 ∷ 100 ∷ 101 ∷ 102 ∷ 103 ∷ 101 ∷ 102 ∷ 103 ∷ 104 ∷ 102 ∷ 103 ∷ 104 ∷ 105 ∷ 103 ∷ 104 ∷ 105 ∷ 106 ∷
    104 ∷ 105 ∷ 106 ∷ 107 ∷ 105 ∷ 106 ∷ 107 ∷ 108 ∷ 106 ∷ 107 ∷ 108 ∷ 109 ∷ 107 ∷ 108 ∷ 109 ∷ 110 ∷ 108 ∷ 109 ∷ 110 ∷ 111 ∷ 109 ∷ 110 ∷ 111 ∷ 112 ∷ 110 ∷ 111 ∷ 112 ∷ 113 ∷ []

-- a word and 32 bytes 0
pub with_zeros : ℕ → List ℕ
with_zeros w = bytes_of 4 w ++ replicate 32 0

pub record Vectors : Type 0 where
  pub nothing : sha256 [] ≡ 0xe3b0_c442 ∷ 0x98fc_1c14 ∷ 0x9afb_f4c8 ∷ 0x996f_b924 ∷ 0x27ae_41e4 ∷ 0x649b_934c ∷ 0xa495_991b ∷ 0x7852_b855 ∷ []
  pub one_block : sha256 abc ≡ 0xba78_16bf ∷ 0x8f01_cfea ∷ 0x4141_40de ∷ 0x5dae_2223 ∷ 0xb003_61a3 ∷ 0x9617_7a9c ∷ 0xb410_ff61 ∷ 0xf200_15ad ∷ []
  pub two_blocks : sha256 alphabet ≡ 0x248d_6a61 ∷ 0xd206_38b8 ∷ 0xe5c0_2693 ∷ 0x0c3e_6039 ∷ 0xa33c_e459 ∷ 0x64ff_2167 ∷ 0xf6ec_edd4 ∷ 0x19db_06c1 ∷ []
  pub ten : sha256 (with_zeros 10) ≡ 272533300 ∷ 855279086 ∷ 235693618 ∷ 2709198289 ∷ 3425779131 ∷ 1209606253 ∷ 564894338 ∷ 1025805703 ∷ []
  pub minus_ten : sha256 (with_zeros 2147483637) ≡ 392664496 ∷ 2933272743 ∷ 3210988540 ∷ 1159849883 ∷ 2804449762 ∷ 356348130 ∷ 2261437598 ∷ 147768482 ∷ []
  pub twenty : sha256 (with_zeros 20) ≡ 850332863 ∷ 617076412 ∷ 3921632008 ∷ 2051254059 ∷ 2028485708 ∷ 102383270 ∷ 110660321 ∷ 3237469616 ∷ []
  pub minus_twenty : sha256 (with_zeros 2147483627) ≡ 721445309 ∷ 59359921 ∷ 2920372308 ∷ 1087459295 ∷ 151985532 ∷ 3708268289 ∷ 1836622388 ∷ 705217064 ∷ []

pub vectors : Vectors
unfolding abc alphabet with_zeros K bytes_of padding pad word_of words_of H₀ next extend schedule T₁ T₂ round rounds sums compress blocks sha256
vectors = record { nothing = refl; one_block = refl; two_blocks = refl; ten = refl; minus_ten = refl; twenty = refl; minus_twenty = refl }
