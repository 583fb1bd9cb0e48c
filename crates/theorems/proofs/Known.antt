-- The hashes that the examples meet. Each is computed once, from the standard's definition, and then looked up, where a run computes its marks.
-- Assumes nothing.
use Prim.Native.Nat.{ℕ}
use mathlib.Core.Path.{◌≡◌, refl, ap, ◌∙◌}
use mathlib.Core.Bool.{cond}
use mathlib.Core.List.{List, [], ◌∷◌}
use lib.ListN.{set, replicate}
use Rattle.sha256.specs.Sha256.{K, bytes_of, padding, pad, word_of, words_of, H₀, next, extend, schedule, T₁, T₂, round, rounds, sums, compress, blocks, sha256}
use Rattle.sha256.specs.Digest.{bytes, digest, same}
use Rattle.sha256.specs.Digest.Laws.{digest_is}
use Rattle.sha256.proofs.Alike.{same_true}
use Rattle.circuit.proofs.Tests.{by_cases}
use Rattle.protocol.specs.Docket.{shows}

-- a message and its hash
pub record Known : Type 0 where
  pub message : List ℕ
  pub hash : List ℕ
  pub is : digest message ≡ hash

-- the hash of a message: looked up, where it is known
unfoldable pub lookup : List Known → List ℕ → List ℕ
lookup [] ws = digest ws
lookup (k ∷ ks) ws = cond (same ws k.message) k.hash (lookup ks ws)

-- It is the hash.
found : (ks : List Known) (ws : List ℕ) → digest ws ≡ lookup ks ws
unfolding lookup
found [] ws = refl
found (k ∷ ks) ws =
    by_cases (same ws k.message) (λ b. rw b (ap digest (same_true ws k.message b) ∙ k.is)) (λ b. rw b (found ks ws))

-- each computed
pub record Computed : Type 0 where
  pub ten : sha256 (bytes (shows 10)) ≡ 272533300 ∷ 855279086 ∷ 235693618 ∷ 2709198289 ∷ 3425779131 ∷ 1209606253 ∷ 564894338 ∷ 1025805703 ∷ []
  pub minus_ten : sha256 (bytes (shows 2147483637)) ≡ 392664496 ∷ 2933272743 ∷ 3210988540 ∷ 1159849883 ∷ 2804449762 ∷ 356348130 ∷ 2261437598 ∷ 147768482 ∷ []
  pub twenty : sha256 (bytes (shows 20)) ≡ 850332863 ∷ 617076412 ∷ 3921632008 ∷ 2051254059 ∷ 2028485708 ∷ 102383270 ∷ 110660321 ∷ 3237469616 ∷ []
  pub minus_twenty : sha256 (bytes (shows 2147483627)) ≡ 721445309 ∷ 59359921 ∷ 2920372308 ∷ 1087459295 ∷ 151985532 ∷ 3708268289 ∷ 1836622388 ∷ 705217064 ∷ []
  pub five : sha256 (bytes (shows 5)) ≡ 1884566137 ∷ 363387735 ∷ 3496998334 ∷ 2760075522 ∷ 315056562 ∷ 2393689362 ∷ 1404860258 ∷ 2806634081 ∷ []
  pub minus_forty : sha256 (bytes (shows 2147483607)) ≡ 4229448015 ∷ 3639390048 ∷ 2313771460 ∷ 796279511 ∷ 2527768055 ∷ 854330321 ∷ 131585656 ∷ 700332419 ∷ []
  pub forty : sha256 (bytes (shows 40)) ≡ 1619785894 ∷ 2164081785 ∷ 3536949554 ∷ 3876716347 ∷ 2208187221 ∷ 3440844418 ∷ 2608108055 ∷ 2021712727 ∷ []
  pub seventy_seven : sha256 (bytes (shows 77)) ≡ 3712108268 ∷ 1697147755 ∷ 101711870 ∷ 1785824598 ∷ 2469871945 ∷ 1909241856 ∷ 2641263138 ∷ 3836599105 ∷ []
  pub four : sha256 (bytes (shows 4)) ≡ 1244417175 ∷ 3912128754 ∷ 936072702 ∷ 961251672 ∷ 2215093797 ∷ 1217134647 ∷ 3141193240 ∷ 50545820 ∷ []
  pub minus_four : sha256 (bytes (shows 2147483643)) ≡ 831648754 ∷ 3312203175 ∷ 2291131991 ∷ 1992365589 ∷ 2348552288 ∷ 2624841683 ∷ 2809434074 ∷ 1669061681 ∷ []
  pub one_hundred_and_five : sha256 (bytes (shows 105)) ≡ 483445722 ∷ 916581825 ∷ 3880944572 ∷ 1585683072 ∷ 3011651711 ∷ 759239728 ∷ 1387696807 ∷ 3209849548 ∷ []
  pub minus_one_hundred_and_five : sha256 (bytes (shows 2147483542)) ≡ 2415773932 ∷ 879656673 ∷ 1271163634 ∷ 255918963 ∷ 1918028585 ∷ 4192598957 ∷ 588569058 ∷ 3658165748 ∷ []
  pub other_nonce : sha256 (bytes (set (shows 2147483637) 1 1)) ≡ 1926229236 ∷ 3016683745 ∷ 3725538492 ∷ 1909933658 ∷ 1426030772 ∷ 2069871513 ∷ 174631087 ∷ 3995667624 ∷ []
  pub all_ones : sha256 (bytes (1 ∷ replicate 8 4294967295)) ≡ 626753204 ∷ 3281315467 ∷ 3136857751 ∷ 3795497233 ∷ 2890968502 ∷ 1829833067 ∷ 1082063537 ∷ 3216551885 ∷ []

pub computed : Computed
unfolding K bytes_of padding pad word_of words_of H₀ next extend schedule T₁ T₂ round rounds sums compress blocks sha256 bytes
computed =
    record {
      ten = refl;
      minus_ten = refl;
      twenty = refl;
      minus_twenty = refl;
      five = refl;
      minus_forty = refl;
      forty = refl;
      seventy_seven = refl;
      four = refl;
      minus_four = refl;
      one_hundred_and_five = refl;
      minus_one_hundred_and_five = refl;
      other_nonce = refl;
      all_ones = refl;
    }

-- those of the docket and of the other examples, with a nonce of zeros; of p − 10 with another nonce word; and of 1 with the largest nonce words
unfoldable pub known : List Known
known =
    record { message = shows 10; hash = 272533300 ∷ 855279086 ∷ 235693618 ∷ 2709198289 ∷ 3425779131 ∷ 1209606253 ∷ 564894338 ∷ 1025805703 ∷ []; is = digest_is (shows 10) ∙ computed.ten }
    ∷ record { message = shows 2147483637; hash = 392664496 ∷ 2933272743 ∷ 3210988540 ∷ 1159849883 ∷ 2804449762 ∷ 356348130 ∷ 2261437598 ∷ 147768482 ∷ []; is = digest_is (shows 2147483637) ∙ computed.minus_ten }
    ∷ record { message = shows 20; hash = 850332863 ∷ 617076412 ∷ 3921632008 ∷ 2051254059 ∷ 2028485708 ∷ 102383270 ∷ 110660321 ∷ 3237469616 ∷ []; is = digest_is (shows 20) ∙ computed.twenty }
    ∷ record { message = shows 2147483627; hash = 721445309 ∷ 59359921 ∷ 2920372308 ∷ 1087459295 ∷ 151985532 ∷ 3708268289 ∷ 1836622388 ∷ 705217064 ∷ []; is = digest_is (shows 2147483627) ∙ computed.minus_twenty }
    ∷ record { message = shows 5; hash = 1884566137 ∷ 363387735 ∷ 3496998334 ∷ 2760075522 ∷ 315056562 ∷ 2393689362 ∷ 1404860258 ∷ 2806634081 ∷ []; is = digest_is (shows 5) ∙ computed.five }
    ∷ record { message = shows 2147483607; hash = 4229448015 ∷ 3639390048 ∷ 2313771460 ∷ 796279511 ∷ 2527768055 ∷ 854330321 ∷ 131585656 ∷ 700332419 ∷ []; is = digest_is (shows 2147483607) ∙ computed.minus_forty }
    ∷ record { message = shows 40; hash = 1619785894 ∷ 2164081785 ∷ 3536949554 ∷ 3876716347 ∷ 2208187221 ∷ 3440844418 ∷ 2608108055 ∷ 2021712727 ∷ []; is = digest_is (shows 40) ∙ computed.forty }
    ∷ record { message = shows 77; hash = 3712108268 ∷ 1697147755 ∷ 101711870 ∷ 1785824598 ∷ 2469871945 ∷ 1909241856 ∷ 2641263138 ∷ 3836599105 ∷ []; is = digest_is (shows 77) ∙ computed.seventy_seven }
    ∷ record { message = shows 4; hash = 1244417175 ∷ 3912128754 ∷ 936072702 ∷ 961251672 ∷ 2215093797 ∷ 1217134647 ∷ 3141193240 ∷ 50545820 ∷ []; is = digest_is (shows 4) ∙ computed.four }
    ∷ record { message = shows 2147483643; hash = 831648754 ∷ 3312203175 ∷ 2291131991 ∷ 1992365589 ∷ 2348552288 ∷ 2624841683 ∷ 2809434074 ∷ 1669061681 ∷ []; is = digest_is (shows 2147483643) ∙ computed.minus_four }
    ∷ record { message = shows 105; hash = 483445722 ∷ 916581825 ∷ 3880944572 ∷ 1585683072 ∷ 3011651711 ∷ 759239728 ∷ 1387696807 ∷ 3209849548 ∷ []; is = digest_is (shows 105) ∙ computed.one_hundred_and_five }
    ∷ record { message = shows 2147483542; hash = 2415773932 ∷ 879656673 ∷ 1271163634 ∷ 255918963 ∷ 1918028585 ∷ 4192598957 ∷ 588569058 ∷ 3658165748 ∷ []; is = digest_is (shows 2147483542) ∙ computed.minus_one_hundred_and_five }
    ∷ record { message = set (shows 2147483637) 1 1; hash = 1926229236 ∷ 3016683745 ∷ 3725538492 ∷ 1909933658 ∷ 1426030772 ∷ 2069871513 ∷ 174631087 ∷ 3995667624 ∷ []; is = digest_is (set (shows 2147483637) 1 1) ∙ computed.other_nonce }
    ∷ record { message = 1 ∷ replicate 8 4294967295; hash = 626753204 ∷ 3281315467 ∷ 3136857751 ∷ 3795497233 ∷ 2890968502 ∷ 1829833067 ∷ 1082063537 ∷ 3216551885 ∷ []; is = digest_is (1 ∷ replicate 8 4294967295) ∙ computed.all_ones }
    ∷ []

-- the hash that the examples compute with, which is the shut one
abbrev pub hashed : List ℕ → List ℕ
hashed = lookup known

pub hash_of : (ws : List ℕ) → digest ws ≡ hashed ws
hash_of = found known

pub hash_is : digest ≡ hashed
hash_is = λ t ws. hash_of ws t
