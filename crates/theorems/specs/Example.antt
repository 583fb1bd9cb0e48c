-- Demand 3 is not empty: an example with the docket's circuit, preprocessing, coefficients and nonces. A has a party, and two sets of inputs that
-- differ have the same score.
-- Assumes nothing.
use Rattle.std.specs.Prelude.{ℕ, ◌≡◌, ◌≢◌, Bool, true, List, [], ◌∷◌, ◌++◌, eqb, get_or, replicate}
use Rattle.algebra.specs.Ops.{Ops}
use Rattle.circuit.specs.Verdict.{Accepted}
use Rattle.circuit.specs.Count.{prep_size}
use Rattle.protocol.specs.Scratch.{band}
use Rattle.protocol.specs.Joint.{Joint}
use Rattle.protocol.specs.Run.{whole}
use Rattle.protocol.specs.JointEntry.{Done, verdict, joint_answer, joint_scratch}
use Rattle.protocol.specs.Good.{Good}
use Rattle.protocol.specs.Docket.{circuit, prep₀, prep₁, docket, rooms, shows, marks₁}
use Rattle.theorems.specs.Matching.{rule}
use Rattle.theorems.specs.Secrecy.{run_of, band_of, Compared, Secret}

-- A has party 1 alone
abbrev pub A : ℕ → Bool
A i = eqb i 1

-- party 1's input is 0, so the product is 0 whatever party 0's input is
abbrev pub inputs₁ : List ℕ
inputs₁ = 5 ∷ 0 ∷ []

abbrev pub inputs₂ : List ℕ
inputs₂ = 9 ∷ 0 ∷ []

-- the docket's preprocessing, and its match: party 0's mask of gate 0 and whole mask, its a and its c are others, and their MAC shares
abbrev pub preps : List ℕ
preps = prep₀ ++ prep₁

abbrev pub matched : List ℕ
matched = (3 ∷ 5 ∷ 38 ∷ 6 ∷ 4 ∷ 30 ∷ 0 ∷ 5 ∷ 39 ∷ 3 ∷ 8 ∷ 21 ∷ 156 ∷ []) ++ prep₁

-- the words of a run, round by round
abbrev pub transcript : List ℕ
transcript =
    (3 ∷ 0 ∷ [])
    ++ (0 ∷ 2147483637 ∷ [])
    ++ (3 ∷ 2147483638 ∷ 2147483646 ∷ 5 ∷ [])
    ++ marks₁
    ++ (shows 10 ++ shows 2147483637)
    ++ (2147483646 ∷ 1 ∷ [])
    ++ (4229448015 ∷ 3639390048 ∷ 2313771460 ∷ 796279511 ∷ 2527768055 ∷ 854330321 ∷ 131585656 ∷ 700332419 ∷ [])
    ++ (1619785894 ∷ 2164081785 ∷ 3536949554 ∷ 3876716347 ∷ 2208187221 ∷ 3440844418 ∷ 2608108055 ∷ 2021712727 ∷ [])
    ++ (shows 2147483607 ++ shows 40)

-- the lists that a run writes to: no number of them matters
abbrev pub blank : List ℕ
blank = replicate 78 9

abbrev pub unwritten : List ℕ
unwritten = 9 ∷ []

module _ (O : Ops) where
  abbrev pub example_run : List ℕ → List ℕ → Joint
  example_run m x = run_of O 2 circuit A m x docket.coefficients docket.nonces

  -- the words of a run on preprocessing m and inputs x
  abbrev pub words_on : List ℕ → List ℕ → List ℕ
  words_on m x = (whole O (example_run m x) rooms).transcript

  -- party 1's band of the scratch after it
  abbrev pub band_on : List ℕ → List ℕ → List ℕ
  band_on m x = band_of O 2 circuit A (joint_scratch O (example_run m x) rooms blank unwritten) 1

  pub record Example : Type 0 where
    -- demand 3's premises hold: the inputs agree at party 1 and give equal scores, and party 0 is outside A
    pub compared : Compared O 2 circuit A inputs₁ inputs₂
    -- the docket's preprocessing is good
    pub good : Good O 2 circuit preps
    -- A is not empty
    pub member : A 1 ≡ true
    -- the inputs differ
    pub inputs_differ : inputs₂ ≢ inputs₁
    -- the rule gives this match ..
    pub match_is : rule O 2 circuit A inputs₁ inputs₂ preps ≡ matched
    -- .. which is other preprocessing ..
    pub match_differs : matched ≢ preps
    -- .. with the same numbers at party 1
    pub match_keeps : band (prep_size circuit) matched 1 ≡ band (prep_size circuit) preps 1
    -- the run on the first inputs finishes after 8 rounds ..
    pub first_answer : joint_answer O (example_run preps inputs₁) rooms blank unwritten ≡ Done 8
    -- .. and so does the run on the second with the match
    pub second_answer : joint_answer O (example_run matched inputs₂) rooms blank unwritten ≡ Done 8
    -- the first sends these words ..
    pub first_words : words_on preps inputs₁ ≡ transcript
    -- .. and the second sends the same
    pub second_words : words_on matched inputs₂ ≡ transcript
    -- party 1's scratch is the same after both
    pub same_bands : band_on matched inputs₂ ≡ band_on preps inputs₁
    -- the first run is not refused ..
    pub first_accepted : verdict O (example_run preps inputs₁) rooms blank unwritten ≡ Accepted
    -- .. and neither is the run on the second inputs without the match
    pub unmatched_accepted : verdict O (example_run preps inputs₂) rooms blank unwritten ≡ Accepted
    -- but there party 0's first in word is 9 − 2, where the first run has 5 − 2 ..
    pub unmatched_word : get_or (words_on preps inputs₂) 0 0 ≡ 7
    -- .. so that the words differ
    pub unmatched_differs : words_on preps inputs₂ ≢ words_on preps inputs₁
    -- so "An identity matching that ignores the inputs" is none that demand 3 asks for
    pub no_identity : Secret O 2 circuit A inputs₁ inputs₂ (λ m. m) (λ m. m) → ⊥
