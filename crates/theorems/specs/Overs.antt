-- Demands 2 and 3 of circuits with over gates, worked by hand, of two parties. In the first party 0's input is divided by 2 and shown. In the second
-- one input is multiplied and then divided by 3, the other divided and then multiplied, and half of their sum is shown: 5 and 6 give what 4 and
-- 7 give, so that party 1 cannot tell them apart.
-- Assumes nothing.
use Rattle.std.specs.Prelude.{ℕ, ◌≡◌, List, [], ◌∷◌, ◌++◌, replicate}
use Rattle.algebra.specs.Ops.{Ops}
use Rattle.protocol.specs.Scratch.{layout, wire}
use Rattle.protocol.specs.Part.{Part}
use Rattle.protocol.specs.Joint.{Joint}
use Rattle.protocol.specs.Run.{whole}
use Rattle.protocol.specs.JointEntry.{Done, joint_answer, joint_scratch, joint_outputs}
use Rattle.protocol.specs.Good.{Good}
use Rattle.protocol.specs.Formula.{round_formula}
use Rattle.protocol.specs.Docket.{part}
use Rattle.theorems.specs.Premises.{after}
use Rattle.theorems.specs.Matching.{rule}
use Rattle.theorems.specs.Secrecy.{run_of, band_of, Compared}
use Rattle.theorems.specs.Example.{A}
use Rattle.theorems.specs.Gives.{check, blank, unwritten}

-- in, over 2, out
abbrev pub circuit₁ : List ℕ
circuit₁ = 1 ∷ 0 ∷ 0 ∷ 0 ∷ 10 ∷ 0 ∷ 0 ∷ 2 ∷ 7 ∷ 1 ∷ 0 ∷ 0 ∷ []

-- the key is 7 and the mask 2
abbrev pub preps₁ : List ℕ
preps₁ = (3 ∷ 1 ∷ 10 ∷ 2 ∷ []) ++ (4 ∷ 1 ∷ 4 ∷ 0 ∷ [])

-- in, in, times 3, over 3, over 3, times 3, add, over 2, out
abbrev pub circuit : List ℕ
circuit =
    (1 ∷ 0 ∷ 0 ∷ 0 ∷ 1 ∷ 0 ∷ 0 ∷ 0 ∷ [])
    ++ (5 ∷ 0 ∷ 0 ∷ 3 ∷ 10 ∷ 2 ∷ 0 ∷ 3 ∷ [])
    ++ (10 ∷ 1 ∷ 0 ∷ 3 ∷ 5 ∷ 4 ∷ 0 ∷ 3 ∷ [])
    ++ (2 ∷ 3 ∷ 5 ∷ 0 ∷ 10 ∷ 6 ∷ 0 ∷ 2 ∷ 7 ∷ 7 ∷ 0 ∷ 0 ∷ [])

-- the masks are 2 and 10
abbrev pub preps : List ℕ
preps = (3 ∷ 1 ∷ 10 ∷ 2 ∷ 4 ∷ 30 ∷ 10 ∷ []) ++ (4 ∷ 1 ∷ 4 ∷ 0 ∷ 6 ∷ 40 ∷ 0 ∷ [])

-- and its match: the first mask is 1 less at party 0, the second 1 more
abbrev pub matched : List ℕ
matched = (3 ∷ 0 ∷ 3 ∷ 1 ∷ 5 ∷ 37 ∷ 11 ∷ []) ++ (4 ∷ 1 ∷ 4 ∷ 0 ∷ 6 ∷ 40 ∷ 0 ∷ [])

abbrev pub inputs₁ : List ℕ
inputs₁ = 5 ∷ 6 ∷ []

abbrev pub inputs₂ : List ℕ
inputs₂ = 4 ∷ 7 ∷ []

abbrev pub rooms₁ : List ℕ
rooms₁ = replicate 64 9

abbrev pub rooms : List ℕ
rooms = replicate 88 9

-- the words of the two runs, round by round. The check shares are 4 and p − 4 in both
abbrev pub transcript₁ : List ℕ
transcript₁ = (3 ∷ 0 ∷ []) ++ (2 ∷ 1073741824 ∷ []) ++ check

abbrev pub transcript : List ℕ
transcript = (3 ∷ 0 ∷ []) ++ (2147483643 ∷ 0 ∷ []) ++ (2 ∷ 1073741827 ∷ []) ++ check

module _ (O : Ops) where
  abbrev pub halving : Joint
  halving = run_of O 2 circuit₁ A preps₁ (5 ∷ []) (2 ∷ []) (replicate 64 0)

  -- party i's part of gate x after the input's round
  abbrev pub parts₁ : ℕ → ℕ → Part
  parts₁ x i = wire (layout circuit₁) ((after O halving rooms₁ 1).scratch i) x

  -- a run on preprocessing m and inputs x
  abbrev pub dividing : List ℕ → List ℕ → Joint
  dividing m x = run_of O 2 circuit A m x (2 ∷ []) (replicate 64 0)

  -- party 1's band of the scratch after it
  abbrev pub band_on : List ℕ → List ℕ → List ℕ
  band_on m x = band_of O 2 circuit A (joint_scratch O (dividing m x) rooms blank unwritten) 1

  -- party i's part of gate x after the inputs' rounds
  abbrev pub parts : ℕ → ℕ → Part
  parts x i = wire (layout circuit) ((after O (dividing preps inputs₁) rooms 2).scratch i) x

  pub record Overs : Type 0 where
    pub good₁ : Good O 2 circuit₁ preps₁
    -- share and MAC share alike are halved
    pub input₁ : (parts₁ 0 0 ≡ part 4 19) × (parts₁ 0 1 ≡ part 1 16)
    pub half₁ : (parts₁ 1 0 ≡ part 2 1073741833) × (parts₁ 1 1 ≡ part 1073741824 8)
    pub words₁ : (whole O halving rooms₁).transcript ≡ transcript₁
    pub rounds₁ : joint_answer O halving rooms₁ blank unwritten ≡ Done 4
    pub formula₁ : round_formula circuit₁ ≡ 4
    pub output₁ : joint_outputs O halving rooms₁ blank unwritten ≡ 1073741826 ∷ []
    -- the second circuit: gate 3 is gate 0 again, and gate 5 gate 1
    pub good : Good O 2 circuit preps
    pub first_input : (parts 0 0 ≡ part 4 19) × (parts 0 1 ≡ part 1 16)
    pub tripled : (parts 2 0 ≡ part 12 57) × (parts 2 1 ≡ part 3 48)
    pub times_then_over : (parts 3 0 ≡ part 4 19) × (parts 3 1 ≡ part 1 16)
    pub second_input : (parts 1 0 ≡ part 0 18) × (parts 1 1 ≡ part 6 24)
    pub third : (parts 4 0 ≡ part 0 6) × (parts 4 1 ≡ part 2 8)
    pub over_then_times : (parts 5 0 ≡ part 0 18) × (parts 5 1 ≡ part 6 24)
    pub half : (parts 7 0 ≡ part 2 1073741842) × (parts 7 1 ≡ part 1073741827 20)
    pub rounds : joint_answer O (dividing preps inputs₁) rooms blank unwritten ≡ Done 5
    pub output : joint_outputs O (dividing preps inputs₁) rooms blank unwritten ≡ 1073741829 ∷ []
    pub words : (whole O (dividing preps inputs₁) rooms).transcript ≡ transcript
    -- demand 3: the second inputs with the match
    pub compared : Compared O 2 circuit A inputs₁ inputs₂
    pub match_is : rule O 2 circuit A inputs₁ inputs₂ preps ≡ matched
    pub same_words : (whole O (dividing matched inputs₂) rooms).transcript ≡ transcript
    pub same_bands : band_on matched inputs₂ ≡ band_on preps inputs₁
