-- Demands 2 and 3 of a circuit with an sq gate, worked by hand: two parties, party 0's input is squared and shown. 5 and −5 have the same
-- square, so that party 1 cannot tell them apart.
-- Assumes nothing.
use Rattle.std.specs.Prelude.{ℕ, ◌≡◌, List, [], ◌∷◌, ◌++◌, replicate}
use Rattle.algebra.specs.Ops.{Ops}
use Rattle.protocol.specs.Scratch.{layout, wire, read, Value, ValueMac}
use Rattle.protocol.specs.Joint.{Joint}
use Rattle.protocol.specs.Run.{whole}
use Rattle.protocol.specs.JointEntry.{Done, joint_answer, joint_scratch, joint_outputs}
use Rattle.protocol.specs.Good.{Good}
use Rattle.protocol.specs.Formula.{round_formula}
use Rattle.protocol.specs.Docket.{part, shows}
use Rattle.theorems.specs.Premises.{after}
use Rattle.theorems.specs.Matching.{rule}
use Rattle.theorems.specs.Secrecy.{run_of, band_of, Compared}
use Rattle.theorems.specs.Example.{A, blank, unwritten}

-- in, sq, out
abbrev pub circuit : List ℕ
circuit = 1 ∷ 0 ∷ 0 ∷ 0 ∷ 8 ∷ 0 ∷ 0 ∷ 0 ∷ 7 ∷ 1 ∷ 0 ∷ 0 ∷ []

-- the key is 7, the mask 2, a is 3 and c is 9
abbrev pub preps : List ℕ
preps = (3 ∷ 1 ∷ 10 ∷ 2 ∷ 1 ∷ 11 ∷ 4 ∷ 40 ∷ []) ++ (4 ∷ 1 ∷ 4 ∷ 0 ∷ 2 ∷ 10 ∷ 5 ∷ 23 ∷ [])

-- and its match: the mask and a are 10 less at party 0, and c is 49
abbrev pub matched : List ℕ
matched =
    (3 ∷ 2147483638 ∷ 2147483587 ∷ 2147483639 ∷ 2147483638 ∷ 2147483588 ∷ 44 ∷ 320 ∷ []) ++ (4 ∷ 1 ∷ 4 ∷ 0 ∷ 2 ∷ 10 ∷ 5 ∷ 23 ∷ [])

abbrev pub inputs₁ : List ℕ
inputs₁ = 5 ∷ []

abbrev pub inputs₂ : List ℕ
inputs₂ = 2147483642 ∷ []

abbrev pub rooms : List ℕ
rooms = replicate 68 9

-- the words of a run, round by round: in, sq, the check of E, the opening and its check
abbrev pub transcript : List ℕ
transcript =
    (3 ∷ 0 ∷ [])
    ++ (3 ∷ 2147483646 ∷ [])
    ++ (1244417175 ∷ 3912128754 ∷ 936072702 ∷ 961251672 ∷ 2215093797 ∷ 1217134647 ∷ 3141193240 ∷ 50545820 ∷ [])
    ++ (831648754 ∷ 3312203175 ∷ 2291131991 ∷ 1992365589 ∷ 2348552288 ∷ 2624841683 ∷ 2809434074 ∷ 1669061681 ∷ [])
    ++ (shows 4 ++ shows 2147483643)
    ++ (12 ∷ 13 ∷ [])
    ++ (483445722 ∷ 916581825 ∷ 3880944572 ∷ 1585683072 ∷ 3011651711 ∷ 759239728 ∷ 1387696807 ∷ 3209849548 ∷ [])
    ++ (2415773932 ∷ 879656673 ∷ 1271163634 ∷ 255918963 ∷ 1918028585 ∷ 4192598957 ∷ 588569058 ∷ 3658165748 ∷ [])
    ++ (shows 105 ++ shows 2147483542)

module _ (O : Ops) where
  -- a run on preprocessing m and inputs x
  abbrev pub squaring : List ℕ → List ℕ → Joint
  squaring m x = run_of O 2 circuit A m x (2 ∷ 5 ∷ []) (replicate 128 0)

  -- party 1's band of the scratch after it
  abbrev pub band_on : List ℕ → List ℕ → List ℕ
  band_on m x = band_of O 2 circuit A (joint_scratch O (squaring m x) rooms blank unwritten) 1

  -- party i's scratch after the square's round
  abbrev pub squared : ℕ → List ℕ
  squared i = (after O (squaring preps inputs₁) rooms 2).scratch i

  pub record Squares : Type 0 where
    pub good : Good O 2 circuit preps
    -- E is 2 at both parties, with MAC shares 8 and 6
    pub opened_E : (read (layout circuit) (squared 0) (Value 0) ≡ 2) × (read (layout circuit) (squared 1) (Value 0) ≡ 2)
    pub macs_of_E : (read (layout circuit) (squared 0) (ValueMac 0) ≡ 8) × (read (layout circuit) (squared 1) (ValueMac 0) ≡ 6)
    -- the shares of 25 are 12 and 13, the MAC shares 96 and 79
    pub square : (wire (layout circuit) (squared 0) 1 ≡ part 12 96) × (wire (layout circuit) (squared 1) 1 ≡ part 13 79)
    pub rounds : joint_answer O (squaring preps inputs₁) rooms blank unwritten ≡ Done 7
    pub formula : round_formula circuit ≡ 7
    pub output : joint_outputs O (squaring preps inputs₁) rooms blank unwritten ≡ 25 ∷ []
    pub words : (whole O (squaring preps inputs₁) rooms).transcript ≡ transcript
    -- demand 3: the second inputs with the match
    pub compared : Compared O 2 circuit A inputs₁ inputs₂
    pub match_is : rule O 2 circuit A inputs₁ inputs₂ preps ≡ matched
    pub same_words : (whole O (squaring matched inputs₂) rooms).transcript ≡ transcript
    pub same_bands : band_on matched inputs₂ ≡ band_on preps inputs₁
