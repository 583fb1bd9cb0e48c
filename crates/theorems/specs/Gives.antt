-- Demands 2 and 3 of circuits with a give, worked by hand, of two parties. In the first party 0's input is given to party 1. In the second the sum
-- of both inputs is given to party 1, whose own input party 0 cannot tell from another, nor the score: 11 or 14.
-- Assumes nothing.
use Rattle.std.specs.Prelude.{ℕ, ◌≡◌, Bool, List, [], ◌∷◌, ◌++◌, eqb, replicate}
use Rattle.algebra.specs.Ops.{Ops}
use Rattle.circuit.specs.Kind.{alone}
use Rattle.circuit.specs.Round.{Second, Reveal}
use Rattle.protocol.specs.Scratch.{layout, read, Value, ValueMac}
use Rattle.protocol.specs.Position.{Position, Receive, Finished}
use Rattle.protocol.specs.Joint.{Joint, party}
use Rattle.protocol.specs.Run.{whole}
use Rattle.protocol.specs.Entry.{Answer, Next, Output, receive_answer}
use Rattle.protocol.specs.JointEntry.{Done, joint_answer, joint_scratch, joint_outputs}
use Rattle.protocol.specs.Good.{Good}
use Rattle.protocol.specs.Plain.{scores, scores_seen}
use Rattle.protocol.specs.Formula.{round_formula}
use Rattle.protocol.specs.Docket.{shows}
use Rattle.theorems.specs.Premises.{after}
use Rattle.theorems.specs.Matching.{plainly, rule}
use Rattle.theorems.specs.Secrecy.{run_of, band_of, Compared}

-- A has party 0 alone
abbrev pub A : ℕ → Bool
A i = eqb i 0

-- in, give
abbrev pub circuit₁ : List ℕ
circuit₁ = 1 ∷ 0 ∷ 0 ∷ 0 ∷ 9 ∷ 0 ∷ 1 ∷ 0 ∷ []

-- the key is 7, the input's mask 2, the give's 10, which party 1 knows
abbrev pub preps₁ : List ℕ
preps₁ = (3 ∷ 1 ∷ 10 ∷ 2 ∷ 6 ∷ 30 ∷ 0 ∷ []) ++ (4 ∷ 1 ∷ 4 ∷ 0 ∷ 4 ∷ 40 ∷ 10 ∷ [])

-- in, in, add, give
abbrev pub circuit : List ℕ
circuit = 1 ∷ 0 ∷ 0 ∷ 0 ∷ 1 ∷ 1 ∷ 0 ∷ 0 ∷ 2 ∷ 0 ∷ 1 ∷ 0 ∷ 9 ∷ 2 ∷ 1 ∷ 0 ∷ []

-- the masks are 2, 10 and 10
abbrev pub preps : List ℕ
preps =
    (3 ∷ 1 ∷ 10 ∷ 2 ∷ 4 ∷ 30 ∷ 0 ∷ 6 ∷ 30 ∷ 0 ∷ []) ++ (4 ∷ 1 ∷ 4 ∷ 0 ∷ 6 ∷ 40 ∷ 10 ∷ 4 ∷ 40 ∷ 10 ∷ [])

-- and its match: the masks of party 1's input and of the give are 3 more, and so is what party 1 knows of them
abbrev pub matched : List ℕ
matched =
    (3 ∷ 1 ∷ 10 ∷ 2 ∷ 4 ∷ 30 ∷ 0 ∷ 6 ∷ 30 ∷ 0 ∷ []) ++ (4 ∷ 1 ∷ 4 ∷ 0 ∷ 9 ∷ 61 ∷ 13 ∷ 7 ∷ 61 ∷ 13 ∷ [])

abbrev pub inputs₁ : List ℕ
inputs₁ = 5 ∷ 6 ∷ []

abbrev pub inputs₂ : List ℕ
inputs₂ = 5 ∷ 9 ∷ []

abbrev pub rooms₁ : List ℕ
rooms₁ = replicate 60 9

abbrev pub rooms : List ℕ
rooms = replicate 68 9

-- the marks and the reveals of the check shares 4 and p − 4
abbrev pub check : List ℕ
check =
    (1244417175 ∷ 3912128754 ∷ 936072702 ∷ 961251672 ∷ 2215093797 ∷ 1217134647 ∷ 3141193240 ∷ 50545820 ∷ [])
    ++ (831648754 ∷ 3312203175 ∷ 2291131991 ∷ 1992365589 ∷ 2348552288 ∷ 2624841683 ∷ 2809434074 ∷ 1669061681 ∷ [])
    ++ (shows 4 ++ shows 2147483643)

-- the words of the two runs, round by round
abbrev pub transcript₁ : List ℕ
transcript₁ = (3 ∷ 0 ∷ []) ++ (2147483645 ∷ 2147483644 ∷ []) ++ check

abbrev pub transcript : List ℕ
transcript = (3 ∷ 0 ∷ []) ++ (0 ∷ 2147483643 ∷ []) ++ (2147483645 ∷ 3 ∷ []) ++ check

-- the lists that a run writes to: no number of them matters
abbrev pub blank : List ℕ
blank = replicate 40 9

abbrev pub unwritten : List ℕ
unwritten = 9 ∷ []

-- a run that is finished, and the last hearing of the first
abbrev pub over : Position
over = record { gate = 1; stage = Finished; held = 0 }

abbrev pub hearing : Position
hearing = record { gate = 1; stage = Receive (Reveal Second); held = 0 }

module _ (O : Ops) where
  abbrev pub given₁ : Joint
  given₁ = run_of O 2 circuit₁ A preps₁ (5 ∷ []) (1 ∷ []) (replicate 64 0)

  -- party i's scratch after k rounds, and what it is answered at the last
  abbrev pub scratch₁ : ℕ → ℕ → List ℕ
  scratch₁ k i = (after O given₁ rooms₁ k).scratch i

  abbrev pub answered : ℕ → Answer
  answered i = receive_answer O (party given₁ i) (scratch₁ 3 i) hearing (shows 4 ++ shows 2147483643)

  -- a run on preprocessing m and inputs x
  abbrev pub giving : List ℕ → List ℕ → Joint
  giving m x = run_of O 2 circuit A m x (1 ∷ []) (replicate 64 0)

  -- party 0's band of the scratch after it
  abbrev pub band_on : List ℕ → List ℕ → List ℕ
  band_on m x = band_of O 2 circuit A (joint_scratch O (giving m x) rooms blank unwritten) 0

  pub record Gives : Type 0 where
    pub good₁ : Good O 2 circuit₁ preps₁
    -- what is shown is 5 − 10, with MAC shares −11 and −24
    pub shown₁ : (read (layout circuit₁) (scratch₁ 2 0) (Value 0) ≡ 2147483642) × (read (layout circuit₁) (scratch₁ 2 1) (Value 0) ≡ 2147483642)
    pub macs₁ : (read (layout circuit₁) (scratch₁ 2 0) (ValueMac 0) ≡ 2147483636) × (read (layout circuit₁) (scratch₁ 2 1) (ValueMac 0) ≡ 2147483623)
    pub words₁ : (whole O given₁ rooms₁).transcript ≡ transcript₁
    pub rounds₁ : joint_answer O given₁ rooms₁ blank unwritten ≡ Done 4
    pub formula₁ : round_formula circuit₁ ≡ 4
    pub output₁ : joint_outputs O given₁ rooms₁ blank unwritten ≡ 5 ∷ []
    -- party 1 is answered the score, party 0 that the run is finished
    pub receiver₁ : answered 1 ≡ Output 5 over
    pub other₁ : answered 0 ≡ Next over
    -- the second circuit
    pub good : Good O 2 circuit preps
    pub rounds : joint_answer O (giving preps inputs₁) rooms blank unwritten ≡ Done 5
    pub output : joint_outputs O (giving preps inputs₁) rooms blank unwritten ≡ 11 ∷ []
    pub words : (whole O (giving preps inputs₁) rooms).transcript ≡ transcript
    -- on plain inputs the scores differ, and party 0 sees none of them
    pub first_score : scores O (plainly 2 circuit inputs₁) 4 ≡ 11 ∷ []
    pub second_score : scores O (plainly 2 circuit inputs₂) 4 ≡ 14 ∷ []
    pub unseen : scores_seen O (plainly 2 circuit inputs₁) A 4 ≡ []
    -- demand 3: the second inputs with the match
    pub compared : Compared O 2 circuit A inputs₁ inputs₂
    pub match_is : rule O 2 circuit A inputs₁ inputs₂ preps ≡ matched
    pub other_output : joint_outputs O (giving matched inputs₂) rooms blank unwritten ≡ 14 ∷ []
    pub same_words : (whole O (giving matched inputs₂) rooms).transcript ≡ transcript
    pub same_bands : band_on matched inputs₂ ≡ band_on preps inputs₁
    -- to the receiver the two are not alike
    pub not_to_receiver : Compared O 2 circuit (alone 1) inputs₁ inputs₂ → ⊥
