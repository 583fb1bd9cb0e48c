-- Answers as numbers. A refusal has none: it is returned.
-- Assumes nothing.
use Rattle.std.specs.Prelude.{ℕ, suc, ◌<◌, List, [], ◌∷◌}
use Rattle.protocol.specs.Position.{Position}
use Rattle.protocol.specs.Receive.{Blame, Nobody, Blames}
use Rattle.protocol.specs.Entry.{Answer, Refusal, Next, Output, Abort}
use Rattle.protocol.specs.JointEntry as J
use Rattle.capi.specs.Stages.{half_number, stage_round}

-- how many numbers an answer is
abbrev pub places : ℕ
places = 6

-- whom a stop names: 0 for nobody, and for a party one more than its number
unfoldable pub blame_number : Blame → ℕ
blame_number Nobody = 0
blame_number (Blames i) = suc i

-- the numbers of an answer are below this
abbrev pub number_size : ℕ
number_size = 18446744073709551616

-- a kind, an output, whom a stop names or 0, and a position: its gate, half, round and check share
unfoldable pub position_numbers : ℕ → ℕ → Position → List ℕ
position_numbers kind value at = kind ∷ value ∷ at.gate ∷ half_number at.stage ∷ stage_round at.stage ∷ at.held ∷ []

-- a party's answer: 1 and the next position; 2, an output and the next position; 3, whom an abort names and its position
unfoldable pub answer_numbers : Answer → List ℕ
answer_numbers (Refusal number index) = []
answer_numbers (Next at) = position_numbers 1 0 at
answer_numbers (Output output at) = position_numbers 2 output at
answer_numbers (Abort b at) = position_numbers 3 (blame_number b) at

-- a joint run's answer: 1 and the rounds made; 2, the rounds made, the gate of an abort and whom it names
unfoldable pub joint_numbers : J.JointAnswer → List ℕ
joint_numbers (J.Refusal number index) = []
joint_numbers (J.Done rounds) = 1 ∷ rounds ∷ 0 ∷ 0 ∷ 0 ∷ 0 ∷ []
joint_numbers (J.Aborted gate b rounds) = 2 ∷ rounds ∷ gate ∷ blame_number b ∷ 0 ∷ 0 ∷ []

-- an answer names nobody or a party whose number has one after it
abbrev pub Tellable : Answer → Type 0
Tellable (Refusal number index) = Unit {0}
Tellable (Next at) = Unit {0}
Tellable (Output output at) = Unit {0}
Tellable (Abort b at) = blame_number b < number_size

abbrev pub JointTellable : J.JointAnswer → Type 0
JointTellable (J.Refusal number index) = Unit {0}
JointTellable (J.Done rounds) = Unit {0}
JointTellable (J.Aborted gate b rounds) = blame_number b < number_size
