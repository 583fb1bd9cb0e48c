-- What the code's questions and refusals stand for.
-- Assumes nothing.
use Rattle.std.specs.Prelude.{ℕ, Result, Ok, Err}
use Rattle.circuit.specs.Verdict as Q
use Rattle.circuit.specs.declared.questions.Question.{Question}
use Rattle.circuit.specs.declared.questions.Question.TheVariants.{Parties, Party, CircuitSize, Kind, Named, Rest, Last, PrepSize, Prep, InputCount, Inputs, ScratchSize, Position, Half, Scratch, CoefficientCount, Coefficients, Room, HeardSize, Heard, Form, Depth, GateCount, Nonce, Ranges, Change, Own}
use Rattle.circuit.specs.declared.questions.Refusal.{Refusal}

-- the number by which a question is refused
abbrev pub number_of : Question → ℕ
number_of Parties = 1
number_of Party = 2
number_of CircuitSize = 3
number_of Kind = 4
number_of Named = 5
number_of Rest = 6
number_of Last = 7
number_of PrepSize = 8
number_of Prep = 9
number_of InputCount = 10
number_of Inputs = 11
number_of ScratchSize = 12
number_of Position = 13
number_of Half = 14
number_of Scratch = 15
number_of CoefficientCount = 16
number_of Coefficients = 17
number_of Room = 18
number_of HeardSize = 19
number_of Heard = 20
number_of Form = 22
number_of Depth = 23
number_of GateCount = 24
number_of Nonce = 25
number_of Ranges = 26
number_of Change = 27
number_of (Own number) = number

-- "A refusal gives its number and an index"; whatever a step has worked out, its questions are then accepted
abbrev pub verdict_of : {A : Type 0} → Result A Refusal → Q.Verdict
verdict_of (Ok a) = Q.Accepted
verdict_of (Err r) = Q.Refused (number_of r.question) r.index
