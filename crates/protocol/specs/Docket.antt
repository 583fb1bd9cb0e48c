-- The docket of document 01, and its starred cases as one table.
-- Assumes nothing.
use Rattle.std.specs.Prelude.{ℕ, zero, suc, ◌-◌, ◌≡◌, List, [], ◌∷◌, ◌++◌, set, replicate}
use Rattle.algebra.specs.Ops.{Ops}
use Rattle.circuit.specs.Verdict.{Accepted, Refused}
use Rattle.circuit.specs.Round.{Check, First, Second, Round, Own, Open, Commit, Reveal}
use Rattle.circuit.specs.Accept.{ask_circuit}
use Rattle.protocol.specs.Part.{Part}
use Rattle.protocol.specs.Scratch.{layout, wire, read, Value, ValueMac, band}
use Rattle.protocol.specs.Position.{Position, Send, Receive, Aborted}
use Rattle.protocol.specs.Party.{Party}
use Rattle.protocol.specs.Send.{revealed, mark}
use Rattle.protocol.specs.Receive.{Nobody, Blames}
use Rattle.protocol.specs.Entry.{Answer, Refusal, Next, Abort, open_answer, send_answer, send_out, send_scratch, receive_answer, receive_scratch}
use Rattle.protocol.specs.Joint.{Joint}
use Rattle.protocol.specs.Run.{State, begun, step}
use Rattle.protocol.specs.JointEntry.{Done, joint_answer, joint_scratch, joint_transcript, joint_outputs}
use Rattle.protocol.specs.Plain.{scores}
use Rattle.protocol.specs.Good.{Good, whole_key}
use Rattle.protocol.specs.Formula.{round_formula}

-- "Two seats: `1 0 0 0`, `1 1 0 0`, `6 0 1 0`, `7 2 0 0`."
abbrev pub circuit : List ℕ
circuit = 1 ∷ 0 ∷ 0 ∷ 0 ∷ 1 ∷ 1 ∷ 0 ∷ 0 ∷ 6 ∷ 0 ∷ 1 ∷ 0 ∷ 7 ∷ 2 ∷ 0 ∷ 0 ∷ []

-- "Seat 0: material 3; 1 10 2; 4 30 0; 1 11 3 8 5 44"
abbrev pub prep₀ : List ℕ
prep₀ = 3 ∷ 1 ∷ 10 ∷ 2 ∷ 4 ∷ 30 ∷ 0 ∷ 1 ∷ 11 ∷ 3 ∷ 8 ∷ 5 ∷ 44 ∷ []

-- "Seat 1: material 4; 1 4 0; 6 40 10; 2 10 1 20 7 40"
abbrev pub prep₁ : List ℕ
prep₁ = 4 ∷ 1 ∷ 4 ∷ 0 ∷ 6 ∷ 40 ∷ 10 ∷ 2 ∷ 10 ∷ 1 ∷ 20 ∷ 7 ∷ 40 ∷ []

-- "input 5", "input 6", "Draws 1 2 5."; "The docket's nonce bytes are all 0.": of two checks, each with a nonce of each seat
abbrev pub docket : Joint
docket =
    record {
      parties = 2;
      circuit = circuit;
      preps = prep₀ ++ prep₁;
      inputs = 5 ∷ 6 ∷ [];
      coefficients = 1 ∷ 2 ∷ 5 ∷ [];
      nonces = replicate 128 0;
    }

-- one party's scratch, and that of both: no number of it matters
abbrev pub room : List ℕ
room = replicate 38 9

abbrev pub rooms : List ℕ
rooms = replicate 76 9

-- one nonce, and what a check share and this nonce are revealed as
abbrev pub nonce : List ℕ
nonce = replicate 32 0

abbrev pub shows : ℕ → List ℕ
shows x = revealed x (replicate 8 0)

-- the marks of the first check, which are of 10 and p − 10, and those of the second, of 20 and p − 20
abbrev pub mark₁₀ : List ℕ
mark₁₀ = 272533300 ∷ 855279086 ∷ 235693618 ∷ 2709198289 ∷ 3425779131 ∷ 1209606253 ∷ 564894338 ∷ 1025805703 ∷ []

abbrev pub marks₁ : List ℕ
marks₁ =
    mark₁₀
    ++ (392664496 ∷ 2933272743 ∷ 3210988540 ∷ 1159849883 ∷ 2804449762 ∷ 356348130 ∷ 2261437598 ∷ 147768482 ∷ [])

abbrev pub marks₂ : List ℕ
marks₂ =
    (850332863 ∷ 617076412 ∷ 3921632008 ∷ 2051254059 ∷ 2028485708 ∷ 102383270 ∷ 110660321 ∷ 3237469616 ∷ [])
    ++ (721445309 ∷ 59359921 ∷ 2920372308 ∷ 1087459295 ∷ 151985532 ∷ 3708268289 ∷ 1836622388 ∷ 705217064 ∷ [])

-- the words of a run, round by round
abbrev pub docket_words : List ℕ
docket_words =
    (3 ∷ 0 ∷ [])
    ++ (0 ∷ 2147483643 ∷ [])
    ++ (3 ∷ 2147483644 ∷ 2147483646 ∷ 5 ∷ [])
    ++ marks₁
    ++ (shows 10 ++ shows 2147483637)
    ++ (17 ∷ 13 ∷ [])
    ++ marks₂
    ++ (shows 20 ++ shows 2147483627)

-- the two parties as document 01 lends them to single calls
abbrev pub party₀ : Party
party₀ = record { parties = 2; me = 0; circuit = circuit; prep = prep₀; inputs = 5 ∷ [] }

abbrev pub party₁ : Party
party₁ = record { parties = 2; me = 1; circuit = circuit; prep = prep₁; inputs = 6 ∷ [] }

-- seat 0 of k parties
abbrev pub among : ℕ → Party
among k = record { parties = k; me = 0; circuit = circuit; prep = prep₀; inputs = 5 ∷ [] }

-- seat 0 with the number x in place of its key share
abbrev pub keyed : ℕ → Party
keyed x = record { parties = 2; me = 0; circuit = circuit; prep = set prep₀ 0 x; inputs = 5 ∷ [] }

-- an in gate, a times gate that names gate x, and an out gate
abbrev pub naming : ℕ → List ℕ
naming x = 1 ∷ 0 ∷ 0 ∷ 0 ∷ 5 ∷ x ∷ 0 ∷ 3 ∷ 7 ∷ 0 ∷ 0 ∷ 0 ∷ []

-- k add gates, each the double of gate 0
unfoldable pub doubles : ℕ → List ℕ
doubles zero = []
doubles (suc k) = 2 ∷ 0 ∷ 0 ∷ 0 ∷ doubles k

-- a circuit of k + 2 gates
abbrev pub long : ℕ → List ℕ
long k = 1 ∷ 0 ∷ 0 ∷ 0 ∷ (doubles k ++ (7 ∷ 0 ∷ 0 ∷ 0 ∷ []))

abbrev pub part : ℕ → ℕ → Part
part share mac = record { share = share; mac = mac }

-- the positions of the out gate
abbrev pub sending : Round → ℕ → Position
sending r held = record { gate = 3; stage = Send r; held = held }

abbrev pub receiving : Round → ℕ → Position
receiving r held = record { gate = 3; stage = Receive r; held = held }

abbrev pub stopped : Position
stopped = record { gate = 3; stage = Aborted; held = 0 }

module _ (O : Ops) where
  open O use {size}

  -- the state after each round
  unfoldable pub after₁ : State
  after₁ = step O docket (begun O docket rooms) Own

  unfoldable pub after₂ : State
  after₂ = step O docket after₁ Own

  unfoldable pub after₃ : State
  after₃ = step O docket after₂ Own

  unfoldable pub after₄ : State
  after₄ = step O docket after₃ (Commit First)

  unfoldable pub after₅ : State
  after₅ = step O docket after₄ (Reveal First)

  -- a party's part of value j after the product's round
  abbrev pub parts : ℕ → ℕ → Part
  parts i j = wire (layout circuit) (after₃.scratch i) j

  -- "Seat 1's show word 14 heard": the scratch of each seat afterwards
  unfoldable pub misheard : Party → ℕ → List ℕ
  misheard P i = receive_scratch O P (after₅.scratch i) (receiving Open 0) (17 ∷ 14 ∷ [])

  -- a seat's scratch once it has sent a commitment of check k, with these coefficients and from scratch l, and has heard these marks; it holds
  -- the check share held
  unfoldable pub sealed : Party → List ℕ → Check → List ℕ → ℕ → List ℕ → List ℕ
  sealed P l k coefficients held marks =
      receive_scratch O P (send_scratch O P l (sending (Commit k) 0) coefficients nonce 8) (receiving (Commit k) held) marks

  -- the words of both seats at the second seal, once seat 1's show word was heard as 14
  unfoldable pub misheard_marks : List ℕ
  misheard_marks =
      send_out O party₀ (misheard party₀ 0) (sending (Commit Second) 0) (5 ∷ []) nonce (replicate 8 0)
      ++ send_out O party₁ (misheard party₁ 1) (sending (Commit Second) 0) (5 ∷ []) nonce (replicate 8 0)

  -- what seat 0 is answered at the first reveal, where it heard these marks and these words
  unfoldable pub first_reveal : List ℕ → List ℕ → Answer
  first_reveal marks heard =
      receive_answer O party₀ (sealed party₀ (after₃.scratch 0) First (1 ∷ 2 ∷ []) 10 marks) (receiving (Reveal First) 0) heard

  -- the cases of document 01 that are marked *, and the docket's lines
  pub record Table : Type 0 where
    pub transcript : joint_transcript O docket rooms (replicate 78 0) (0 ∷ []) ≡ docket_words
    pub output : joint_outputs O docket rooms (replicate 78 0) (0 ∷ []) ≡ 30 ∷ []
    -- "This run takes 8 rounds."
    pub rounds : joint_answer O docket rooms (replicate 78 0) (0 ∷ []) ≡ Done 8
    pub formula : round_formula circuit ≡ 8
    -- seat 0's band after it, where it began with zeros: shares, MAC shares, opened values and their MAC shares, the nonce and the marks
    pub band_after :
        band 38 (joint_scratch O docket (replicate 76 0) (replicate 78 0) (0 ∷ [])) 0
        ≡ (4 ∷ 0 ∷ 17 ∷ 0 ∷ []) ++ (19 ∷ 18 ∷ 94 ∷ 0 ∷ []) ++ (30 ∷ 2 ∷ 0 ∷ []) ++ (94 ∷ 10 ∷ 0 ∷ []) ++ replicate 8 0 ++ marks₂
    -- on plain inputs
    pub plain : scores O docket 4 ≡ 30 ∷ []
    -- "The key is 7."
    pub key_is : whole_key O 2 circuit (prep₀ ++ prep₁) ≡ 7
    pub good : Good O 2 circuit (prep₀ ++ prep₁)
    -- "Value 0: shares 4, 1; MAC shares 19, 16."
    pub value_0 : (parts 0 0 ≡ part 4 19) × (parts 1 0 ≡ part 1 16)
    -- "Value 1: shares 0, 6; MAC shares 18, 24."
    pub value_1 : (parts 0 1 ≡ part 0 18) × (parts 1 1 ≡ part 6 24)
    -- "E is 2, D is 2; MAC shares of each E 8, 6; of D 10, 4."
    pub opened_E :
        (read (layout circuit) (after₃.scratch 0) (Value 0) ≡ 2) × (read (layout circuit) (after₃.scratch 1) (Value 0) ≡ 2)
        × (read (layout circuit) (after₃.scratch 0) (ValueMac 0) ≡ 8) × (read (layout circuit) (after₃.scratch 1) (ValueMac 0) ≡ 6)
    pub opened_D :
        (read (layout circuit) (after₃.scratch 0) (Value 1) ≡ 2) × (read (layout circuit) (after₃.scratch 1) (Value 1) ≡ 2)
        × (read (layout circuit) (after₃.scratch 0) (ValueMac 1) ≡ 10) × (read (layout circuit) (after₃.scratch 1) (ValueMac 1) ≡ 4)
    -- "Value 2: shares 17, 13; MAC shares 94, 116."
    pub value_2 : (parts 0 2 ≡ part 17 94) × (parts 1 2 ≡ part 13 116)
    -- "Check words 10 and p − 10."
    pub check_words : (after₄.held 0 ≡ 10) × (after₄.held 1 ≡ size - 10)
    -- "Seat 1's show word 14 heard: check words 5 and p − 40, stopped.": the marks fit, and no seat is named
    pub misheard_check :
        (send_answer O party₀ (misheard party₀ 0) (sending (Commit Second) 0) (5 ∷ []) nonce 8 ≡ Next (receiving (Commit Second) 5))
        × (send_answer O party₁ (misheard party₁ 1) (sending (Commit Second) 0) (5 ∷ []) nonce 8 ≡ Next (receiving (Commit Second) (size - 40)))
    pub misheard_stops :
        (receive_answer O party₀ (sealed party₀ (misheard party₀ 0) Second (5 ∷ []) 5 misheard_marks) (receiving (Reveal Second) 0)
        (shows 5 ++ shows (size - 40))
        ≡ Abort Nobody stopped)
        × (receive_answer O party₁ (sealed party₁ (misheard party₁ 1) Second (5 ∷ []) (size - 40) misheard_marks) (receiving (Reveal Second) 0)
        (shows 5 ++ shows (size - 40))
        ≡ Abort Nobody stopped)
    -- the marks as they are sent, and the reveal as it is sent: the check passes
    pub unaltered : first_reveal marks₁ (shows 10 ++ shows (size - 10)) ≡ Next (sending Open 0)
    -- one bit of seat 0's mark heard otherwise
    pub other_mark : first_reveal (set marks₁ 0 272533301) (shows 10 ++ shows (size - 10)) ≡ Abort (Blames 0) stopped
    -- seat 1's first nonce word heard as 1
    pub other_nonce : first_reveal marks₁ (shows 10 ++ set (shows (size - 10)) 1 1) ≡ Abort (Blames 1) stopped
    -- "The last dock to speak can cancel the other check words": seat 1 committed to 77, and cancels seat 0's 10; and it reveals 77
    pub cancels : first_reveal (mark₁₀ ++ mark (shows 77)) (shows 10 ++ shows (size - 10)) ≡ Abort (Blames 1) stopped
    pub keeps_to_it : first_reveal (mark₁₀ ++ mark (shows 77)) (shows 10 ++ shows 77) ≡ Abort Nobody stopped
    -- "Two draws at the first seal accepted; one or three, 16."
    pub two_coefficients : send_answer O party₀ (after₃.scratch 0) (sending (Commit First) 0) (1 ∷ 2 ∷ []) nonce 8 ≡ Next (receiving (Commit First) 10)
    pub one_coefficient : send_answer O party₀ (after₃.scratch 0) (sending (Commit First) 0) (1 ∷ []) nonce 8 ≡ Refusal 16 0
    pub three_coefficients : send_answer O party₀ (after₃.scratch 0) (sending (Commit First) 0) (1 ∷ 2 ∷ 5 ∷ []) nonce 8 ≡ Refusal 16 0
    -- "a nonce list of any length but 32 at a spoken seal, 0 in any other speaking .. is 25"
    pub short_nonce : send_answer O party₀ (after₃.scratch 0) (sending (Commit First) 0) (1 ∷ 2 ∷ []) (replicate 31 0) 8 ≡ Refusal 25 0
    pub idle_nonce : send_answer O party₀ (after₃.scratch 0) (sending Open 0) [] nonce 8 ≡ Refusal 25 0
    -- "8 seats accepted, 9 gives 1."
    pub eight : open_answer O (among 8) (replicate 86 9) ≡ Next (record { gate = 0; stage = Send Own; held = 0 })
    pub nine : open_answer O (among 9) (replicate 94 9) ≡ Refusal 1 0
    -- "An element p − 1 accepted, p gives 9."
    pub largest : open_answer O (keyed (size - 1)) room ≡ Next (record { gate = 0; stage = Send Own; held = 0 })
    pub too_large : open_answer O (keyed size) room ≡ Refusal 9 0
    -- "Line 1 naming line 1 gives 5; naming line 0 is accepted."
    pub names_itself : ask_circuit 2 size (naming 1) ≡ Refused 5 1
    pub names_earlier : ask_circuit 2 size (naming 0) ≡ Accepted
    -- "256 lines accepted, 257 gives 3."
    pub longest : ask_circuit 2 size (long 254) ≡ Accepted
    pub too_long : ask_circuit 2 size (long 255) ≡ Refused 3 0
