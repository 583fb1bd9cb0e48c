-- The verdict of each call: the questions of its entry, and last that of the list for the answer.
-- Assumes nothing.
use Rattle.std.specs.Prelude.{ℕ, List, length, leb}
use Rattle.field.specs.Words.{size}
use Rattle.circuit.specs.Verdict.{Verdict, Accepted, Refused, ask, ◌then◌}
use Rattle.protocol.specs.Position.{Position}
use Rattle.protocol.specs.Party.{Party}
use Rattle.protocol.specs.Ask.{ask_lent, ask_send, ask_receive}
use Rattle.protocol.specs.Entry as E
use Rattle.protocol.specs.Joint.{Joint}
use Rattle.protocol.specs.JointAsk.{ask_joint}
use Rattle.protocol.specs.JointEntry as J
use Rattle.capi.specs.Numbers.{places}
use Rattle.capi.specs.declared.Refusal.{Refusal}

-- "and 18 last of the lists it writes"
abbrev pub room_question : ℕ
room_question = 18

unfoldable pub called : Verdict → List ℕ → Verdict
called v answer = v then ask room_question 0 (leb places (length answer))

abbrev pub open_call : Party → List ℕ → List ℕ → Verdict
open_call P l answer = called (ask_lent size P l) answer

abbrev pub send_call : Party → List ℕ → Position → List ℕ → List ℕ → List ℕ → List ℕ → Verdict
send_call P l at coefficients nonce out answer = called (ask_send size P l at coefficients nonce (length out)) answer

abbrev pub receive_call : Party → List ℕ → Position → List ℕ → List ℕ → Verdict
receive_call P l at heard answer = called (ask_receive size P l at heard) answer

abbrev pub joint_call : Joint → List ℕ → List ℕ → List ℕ → List ℕ → Verdict
joint_call J l transcript outputs answer = called (ask_joint size J l (length transcript) (length outputs)) answer

-- "A refusal gives its number and an index": what a call returns, with 0 and 0 where it is accepted
unfoldable pub returned : Verdict → Refusal
returned Accepted = record { number = 0; index = 0 }
returned (Refused number index) = record { number = number; index = index }

-- whether an answer is a refusal
unfoldable pub answer_verdict : E.Answer → Verdict
answer_verdict (E.Refusal number index) = Refused number index
answer_verdict (E.Next at) = Accepted
answer_verdict (E.Output output at) = Accepted
answer_verdict (E.Abort b at) = Accepted

unfoldable pub joint_verdict : J.JointAnswer → Verdict
joint_verdict (J.Refusal number index) = Refused number index
joint_verdict (J.Done rounds) = Accepted
joint_verdict (J.Aborted gate b rounds) = Accepted
