-- A party's three entries: the answer of each, and what the lent lists hold afterwards.
-- Assumes nothing.
use Rattle.std.specs.Prelude.{ℕ, Bool, true, false, cond, ◌&&◌, List, [], length}
use Rattle.algebra.specs.Ops.{Ops}
use Rattle.circuit.specs.Verdict.{Verdict, Accepted, Refused}
use Rattle.circuit.specs.Gate.{gate}
use Rattle.circuit.specs.Kind.{seen_by, alone}
use Rattle.circuit.specs.Round.{First, Second, Round, Own, Open, Commit, Reveal}
use Rattle.protocol.specs.Position.{Position, holding, Receive, start, keep, when_sending, when_receiving}
use Rattle.protocol.specs.Party.{Party}
use Rattle.protocol.specs.Send.{overwrite, sent, holds, noted}
use Rattle.protocol.specs.Receive.{Blame, Ruling, Passed, Stopped, scored, next, finds, left}
use Rattle.protocol.specs.Ask.{ask_lent, ask_send, ask_receive}

-- what an entry answers
pub data Answer : Type 0 where
  -- a refusal's number and index; "It writes nowhere; the caller's place remains."
  Refusal : ℕ → ℕ → Answer
  -- the next position
  Next : Position → Answer
  -- "Passing the second check releases the sum as the score": the score and the next position
  Output : ℕ → Position → Answer
  -- "Stopped is no refusal.": the position names the gate; "naming the lowest such seat beside the line", or nobody
  Abort : Blame → Position → Answer

-- what an accepted call gives, and otherwise the refusal
unfoldable pub answer : Verdict → Answer → Answer
answer Accepted a = a
answer (Refused number index) a = Refusal number index

-- what an accepted call leaves, and what stays on a refusal
unfoldable pub leave : Verdict → List ℕ → List ℕ → List ℕ
leave Accepted later before = later
leave (Refused number index) later before = before

-- the second check's reveal releases an output
abbrev pub releases : Round → Bool
releases Own = false
releases Open = false
releases (Commit k) = false
releases (Reveal First) = false
releases (Reveal Second) = true

module _ (O : Ops) (P : Party) where
  open O use {size}

  -- Opening: "Opening a run writes nothing and gives the speaking half of line 0."
  unfoldable pub open_answer : List ℕ → Answer
  open_answer scratch = answer (ask_lent size P scratch) (Next (holding (start P.circuit) 0))

  -- Speaking: the receiving half of the same round, with the check share now held
  unfoldable pub send_answer : List ℕ → Position → List ℕ → List ℕ → ℕ → Answer
  send_answer l at coefficients nonce room =
      answer (ask_send size P l at coefficients nonce room)
      (Next (when_sending at.stage at
      (λ r. record { gate = at.gate; stage = Receive r; held = holds O P l at.gate r coefficients })))

  -- "a speaking half, which writes the seat's words": the outgoing list afterwards
  unfoldable pub send_out : List ℕ → Position → List ℕ → List ℕ → List ℕ → List ℕ
  send_out l at coefficients nonce out =
      leave (ask_send size P l at coefficients nonce (length out))
      (overwrite (when_sending at.stage [] (sent O P l at.gate at.held coefficients nonce)) out) out

  -- the scratch afterwards
  unfoldable pub send_scratch : List ℕ → Position → List ℕ → List ℕ → ℕ → List ℕ
  send_scratch l at coefficients nonce room =
      leave (ask_send size P l at coefficients nonce room)
      (when_sending at.stage l (λ r. noted O P l r nonce)) l

  -- the position once round r of gate j is received and ends so, where held was held
  unfoldable pub next_position : ℕ → ℕ → Round → Ruling → Position
  next_position j held r v = holding (next P.circuit j r v) (keep r held)

  -- what a round r of gate j that ends so leads to, where output is the score. Of a give "others get no score": they are told the next position
  unfoldable pub concludes : ℕ → ℕ → ℕ → Round → Ruling → Answer
  concludes output j held r Passed =
      cond (releases r && seen_by (alone P.me) (gate P.circuit j))
      (Output output (next_position j held r Passed)) (Next (next_position j held r Passed))
  concludes output j held r (Stopped b) = Abort b (next_position j held r (Stopped b))

  -- what receiving round r of gate j leads to
  unfoldable pub outcome : List ℕ → ℕ → ℕ → List ℕ → Round → Answer
  outcome l j held heard r = concludes (scored O P l j) j held r (finds O P l r heard)

  -- Hearing: "a hearing half, which reads all seats' words in seat order"
  unfoldable pub receive_answer : List ℕ → Position → List ℕ → Answer
  receive_answer l at heard =
      answer (ask_receive size P l at heard)
      (when_receiving at.stage (Next at) (outcome l at.gate at.held heard))

  -- the scratch afterwards
  unfoldable pub receive_scratch : List ℕ → Position → List ℕ → List ℕ
  receive_scratch l at heard =
      leave (ask_receive size P l at heard)
      (when_receiving at.stage l (λ r. left O P (finds O P l r heard) l at.gate r heard)) l
