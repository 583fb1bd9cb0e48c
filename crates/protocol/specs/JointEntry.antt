-- The joint run's entry: its answer, and what the lent lists hold afterwards.
-- Assumes nothing.
use Rattle.std.specs.Prelude.{ℕ, ◌*◌, List, ◌++◌, length, drop}
use Rattle.algebra.specs.Ops.{Ops}
use Rattle.circuit.specs.Verdict.{Verdict, Accepted, Refused}
use Rattle.protocol.specs.Scratch.{scratch_size}
use Rattle.protocol.specs.Position as At
use Rattle.protocol.specs.Send.{overwrite}
use Rattle.protocol.specs.Receive.{Blame}
use Rattle.protocol.specs.Entry.{leave}
use Rattle.protocol.specs.Joint.{Joint, joined}
use Rattle.protocol.specs.Run.{whole}
use Rattle.protocol.specs.JointAsk.{ask_joint}

pub data JointAnswer : Type 0 where
  -- a refusal's number and index
  Refusal : ℕ → ℕ → JointAnswer
  -- "tells the number of rounds made"
  Done : ℕ → JointAnswer
  -- "If stopped it names the line": the gate, whom the stop names, and the number of rounds made
  Aborted : ℕ → Blame → ℕ → JointAnswer

-- how a run that stands at a stage of a gate has ended, after some rounds
unfoldable pub ended : At.Stage → ℕ → Blame → ℕ → JointAnswer
ended (At.Send r) gate blame rounds = Done rounds
ended (At.Receive r) gate blame rounds = Done rounds
ended At.Finished gate blame rounds = Done rounds
ended At.Aborted gate blame rounds = Aborted gate blame rounds

unfoldable pub jointly : Verdict → JointAnswer → JointAnswer
jointly Accepted a = a
jointly (Refused number index) a = Refusal number index

module _ (O : Ops) (J : Joint) (scratch transcript outputs : List ℕ) where
  unfoldable pub verdict : Verdict
  verdict = ask_joint O.size J scratch (length transcript) (length outputs)

  unfoldable pub joint_answer : JointAnswer
  joint_answer =
      jointly verdict
      (ended (whole O J scratch).last.point.stage (whole O J scratch).last.point.gate (whole O J scratch).last.blame
      (whole O J scratch).rounds)

  -- the bands in party order, and the excess as it was
  unfoldable pub joint_scratch : List ℕ
  joint_scratch =
      leave verdict
      (joined J.parties (whole O J scratch).last.scratch
      ++ drop (J.parties * scratch_size J.parties J.circuit) scratch) scratch

  -- "It writes a transcript (rounds in order, seats in order within) and a list of scores": what lies beyond is untouched
  unfoldable pub joint_transcript : List ℕ
  joint_transcript = leave verdict (overwrite (whole O J scratch).transcript transcript) transcript

  unfoldable pub joint_outputs : List ℕ
  joint_outputs = leave verdict (overwrite (whole O J scratch).outputs outputs) outputs
