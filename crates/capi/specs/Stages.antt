-- Stages as two numbers: a half and a round. A further round takes a further number and moves none.
-- Assumes nothing.
use Rattle.std.specs.Prelude.{ℕ, cond, ltb, eqb}
use Rattle.circuit.specs.Round.{First, Second, Round, Own, Open, Commit, Reveal, round_number}
use Rattle.protocol.specs.Position.{Stage, Send, Receive, Finished, Aborted, Position}

-- the halves of a round, and the ends of a run, which have no round
abbrev pub send_half : ℕ
send_half = 0

abbrev pub receive_half : ℕ
receive_half = 1

abbrev pub finished_half : ℕ
finished_half = 2

abbrev pub aborted_half : ℕ
aborted_half = 3

unfoldable pub half_number : Stage → ℕ
half_number (Send r) = send_half
half_number (Receive r) = receive_half
half_number Finished = finished_half
half_number Aborted = aborted_half

-- the number that stands for a round where there is none
abbrev pub no_round : ℕ
no_round = 0

unfoldable pub stage_round : Stage → ℕ
stage_round (Send r) = round_number r
stage_round (Receive r) = round_number r
stage_round Finished = no_round
stage_round Aborted = no_round

-- the numbers below this name rounds
abbrev pub round_numbers : ℕ
round_numbers = 6

unfoldable pub round_at : ℕ → Round
round_at k =
    cond (eqb k 0) Own
    (cond (eqb k 1) Open
    (cond (eqb k 2) (Commit First)
    (cond (eqb k 3) (Reveal First)
    (cond (eqb k 4) (Commit Second) (Reveal Second)))))

unfoldable pub position : ℕ → Stage → ℕ → Position
position gate stage held = record { gate = gate; stage = stage; held = held }

-- a position that cannot occur, since a finished position holds 0
unfoldable pub nowhere : ℕ → Position
nowhere gate = position gate Finished 1

-- a half of a round
unfoldable pub half_at : ℕ → Round → Stage
half_at half r = cond (eqb half send_half) (Send r) (Receive r)

-- the position that four numbers name: a gate, a half, a round and a check share. Numbers that name no half, no round, or a round
-- where there is none give one that cannot occur
unfoldable pub position_at : ℕ → ℕ → ℕ → ℕ → Position
position_at gate half round held =
    cond (ltb half finished_half) (cond (ltb round round_numbers) (position gate (half_at half (round_at round)) held) (nowhere gate))
    (cond (ltb no_round round) (nowhere gate)
    (cond (eqb half finished_half) (position gate Finished held)
    (cond (eqb half aborted_half) (position gate Aborted held) (nowhere gate))))
