-- The entry: its questions, its answer, and what the two lent lists hold afterwards.
-- Assumes nothing.
use Rattle.std.specs.Prelude.{ℕ, zero, suc, ◌*◌, Bool, true, cond, ◌&&◌, List, [], length, ltb, leb, eqb}
use Rattle.circuit.specs.Verdict.{Verdict, Accepted, Refused, ask, ◌then◌, each}
use Rattle.circuit.specs.Gate.{gate, gates}
use Rattle.circuit.specs.Kind.{is_in}
use Rattle.circuit.specs.Count.{in_count, out_count}
use Rattle.circuit.specs.Accept.{ask_circuit}
use Rattle.protocol.specs.Ask.{ask_parties}
use Rattle.protocol.specs.Send.{overwrite}
use Rattle.ranges.specs.Interval.{Interval, interval_size, interval_at, intervals, gate_stays}
use Rattle.ranges.specs.Move.{Change, Nothing, Of, score_moves}

-- what the tool is lent, beside the lists that it writes: "From a list giving each in line .. its lowest then its highest number"; "Given also one in
-- line and its largest change"
pub record Query : Type 0 where
  pub parties : ℕ
  pub circuit : List ℕ
  pub ranges : List ℕ
  pub change : Change

abbrev pub query_of : ℕ → List ℕ → List ℕ → Change → Query
query_of n c ranges change = record { parties = n; circuit = c; ranges = ranges; change = change }

-- what it answers: a refusal's number and index; the gate that it names; or that every gate fits
pub data Answer : Type 0 where
  Refusal : ℕ → ℕ → Answer
  Leaves : ℕ → Answer
  Fits : Answer

unfoldable pub answer : Verdict → Answer → Answer
answer Accepted a = a
answer (Refused number index) a = Refusal number index

-- the first gate that is named decides
abbrev pub onward : Answer → Answer → Answer
onward (Refusal number index) a = Refusal number index
onward (Leaves j) a = Leaves j
onward Fits a = a

-- what is written where every gate fits; a refusal writes nothing, and where a gate leaves the tool "writes nothing"
abbrev pub where_fits : Answer → List ℕ → List ℕ → List ℕ
where_fits (Refusal number index) later before = before
where_fits (Leaves j) later before = before
where_fits Fits later before = later

-- "reversed or with an end at or above p"; over a field of q elements p is q
unfoldable pub range_ok : ℕ → Interval → Bool
range_ok q r = leb r.lowest r.highest && (ltb r.lowest q && ltb r.highest q)

-- "Ranges of the wrong count, reversed or with an end at or above p are 26"
unfoldable pub ask_ranges : ℕ → List ℕ → List ℕ → Verdict
ask_ranges q c ranges =
    ask 26 0 (eqb (length ranges) (interval_size * in_count c))
    then each (in_count c) (λ k. ask 26 0 (range_ok q (interval_at ranges k)))

-- "a change line that is no in line is 27"; a number that is no line at all is none either
unfoldable pub is_in_line : List ℕ → ℕ → Bool
is_in_line c line = ltb line (gates c) && is_in (gate c line)

unfoldable pub ask_change : List ℕ → Change → Verdict
ask_change c Nothing = Accepted
ask_change c (Of line amount) = ask 27 0 (is_in_line c line)

-- does a list of so many numbers have room for a move of each of the outputs? If no change is given nothing is written there
abbrev pub move_room_ok : Change → ℕ → ℕ → Bool
move_room_ok Nothing outs move_room = true
move_room_ok (Of line amount) outs move_room = leb outs move_room

-- 18 of the two lists, which have room and move_room numbers
unfoldable pub ask_rooms : List ℕ → Change → ℕ → ℕ → Verdict
ask_rooms c change room move_room = ask 18 0 (leb (interval_size * gates c) room && move_room_ok change (out_count c) move_room)

-- "It names the first line that is an over or leaves 0 to p − 1", of the gates before j
unfoldable pub finding : ℕ → List ℕ → List ℕ → ℕ → Answer
finding q c ranges zero = Fits
finding q c ranges (suc j) = onward (finding q c ranges j) (cond (gate_stays q c ranges j) Fits (Leaves j))

-- "each score's move", if a change is given
unfoldable pub moves_told : ℕ → List ℕ → List ℕ → Change → List ℕ
moves_told q c ranges Nothing = []
moves_told q c ranges (Of line amount) = score_moves q c ranges (Of line amount) (gates c)

-- all questions, the answer and the lists, over a field of q elements
module _ (q : ℕ) (Q : Query) where
  -- 1, 3 to 7, then 26 and 27 "in turn after 7", and 18 last
  unfoldable pub ask_fit : ℕ → ℕ → Verdict
  ask_fit room move_room =
      ask_parties Q.parties
      then ask_circuit Q.parties q Q.circuit
      then ask_ranges q Q.circuit Q.ranges
      then ask_change Q.circuit Q.change
      then ask_rooms Q.circuit Q.change room move_room

  unfoldable pub fit_answer : ℕ → ℕ → Answer
  fit_answer room move_room = answer (ask_fit room move_room) (finding q Q.circuit Q.ranges (gates Q.circuit))

  -- "Written are each line's interval .. and, if a change is given, each score's move in a second list.": the two lists afterwards
  unfoldable pub fit_intervals : List ℕ → ℕ → List ℕ
  fit_intervals list move_room =
      where_fits (fit_answer (length list) move_room) (overwrite (intervals q Q.circuit Q.ranges (gates Q.circuit)) list) list

  unfoldable pub fit_moves : ℕ → List ℕ → List ℕ
  fit_moves room list = where_fits (fit_answer room (length list)) (overwrite (moves_told q Q.circuit Q.ranges Q.change) list) list
