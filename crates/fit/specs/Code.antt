-- What the code's types stand for, and what its lists hold.
-- Assumes nothing.
use Rattle.std.specs.Prelude.{ℕ, ◌+◌, ◌*◌, ◌<◌, ◌≤◌, ◌≡◌, List, [], length, get_or, true, Option, None, Some, Result, Ok, Err}
use Rattle.field.specs.Words.{size}
use Rattle.circuit.specs.Gate.{gate_size, entry, gate, gates}
use Rattle.circuit.specs.Kind.{is_out}
use Rattle.circuit.specs.Count.{count}
use Rattle.circuit.specs.Accept.{most_gates, is_kind}
use Rattle.circuit.specs.Question.{number_of}
use Rattle.circuit.specs.declared.questions.Refusal.{Refusal}
use Rattle.ranges.specs.Interval as I
use Rattle.ranges.specs.Move as M
use Rattle.ranges.specs.Entry as E
use Rattle.fit.specs.declared.Interval.{Interval}
use Rattle.fit.specs.declared.Change.{Change}
use Rattle.fit.specs.declared.working.Worked.{Worked}

-- a refusal, the gate that leaves, or that every gate fits
unfoldable pub answer_of : Result (Option ℕ) Refusal → E.Answer
answer_of (Err r) = E.Refusal (number_of r.question) r.index
answer_of (Ok (Some gate)) = E.Leaves gate
answer_of (Ok None) = E.Fits

abbrev pub change_of : Option Change → M.Change
change_of None = M.Nothing
change_of (Some change) = M.Of change.gate change.amount

abbrev pub interval_of : Interval → I.Interval
interval_of i = I.interval i.lowest i.highest

abbrev pub reach_of : Option Interval → I.Reach
reach_of (Some i) = I.Stays i.lowest i.highest
reach_of None = I.Leaves

-- ends in order, and elements
pub record Fair (i : I.Interval) : Type 0 where
  pub ordered : i.lowest ≤ i.highest
  pub low : i.highest < size

abbrev pub FairReach : I.Reach → Type 0
FairReach (I.Stays lowest highest) = Fair (I.interval lowest highest)
FairReach I.Leaves = Unit {0}

-- the intervals of the gates that gate j names stand within a list
pub record Named (c : List ℕ) (j : ℕ) (ends : List ℕ) : Type 0 where
  pub first : I.interval_size * (gate c j).first + 1 < length ends
  pub second : I.interval_size * (gate c j).second + 1 < length ends

-- a list with room for so many numbers holds those of another, and 0 behind them
pub record Held (room : ℕ) (list l : List ℕ) : Type 0 where
  pub long : length list ≡ room
  pub at : (i : ℕ) → get_or list i 0 ≡ get_or l i 0

-- room for the intervals and for the moves of as many gates as there may be
abbrev pub interval_room : ℕ
interval_room = I.interval_size * most_gates

abbrev pub move_room : ℕ
move_room = most_gates

-- gate j is of a kind, the gates that it names are among as many as there may be, and an output names an earlier one
pub record Tame (c : List ℕ) (j : ℕ) : Type 0 where
  pub kind : is_kind (entry c j 0) ≡ true
  pub first : (gate c j).first < most_gates
  pub second : (gate c j).second < most_gates
  pub output : is_out (gate c j) ≡ true → (gate c j).first < j

-- nothing is worked out yet
pub record Blank (w : Worked) : Type 0 where
  pub ends : Held interval_room w.ends []
  pub moves : Held move_room w.moves []
  pub scores : Held move_room w.scores []
  pub none : w.outs ≡ 0

-- what a step past gate j asks: its numbers are there; the tool's own lists are long enough; the intervals before it are fair, the moves elements; and
-- no more scores have a move than there are gates before it
pub record Apt (c : List ℕ) (j : ℕ) (w : Worked) : Type 0 where
  pub there : gate_size * j + gate_size ≤ length c
  pub few : j < most_gates
  pub tame : Tame c j
  pub ends_long : length w.ends ≡ interval_room
  pub fair : (x : ℕ) → Fair (I.interval_at w.ends x)
  pub moves_long : length w.moves ≡ move_room
  pub scores_long : length w.scores ≡ move_room
  pub low : (x : ℕ) → get_or w.moves x 0 < size
  pub scored : w.outs ≤ j

-- the moves of the gates before j stand in a list, and those of their scores in another, so many of them
pub record Tracked (c ranges : List ℕ) (line amount : ℕ) (w : Worked) (j : ℕ) : Type 0 where
  pub moved : Held move_room w.moves (M.moves size c ranges (M.Of line amount) j)
  pub listed : Held move_room w.scores (M.score_moves size c ranges (M.Of line amount) j)
  pub counted : w.outs ≡ count is_out c j

-- where no change is given nothing is kept
abbrev pub Kept : M.Change → List ℕ → List ℕ → Worked → ℕ → Type 0
Kept M.Nothing c ranges w j = w.outs ≡ 0
Kept (M.Of line amount) c ranges w j = Tracked c ranges line amount w j

-- what a step past gate j leaves, where the gates before it have the intervals that stand in the list
pub record Stepped (c : List ℕ) (change : M.Change) (j : ℕ) (w w' : Worked) : Type 0 where
  pub ends : w'.ends ≡ w.ends
  pub moves_long : length w'.moves ≡ length w.moves
  pub scores_long : length w'.scores ≡ length w.scores
  pub low : (x : ℕ) → get_or w'.moves x 0 < size
  pub few : w'.outs ≤ j + 1
  pub kept : (ranges : List ℕ) → Held interval_room w.ends (I.intervals size c ranges j) → Kept change c ranges w j → Kept change c ranges w' (j + 1)

-- what the walk finds: the gate that leaves; or that none does
unfoldable pub found_of : Result (Unit {0}) ℕ → E.Answer
found_of (Err gate) = E.Leaves gate
found_of (Ok done) = E.Fits

-- and what it has worked out, where none does
abbrev pub Walked : M.Change → List ℕ → List ℕ → Worked → Result (Unit {0}) ℕ → Type 0
Walked change c ranges w (Err gate) = Unit {0}
Walked change c ranges w (Ok done) = Held interval_room w.ends (I.intervals size c ranges (gates c)) × Kept change c ranges w (gates c) × (length w.scores ≡ move_room)
