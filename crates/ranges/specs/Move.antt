-- How far a score can move where one input does.
-- Assumes nothing.
use Rattle.std.specs.Prelude.{ℕ, zero, suc, ◌+◌, ◌*◌, ◌-◌, cond, List, [], ◌∷◌, ◌++◌, get_or, ltb, eqb}
use Rattle.circuit.specs.Gate.{Kind, In, Add, Sub, Plus, Times, Mul, Out, Sq, Give, Over, gate, gates}
use Rattle.circuit.specs.Kind.{is_out}
use Rattle.ranges.specs.Interval.{Interval, interval_at, intervals}

-- "Given also one in line and its largest change": or none is given
pub data Change : Type 0 where
  Nothing : Change
  Of : ℕ → ℕ → Change

-- the largest change of gate j's input, "the others' being 0"
abbrev pub change_at : Change → ℕ → ℕ
change_at Nothing j = 0
change_at (Of line amount) j = cond (eqb j line) amount 0

-- "Moves add under add and sub, stay under plus, take the constant as factor under times; mul gives highest first × move of second plus highest second
-- × move of first, sq as a mul by itself." An in gate moves by its largest change; an output, which has no
-- value, and an over have none. x and z are the intervals and mx and mz the moves of the gates named first and second, k is the constant
unfoldable pub kind_move : Kind → ℕ → Interval → Interval → ℕ → ℕ → ℕ → ℕ
kind_move In change x z mx mz k = change
kind_move Add change x z mx mz k = mx + mz
kind_move Sub change x z mx mz k = mx + mz
kind_move Plus change x z mx mz k = mx
kind_move Times change x z mx mz k = mx * k
kind_move Mul change x z mx mz k = x.highest * mz + z.highest * mx
kind_move Out change x z mx mz k = 0
kind_move Sq change x z mx mz k = x.highest * mx + x.highest * mx
kind_move Give change x z mx mz k = 0
kind_move Over change x z mx mz k = 0

-- "A move is capped at p − 1."
unfoldable pub capped : ℕ → ℕ → ℕ
capped q m = cond (ltb m q) m (q - 1)

module _ (q : ℕ) (c ranges : List ℕ) (change : Change) where
  -- the move of gate j, where the gates before it have the intervals es and the moves ms
  unfoldable pub gate_move : List ℕ → List ℕ → ℕ → ℕ
  gate_move es ms j =
      capped q
      (kind_move (gate c j).kind (change_at change j) (interval_at es (gate c j).first) (interval_at es (gate c j).second)
      (get_or ms (gate c j).first 0) (get_or ms (gate c j).second 0) (gate c j).constant)

  -- the moves of the gates before j
  unfoldable pub moves : ℕ → List ℕ
  moves zero = []
  moves (suc j) = let ms = moves j in ms ++ (gate_move (intervals q c ranges j) ms j ∷ [])

  -- "each score's move": of each output before j that of the gate that it names, in the order in which the joint run lists the scores
  unfoldable pub score_moves : ℕ → List ℕ
  score_moves zero = []
  score_moves (suc j) =
      score_moves j ++ cond (is_out (gate c j)) (get_or (moves (gates c)) (gate c j).first 0 ∷ []) []
