-- How many rounds a run takes.
-- Assumes nothing.
use Rattle.std.specs.Prelude.{ℕ, zero, suc, ◌+◌, ◌-◌, ◌*◌, Bool, cond, ◌&&◌, List, eqb}
use Rattle.circuit.specs.Gate.{Gate, gate, gates}
use Rattle.circuit.specs.Kind.{shape, is_out, is_give}
use Rattle.circuit.specs.Count.{count, in_count, out_count, unchecked}

-- does a gate open just k values? A mul gate opens two, an sq gate one
abbrev pub opens_just : ℕ → Gate → Bool
opens_just k g = eqb (shape g).openings k

-- the mul gates, document 01's M
unfoldable pub mul_count : List ℕ → ℕ
mul_count c = count (opens_just 2) c (gates c)

-- the sq gates
unfoldable pub square_count : List ℕ → ℕ
square_count c = count (opens_just 1) c (gates c)

-- the give gates
unfoldable pub give_count : List ℕ → ℕ
give_count c = count is_give c (gates c)

-- the outputs before j, out and give gates, with nothing unchecked
unfoldable pub bare_outs : List ℕ → ℕ → ℕ
bare_outs c zero = 0
bare_outs c (suc j) = bare_outs c j + cond (is_out (gate c j) && eqb (unchecked c j) 0) 1 0

-- "A run takes I + M + 5 × outs − 2 × (outs with nothing unchecked) rounds, at most 766", and one more for each sq gate. A give counts as an out
unfoldable pub round_formula : List ℕ → ℕ
round_formula c = in_count c + mul_count c + square_count c + 5 * out_count c - 2 * bare_outs c (gates c)

abbrev pub most_rounds_of_all : ℕ
most_rounds_of_all = 766
