-- What a gate counts, in one number.
-- Assumes nothing.
use Rattle.std.specs.Prelude.{ℕ, ◌+◌, ◌*◌, cond, List}
use Rattle.circuit.specs.Gate.{Gate}
use Rattle.circuit.specs.Kind.{shape, owned_by}
use Rattle.circuit.specs.Count.{total}

-- what an opened value counts, where a number of the preprocessing counts 1
abbrev pub opening_unit : ℕ
opening_unit = 65536

-- and an input of the party
abbrev pub input_unit : ℕ
input_unit = 4294967296

-- the length of a gate's record, how many values it opens, and whether it is an input of party i
unfoldable pub weight : ℕ → Gate → ℕ
weight i g = (shape g).prep + opening_unit * (shape g).openings + input_unit * cond (owned_by i g) 1 0

-- of all gates before j
abbrev pub weight_before : List ℕ → ℕ → ℕ → ℕ
weight_before c i j = total (weight i) c j
