-- A list of elements times a factor.
-- Assumes nothing.
use Rattle.std.specs.Prelude.{ℕ, List, [], ◌∷◌, ltb}
use Rattle.field.specs.Words.{size}
use Rattle.field.specs.Prime.{mul}
use Rattle.circuit.specs.Verdict.{Verdict, Accepted, Refused, ask, ◌then◌, elements}

unfoldable pub scaled : ℕ → List ℕ → List ℕ
scaled by [] = []
scaled by (x ∷ xs) = mul x by ∷ scaled by xs

-- Is the factor an element? 1. Are all numbers elements? 2
unfoldable pub ask_scale : ℕ → List ℕ → Verdict
ask_scale by xs = ask 1 0 (ltb by size) then elements 2 size xs

-- 0 where nothing refuses, else the number of the question that does
unfoldable pub refusal_number : Verdict → ℕ
refusal_number Accepted = 0
refusal_number (Refused number index) = number
