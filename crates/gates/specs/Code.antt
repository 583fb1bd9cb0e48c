-- What the code's types stand for.
-- Assumes nothing.
use Rattle.std.specs.Prelude.{ℕ, ◌≤◌, List}
use Rattle.circuit.specs.Gate.{gates}
use Rattle.circuit.specs.Code.{Tallied}
use Rattle.circuit.specs.declared.Tally.{Tally}

-- what is counted before a gate of the circuit, if it has that gate, and in all, for party i
pub record Counted (c : List ℕ) (i at : ℕ) (before whole : Tally) : Type 0 where
  pub here : at ≤ gates c → Tallied c i at before
  pub all : Tallied c i (gates c) whole
