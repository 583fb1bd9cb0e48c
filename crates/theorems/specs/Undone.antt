-- Document 02 of kind 10, in whole runs: it "undoes times by a constant from 1 to p − 1: the two in either order give the line's value again". Of
-- any preprocessing, good or not: each party's part of the gate is given back, number by number, and so is the value on plain inputs.
-- Assumes nothing.
use Rattle.std.specs.Prelude.{ℕ, ◌<◌, ◌≡◌, ◌⊎◌, List}
use Rattle.algebra.specs.Ops.{Ops}
use Rattle.circuit.specs.Gate.{Kind, Times, Over, gate_of, gate, gates}
use Rattle.protocol.specs.Part.{Part}
use Rattle.protocol.specs.Scratch.{layout, wire}
use Rattle.protocol.specs.Over.{over}
use Rattle.protocol.specs.Joint.{Joint}
use Rattle.protocol.specs.Plain.{value}
use Rattle.theorems.specs.Premises.{after}
use Rattle.theorems.specs.Accuracy.{scratch_after}

-- gate t is of kind one and names gate x, gate u is of kind other and names gate t, and both have the constant k; their second is unused
pub record InTurn (c : List ℕ) (one other : Kind) (x t u k : ℕ) : Type 0 where
  pub one_is : gate c t ≡ gate_of one x 0 k
  pub other_is : gate c u ≡ gate_of other t 0 k

-- "the two in either order". That k is "from 1 to p − 1" follows where the circuit is accepted
abbrev pub EitherOrder : List ℕ → ℕ → ℕ → ℕ → ℕ → Type 0
EitherOrder c x t u k = InTurn c Times Over x t u k ⊎ InTurn c Over Times x t u k

module _ (O : Ops) (J : Joint) where
  module _ (scratch : List ℕ) where
    -- party i's part of gate x after r rounds
    abbrev pub part_after : ℕ → ℕ → ℕ → Part
    part_after r i x = wire (layout J.circuit) (scratch_after O J scratch r i) x

    -- gate u is worked out after r rounds
    abbrev pub WorkedOut : ℕ → ℕ → Type 0
    WorkedOut r u = u < (after O J scratch r).point.gate

    -- after any number of rounds, at each party
    pub record Undone : Type 0 where
      -- "It multiplies share and MAC share alike by the constant's inverse."
      pub divides : (r i u : ℕ)
          → WorkedOut r u
          → i < J.parties
          → (gate J.circuit u).kind ≡ Over
          → part_after r i u ≡ over O (gate J.circuit u).constant (part_after r i (gate J.circuit u).first)
      -- the share and the MAC share of gate x come back
      pub parts : (r i x t u k : ℕ)
          → WorkedOut r u
          → i < J.parties
          → EitherOrder J.circuit x t u k
          → part_after r i u ≡ part_after r i x

  -- "the two in either order give the line's value again": on plain inputs
  abbrev pub UndoneValues : Type 0
  UndoneValues = (x t u k : ℕ) → u < gates J.circuit → EitherOrder J.circuit x t u k → value O J u ≡ value O J x
