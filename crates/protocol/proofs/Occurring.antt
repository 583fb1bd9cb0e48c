-- Which positions can occur, from what the code finds.
-- Assumes nothing.
use Prim.Native.Nat.{ℕ, ◌+◌, ◌<◌, ◌≤◌}
use mathlib.Core.Path.{◌≡◌, ap₂, ◌∙◌}
use mathlib.Core.Bool.{Bool, true, false}
use mathlib.Core.List.{List}
use native.Mathlib.Numerals.{add-one}
use lib.Dec.{ltb, eqb}
use borrow.Author.Tests.{lt-ltb, le-ltb}
use Rattle.circuit.specs.Gate.{gate, gates}
use Rattle.circuit.specs.Count.{unchecked}
use Rattle.circuit.specs.Kind.{Class, shape}
use Rattle.circuit.specs.Round.{Round, class_rounds, rounds, among}
use Rattle.protocol.specs.Position.{Position, Finished, stage_occurs, may_hold, occurs}

module _ (c : List ℕ) (j : ℕ) where
  -- a round of the gate, told by its class and the unchecked entries before it
  pub round_occurs : (r : Round) {u : ℕ} {k : Class} {b : Bool}
      → u ≡ unchecked c j
      → k ≡ (shape (gate c j)).class
      → b ≡ among r (class_rounds u k)
      → b ≡ among r (rounds c j)
  unfolding rounds
  round_occurs r eu ek e = e ∙ ap₂ (λ (u : ℕ) (k : Class). among r (class_rounds u k)) eu ek

  -- the last gate
  pub last_occurs : {n : ℕ} {b : Bool} → n ≡ gates c → b ≡ eqb (j + 1) n → b ≡ stage_occurs c j Finished
  unfolding stage_occurs
  last_occurs e h = h ∙ ap₂ eqb (add-one j) e

-- the parts of question 13, each as the code tests it
module _ (q : ℕ) (c : List ℕ) (at : Position) where
  pub past : gates c ≤ at.gate → false ≡ occurs q c at
  unfolding occurs
  past h = rw (le-ltb _ _ h)

  module _ (l : at.gate < gates c) where
    pub no_stage : stage_occurs c at.gate at.stage ≡ false → false ≡ occurs q c at
    unfolding occurs
    no_stage e = rw (lt-ltb _ _ l, e)

    module _ (e : stage_occurs c at.gate at.stage ≡ true) where
      pub held_some : {b : Bool} → may_hold at.stage ≡ true → b ≡ ltb at.held q → b ≡ occurs q c at
      unfolding occurs
      held_some m h = rw (lt-ltb _ _ l, e, m) h

      pub held_none : {b : Bool} → may_hold at.stage ≡ false → b ≡ eqb at.held 0 → b ≡ occurs q c at
      unfolding occurs
      held_none m h = rw (lt-ltb _ _ l, e, m) h
