-- How much of a whole run a point has behind it: rounds, words, coefficients and outputs are within what the whole run takes.
-- Assumes nothing.
use Prim.Native.Nat.{ℕ, zero, suc, ◌*◌, ◌≤◌}
use mathlib.Core.Path.{◌≡◌, refl}
use mathlib.Core.Bool.{cond}
use mathlib.Core.List.{List}
use native.Mathlib.Nat.{mul-suc}
use native.Mathlib.Omega.{arith}
use lib.Dec.{eqb}
use Rattle.circuit.specs.Gate.{gate, gates}
use Rattle.circuit.specs.Kind.{Class, Local, Owned, Opens, Output, shape, is_class, is_out}
use Rattle.circuit.specs.Count.{total, count, out_count, unchecked}
use Rattle.circuit.specs.Round.{Round, check_rounds, class_rounds, rounds, over_rounds, over_run}
use Rattle.circuit.proofs.Tests.{by_cases}
use Rattle.protocol.specs.Entry.{releases}

module _ (c : List ℕ) where
  -- Where f is no more than b over the rounds of a gate, a run of j gates takes no more than b times j.
  run_le : (f : ℕ → Round → ℕ) (b : ℕ) → ((j : ℕ) → over_rounds (f j) (rounds c j) ≤ b) → (j : ℕ) → over_run f c j ≤ b * j
  unfolding over_run
  run_le f b h zero = omega arith
  run_le f b h (suc j) = omega (arith, run_le f b h j, h j, mul-suc b j)

  -- A gate has five rounds at most.
  rounds_few : (u : ℕ) (k : Class) → over_rounds (λ r. 1) (class_rounds u k) ≤ 5
  unfolding over_rounds class_rounds check_rounds
  rounds_few u Local = omega arith
  rounds_few u Owned = omega arith
  rounds_few u Opens = omega arith
  rounds_few u Output = by_cases (eqb u 0) (λ e. rw e (omega arith)) (λ e. rw e (omega arith))

  pub rounds_le : (j : ℕ) → over_run (λ j r. 1) c j ≤ 5 * j
  unfolding rounds
  rounds_le = run_le (λ j r. 1) 5 (λ j. rounds_few (unchecked c j) (shape (gate c j)).class)

  -- An out gate releases one output, and no other gate any.
  one_output : (u : ℕ) (k : Class) → over_rounds (λ r. cond (releases r) 1 0) (class_rounds u k) ≡ cond (is_class Output k) 1 0
  unfolding over_rounds class_rounds check_rounds is_class
  one_output u Local = refl
  one_output u Owned = refl
  one_output u Opens = refl
  one_output u Output = by_cases (eqb u 0) (λ e. rw e) (λ e. rw e)

  outputs_to_lem : (j : ℕ) → over_run (λ i r. cond (releases r) 1 0) c j ≡ count is_out c j
  unfolding over_run rounds count total
  outputs_to_lem zero = refl
  outputs_to_lem (suc j) = omega (arith, outputs_to_lem j, one_output (unchecked c j) (shape (gate c j)).class)

  -- So a whole run releases as many outputs as there are out gates.
  pub outputs_all : over_run (λ j r. cond (releases r) 1 0) c (gates c) ≡ out_count c
  unfolding out_count
  outputs_all = outputs_to_lem (gates c)
