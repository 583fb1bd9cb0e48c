-- The numbers of stages: each stage has its two, and numbers that no stage has give a position that cannot occur.
-- Assumes nothing.
use Prim.Native.Nat.{ℕ, ◌<◌, ◌≤◌}
use mathlib.Core.Path.{◌≡◌, refl}
use mathlib.Core.Bool.{Bool, true, false, cond, ◌&&◌}
use mathlib.Core.List.{List}
use native.Mathlib.Omega.{arith}
use lib.Dec.{ltb}
use borrow.Author.Tests.{lt-ltb, le-ltb, ne_eqb}
use Rattle.circuit.specs.Gate.{gates}
use Rattle.circuit.specs.Round.{First, Second, Round, Own, Open, Commit, Reveal, round_number}
use Rattle.protocol.specs.Position.{Stage, Send, Receive, Finished, Aborted, occurs, stage_occurs, may_hold}
use Rattle.capi.specs.Stages.{half_number, stage_round, round_at, half_at, position, nowhere, position_at, finished_half, aborted_half, no_round, round_numbers}

-- a stage is found again by its numbers
both_found : (gate : ℕ) (r : Round) (held : ℕ)
    → (position_at gate (half_number (Send r)) (stage_round (Send r)) held ≡ position gate (Send r) held)
    × (position_at gate (half_number (Receive r)) (stage_round (Receive r)) held ≡ position gate (Receive r) held)
unfolding position_at half_at half_number stage_round round_number round_at
both_found gate Own held = (refl, refl)
both_found gate Open held = (refl, refl)
both_found gate (Commit First) held = (refl, refl)
both_found gate (Commit Second) held = (refl, refl)
both_found gate (Reveal First) held = (refl, refl)
both_found gate (Reveal Second) held = (refl, refl)

pub stage_found : (gate : ℕ) (stage : Stage) (held : ℕ) → position_at gate (half_number stage) (stage_round stage) held ≡ position gate stage held
unfolding position_at half_number stage_round
stage_found gate (Send r) held = (both_found gate r held).0
stage_found gate (Receive r) held = (both_found gate r held).1
stage_found gate Finished held = refl
stage_found gate Aborted held = refl

-- question 13 refuses numbers that no stage has
module _ (q : ℕ) (c : List ℕ) (gate : ℕ) where
  not_there : occurs q c (nowhere gate) ≡ false
  unfolding nowhere position occurs may_hold
  not_there = never (ltb gate (gates c)) (stage_occurs c gate Finished)
    where
      never : (a b : Bool) → (a && b && false) ≡ false
      never true true = refl
      never true false = refl
      never false b = refl

  pub no_half : (half round held : ℕ) → aborted_half < half → occurs q c (position_at gate half round held) ≡ false
  unfolding position_at
  no_half half round held h = rw (le-ltb half finished_half (omega arith), ne_eqb half finished_half (omega arith), ne_eqb half aborted_half (omega arith)) (either (ltb no_round round))
    where
      either : (b : Bool) → occurs q c (cond b (nowhere gate) (nowhere gate)) ≡ false
      either true = not_there
      either false = not_there

  pub no_round_lem : (half round held : ℕ) → half < finished_half → round_numbers ≤ round → occurs q c (position_at gate half round held) ≡ false
  unfolding position_at
  no_round_lem half round held h g = rw (lt-ltb half finished_half h, le-ltb round round_numbers g) not_there

  -- an end has no round
  pub no_end : (half round held : ℕ) → finished_half ≤ half → no_round < round → occurs q c (position_at gate half round held) ≡ false
  unfolding position_at
  no_end half round held h g = rw (le-ltb half finished_half h, lt-ltb no_round round g) not_there
