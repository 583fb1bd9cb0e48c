-- A run goes on at a sending half and is over elsewhere, and what a round that leads on releases.
-- Assumes nothing.
use Prim.Native.Nat.{ℕ, zero, suc, ◌+◌, ◌<◌, ◌≤◌}
use mathlib.Core.Path.{◌≡◌, refl}
use mathlib.Core.Bool.{Bool, true, false, cond, ◌&&◌}
use mathlib.Core.List.{List, [], ◌∷◌}
use native.Mathlib.Omega.{arith}
use lib.ListN.{length}
use Rattle.algebra.specs.Ops.{Ops}
use Rattle.circuit.specs.Round.{Round}
use Rattle.protocol.specs.Position.{Stage, Send, aborted, follow, when_sending}
use Rattle.protocol.specs.Receive.{Ruling, passed, next}
use Rattle.protocol.specs.Entry.{releases}
use Rattle.protocol.specs.Joint.{Joint}
use Rattle.protocol.specs.Run.{State, Run, ends, step, released, still, ahead, run}

-- nothing is sent at a stage
abbrev pub Over : Stage → Type 1
Over x = (A : Type 0) (a : A) (g : Round → A) → when_sending x a g ≡ a

module _ (O : Ops) (J : Joint) (k : ℕ) (s : State) where
  -- A run goes on with a round at a sending half ..
  pub run_goes : (r : Round) → s.point.stage ≡ Send r → run O J (suc k) s ≡ ahead O J s r (run O J k (step O J s r))
  unfolding run when_sending
  run_goes r e = rw e

-- .. and is over where nothing is sent.
pub run_over : (O : Ops) (J : Joint) (k : ℕ) (s : State) → Over s.point.stage → run O J k s ≡ still O J s
unfolding run
run_over O J zero s h = refl
run_over O J (suc k) s h = h Run _ _

-- Only a round that stops no run leads to a sending half.
module _ (c : List ℕ) (j : ℕ) (r : Round) (v : Ruling) (r' : Round) (e : (next c j r v).stage ≡ Send r') where
  pub next_passed : passed v ≡ true
  unfolding next aborted
  next_passed = go (passed v) e
    where
      go : (b : Bool) → (cond b (follow c j r) (aborted j)).stage ≡ Send r' → b ≡ true
      go true h = refl
      go false h = let z : ◌≡◌ {A = ℕ} 0 1 = cc in absurd (omega arith)

  pub next_goes : next c j r v ≡ follow c j r
  unfolding next
  next_goes = rw next_passed

-- A round that releases has room for one output, and another needs none.
module _ (O : Ops) (J : Joint) (s : State) (r : Round) where
  pub released_fits : (k m : ℕ) → k ≤ m → (releases r ≡ true → k < m) → k + length (released O J s r) ≤ m
  unfolding released
  released_fits k m h g = go (releases r) (passed (ends O J s r)) _ g
    where
      go : (a b : Bool) (x : ℕ) → (a ≡ true → k < m) → k + length (cond (a && b) (x ∷ []) []) ≤ m
      go true true x g = omega (arith, g refl)
      go true false x g = omega arith
      go false b x g = omega arith

  pub released_one : passed (ends O J s r) ≡ true → length (released O J s r) ≡ cond (releases r) 1 0
  unfolding released
  released_one e = rw e (go (releases r) _)
    where
      go : (a : Bool) (x : ℕ) → length (cond (a && true) (x ∷ []) []) ≡ cond a 1 0
      go true x = refl
      go false x = refl
