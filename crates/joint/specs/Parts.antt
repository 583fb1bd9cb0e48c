-- What becomes of a list in which each party has its part, or its word.
-- Assumes nothing.
use Rattle.std.specs.Prelude.{◌≡◌, ℕ, ◌*◌, ◌<◌, List, length, get_or, drop}
use Rattle.std.specs.Fork.{ChangesAt}
use Rattle.protocol.specs.Scratch.{band}
use denote.Ref.{MutBor}
use denote.Param.Members.{Shared}

-- each of n parts of k words of l' is what a call of f left of that part of l, and what lies beyond them is as it was
pub record PartsLeft {F : Type 0} (g : Shared F (ℕ × (MutBor (List ℕ) × Unit {0})) (Unit {0} × (MutBor (List ℕ) × Unit {0}))) (f : F) (n k : ℕ) (l l' : List ℕ) : Type 0 where
  pub each : (i : ℕ) → i < n → ChangesAt g f i (band k l i) (band k l' i)
  pub excess : drop (n * k) l' ≡ drop (n * k) l
  pub long : length l' ≡ length l

-- each word of l' is a result that a call of f with its place may give, and there are as many as in l
pub record WordsGiven {F : Type 0} (g : Shared F (ℕ × Unit {0}) ℕ) (f : F) (l l' : List ℕ) : Type 0 where
  pub each : (i : ℕ) → i < length l → g.post f (i, tt) (get_or l' i 0)
  pub long : length l' ≡ length l
