-- What acceptance gives, in the field that stands below.
-- Assumes nothing.
use Prim.Native.Nat.{ℕ, ◌<◌}
use mathlib.Core.Path.{◌≡◌}
use mathlib.Core.List.{List}
use native.Mathlib.Omega.{arith}
use Rattle.field.specs.Words.{size}
use Rattle.circuit.specs.Verdict.{Accepted}
use Rattle.protocol.specs.Party.{Party}
use Rattle.protocol.specs.Ask.{ask_lent}
use Rattle.protocol.proofs.Accepted.{Lends, lends}

pub positive : 0 < size
positive = omega arith

pub lends_here : (P : Party) (l : List ℕ) → ask_lent size P l ≡ Accepted → Lends size P l
lends_here = lends positive
