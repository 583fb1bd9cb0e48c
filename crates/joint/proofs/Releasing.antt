-- What a round releases goes to the place reached in the outputs.
-- Assumes nothing.
use Prim.Native.Nat.{ℕ, ◌+◌, ◌<◌}
use mathlib.Core.Path.{◌≡◌, refl}
use mathlib.Core.Bool.{true, cond, ◌&&◌}
use mathlib.Core.List.{List, [], ◌∷◌}
use native.Mathlib.Omega.{arith}
use lib.ListN.{length, set}
use Rattle.circuit.specs.Count.{capacity}
use Rattle.circuit.specs.Round.{Round}
use Rattle.protocol.specs.Scratch.{layout, written_at}
use Rattle.protocol.specs.Receive.{Ruling, passed}
use Rattle.protocol.specs.declared.Layout as D
use Rattle.protocol.specs.Code.{layout_of}
use Rattle.protocol.specs.Entry.{releases}

-- there is room for an opened entry
pub entry_zero : (c : List ℕ) (y : D.Layout) → layout_of y ≡ layout c → 0 < (layout_of y).capacity
unfolding layout capacity
entry_zero c y e = rw e (omega arith)

-- the entry y that was shown is released
pub freed_one : (r : Round) (v : Ruling) (at : ℕ) (o : List ℕ) → releases r ≡ true → passed v ≡ true → {x y : ℕ} → x ≡ y
    → (at + 1 ≡ at + length (cond (releases r && passed v) (y ∷ []) [])) × (set o at x ≡ written_at at (cond (releases r && passed v) (y ∷ []) []) o)
unfolding written_at
freed_one r v at o e q f = rw (e, q, f) (refl, refl)
