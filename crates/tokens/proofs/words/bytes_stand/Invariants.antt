use Prim.Native.Nat.{◌+◌, ◌≤◌}
use mathlib.Core.Path.{◌≡◌}
use lib.ListN.{length, drop}
use Rattle.forms.specs.Machine.{starts}
use Rattle.tokens.proofs.words.bytes_stand.Given as goal

abbrev pub invariant-loop-k : goal.invariant-loop-k
invariant-loop-k l = (starts l.w (drop l.from l.text) ≡ starts (drop l.k l.w) (drop (l.from + l.k) l.text)) × (l.k ≤ length l.w)
