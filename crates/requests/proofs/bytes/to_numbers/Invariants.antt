use Rattle.std.proofs.Common.{◌≡◌, length, take}
use Rattle.requests.proofs.bytes.to_numbers.Given as goal

abbrev pub invariant-loop-i : goal.invariant-loop-i
invariant-loop-i l = (length l.list ≡ length l.bytes) × (take l.i l.list ≡ take l.i l.bytes)
