use Rattle.std.proofs.Common.{◌≡◌, length, take}
use Rattle.requests.specs.Texts.{lows}
use Rattle.requests.proofs.bytes.to_bytes.Given as goal

abbrev pub invariant-loop-i : goal.invariant-loop-i
invariant-loop-i l = (length l.bytes ≡ length l.list) × (take l.i l.bytes ≡ lows (take l.i l.list))
