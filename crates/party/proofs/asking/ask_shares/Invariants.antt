use Prim.Native.Nat.{◌*◌}
use lib.ListN.{get_or}
use lib.Dec.{ltb}
use Rattle.field.specs.Words.{size}
use Rattle.circuit.specs.Verdict.{ask}
use Rattle.circuit.specs.Round.{reveal_words}
use Rattle.circuit.proofs.Loops.{Asking}
use Rattle.party.proofs.asking.ask_shares.Given as goal

abbrev pub invariant-loop-i : goal.invariant-loop-i
invariant-loop-i l = Asking (λ i. ask 20 (i * reveal_words) (ltb (get_or l.heard (i * reveal_words) 0) size)) l.parties l.i
