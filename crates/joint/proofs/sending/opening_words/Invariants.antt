use Prim.Native.Nat.{◌+◌, ◌-◌, ◌*◌}
use lib.ListN.{get_or}
use Rattle.field.specs.Words.{ops, term_size}
use Rattle.protocol.proofs.Summing.{Running}
use Rattle.protocol.proofs.Filling.{Filled}
use Rattle.joint.proofs.SendTurns.{opened_words}
use Rattle.joint.proofs.sending.opening_words.Given as goal

abbrev pub invariant-loop-i : goal.invariant-loop-i
invariant-loop-i l =
    Filled l.f.parties l.k (opened_words l.f l.preps l.scratch l.at l.x l.z l.k) l.initial.out l.out l.i (l.i * l.k)
    × Running ops (1 + l.i * term_size) (λ t. get_or (opened_words l.f l.preps l.scratch l.at l.x l.z l.k t) 0 0) l.i l.sums.first
    × Running ops (1 + l.i * term_size) (λ t. get_or (opened_words l.f l.preps l.scratch l.at l.x l.z l.k t) (l.k - 1) 0) l.i l.sums.last
