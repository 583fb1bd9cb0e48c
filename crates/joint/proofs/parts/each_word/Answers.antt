-- `joint::parts::each_word` meets its contract.
-- Assumes nothing.
use native.Mathlib.Omega.{arith}
use Rattle.joint.proofs.Parting.{words_start, words_again, words_done}
use Rattle.joint.proofs.parts.each_word.Goals as goal

pub loop-i-init : goal.loop-i-init
loop-i-init g c = words_start g.F.Fn _ _

pub loop-i-preserved : goal.loop-i-preserved
loop-i-preserved g c = words_again g.F.Fn _ _ c.loop-i.invariant (omega arith) c.give.ensures

pub returns : goal.returns
returns g c = words_done g.F.Fn _ _ c.loop-i.invariant (omega arith)
