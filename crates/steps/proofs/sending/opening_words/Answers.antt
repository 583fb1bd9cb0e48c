-- `steps::sending::opening_words` meets its contract: one word or two are written in order, and the first and the last are told.
-- Assumes nothing.
use native.Mathlib.Omega.{arith}
use Rattle.field.specs.Words.{ops}
use Rattle.steps.proofs.Numbers.{share_is, ends_one, ends_two}
use Rattle.protocol.proofs.Sent.{opening_one, opening_two}
use Rattle.steps.proofs.sending.opening_words.Goals as goal

pub returns-then-k-eq2 : goal.returns-then-k-eq2
returns-then-k-eq2 c =
    record { out = opening_two ops _ _ _ _ _ _ _ (share_is c.masked-first.ensures) c.if-k-eq2.true (share_is c.masked-second.ensures) (omega (arith, c.requires.7, c.if-k-eq2.true)); ends = ends_two _ _ _ _ _ _ c.masked-first.ensures c.if-k-eq2.true c.masked-second.ensures }

pub returns : goal.returns
returns c =
    let h = c.requires in
    record { out = opening_one ops _ _ _ _ _ _ _ (share_is c.masked-first.ensures) c.if-k-eq2.false (omega (arith, h.3, h.7)); ends = ends_one _ _ _ _ _ _ c.masked-first.ensures c.if-k-eq2.false h.3 h.4 }
