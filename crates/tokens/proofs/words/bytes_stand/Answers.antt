-- `tokens::words::bytes_stand` meets its contract: what is left of the bytes stands in front of what is left of the text.
-- Assumes nothing.
use mathlib.Core.Path.{sym, ◌∙◌}
use native.Mathlib.Omega.{arith}
use lib.ListN.{length-drop}
use Rattle.tokens.proofs.Wording.{stand_none, stand_short, stand_differs, stand_more, stand_all}
use Rattle.tokens.proofs.words.bytes_stand.Goals as goal

pub returns-then-text-from : goal.returns-then-text-from
returns-then-text-from c =
    sym (stand_short _ _ (rw length-drop c.if-text-from.true))

pub loop-k-init : goal.loop-k-init
loop-k-init c =
    let a = c.args in
    (stand_none a.w.now a.text.now a.from, omega arith)

pub returns-then-w-k : goal.returns-then-w-k
returns-then-w-k c =
    let i = c.loop-k.invariant in
    let h = c.loop-k-test.true in
    sym (i.0 ∙ stand_differs _ _ _ _ h (omega (arith, c.if-text-from.false)) c.if-w-k.true)

pub loop-k-preserved : goal.loop-k-preserved
loop-k-preserved c =
    let i = c.loop-k.invariant in
    let h = c.loop-k-test.true in
    (i.0 ∙ stand_more _ _ _ _ h (omega (arith, c.if-text-from.false)) c.if-w-k.false, omega arith)

pub returns : goal.returns
returns c =
    sym (c.loop-k.invariant.0 ∙ stand_all _ _ _ _ c.loop-k-test.false)
