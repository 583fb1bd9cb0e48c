-- `tokens::numbers::begins_with` meets its contract: the fuel of `begins` is the number itself, so a tenth of the number goes on as the whole did.
-- Assumes nothing.
use mathlib.Core.Path.{refl, sym, ◌∙◌}
use native.Mathlib.Omega.{arith}
use Rattle.tokens.proofs.Naming.{begins_here, begins_last, begins_next}
use Rattle.tokens.proofs.numbers.begins_with.Goals as goal

pub loop-k-init : goal.loop-k-init
loop-k-init c =
    refl

pub returns-then-k-lt-TEN : goal.returns-then-k-lt-TEN
returns-then-k-lt-TEN c =
    sym (c.loop-k.invariant ∙ begins_last _ _ c.loop-k-test.true c.if-k-lt-TEN.true)

pub loop-k-smaller : goal.loop-k-smaller
loop-k-smaller c =
    omega arith

pub loop-k-preserved : goal.loop-k-preserved
loop-k-preserved c =
    c.loop-k.invariant ∙ begins_next _ _ c.loop-k-test.true c.if-k-lt-TEN.false

pub returns : goal.returns
returns c =
    sym (c.loop-k.invariant ∙ begins_here _ _ c.loop-k-test.false)
