-- `steps::receiving::judge` meets its contract: where nobody is named, the sum decides.
-- Assumes nothing.
use native.Mathlib.Omega.{arith}
use mathlib.Core.Path.{sym, ◌∙◌}
use Rattle.protocol.specs.Code.{ruling_of}
use Rattle.steps.proofs.Marking.{shares_low, weighs_named, weighs_nonzero, weighs_zero}
use Rattle.steps.proofs.receiving.judge.Goals as goal
use Rattle.steps.proofs.receiving.judge.Goals.{then-is_some-via-then-is_some, then-is_some-via-else-is_some+then-heard_sum-ne0}

pub heard_sum-requires : goal.heard_sum-requires
heard_sum-requires c =
    (omega arith, c.requires.1, shares_low _ c.args.heard.now c.requires.2)

pub returns-then-is_some : goal.returns-then-is_some
unfolding ruling_of
returns-then-is_some c =
    let e = c.misfit-blame.ensures in
    elim c.then-is_some.branch [
      | then-is_some-via-then-is_some w ↦ weighs_named _ _ e (sym c.is_some.ensures ∙ w.if-is_some.true)
      | then-is_some-via-else-is_some+then-heard_sum-ne0 w ↦ weighs_nonzero _ _ e (sym c.is_some.ensures ∙ w.if-is_some.false) w.heard_sum.ensures.is w.if-heard_sum-ne0.true
    ]

pub returns : goal.returns
unfolding ruling_of
returns c =
    weighs_zero _ _ c.misfit-blame.ensures (sym c.is_some.ensures ∙ c.if-is_some.false) c.heard_sum.ensures.is c.if-heard_sum-ne0.false
