-- `party::asking::ask_shares` meets its contract: the loop asks one check share after the other and is left at the first that is no element.
-- Assumes nothing.
use native.Mathlib.Omega.{arith}
use borrow.Author.Rules.{rules}
use Rattle.party.proofs.Loops.{each_start, each_no}
use Rattle.party.proofs.asking.ask_shares.Goals as goal

pub loop-i-init : goal.loop-i-init
loop-i-init c =
    each_start _ _

pub returns-in_err-ask : goal.returns-in_err-ask
returns-in_err-ask c =
    each_no _ _ _ c.loop-i.invariant (omega arith) c.ask.ensures c.in_err-ask.was (search rules)
