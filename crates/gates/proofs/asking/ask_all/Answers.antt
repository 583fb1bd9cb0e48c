-- `gates::asking::ask_all` meets its contract: the size, the gates and the last gate are asked in the order of the definition.
-- Assumes nothing.
use mathlib.Core.Path.{◌≡◌, sym}
use mathlib.Core.Bool.{true}
use native.Mathlib.Omega.{arith}
use Rattle.std.proofs.lemmas.Grind.{common_steps}
use Rattle.circuit.specs.Gate.{gates}
use Rattle.circuit.proofs.Verdicts.{ask_true}
use Rattle.gates.proofs.asking.ask_all.Goals as goal

pub ask_gates-requires : goal.ask_gates-requires
unfolding gates
ask_gates-requires c =
    let h : c.if-count-ge-FEWEST_GATES.fits ≡ true = ask_true _ _ _ (sym c.in_ok-ask.ensures) in
    (omega arith, grind (arith, common_steps), λ e j l. c.requires e j l)

pub overflow_sub-count : goal.overflow_sub-count
overflow_sub-count c =
    let h : c.if-count-ge-FEWEST_GATES.fits ≡ true = ask_true _ _ _ (sym c.in_ok-ask.ensures) in
    grind (arith, common_steps)

pub class_at-requires : goal.class_at-requires
class_at-requires c =
    let h : c.if-count-ge-FEWEST_GATES.fits ≡ true = ask_true _ _ _ (sym c.in_ok-ask.ensures) in
    grind (arith, common_steps)
