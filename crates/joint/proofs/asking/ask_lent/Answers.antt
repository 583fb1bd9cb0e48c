-- `joint::asking::ask_lent` meets its contract. The two groups of questions are asked in their order, of the lengths that the frame holds and of those that are counted along the circuit.
-- Assumes nothing.
use mathlib.Core.Path.{◌∙◌}
use native.Mathlib.Omega.{arith}
use borrow.Author.Rules.{rules}
use Rattle.circuit.proofs.Verdicts.{asked_on, asked_no}
use Rattle.joint.proofs.Measures.{preps_few, sizes_few, ins_are, outs_are, words_are, words_few, coefficients_are, checks_are, checks_few}
use Rattle.joint.proofs.Accepting.{lent_asked}
use Rattle.joint.proofs.asking.ask_lent.Goals as goal

pub overflow_mul-f : goal.overflow_mul-f
overflow_mul-f c =
    omega (arith, preps_few c.requires.0 c.requires.2 c.requires.1)

pub overflow_mul-f-2 : goal.overflow_mul-f-2
overflow_mul-f-2 c =
    omega (arith, sizes_few c.requires.0 c.requires.2 c.requires.1)

pub overflow_mul-f-3 : goal.overflow_mul-f-3
overflow_mul-f-3 c =
    omega (arith, checks_few c.requires.0 c.requires.2 c.requires.3 c.requires.1)

pub overflow_mul-f-4 : goal.overflow_mul-f-4
overflow_mul-f-4 c =
    omega (arith, checks_few c.requires.0 c.requires.2 c.requires.3 c.requires.1)

pub overflow_mul-f-5 : goal.overflow_mul-f-5
overflow_mul-f-5 c =
    omega (arith, words_few c.requires.0 c.requires.2 c.requires.3 c.requires.1)

pub returns-in_err-ask_lists : goal.returns-in_err-ask_lists
returns-in_err-ask_lists c =
    let a = c.args in asked_no _ c.ask_lists.ensures c.in_err-ask_lists.was (search rules) ∙ lent_asked a.f.parties a.c.now a.preps.now a.inputs.now a.room a.coefficients.now a.nonces a.transcript a.outputs c.requires.2.prep (ins_are c.requires.0 c.requires.2 c.requires.3) c.requires.2.scratch (coefficients_are c.requires.0 c.requires.2 c.requires.3) (checks_are c.requires.0 c.requires.2 c.requires.3) (words_are c.requires.0 c.requires.2 c.requires.3) (outs_are c.requires.0 c.requires.2 c.requires.3)

pub returns : goal.returns
returns c =
    let a = c.args in asked_on _ c.ask_lists.ensures c.in_ok-ask_lists.was c.ask_rooms.ensures ∙ lent_asked a.f.parties a.c.now a.preps.now a.inputs.now a.room a.coefficients.now a.nonces a.transcript a.outputs c.requires.2.prep (ins_are c.requires.0 c.requires.2 c.requires.3) c.requires.2.scratch (coefficients_are c.requires.0 c.requires.2 c.requires.3) (checks_are c.requires.0 c.requires.2 c.requires.3) (words_are c.requires.0 c.requires.2 c.requires.3) (outs_are c.requires.0 c.requires.2 c.requires.3)
