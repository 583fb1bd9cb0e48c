-- `gates::asking::ask_gates` meets its contract: gates that are all valid are accepted, and otherwise the scan answers.
-- Assumes nothing.
use mathlib.Core.Path.{sym}
use Rattle.circuit.proofs.Verdicts.{each_all}
use Rattle.circuit.proofs.Valid.{gate_accepted}
use Rattle.gates.proofs.asking.ask_gates.Goals as goal

pub returns-then-yes : goal.returns-then-yes
returns-then-yes c =
    sym (each_all _ _ (λ j h. gate_accepted _ _ _ j (c.requires.2 c.if-yes.true j h)))
