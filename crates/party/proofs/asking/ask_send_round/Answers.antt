-- `party::asking::ask_send_round` meets its contract: as many coefficients are asked for as the entries that were unchecked when the gate was reached.
-- Assumes nothing.
use borrow.Author.Rules.{rules}
use Rattle.circuit.proofs.Verdicts.{asked}
use Rattle.protocol.specs.Ask.{ask_send_round}
use Rattle.party.proofs.asking.ask_send_round.Goals as goal

pub returns-in_err-ask : goal.returns-in_err-ask
unfolding ask_send_round
returns-in_err-ask c =
    rw (← c.requires.waiting) (search (rules, asked))

pub returns-in_err-ask_elements : goal.returns-in_err-ask_elements
unfolding ask_send_round
returns-in_err-ask_elements c =
    rw (← c.requires.waiting) (search (rules, asked))

pub returns-in_err-ask-2 : goal.returns-in_err-ask-2
unfolding ask_send_round
returns-in_err-ask-2 c =
    rw (← c.requires.waiting) (search (rules, asked))

pub returns : goal.returns
unfolding ask_send_round
returns c =
    rw (← c.requires.waiting, ← c.shape_at.ensures) (search (rules, asked))
