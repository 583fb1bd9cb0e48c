-- `party::open_run` meets its contract: what 1 to 12 accept starts with the sending half of gate 0, which is an in gate.
-- Assumes nothing.
use mathlib.Core.Path.{sym, ap, ◌∙◌}
use borrow.Author.Rules.{rules}
use Rattle.field.specs.Words.{size, ops}
use Rattle.circuit.specs.Question.{verdict_of}
use Rattle.protocol.specs.Position.{holding}
use Rattle.protocol.specs.Entry.{Next}
use Rattle.protocol.proofs.Following.{start_is}
use Rattle.protocol.proofs.Entries.{open_refused, open_accepted}
use Rattle.party.specs.Code.{answer_of, outcome_is, position_of}
use Rattle.party.proofs.Accepted.{lends_here}
use Rattle.party.proofs.open_run.Goals as goal

pub returns-in_err-ask_lent : goal.returns-in_err-ask_lent
unfolding answer_of
returns-in_err-ask_lent c =
    search rules ∙ open_refused ops _ _ (sym c.ask_lent.ensures.asked ∙ ap verdict_of c.in_err-ask_lent.was)

pub returns : goal.returns
unfolding answer_of outcome_is position_of holding
returns c =
    let e = c.in_ok-ask_lent.ensures.accepted.accepted in open_accepted ops _ _ e (sym (ap (λ x. Next (holding x 0)) (start_is _ _ size (lends_here _ _ e).valid)))
