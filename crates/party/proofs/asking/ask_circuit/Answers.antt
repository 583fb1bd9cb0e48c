-- `party::asking::ask_circuit` meets its contract: it asks of a field of the size that stands below.
-- Assumes nothing.
use mathlib.Core.Path.{◌∙◌}
use Rattle.party.proofs.asking.ask_circuit.Goals as goal

pub returns : goal.returns
returns c =
    c.accept.ensures ∙ rw c.index.ensures
