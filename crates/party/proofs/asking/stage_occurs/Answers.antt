-- `party::asking::stage_occurs` meets its contract, stage by stage.
-- Assumes nothing.
use mathlib.Core.Path.{refl, ◌∙◌}
use mathlib.Core.Logic.{⊎_elim}
use Rattle.protocol.specs.Position.{stage_occurs}
use Rattle.protocol.proofs.Occurring.{round_occurs, last_occurs}
use Rattle.party.proofs.asking.stage_occurs.Goals as goal

pub returns-in-Send : goal.returns-in-Send
unfolding stage_occurs
returns-in-Send c =
    round_occurs _ _ _ c.requires.3 c.class_at-class.ensures c.has_round-in-Send.ensures ∙ ⊎_elim (λ e. rw e) (λ e. rw e) c.in-Send.is

pub returns-in-Finished : goal.returns-in-Finished
returns-in-Finished c =
    rw c.in-Finished.is (last_occurs _ _ c.requires.1 refl)

pub returns-in-Aborted : goal.returns-in-Aborted
unfolding stage_occurs
returns-in-Aborted c =
    rw c.in-Aborted.is (round_occurs _ _ _ c.requires.3 c.class_at-class.ensures c.has_round.ensures)
