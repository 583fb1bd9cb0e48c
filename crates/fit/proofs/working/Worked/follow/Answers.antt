-- `fit::working::Worked::follow` meets its contract: the move of the gate is put, and an output's score has that of the gate that it names.
-- Assumes nothing.
use mathlib.Core.Path.{refl}
use Rattle.std.proofs.Common.{rules}
use Rattle.fit.proofs.Walks.{out_said, gates_within, stepped_out, stepped_other}
use Rattle.fit.proofs.working.Worked.follow.Goals as goal

pub returns-then-not-has_value_at : goal.returns-then-not-has_value_at
returns-then-not-has_value_at c =
    stepped_out _ _ _ _ (gates_within _ _ c.requires.there) c.requires.few c.requires.tame _ _ c.move_at-m.ensures refl refl c.requires.scored c.requires.low c.first_at-first.ensures (out_said _ _ c.has_value_at.ensures (search rules)) refl refl

pub returns : goal.returns
returns c =
    stepped_other _ _ _ _ (gates_within _ _ c.requires.there) c.requires.few c.requires.tame _ _ c.move_at-m.ensures refl refl c.requires.scored c.requires.low (out_said _ _ c.has_value_at.ensures (search rules)) refl refl
