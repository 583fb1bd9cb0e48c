-- `steps::sending::weigh_values` meets its contract: opened values stand side by side.
-- Assumes nothing.
use mathlib.Core.Path.{◌∙◌}
use native.Mathlib.Omega.{arith}
use Rattle.field.proofs.Laws.{laws}
use Rattle.protocol.specs.Code.{layout_of}
use Rattle.protocol.proofs.Summing.{values_weighed, values_there}
use Rattle.steps.proofs.Weighing.{weighed_part, parts_asked}
use Rattle.steps.proofs.sending.weigh_values.Goals as goal

pub overflow_add-at : goal.overflow_add-at
overflow_add-at c =
    let z = values_there _ _ _ c.requires.1 c.requires.0 c.requires.4 c.offset_of-at.ensures in omega (arith, z.0, c.well_formed)

pub offset_bounds-l-at : goal.offset_bounds-l-at
offset_bounds-l-at c =
    let z = values_there _ _ _ c.requires.1 c.requires.0 c.requires.4 c.offset_of-at.ensures in omega (arith, z.0, c.well_formed)

pub slice_bounds-weigh-end : goal.slice_bounds-weigh-end
slice_bounds-weigh-end c =
    (values_there _ _ _ c.requires.1 c.requires.0 c.requires.4 c.offset_of-at.ensures).0

pub weigh-requires : goal.weigh-requires
weigh-requires c =
    let z = values_there _ _ _ c.requires.1 c.requires.0 c.requires.4 c.offset_of-at.ensures in
    parts_asked _ _ _ _ z.0 z.1 c.requires.2 c.requires.3

pub returns : goal.returns
returns c =
    let a = c.args in
    let z = values_there _ _ _ c.requires.1 c.requires.0 c.requires.4 c.offset_of-at.ensures in
    record {
      is =
          c.weigh.ensures.is
          ∙ weighed_part a.l.now a.coefficients.now _ a.k z.0 c.requires.2
          ∙ values_weighed laws (layout_of a.y) a.l.now a.k a.coefficients.now c.offset_of-at.ensures;
      below = c.weigh.ensures.below;
    }
