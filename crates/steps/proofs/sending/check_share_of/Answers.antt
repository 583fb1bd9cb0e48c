-- `steps::sending::check_share_of` meets its contract: the MAC shares of opened values stand side by side.
-- Assumes nothing.
use mathlib.Core.Path.{◌∙◌}
use native.Mathlib.Omega.{arith}
use Rattle.field.specs.Words.{ops}
use Rattle.field.proofs.Laws.{laws}
use Rattle.protocol.specs.Code.{layout_of}
use Rattle.protocol.proofs.Summing.{macs_weighed, macs_there, check_made}
use Rattle.steps.proofs.Weighing.{weighed_part, parts_asked}
use Rattle.steps.proofs.sending.check_share_of.Goals as goal

pub overflow_add-at : goal.overflow_add-at
overflow_add-at c =
    let z = macs_there _ _ _ c.requires.2 c.requires.1 c.requires.6 c.offset_of-at.ensures in omega (arith, z.0, c.well_formed)

pub offset_bounds-l-at : goal.offset_bounds-l-at
offset_bounds-l-at c =
    let z = macs_there _ _ _ c.requires.2 c.requires.1 c.requires.6 c.offset_of-at.ensures in omega (arith, z.0, c.well_formed)

pub slice_bounds-weigh-end : goal.slice_bounds-weigh-end
slice_bounds-weigh-end c =
    (macs_there _ _ _ c.requires.2 c.requires.1 c.requires.6 c.offset_of-at.ensures).0

pub weigh-macs-requires : goal.weigh-macs-requires
weigh-macs-requires c =
    let z = macs_there _ _ _ c.requires.2 c.requires.1 c.requires.6 c.offset_of-at.ensures in
    parts_asked _ _ _ _ z.0 z.1 c.requires.4 c.requires.5

pub returns : goal.returns
returns c =
    let a = c.args in
    let z = macs_there _ _ _ c.requires.2 c.requires.1 c.requires.6 c.offset_of-at.ensures in
    record {
      is =
          check_made ops (layout_of a.y) a.l.now a.k a.key a.coefficients.now
          (c.weigh-macs.ensures.is
          ∙ weighed_part a.l.now a.coefficients.now _ a.k z.0 c.requires.4
          ∙ macs_weighed laws (layout_of a.y) a.l.now a.k a.coefficients.now c.offset_of-at.ensures)
          c.requires.0.is c.mul.ensures.is c.sub.ensures.is;
      below = c.sub.ensures.below;
    }
