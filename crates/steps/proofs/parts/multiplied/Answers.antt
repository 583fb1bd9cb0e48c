-- `steps::parts::multiplied` meets its contract: share and MAC share are the definition's sums of products, and one times the share of
-- E × D is that share.
-- Assumes nothing.
use mathlib.Core.Path.{◌∙◌}
use Rattle.field.proofs.Laws.{laws}
use Rattle.algebra.proofs.Ring.{one_mul}
use Rattle.protocol.specs.Part.{plus, scale, known, shift, product}
use Rattle.steps.specs.Code.{part_of}
use borrow.Author.Rules.{rules}
use Rattle.steps.proofs.parts.multiplied.Goals as goal

pub returns : goal.returns
unfolding part_of plus scale known shift product
returns c =
    record { is = cc (one_mul laws _ ∙ laws.norm_of_lt c.known_share.ensures.below); low = search rules }
