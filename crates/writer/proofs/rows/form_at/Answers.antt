-- `writer::rows::form_at` meets its contract: the sort of the word tells which form it is.
-- Assumes nothing.
use native.Mathlib.Omega.{arith}
use Rattle.writer.specs.Code.{form_in}
use Rattle.writer.proofs.Pieces.{leaf_made, one_made, two_made, scaled_made}
use Rattle.writer.proofs.rows.form_at.Goals as goal

pub returns-in-Leaf : goal.returns-in-Leaf
unfolding form_in
returns-in-Leaf c =
    leaf_made _ _ c.head_of-head.ensures c.index-first.ensures c.index-second.ensures c.number_of-number.ensures (omega arith) (omega arith) (omega arith) c.row-row.ensures.sort_is c.in-Leaf.is

pub returns-in-One : goal.returns-in-One
unfolding form_in
returns-in-One c =
    one_made _ _ c.head_of-head.ensures c.index-first.ensures c.index-second.ensures c.number_of-number.ensures (omega arith) (omega arith) (omega arith) c.row-row.ensures.sort_is c.in-One.is

pub returns-in-Two : goal.returns-in-Two
unfolding form_in
returns-in-Two c =
    two_made _ _ c.head_of-head.ensures c.index-first.ensures c.index-second.ensures c.number_of-number.ensures (omega arith) (omega arith) (omega arith) c.row-row.ensures.sort_is c.in-Two.is

pub returns-in-Scaled : goal.returns-in-Scaled
unfolding form_in
returns-in-Scaled c =
    scaled_made _ _ c.head_of-head.ensures c.index-first.ensures c.index-second.ensures c.number_of-number.ensures (omega arith) (omega arith) (omega arith) c.row-row.ensures.sort_is c.in-Scaled.is
