-- `writer::rows::number_of` meets its contract: the table tells what the numbers of a gate are for.
-- Assumes nothing.
use Rattle.forms.specs.Entry.{number_of}
use Rattle.writer.proofs.rows.number_of.Goals as goal

pub returns : goal.returns
unfolding number_of
returns c =
    rw (
      c.index.ensures,
      c.index-2.ensures,
      c.index-3.ensures,
      c.counted.ensures,
      c.counted-2.ensures,
      c.counted-3.ensures,
      c.row-row.ensures.first_is,
      c.row-row.ensures.second_is,
      c.row-row.ensures.constant_is,
    )
