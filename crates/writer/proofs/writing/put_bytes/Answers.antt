-- `writer::writing::put_bytes` meets its contract: the bytes are copied over a part of the text.
-- Assumes nothing.
use Rattle.writer.proofs.Putting.{put_part}
use Rattle.writer.proofs.writing.put_bytes.Goals as goal

pub returns : goal.returns
returns c =
    put_part _ _ _ c.copy_from_slice.ensures.after
