-- `sha256::words` meets its contract: the loop writes the words one after the other.
-- Assumes nothing.
use Rattle.std.proofs.Common.{[], ◌∙◌, arith, rules}
use Rattle.sha256.proofs.Written.{written_long}
use Rattle.sha256.proofs.Bytes.{words_start, words_again, words_done, word_at_chunk}
use Rattle.sha256.proofs.words.Goals as goal

pub loop-i-init : goal.loop-i-init
loop-i-init c =
    words_start _ c.requires.0 _ c.requires.1

pub bounds-out-i : goal.bounds-out-i
bounds-out-i c =
    omega (arith, written_long c.loop-i.invariant, c.requires.1)

pub loop-i-preserved : goal.loop-i-preserved
loop-i-preserved c =
    words_again _ c.requires.0 (search rules) (c.from_be_bytes.ensures ∙ word_at_chunk _ c.loop-i.i c.args.bytes.now [] c.as_chunks.ensures.front (omega arith)) c.loop-i.invariant

pub returns : goal.returns
returns c =
    words_done _ c.requires.0 (search rules) c.loop-i.invariant
