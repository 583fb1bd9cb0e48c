-- `joint::sending::opening_words` meets its contract. The loop's invariant: the parties before i have their words in out, and the rest is as it was; their first and last words are added up. The measure is the number of parties left.
-- Assumes nothing.
use Prim.Native.Nat.{ℕ, ◌<◌}
use mathlib.Core.Path.{◌≡◌}
use lib.ListN.{length}
use native.Mathlib.Omega.{arith}
use Rattle.field.specs.Words.{ops}
use Rattle.field.proofs.Laws.{laws}
use Rattle.protocol.proofs.Summing.{running_start, running_more}
use Rattle.protocol.proofs.Filling.{filled_start, filled_fits, filled_again}
use Rattle.protocol.proofs.Gathering.{put_room, part_room, part_put, put_done}
use Rattle.joint.proofs.Cutting.{cut_long, cut_low, band_room}
use Rattle.joint.proofs.Parting.{filled_to}
use Rattle.joint.proofs.SendTurns.{opened_words, opened_words_lem, words_heard}
use Rattle.steps.specs.Code.{AreEnds}
use Rattle.joint.proofs.sending.opening_words.Goals as goal

pub loop-i-init : goal.loop-i-init
loop-i-init c =
    (filled_to (filled_start _ _ _ _), running_start laws _ (omega arith), running_start laws _ (omega arith))

pub opening_words-ends-requires : goal.opening_words-ends-requires
opening_words-ends-requires c =
    rw (c.band.ensures, c.prep_from.ensures) (band_room c.requires.3 c.loop-i.i c.loop-i-test.true, (c.requires.4 c.loop-i.i c.loop-i-test.true).0, (c.requires.4 c.loop-i.i c.loop-i-test.true).1, c.requires.0, c.requires.1, omega (arith, cut_long c.requires.2 c.loop-i.i c.loop-i-test.true), cut_low c.requires.2 c.loop-i.i c.loop-i-test.true, part_room _ _ _ (filled_fits _ _ _ _ (put_room c.args.f.parties c.args.k c.args.out.now c.requires.5) (λ m h. opened_words_lem ops _ _ _ _ _ _ c.requires.0 c.requires.1) c.loop-i.invariant.0 c.loop-i-test.true))

pub loop-i-preserved : goal.loop-i-preserved
loop-i-preserved c =
    let ends : AreEnds (opened_words c.args.f c.args.preps.now c.args.scratch.now c.args.at c.args.x c.args.z c.args.k c.loop-i.i) c.args.k c.opening_words-ends.result = rw (c.band.ensures, c.prep_from.ensures) at c.opening_words-ends.ensures.ends in (
      filled_to (filled_again _ _ _ _ (put_room c.args.f.parties c.args.k c.args.out.now c.requires.5) (λ m h. opened_words_lem ops _ _ _ _ _ _ c.requires.0 c.requires.1) c.loop-i.invariant.0 c.loop-i-test.true (part_put _ _ _ (filled_fits _ _ _ _ (put_room c.args.f.parties c.args.k c.args.out.now c.requires.5) (λ m h. opened_words_lem ops _ _ _ _ _ _ c.requires.0 c.requires.1) c.loop-i.invariant.0 c.loop-i-test.true) (opened_words_lem ops _ _ _ _ _ _ c.requires.0 c.requires.1) (rw (c.band.ensures, c.prep_from.ensures) at c.opening_words-ends.ensures.out))),
      running_more laws _ _ _ c.loop-i.invariant.1 ends.first.is (omega (arith, c.loop-i.invariant.1.below, c.hear-sums.ensures.first.0), c.hear-sums.ensures.first.1),
      running_more laws _ _ _ c.loop-i.invariant.2 ends.last.is (omega (arith, c.loop-i.invariant.2.below, c.hear-sums.ensures.last.0), c.hear-sums.ensures.last.1),
    )

pub returns : goal.returns
returns c =
    let each : (i : ℕ) → i < c.args.f.parties → length (opened_words c.args.f c.args.preps.now c.args.scratch.now c.args.at c.args.x c.args.z c.args.k i) ≡ c.args.k = λ i h. opened_words_lem ops _ _ _ _ _ _ c.requires.0 c.requires.1 in
    let d = put_done _ _ _ c.requires.5 (λ m h. opened_words_lem ops _ _ _ _ _ _ c.requires.0 c.requires.1) c.loop-i.invariant.0 (omega arith) in
    record {
      out = d;
      sums = (
        words_heard _ _ _ _ each (omega (arith, c.requires.0)) d c.loop-i.invariant.0.upto (omega arith) c.loop-i.invariant.1 c.heard_ends.ensures.0,
        words_heard _ _ _ _ each (omega (arith, c.requires.0)) d c.loop-i.invariant.0.upto (omega arith) c.loop-i.invariant.2 c.heard_ends.ensures.1,
      );
    }
