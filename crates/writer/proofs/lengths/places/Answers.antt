-- `writer::lengths::places` meets its contract: each turn counts the last digit of those that are left.
-- Assumes nothing.
use native.Mathlib.Omega.{arith}
use Rattle.forms.proofs.Lengths.{length_word}
use Rattle.writer.proofs.Digits.{counting_none, counting_more, counting_done, counting_few}
use Rattle.writer.proofs.lengths.places.Goals as goal

pub loop-rest-init : goal.loop-rest-init
loop-rest-init c =
    counting_none _

pub overflow_add-k : goal.overflow_add-k
overflow_add-k c =
    omega (arith, counting_few c.loop-rest.invariant, length_word c.args.n (omega arith))

pub loop-rest-preserved : goal.loop-rest-preserved
loop-rest-preserved c =
    counting_more c.loop-rest.invariant c.loop-rest-test.true

pub returns : goal.returns
returns c =
    let e = counting_done c.loop-rest.invariant c.loop-rest-test.false in record {
      counted = e;
      small = omega (
        arith,
        e,
        length_word c.args.n (omega arith),
      );
    }
