-- `printing::Rest::print_round` meets its contract: a round has nine words a party at most.
-- Assumes nothing.
use Rattle.std.proofs.Common.{◌≤◌, arith, mul-le-mul_left}
use Rattle.circuit.proofs.RoundLaws.{few_words}
use Rattle.printing.proofs.Rest.print_round.Goals as goal

pub overflow_mul-count : goal.overflow_mul-count
overflow_mul-count g c =
    let few : c.words_in.result ≤ 9 = rw (c.words_in.ensures, c.shape_of-shape.ensures) (few_words _ _) in
    omega (arith, mul-le-mul_left c.args.self.now.parties few)
