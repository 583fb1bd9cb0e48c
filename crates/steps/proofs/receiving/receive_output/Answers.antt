-- `steps::receiving::receive_output` meets its contract: the sum of the shown words is the opened entry.
-- Assumes nothing.
use native.Mathlib.Omega.{arith}
use Rattle.circuit.specs.Round.{Open}
use Rattle.protocol.proofs.Readiness.{tail_part, mask_there}
use Rattle.protocol.proofs.Received.{output_asks}
use Rattle.steps.proofs.Concluding.{shown_asks, shown_received}
use Rattle.steps.proofs.receiving.receive_output.Goals as goal

pub heard_sum-shown-requires : goal.heard_sum-shown-requires
heard_sum-shown-requires c =
    shown_asks _ _ _ _ c.requires

pub offset_bounds-prep-start : goal.offset_bounds-prep-start
offset_bounds-prep-start c =
    omega (arith, (mask_there _ _ _ _ Open c.requires.ready).0, c.well_formed)

pub slice_bounds-after_open_output-count : goal.slice_bounds-after_open_output-count
slice_bounds-after_open_output-count c =
    (mask_there _ _ _ _ Open c.requires.ready).0

pub slice_bounds-after_open_output-start : goal.slice_bounds-after_open_output-start
slice_bounds-after_open_output-start c =
    (mask_there _ _ _ _ Open c.requires.ready).0

pub after_open_output-requires : goal.after_open_output-requires
after_open_output-requires c =
    output_asks _ _ _ _ c.requires.ready c.first_at-x.ensures c.is_give_at-give.ensures (tail_part c.args.at.prep c.args.prep.now)

pub returns : goal.returns
returns c =
    shown_received _ _ _ _ c.requires c.first_at-x.ensures c.is_give_at-give.ensures (tail_part c.args.at.prep c.args.prep.now)
    c.heard_sum-shown.ensures c.after_open_output.ensures
