-- `capi::without_room` meets its contract: the first refusal decides.
-- Assumes nothing.
use Rattle.circuit.specs.Verdict.{◌then◌}
use Rattle.capi.specs.Calls.{returned}
use Rattle.capi.proofs.without_room.Goals as goal

pub returns-in-Ok : goal.returns-in-Ok
unfolding ◌then◌ returned
returns-in-Ok g c =
    rw (c.number.ensures, c.in-Ok.is)

pub returns-in-Err : goal.returns-in-Err
unfolding ◌then◌ returned
returns-in-Err g c =
    rw c.in-Err.is (rw c.in-Err.is at c.returned_of.ensures)
