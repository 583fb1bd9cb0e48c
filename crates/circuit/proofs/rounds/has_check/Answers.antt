-- `circuit::rounds::has_check` meets its contract: the first check is of something, the second there is always.
-- Assumes nothing.
use Rattle.circuit.proofs.rounds.has_check.Goals as goal

pub returns-in-First : goal.returns-in-First
returns-in-First c =
    rw c.in-First.is

pub returns-in-Second : goal.returns-in-Second
returns-in-Second c =
    rw c.in-Second.is
