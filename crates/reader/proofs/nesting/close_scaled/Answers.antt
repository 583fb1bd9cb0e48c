-- `reader::nesting::close_scaled` meets its contract: the number of the gate stands where the table's row has it.
-- Assumes nothing.
use mathlib.Core.Logic.{⊎_elim}
use Rattle.circuit.specs.declared.Role.TheVariants.{Unused, Party, Wire, Constant, Divisor}
use Rattle.reader.proofs.Pushing.{scaled_line}
use Rattle.reader.proofs.nesting.close_scaled.Goals as goal

pub returns-in-Constant : goal.returns-in-Constant
returns-in-Constant c =
    let a = c.args in
    ⊎_elim (λ e. rw (scaled_line Constant a.h a.x a.n c.requires.3 c.row.ensures e) c.close_gate.ensures)
    (λ e. rw (scaled_line Divisor a.h a.x a.n c.requires.3 c.row.ensures e) c.close_gate.ensures) c.in-Constant.is

pub returns-in-Unused : goal.returns-in-Unused
returns-in-Unused c =
    let a = c.args in
    ⊎_elim (λ e. rw (scaled_line Unused a.h a.x a.n c.requires.3 c.row.ensures e) c.close_gate-in-Unused.ensures)
    (⊎_elim (λ e. rw (scaled_line Party a.h a.x a.n c.requires.3 c.row.ensures e) c.close_gate-in-Unused.ensures)
    (λ e. rw (scaled_line Wire a.h a.x a.n c.requires.3 c.row.ensures e) c.close_gate-in-Unused.ensures)) c.in-Unused.is
