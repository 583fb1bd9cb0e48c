-- `circuit::shapes::has_value` meets its contract: the kinds before out have one, and of those from it on sq and over.
-- Assumes nothing.
use mathlib.Core.Logic.{⊎_elim}
use native.Mathlib.Omega.{arith}
use borrow.Author.Tests.{lt-ltb, le-ltb, eq-eqb, ne_eqb}
use Rattle.circuit.specs.Gate.{kind_out, kind_sq}
use Rattle.circuit.proofs.Gates.{kind_valued}
use Rattle.circuit.proofs.shapes.has_value.Goals as goal
use Rattle.circuit.proofs.shapes.has_value.Goals.{then-number, else-number}

pub returns-then-number-2 : goal.returns-then-number-2
returns-then-number-2 c =
    ⊎_elim
    (λ l. elim c.if-number.branch [
      | then-number w ↦ rw (w.t-3-is, lt-ltb c.args.number kind_out l) (rw (lt-ltb c.args.number kind_out l) at (kind_valued _ c.requires))
      | else-number w ↦ absurd (omega (arith, l, w.if-number.false))
    ])
    (λ p. elim c.if-number.branch [
      | then-number w ↦ absurd (omega (arith, p.0, w.if-number.true))
      | else-number w ↦ rw (w.t-3-is, eq-eqb c.args.number kind_sq p.1) (rw (le-ltb c.args.number kind_out p.0, eq-eqb c.args.number kind_sq p.1) at (kind_valued _ c.requires))
    ])
    c.if-number-2.either

pub returns-else-number-2 : goal.returns-else-number-2
returns-else-number-2 c =
    rw (le-ltb c.args.number kind_out c.if-number-2.false.0, ne_eqb c.args.number kind_sq c.if-number-2.false.1) at (kind_valued _ c.requires)
