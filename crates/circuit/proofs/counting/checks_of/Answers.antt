-- `circuit::counting::checks_of` meets its contract: an output has two checks or one, and no other gate any.
-- Assumes nothing.
use mathlib.Core.Path.{refl, sym}
use mathlib.Core.Logic.{⊎_elim}
use borrow.Author.Tests.{ne_eqb}
use Rattle.circuit.proofs.RoundLaws.{checks_first, checks_later}
use Rattle.circuit.specs.Round.{over_rounds, class_rounds, commits_in}
use Rattle.circuit.proofs.counting.checks_of.Goals as goal

pub returns-in-Output : goal.returns-in-Output
returns-in-Output c =
    rw c.in-Output.is (sym (checks_first _ c.if-unchecked-eq0.true))

pub returns-in-Output-2 : goal.returns-in-Output-2
returns-in-Output-2 c =
    rw c.in-Output-2.is (sym (checks_later _ (ne_eqb _ 0 c.if-unchecked-eq0.false)))

pub returns-in-Local : goal.returns-in-Local
unfolding over_rounds class_rounds commits_in
returns-in-Local c =
    ⊎_elim (λ e. rw e refl) (⊎_elim (λ e. rw e refl) (λ e. rw e refl)) c.in-Local.is
