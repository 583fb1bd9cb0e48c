-- `circuit::counting::words_of` meets its contract: an output has two checks or one beside its own round, a local gate no round, and any other its own round alone.
-- Assumes nothing.
use mathlib.Core.Path.{sym}
use mathlib.Core.Logic.{⊎_elim}
use borrow.Author.Tests.{ne_eqb}
use Rattle.circuit.proofs.RoundLaws.{words_local, words_owned, words_opens, words_first, words_later}
use Rattle.circuit.specs.Code.{shape_of}
use Rattle.circuit.proofs.counting.words_of.Goals as goal

pub returns-in-Local : goal.returns-in-Local
returns-in-Local c =
    rw c.in-Local.is (sym (words_local _ _))

pub returns-in-Owned : goal.returns-in-Owned
unfolding shape_of
returns-in-Owned c =
    ⊎_elim (λ e. rw e (sym (words_owned _ _))) (λ e. rw e (sym (words_opens _ _))) c.in-Owned.is

pub returns-in-Output : goal.returns-in-Output
unfolding shape_of
returns-in-Output c =
    rw c.in-Output.is (sym (words_first _ _ c.if-unchecked-eq0.true))

pub returns-in-Output-2 : goal.returns-in-Output-2
unfolding shape_of
returns-in-Output-2 c =
    rw c.in-Output-2.is (sym (words_later _ _ (ne_eqb _ 0 c.if-unchecked-eq0.false)))
