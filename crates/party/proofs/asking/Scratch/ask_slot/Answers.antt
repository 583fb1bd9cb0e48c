-- `party::asking::Scratch::ask_slot` meets its contract: a slot passes where its number is an element or it is not wanted, and else is refused at its offset.
-- Assumes nothing.
use Prim.Native.Nat.{ℕ, ◌<◌, ◌≤◌}
use mathlib.Core.Path.{◌≡◌, refl, sym, ap, ◌∙◌}
use mathlib.Core.Bool.{Bool, true, false, not, ◌||◌}
use lib.Dec.{ltb}
use borrow.Author.Tests.{lt-ltb, le-ltb}
use Rattle.field.specs.Words.{size}
use Rattle.circuit.specs.Verdict.{ask}
use Rattle.protocol.specs.Ask.{slot_question}
use Rattle.protocol.specs.Scratch.{read}
use Rattle.party.proofs.asking.Scratch.ask_slot.Goals as goal
use Rattle.party.proofs.asking.Scratch.ask_slot.Goals.{then-self-at-lt-SIZE, else-self-at-lt-SIZE}

-- an element passes, and of any other number it is asked whether it is wanted
passes : (wanted : Bool) {x : ℕ} → x < size → ltb x size ≡ (not wanted || ltb x size)
passes true h = refl
passes false h = lt-ltb _ _ h

decides : (wanted : Bool) {x : ℕ} → size ≤ x → not wanted ≡ (not wanted || ltb x size)
decides true h = sym (le-ltb _ _ h)
decides false h = refl

pub returns : goal.returns
unfolding slot_question read
returns c =
    c.ask.ensures
    ∙ rw (← c.offset-at.ensures.0)
    (ap (ask 15 c.offset-at.result)
    (elim c.if-self-at-lt-SIZE.branch [
      | then-self-at-lt-SIZE w ↦ w.ask-is ∙ passes _ w.if-self-at-lt-SIZE.true
      | else-self-at-lt-SIZE w ↦ w.ask-is ∙ ap not w.is_wanted.ensures ∙ decides _ w.if-self-at-lt-SIZE.false
    ]))
