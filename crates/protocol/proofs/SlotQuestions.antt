-- Question 15 of one slot, by what was found there.
-- Assumes nothing.
use Prim.Native.Nat.{ℕ, ◌<◌, ◌≤◌}
use mathlib.Core.Path.{◌≡◌, refl, sym, ap, ◌∙◌}
use mathlib.Core.Bool.{Bool, true, false, not, ◌||◌}
use mathlib.Core.List.{List}
use borrow.Author.Tests.{lt-ltb, le-ltb}
use Rattle.circuit.specs.Verdict.{Accepted, Refused}
use Rattle.circuit.proofs.Verdicts.{ask_yes, ask_no}
use Rattle.protocol.specs.Scratch.{Slot, layout, offset, read}
use Rattle.protocol.specs.Ask.{slot_question}

either : (b : Bool) → (not b || true) ≡ true
either true = refl
either false = refl

module _ (q : ℕ) (c l : List ℕ) (wanted : Bool) (s : Slot) where
  pub unwanted : wanted ≡ false → Accepted ≡ slot_question q c l wanted s
  unfolding slot_question
  unwanted e = sym (ask_yes 15 _ (rw e))

  pub fine : read (layout c) l s < q → Accepted ≡ slot_question q c l wanted s
  unfolding slot_question
  fine h = sym (ask_yes 15 _ (ap (λ (b : Bool). not wanted || b) (lt-ltb _ _ h) ∙ either wanted))

  pub too_large : {at : ℕ} → wanted ≡ true → at ≡ offset (layout c) s → q ≤ read (layout c) l s → Refused 15 at ≡ slot_question q c l wanted s
  unfolding slot_question
  too_large e a h = rw a (sym (ask_no 15 _ (rw (e, le-ltb _ _ h))))
