-- A text lives exactly if the machine steps through it, and is a sheet exactly if it steps to the end of a row. So a sheet has one reading.
-- Assumes nothing.
use Prim.Native.Nat.{ℕ}
use mathlib.Core.Path.{◌≡◌, sym, ap, ◌∙◌}
use mathlib.Core.List.{List, [], ◌++◌, append-nil}
use mathlib.Core.Logic.{◌↔◌}
use mathlib.Core.Option.{some}
use Rattle.forms.specs.Form.{Form, print_rows, Sheet}
use Rattle.forms.specs.Refusals.{Lives}
use Rattle.forms.specs.Machine.{start, State, at, origin, steps}
use Rattle.forms.proofs.Choices.{some_is}
use Rattle.forms.proofs.Stepping.{steps_then, steps_prefix}
use Rattle.forms.proofs.Spelt.{spelt_stack, spelt_focus, spelt, reached_spelt}
use Rattle.forms.proofs.Print.{steps_rows}
use Rattle.forms.proofs.Good.{origin_good, steps_good}
use Rattle.forms.proofs.Finish.{finish}

module _ (top : ℕ) where
  -- sheets --------------------------------------------------------------------------------------------------------------

  pub sheet_steps : (text : List ℕ) (rows : List Form) → Sheet top rows → text ≡ print_rows rows → steps top origin text ≡ some (at rows [] start)
  sheet_steps text rows S e = ap (steps top origin) e ∙ steps_rows top rows S

  pub steps_sheet : (text : List ℕ) (rows : List Form) → steps top origin text ≡ some (at rows [] start) → Sheet top rows × (text ≡ print_rows rows)
  steps_sheet text rows e = (
    (steps_good top origin text (at rows [] start) (origin_good top) e).sheet,
    unfold spelt spelt_stack spelt_focus in simp append-nil at (reached_spelt top text (at rows [] start) e),
  )

  pub sheet_is : (text : List ℕ) (rows : List Form) →
      (Sheet top rows × (text ≡ print_rows rows)) ↔ (steps top origin text ≡ some (at rows [] start))
  sheet_is text rows = (λ S. sheet_steps text rows S.0 S.1, steps_sheet text rows)

  -- "A sheet has one reading."
  pub one_reading : (rs rs' : List Form) → Sheet top rs → Sheet top rs' → print_rows rs ≡ print_rows rs' → rs ≡ rs'
  one_reading rs rs' S S' e =
      ap (λ (s : State). s.rows) (some_is (sym (steps_rows top rs S) ∙ sheet_steps (print_rows rs) rs' S' e))

  -- living texts --------------------------------------------------------------------------------------------------------

  pub lives_steps : (u : List ℕ) → Lives top u → (s : State) × (steps top origin u ≡ some s)
  unfolding Lives
  lives_steps u L =
      let m = steps_prefix top u L.2.0 origin (at L.0 [] start) (sheet_steps (u ++ L.2.0) L.0 L.1 L.2.1) in
      (m.middle, m.before)

  pub steps_lives : (u : List ℕ) (s : State) → steps top origin u ≡ some s → Lives top u
  unfolding Lives
  steps_lives u s e =
      let E = finish top s (steps_good top origin u s (origin_good top) e) in
      let S = steps_sheet (u ++ E.rest) E.rows (steps_then top u E.rest origin e E.leads) in
      (E.rows, S.0, (E.rest, S.1))

  -- the texts that some sheet begins with
  pub lives_is : (u : List ℕ) → Lives top u ↔ ((s : State) × (steps top origin u ≡ some s))
  lives_is u = (lives_steps u, λ r. steps_lives u r.0 r.1)
