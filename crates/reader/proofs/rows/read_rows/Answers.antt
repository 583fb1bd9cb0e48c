-- `reader::rows::read_rows` meets its contract. The loop's invariant: so many rows are read, the table is of these, and their gates are written.
-- The measure is how many gates more there may be: every row makes one.
-- Assumes nothing.
use mathlib.Core.Path.{◌≡◌, refl, ◌∙◌}
use native.Mathlib.Omega.{arith}
use Rattle.field.specs.Words.{largest}
use Rattle.forms.specs.Machine.{reading, No}
use Rattle.reader.proofs.Told.{said_yes, said_no, rows_on}
use Rattle.reader.proofs.Growing.{row_shut, row_fed, grown_none, grown_stops, grown_all, grown_more}
use Rattle.reader.proofs.rows.read_rows.Goals as goal

pub loop-at-init : goal.loop-at-init
loop-at-init c =
    (grown_none _ _ _ refl, refl)

pub returns-in_err-row : goal.returns-in_err-row
returns-in_err-row c =
    rows_on _ _ _ _ c.from_residual.ensures.1 (grown_stops c.loop-at.invariant.0 c.in_err-row.ensures)

pub returns-in_err-want : goal.returns-in_err-want
returns-in_err-want c =
    rows_on _ _ _ _ c.from_residual-in_err-want.ensures.1
    (said_no (λ number index. reading largest c.args.text.now ≡ No number index) _ _ c.in_err-want.field-0.0 c.in_err-want.ensures (λ b. grown_stops c.loop-at.invariant.0 (row_shut c.in_ok-row.ensures b)))

pub loop-at-preserved : goal.loop-at-preserved
loop-at-preserved c =
    let i = c.loop-at.invariant in
    let a = c.in_ok-row.ensures in
    let d = row_fed a (said_yes _ _ c.in_ok-want.ensures) in
    (grown_more i.0 d _ c.entry_of.ensures.0 c.entry_of.ensures.1, a.sized ∙ i.1)

pub returns : goal.returns
returns c =
    let i = c.loop-at.invariant in grown_all i.0 (omega (arith, i.1, c.requires)) c.loop-at-test.false
