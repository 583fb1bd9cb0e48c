-- The cycle of calls: a form calls one of the three readers of forms with operands, which call the operand reader, which calls the form reader.
-- Assumes nothing.
use Rattle.std.proofs.Common.{refl, sym, ◌∙◌, arith}
use Rattle.forms.specs.declared.Sort.TheVariants.{One, Two, Scaled}
use Rattle.forms.specs.Form.{opening, closing, space}
use Rattle.tokens.proofs.Onward.{at_inside}
use Rattle.reader.specs.Code.{worded, fresh, Stopped}
use Rattle.reader.proofs.Told.{said_yes, said_no, above, not_above, placed_ok, placed_err, told_on}
use Rattle.reader.proofs.Places.{given_next}
use Rattle.reader.proofs.Operands.{
  first_stops,
  first_shut,
  one_closes,
  two_stops,
  two_shut,
  two_closes,
  scaled_dies,
  scaled_closes,
  form_dies,
  form_told,
  operand_shut,
  operand_deep,
}
use Rattle.reader.proofs.AtOnce.{name_made, input_told}
use Rattle.reader.proofs.nesting.+nesting.Goals as goal

-- a form -------------------------------------------------------------------------------------------------------------

pub read_form-read_word-requires : goal.read_form-read_word-requires
read_form-read_word-requires t c =
    let p = c.requires in (omega (arith, at_inside _ _ opening p.1), p.0.short)

pub read_form-returns-in_err-word : goal.read_form-returns-in_err-word
read_form-returns-in_err-word t c =
    let p = c.requires in
    let a = c.args in
    told_on _ _ _ _ c.from_residual.ensures.1
    (placed_err (Stopped fresh a.text.now.now a.table.now.now a.from a.left a.count) _ _ _ c.in_err-word.field-0.0 c.in_err-word.ensures c.read_word.ensures
    (λ index d. form_dies _ _ a.lines.now _ _ _ refl p.2 p.0.few p.1 d))

pub read_form-returns-in-Leaf : goal.read_form-returns-in-Leaf
read_form-returns-in-Leaf t c =
    let p = c.requires in
    let w = placed_ok _ _ _ c.in_ok-word.ensures c.read_word.ensures in
    form_told _ _ _ _ _ _ refl p.2 p.0.few p.1 w _ _ c.read_leaf.ensures

pub read_form-returns-in-One : goal.read_form-returns-in-One
read_form-returns-in-One t c =
    let p = c.requires in
    let w = placed_ok _ _ _ c.in_ok-word.ensures c.read_word.ensures in
    form_told _ _ _ _ _ _ refl p.2 p.0.few p.1 w _ _ c.read_one.ensures

pub read_form-returns-in-Two : goal.read_form-returns-in-Two
read_form-returns-in-Two t c =
    let p = c.requires in
    let w = placed_ok _ _ _ c.in_ok-word.ensures c.read_word.ensures in
    form_told _ _ _ _ _ _ refl p.2 p.0.few p.1 w _ _ c.read_two.ensures

pub read_form-returns-in-Scaled : goal.read_form-returns-in-Scaled
read_form-returns-in-Scaled t c =
    let p = c.requires in
    let w = placed_ok _ _ _ c.in_ok-word.ensures c.read_word.ensures in
    form_told _ _ _ _ _ _ refl p.2 p.0.few p.1 w _ _ c.read_scaled.ensures

-- (w F) --------------------------------------------------------------------------------------------------------------

pub read_one-returns-in_err-x : goal.read_one-returns-in_err-x
read_one-returns-in_err-x t c =
    let p = c.requires in
    told_on _ _ _ _ c.from_residual.ensures.1 (first_stops _ _ c.args.lines.now _ _ _ c.args.h One p.1 refl p.2 c.in_err-x.ensures)

pub read_one-returns-in_err-want : goal.read_one-returns-in_err-want
read_one-returns-in_err-want t c =
    let p = c.requires in
    let a = c.args in
    told_on _ _ _ _ c.from_residual-in_err-want.ensures.1
    (said_no (Stopped (worded a.h) a.text.now.now a.table.now.now a.from a.left a.count) _ _ c.in_err-want.field-0.0 c.in_err-want.ensures
    (λ b. first_shut _ _ _ _ _ _ a.h One p.1 refl p.2 c.in_ok-x.ensures b))

pub read_one-returns : goal.read_one-returns
read_one-returns t c =
    let p = c.requires in
    one_closes _ _ _ _ _ _ c.args.h p.2 c.in_ok-x.ensures p.1 _ _ (said_yes _ _ c.in_ok-want.ensures) c.close_gate.ensures

-- an operand ---------------------------------------------------------------------------------------------------------

pub read_operand-returns-in_err-ask : goal.read_operand-returns-in_err-ask
read_operand-returns-in_err-ask t c =
    let a = c.args in
    told_on _ _ _ _ c.from_residual.ensures.1
    (said_no (Stopped fresh a.text.now.now a.table.now.now a.from a.left a.count) _ _ c.in_err-ask.field-0.0 c.in_err-ask.ensures
    (λ b. operand_shut _ _ a.lines.now _ _ _ c.requires.2 (sym c.expect.ensures ∙ b)))

pub read_operand-returns-in_err-ask-2 : goal.read_operand-returns-in_err-ask-2
read_operand-returns-in_err-ask-2 t c =
    let a = c.args in
    told_on _ _ _ _ c.from_residual-in_err-ask-2.ensures.1
    (said_no (Stopped fresh a.text.now.now a.table.now.now a.from a.left a.count) _ _ c.in_err-ask-2.field-0.0 c.in_err-ask-2.ensures
    (λ b. operand_deep _ _ a.lines.now _ _ _ (not_above _ b) (sym c.expect.ensures ∙ said_yes _ _ c.in_ok-ask.ensures)))

pub read_operand-returns-in-Some : goal.read_operand-returns-in-Some
read_operand-returns-in-Some t c =
    name_made _ _ _ _ _ _ (above _ _ _ c.in_ok-ask-2.ensures) c.if-left-lt-DEEPEST.true c.requires.0.few c.in-Some.ensures

pub read_operand-close_gate-requires : goal.read_operand-close_gate-requires
read_operand-close_gate-requires t c =
    let g = c.requires.0 in
    (g.few, g.long, omega (arith, g.short, at_inside _ _ closing c.in-Some-read_input.ensures.digits.closes))

pub read_operand-returns-in-Some-read_input : goal.read_operand-returns-in-Some-read_input
read_operand-returns-in-Some-read_input t c =
    input_told _ _ _ _ _ _ (above _ _ _ c.in_ok-ask-2.ensures) c.if-left-lt-DEEPEST.true c.requires.0.few c.in-Some-read_input.ensures _ _ c.close_gate.ensures

pub read_operand-read_form-requires : goal.read_operand-read_form-requires
read_operand-read_form-requires t c =
    let p = c.requires in
    (omega (arith, c.decreases), (p.0, sym c.expect.ensures ∙ said_yes _ _ c.in_ok-ask.ensures, above _ _ _ c.in_ok-ask-2.ensures, p.1))

-- (w F N) ------------------------------------------------------------------------------------------------------------

pub read_scaled-returns-in_err-x : goal.read_scaled-returns-in_err-x
read_scaled-returns-in_err-x t c =
    let p = c.requires in
    told_on _ _ _ _ c.from_residual.ensures.1 (first_stops _ _ c.args.lines.now _ _ _ c.args.h Scaled p.1 refl p.2 c.in_err-x.ensures)

pub read_scaled-returns-in_err-want : goal.read_scaled-returns-in_err-want
read_scaled-returns-in_err-want t c =
    let p = c.requires in
    let a = c.args in
    told_on _ _ _ _ c.from_residual-in_err-want.ensures.1
    (said_no (Stopped (worded a.h) a.text.now.now a.table.now.now a.from a.left a.count) _ _ c.in_err-want.field-0.0 c.in_err-want.ensures
    (λ b. first_shut _ _ _ _ _ _ a.h Scaled p.1 refl p.2 c.in_ok-x.ensures b))

pub read_scaled-read_number-requires : goal.read_scaled-read_number-requires
read_scaled-read_number-requires t c =
    (omega (arith, at_inside _ _ space (said_yes _ _ c.in_ok-want.ensures)), c.requires.0.rows_fit)

pub read_scaled-returns-in_err-number : goal.read_scaled-returns-in_err-number
read_scaled-returns-in_err-number t c =
    let p = c.requires in
    let a = c.args in
    told_on _ _ _ _ c.from_residual-in_err-number.ensures.1
    (placed_err (Stopped (worded a.h) a.text.now.now a.table.now.now a.from a.left a.count) _ _ _ c.in_err-number.field-0.0 c.in_err-number.ensures c.read_number.ensures
    (λ index d. scaled_dies _ _ _ _ _ _ a.h p.2 c.in_ok-x.ensures p.1 (said_yes _ _ c.in_ok-want.ensures) d))

pub read_scaled-close_scaled-requires : goal.read_scaled-close_scaled-requires
read_scaled-close_scaled-requires t c =
    let p = c.requires in
    let g = p.0 in
    let a = c.in_ok-x.ensures in
    let v = placed_ok _ _ _ c.in_ok-number.ensures c.read_number.ensures in
    (a.few, omega (arith, g.long, a.sized), omega (arith, g.short, at_inside _ _ closing v.closes), p.1)

pub read_scaled-returns : goal.read_scaled-returns
read_scaled-returns t c =
    let p = c.requires in
    let v = placed_ok _ _ _ c.in_ok-number.ensures c.read_number.ensures in
    scaled_closes _ _ _ _ _ _ c.args.h p.2 c.in_ok-x.ensures p.1 (said_yes _ _ c.in_ok-want.ensures) v _ _ c.close_scaled.ensures

-- (w F F) ------------------------------------------------------------------------------------------------------------

pub read_two-returns-in_err-x : goal.read_two-returns-in_err-x
read_two-returns-in_err-x t c =
    let p = c.requires in
    told_on _ _ _ _ c.from_residual.ensures.1 (first_stops _ _ c.args.lines.now _ _ _ c.args.h Two p.1 refl p.2 c.in_err-x.ensures)

pub read_two-returns-in_err-want : goal.read_two-returns-in_err-want
read_two-returns-in_err-want t c =
    let p = c.requires in
    let a = c.args in
    told_on _ _ _ _ c.from_residual-in_err-want.ensures.1
    (said_no (Stopped (worded a.h) a.text.now.now a.table.now.now a.from a.left a.count) _ _ c.in_err-want.field-0.0 c.in_err-want.ensures
    (λ b. first_shut _ _ _ _ _ _ a.h Two p.1 refl p.2 c.in_ok-x.ensures b))

pub read_two-read_operand-requires-2 : goal.read_two-read_operand-requires-2
read_two-read_operand-requires-2 t c =
    let p = c.requires in
    let a = c.in_ok-x.ensures in (
      omega (arith, c.decreases, p.2),
      (
        given_next p.0 a.sized (omega (arith, at_inside _ _ space (said_yes _ _ c.in_ok-want.ensures))) a.few,
        omega (arith, p.3),
        λ e. omega (arith, p.2, p.3),
      ),
    )

pub read_two-returns-in_err-y : goal.read_two-returns-in_err-y
read_two-returns-in_err-y t c =
    let p = c.requires in
    told_on _ _ _ _ c.from_residual-in_err-y.ensures.1
    (two_stops _ _ _ _ _ _ c.args.h p.2 c.in_ok-x.ensures p.1 (said_yes _ _ c.in_ok-want.ensures) c.in_err-y.ensures)

pub read_two-returns-in_err-want-2 : goal.read_two-returns-in_err-want-2
read_two-returns-in_err-want-2 t c =
    let p = c.requires in
    let a = c.args in
    told_on _ _ _ _ c.from_residual-in_err-want-2.ensures.1
    (said_no (Stopped (worded a.h) a.text.now.now a.table.now.now a.from a.left a.count) _ _ c.in_err-want-2.field-0.0 c.in_err-want-2.ensures
    (λ b. two_shut _ _ _ _ _ _ a.h p.2 c.in_ok-x.ensures p.1 (said_yes _ _ c.in_ok-want.ensures) c.in_ok-y.ensures b))

pub read_two-returns : goal.read_two-returns
read_two-returns t c =
    let p = c.requires in
    two_closes _ _ _ _ _ _ c.args.h p.2 c.in_ok-x.ensures p.1 (said_yes _ _ c.in_ok-want.ensures) c.in_ok-y.ensures _ _
    (said_yes _ _ c.in_ok-want-2.ensures) c.close_gate.ensures
