-- `reader::nesting::read_leaf` meets its contract: a number is read as far as its bracket, and the bracket makes the leaf.
-- Assumes nothing.
use native.Mathlib.Omega.{arith}
use Rattle.forms.specs.Form.{closing}
use Rattle.tokens.proofs.Onward.{at_inside}
use Rattle.reader.specs.Code.{worded, Stopped}
use Rattle.reader.proofs.Told.{placed_ok, placed_err, told_on}
use Rattle.reader.proofs.Closings.{leaf_dies, leaf_names, leaf_closes, leaf_row}
use Rattle.reader.proofs.nesting.read_leaf.Goals as goal

pub returns-in_err-number : goal.returns-in_err-number
returns-in_err-number c =
    let a = c.args in
    told_on _ _ _ _ c.from_residual.ensures.1
    (placed_err (Stopped (worded a.h) a.text.now.now a.table.now.now a.from a.left a.count) _ _ _ c.in_err-number.field-0.0 c.in_err-number.ensures c.read_number.ensures
    (λ index d. leaf_dies _ _ a.lines.now _ _ _ a.h c.requires.1 c.row-row.ensures.naming_is c.requires.2 c.requires.0.few d))

pub overflow_add-result : goal.overflow_add-result
overflow_add-result c =
    let v = placed_ok _ _ _ c.in_ok-number.ensures c.read_number.ensures in
    omega (arith, c.requires.0.short, at_inside _ _ closing v.closes)

pub bounds-table-j : goal.bounds-table-j
bounds-table-j c =
    let v = placed_ok _ _ _ c.in_ok-number.ensures c.read_number.ensures in
    leaf_row _ _ c.args.lines.now _ _ _ c.args.h c.requires.1 c.row-row.ensures.naming_is c.requires.2 c.requires.0.few v c.index-j.ensures
    c.if-row.true

pub returns-then-row : goal.returns-then-row
returns-then-row c =
    let v = placed_ok _ _ _ c.in_ok-number.ensures c.read_number.ensures in
    leaf_names _ _ _ _ _ _ c.args.h c.requires.1 c.row-row.ensures.naming_is c.requires.2 c.requires.0.few v c.index-j.ensures c.if-row.true
    c.requires.3 c.row-row.ensures.valued_is

pub close_gate-requires : goal.close_gate-requires
close_gate-requires c =
    let g = c.requires.0 in
    let v = placed_ok _ _ _ c.in_ok-number.ensures c.read_number.ensures in
    (g.few, g.long, omega (arith, g.short, at_inside _ _ closing v.closes))

pub returns : goal.returns
returns c =
    let v = placed_ok _ _ _ c.in_ok-number.ensures c.read_number.ensures in
    leaf_closes _ _ _ _ _ _ c.args.h c.requires.1 c.row-row.ensures.naming_is c.requires.2 c.requires.0.few v _ _ c.if-row.false
    c.close_gate.ensures
