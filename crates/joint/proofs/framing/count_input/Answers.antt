-- `joint::framing::count_input` meets its contract.
-- Assumes nothing.
use mathlib.Core.Path.{sym, ap, ◌∙◌}
use native.Mathlib.Omega.{arith}
use Rattle.circuit.specs.Kind.{Owned, is_class}
use Rattle.joint.proofs.Arrays.{counted_other, owner_there, owner_few, counted_in}
use Rattle.joint.proofs.framing.count_input.Goals as goal

pub offset_bounds-counts-owner : goal.offset_bounds-counts-owner
offset_bounds-counts-owner c =
    omega (arith, owner_there c.requires.3 c.requires.0 c.requires.1 c.requires.2 (sym (c.is_in.ensures ∙ ap (is_class Owned) c.class_at.ensures) ∙ c.if-is_in.true) c.first_at-owner.ensures, c.requires.3.eight)

pub bounds-counts-owner : goal.bounds-counts-owner
bounds-counts-owner c =
    owner_there c.requires.3 c.requires.0 c.requires.1 c.requires.2 (sym (c.is_in.ensures ∙ ap (is_class Owned) c.class_at.ensures) ∙ c.if-is_in.true) c.first_at-owner.ensures

pub overflow_add-counts : goal.overflow_add-counts
overflow_add-counts c =
    omega (arith, owner_few c.requires.3 c.requires.0 c.requires.1 c.requires.2 (sym (c.is_in.ensures ∙ ap (is_class Owned) c.class_at.ensures) ∙ c.if-is_in.true) c.first_at-owner.ensures)

pub bounds-counts-owner-then-is_in : goal.bounds-counts-owner-then-is_in
bounds-counts-owner-then-is_in c =
    owner_there c.requires.3 c.requires.0 c.requires.1 c.requires.2 (sym (c.is_in.ensures ∙ ap (is_class Owned) c.class_at.ensures) ∙ c.if-is_in.true) c.first_at-owner.ensures

pub returns-then-is_in : goal.returns-then-is_in
returns-then-is_in c =
    counted_in c.requires.3 c.requires.0 c.requires.1 c.requires.2 (sym (c.is_in.ensures ∙ ap (is_class Owned) c.class_at.ensures) ∙ c.if-is_in.true) c.first_at-owner.ensures

pub returns-else-is_in : goal.returns-else-is_in
returns-else-is_in c =
    counted_other c.requires.3 (sym (c.is_in.ensures ∙ ap (is_class Owned) c.class_at.ensures) ∙ c.if-is_in.false)
