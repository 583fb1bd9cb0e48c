-- `gates::counting::weight_of` meets its contract: an input of the party counts as one more than its record.
-- Assumes nothing.
use mathlib.Core.Path.{sym, ap, ◌∙◌}
use native.Mathlib.Omega.{arith}
use Rattle.circuit.specs.Kind.{Owned, is_class}
use Rattle.circuit.proofs.KindLaws.{shape_class, shape_prep, shape_openings, shape_small}
use Rattle.gates.proofs.Weights.{weight_mine, weight_others, weight_other}
use Rattle.gates.proofs.counting.weight_of.Goals as goal
use Rattle.gates.proofs.counting.weight_of.Goals.{else-is_in-via-then-is_in+else-first_at-i, else-is_in-via-else-is_in}

pub overflow_mul-parts : goal.overflow_mul-parts
overflow_mul-parts c =
    omega (arith, shape_small _ _ c.requires.1)

pub overflow_add-parts : goal.overflow_add-parts
overflow_add-parts c =
    omega (arith, shape_small _ _ c.requires.1)

pub overflow_add-result : goal.overflow_add-result
overflow_add-result c =
    omega (arith, shape_small _ _ c.requires.1)

pub returns-then-first_at-i : goal.returns-then-first_at-i
returns-then-first_at-i c =
    weight_mine _ _ (omega (arith, shape_prep _ _ c.requires.1, shape_openings _ _ c.requires.1)) (ap (is_class Owned) (sym (shape_class _ _ c.requires.1)) ∙ sym c.is_in.ensures ∙ c.if-is_in.true) (sym c.first_at.ensures ∙ c.if-first_at-i.true)

pub returns-else-is_in : goal.returns-else-is_in
returns-else-is_in c =
    elim c.else-is_in.branch [ else-is_in-via-then-is_in+else-first_at-i w ↦ weight_others _ _ (omega (arith, shape_prep _ _ c.requires.1, shape_openings _ _ c.requires.1)) (ap (is_class Owned) (sym (shape_class _ _ c.requires.1)) ∙ sym c.is_in.ensures ∙ w.if-is_in.true) (λ e. w.if-first_at-i.false (w.first_at.ensures ∙ e)) | else-is_in-via-else-is_in w ↦ weight_other _ _ (omega (arith, shape_prep _ _ c.requires.1, shape_openings _ _ c.requires.1)) (ap (is_class Owned) (sym (shape_class _ _ c.requires.1)) ∙ sym c.is_in.ensures ∙ w.if-is_in.false) ]
