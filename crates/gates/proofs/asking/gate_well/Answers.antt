-- `gates::asking::gate_well` meets its contract: the kind is asked and then the numbers; what is left is the weight.
-- Assumes nothing.
use mathlib.Core.Path.{refl, sym, ◌∙◌}
use Rattle.gates.proofs.Well.{kind_shape_lem, valid_gate}
use Rattle.gates.proofs.asking.gate_well.Goals as goal
use Rattle.gates.proofs.asking.gate_well.Goals.{then-is_divisor, else-is_divisor}

pub kind_well-requires : goal.kind_well-requires
kind_well-requires c =
    kind_shape_lem 0 0 _ _ _ c.shape_at-s.ensures c.index.ensures

pub returns-then-well-clause-valid : goal.returns-then-well-clause-valid
returns-then-well-clause-valid c =
    elim c.if-is_divisor.branch [
      | then-is_divisor w ↦ let fits = w.divided_well-well.ensures in let yes = sym w.well-is ∙ c.if-well.true in valid_gate _ _ _ _ _ c.shape_at-s.ensures c.index.ensures (sym c.if-not-kind_well.ensures) (fits.fits yes) refl (fits.fits_2 yes) (fits.fits_3 yes)
      | else-is_divisor w ↦ let fits = w.numbers_well-well.ensures in let yes = sym w.well-is ∙ c.if-well.true in valid_gate _ _ _ _ _ c.shape_at-s.ensures c.index.ensures (sym c.if-not-kind_well.ensures) (fits.fits yes) refl (fits.fits_2 yes) (fits.fits_3 yes)
    ]
