-- `writer::writing::put_row` meets its contract: the line feed stands behind the form.
-- Assumes nothing.
use mathlib.Core.List.{[], ◌∷◌}
use native.Mathlib.Omega.{arith}
use Rattle.forms.specs.Form.{feed, print}
use Rattle.writer.specs.Code.{form_in, row_text}
use Rattle.writer.proofs.Putting.{first_fits, next_fits, put_next}
use Rattle.writer.proofs.writing.put_row.Goals as goal

pub put_form-end-requires : goal.put_form-end-requires
unfolding row_text
put_form-end-requires c =
    first_fits _ _ (print (form_in _)) (feed ∷ []) c.requires

pub put_byte-requires : goal.put_byte-requires
unfolding row_text
put_byte-requires c =
    omega (
      arith,
      next_fits (print (form_in _)) (feed ∷ []) c.requires
          c.put_form-end.ensures,
    )

pub returns : goal.returns
unfolding row_text
returns c =
    put_next (print (form_in _)) (feed ∷ []) c.requires
    c.put_form-end.ensures c.put_byte.ensures
