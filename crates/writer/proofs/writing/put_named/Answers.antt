-- `writer::writing::put_named` meets its contract: its three pieces stand one after another.
-- Assumes nothing.
use mathlib.Core.List.{[], ◌∷◌}
use native.Mathlib.Omega.{arith}
use Rattle.forms.specs.Form.{space, begin, print}
use Rattle.forms.specs.Entry.{name}
use Rattle.writer.proofs.Putting.{fits_first, fits_second, fits_third, put_three}
use Rattle.writer.proofs.writing.put_named.Goals as goal

pub put_begin-operand-requires : goal.put_begin-operand-requires
unfolding name
put_begin-operand-requires c =
    fits_first c.args.text.now _ (begin _) (print (name _)) (space ∷ []) c.requires

pub put_leaf-end-requires : goal.put_leaf-end-requires
unfolding name
put_leaf-end-requires c =
    fits_second _ _ (begin _) (print (name _)) (space ∷ []) c.requires
    c.put_begin-operand.ensures

pub put_byte-requires : goal.put_byte-requires
unfolding name
put_byte-requires c =
    omega (
      arith,
      fits_third _ _ (begin _) (print (name _)) (space ∷ []) c.requires
          c.put_begin-operand.ensures c.put_leaf-end.ensures,
    )

pub returns : goal.returns
unfolding name
returns c =
    put_three _ _ (begin _) (print (name _)) (space ∷ []) c.requires
    c.put_begin-operand.ensures
    c.put_leaf-end.ensures c.put_byte.ensures
