-- `writer::writing::put_two` meets its contract: its three pieces stand one after another.
-- Assumes nothing.
use mathlib.Core.List.{[], ◌∷◌, ◌++◌}
use native.Mathlib.Omega.{arith}
use Rattle.forms.specs.Form.{closing, space, begin, print}
use Rattle.forms.specs.Entry.{name}
use Rattle.writer.proofs.Putting.{fits_first, fits_second, fits_third, put_three}
use Rattle.writer.proofs.writing.put_two.Goals as goal

pub put_named-operand-requires : goal.put_named-operand-requires
unfolding print name
put_named-operand-requires c =
    fits_first c.args.text.now _ (begin _ ++ print (name _) ++ (space ∷ [])) (print (name _)) (closing
    ∷ []) c.requires

pub put_leaf-end-requires : goal.put_leaf-end-requires
unfolding print name
put_leaf-end-requires c =
    fits_second _ _ (begin _ ++ print (name _) ++ (space ∷ [])) (print (name _)) (closing ∷ [])
    c.requires c.put_named-operand.ensures

pub put_byte-requires : goal.put_byte-requires
unfolding print name
put_byte-requires c =
    omega (
      arith,
      fits_third _ _ (begin _ ++ print (name _) ++ (space ∷ [])) (print (name _)) (closing ∷ [])
          c.requires
          c.put_named-operand.ensures c.put_leaf-end.ensures,
    )

pub returns : goal.returns
unfolding print name
returns c =
    put_three _ _ (begin _ ++ print (name _) ++ (space ∷ [])) (print (name _)) (closing ∷ [])
    c.requires
    c.put_named-operand.ensures
    c.put_leaf-end.ensures c.put_byte.ensures
