-- `writer::writing::put_scaled` meets its contract: its three pieces stand one after another.
-- Assumes nothing.
use mathlib.Core.List.{[], ◌∷◌, ◌++◌}
use native.Mathlib.Omega.{arith}
use Rattle.forms.specs.Form.{closing, space, begin, decimal, print}
use Rattle.forms.specs.Entry.{name}
use Rattle.writer.proofs.Putting.{fits_first, fits_second, fits_third, put_three}
use Rattle.writer.proofs.writing.put_scaled.Goals as goal

pub put_named-number-requires : goal.put_named-number-requires
unfolding print name
put_named-number-requires c =
    fits_first c.args.text.now _ (begin _ ++ print (name _) ++ (space ∷ [])) (decimal _) (closing ∷ [])
    c.requires

pub put_number-end-requires : goal.put_number-end-requires
unfolding print name
put_number-end-requires c =
    fits_second _ _ (begin _ ++ print (name _) ++ (space ∷ [])) (decimal _) (closing ∷ [])
    c.requires c.put_named-number.ensures

pub put_byte-requires : goal.put_byte-requires
unfolding print name
put_byte-requires c =
    omega (
      arith,
      fits_third _ _ (begin _ ++ print (name _) ++ (space ∷ [])) (decimal _) (closing ∷ [])
          c.requires
          c.put_named-number.ensures c.put_number-end.ensures,
    )

pub returns : goal.returns
unfolding print name
returns c =
    put_three _ _ (begin _ ++ print (name _) ++ (space ∷ [])) (decimal _) (closing ∷ [])
    c.requires
    c.put_named-number.ensures
    c.put_number-end.ensures c.put_byte.ensures
