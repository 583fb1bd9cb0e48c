-- Bytes that stand at a place of a text: what that tells of the first, and of those behind it.
-- Assumes nothing.
use Prim.Native.Nat.{ℕ, ◌+◌, ◌≤◌, ◌<◌}
use mathlib.Core.Path.{◌≡◌, refl, sym, ◌∙◌}
use mathlib.Core.Bool.{Bool, true, false, false≢true, ◌&&◌}
use mathlib.Core.List.{List, ◌∷◌}
use native.Mathlib.Numerals.{add-one}
use lib.ListN.{length, get_or, drop, drop_of_length-le}
use lib.Seq.{drop-cons}
use lib.Dec.{eqb, ltb}
use borrow.Author.Tests.{lt-ltb, ltb-true, ltb-false, eq-eqb, eqb-true}
use Rattle.circuit.proofs.Tests.{both_left, both_right}
use Rattle.forms.specs.Machine.{starts}
use Rattle.tokens.specs.Code.{is_at}

-- the first of bytes that stand here, and those behind it
module _ (text : List ℕ) (b : ℕ) (w : List ℕ) (from : ℕ) (e : starts (b ∷ w) (drop from text) ≡ true) where
  pub stand_inside : from < length text
  unfolding starts
  stand_inside = go (ltb from (length text)) refl
    where
      nothing : length text ≤ from → starts (b ∷ w) (drop from text) ≡ false
      nothing h = rw (drop_of_length-le text h)

      go : (c : Bool) → ltb from (length text) ≡ c → from < length text
      go true q = ltb-true from (length text) q
      go false q = absurd (false≢true (sym (nothing (ltb-false from (length text) q)) ∙ e))

  both : (eqb b (get_or text from 0) && starts w (drop (from + 1) text)) ≡ true
  unfolding starts
  both = rw add-one (rw (drop-cons text from 0 stand_inside) at e)

  pub stand_first : is_at text from b ≡ true
  unfolding is_at
  stand_first =
      let q = eqb-true b (get_or text from 0) (both_left (eqb b (get_or text from 0)) (starts w (drop (from + 1) text)) both) in
      rw (lt-ltb from (length text) stand_inside) (eq-eqb (get_or text from 0) b (sym q))

  pub stand_after : starts w (drop (from + 1) text) ≡ true
  stand_after = both_right (eqb b (get_or text from 0)) (starts w (drop (from + 1) text)) both
