-- What a row is made of, and how many bytes it has.
-- Assumes nothing.
use Prim.Native.Nat.{ℕ, ◌+◌, ◌*◌, ◌^◌, ◌≤◌, ◌<◌}
use mathlib.Core.Path.{◌≡◌}
use mathlib.Core.List.{List, [], ◌∷◌}
use native.Mathlib.Nat.{add-zero}
use native.Mathlib.Omega.{arith}
use lib.ListN.{length, get_or, length-append}
use Rattle.circuit.specs.Gate.{gate_size, entry}
use Rattle.forms.specs.declared.Head.{Head}
use Rattle.forms.specs.declared.Head.TheVariants.{Line}
use Rattle.forms.specs.declared.Sort.{Sort}
use Rattle.forms.specs.declared.Sort.TheVariants.{Leaf, One, Two, Scaled}
use Rattle.forms.specs.Words.{sort, shape_of}
use Rattle.forms.specs.Form as R
use Rattle.forms.specs.Form.{leaf, one, two, scaled, feed, print}
use Rattle.forms.specs.Entry.{head_of, number_of, name, form_of, row_for, row_of}
use Rattle.forms.proofs.Lengths.{letters_few, length_word, length_leaf, length_one, length_two, length_scaled}
use Rattle.writer.specs.Code.{row_text, row_room}

-- how many bytes --------------------------------------------------------------------------------------------------------

length_row : (f : R.Form) → length (row_text f) ≡ length (print f) + 1
unfolding row_text
length_row f = length-append (print f) (feed ∷ [])

length_name : (n : ℕ) → n < 2 ^ 64 → length (print (name n)) ≤ 28
unfolding name
length_name n h = omega (arith, length_leaf Line n, letters_few Line, length_word n h)

-- the row of a gate is what its numbers say, which are those of a machine
module _ (c : List ℕ) (j : ℕ) {h : Head} {x y n : ℕ} {k : Sort}
    (eh : h ≡ head_of (get_or c (gate_size * j) 0))
    (ex : x ≡ get_or c (gate_size * j + 1) 0)
    (ey : y ≡ get_or c (gate_size * j + 2) 0)
    (en : n ≡ number_of (shape_of h) (get_or c (gate_size * j + 1) 0) (get_or c (gate_size * j + 2) 0) (get_or c (gate_size * j + 3) 0))
    (fx : x < 2 ^ 64) (fy : y < 2 ^ 64) (fn : n < 2 ^ 64) (s : k ≡ sort h) where
  made : form_of h k x y n ≡ row_of c j
  unfolding row_of row_for entry
  made = rw (s, en, ex, ey, eh, add-zero)

  pub leaf_made : k ≡ Leaf → (leaf h n ≡ row_of c j) × (length (row_text (leaf h n)) ≤ row_room)
  unfolding form_of
  leaf_made e = (rw e at made, omega (arith, length_row (leaf h n), length_leaf h n, letters_few h, length_word n fn))

  pub one_made : k ≡ One → (one h (name x) ≡ row_of c j) × (length (row_text (one h (name x))) ≤ row_room)
  unfolding form_of
  one_made e = (rw e at made, omega (arith, length_row (one h (name x)), length_one h (name x), letters_few h, length_name x fx))

  pub two_made : k ≡ Two → (two h (name x) (name y) ≡ row_of c j) × (length (row_text (two h (name x) (name y))) ≤ row_room)
  unfolding form_of
  two_made e =
      (rw e at made, omega (arith, length_row (two h (name x) (name y)), length_two h (name x) (name y), letters_few h, length_name x fx, length_name y fy))

  pub scaled_made : k ≡ Scaled → (scaled h (name x) n ≡ row_of c j) × (length (row_text (scaled h (name x) n)) ≤ row_room)
  unfolding form_of
  scaled_made e =
      (rw e at made, omega (arith, length_row (scaled h (name x) n), length_scaled h (name x) n, letters_few h, length_name x fx, length_word n fn))
