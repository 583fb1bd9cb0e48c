-- A name or an input inside another form, all of it at once.
-- Assumes nothing.
use Prim.Native.Nat.{ℕ, ◌+◌, ◌/◌, ◌≤◌, ◌<◌}
use mathlib.Core.Path.{◌≡◌, refl}
use mathlib.Core.Bool.{true, false}
use mathlib.Core.List.{List, [], ◌∷◌, ◌++◌}
use native.Mathlib.Omega.{arith}
use lib.ListN.{length, get_or, drop, length-append}
use lib.Dec.{eqb}
use borrow.Author.Tests.{le-leb}
use Rattle.circuit.specs.Gate.{decode}
use Rattle.circuit.specs.Kind.{kind_shape, is_class}
use Rattle.circuit.specs.Accept.{most_gates}
use Rattle.field.specs.Words.{largest}
use Rattle.forms.specs.declared.Head.{Head}
use Rattle.forms.specs.declared.Head.TheVariants.{In, Line}
use Rattle.forms.specs.Words.{letters, valued}
use Rattle.forms.specs.Form.{opening, space}
use Rattle.forms.specs.Refusals.{deepest}
use Rattle.forms.specs.Machine.{starts, any_named, may}
use Rattle.tokens.specs.Code.{known, fits_as, WordIs, leading, Behind, NameIs}
use Rattle.tokens.proofs.Tables.{named_any}
use Rattle.tokens.proofs.Written.{written_fits}
use Rattle.tokens.proofs.Behind.{stand_inside, stand_first, stand_after}
use Rattle.std.specs.Prelude.{Result, Ok}
use Rattle.circuit.specs.declared.questions.Refusal.{Refusal}
use Rattle.reader.specs.declared.Operand.{Operand}
use Rattle.reader.specs.Code.{fresh, gate, Made, Told, Closes}
use Rattle.reader.proofs.Closings.{leaf_names, leaf_closes}
use Rattle.reader.proofs.Operands.{leaf_stands, name_may, input_may, form_told}

leading_long : (h : Head) → length (leading h) ≡ length (letters h) + 2
leading_long h = let e : length (letters h ++ (space ∷ [])) ≡ length (letters h) + 1 = length-append (letters h) (space ∷ []) in omega arith

name_valueless : false ≡ valued Line
unfolding valued is_class kind_shape decode
name_valueless = refl

module _ (text table before : List ℕ) (from left count : ℕ) (l : 1 ≤ left) (m : left < deepest) (k : count ≤ most_gates) where
  -- a bracket and a word that leads to a number
  leads : (h : Head) → may (any_named (known table)) false h ≡ true → starts (leading h) (drop from text) ≡ true
      → WordIs text (any_named (known table)) (eqb left deepest) (from + 1) h (from + length (leading h))
  leads h f s =
      leaf_stands text from left h (from + length (leading h)) m (stand_inside text opening (letters h ++ (space ∷ [])) from s) f
      (omega (arith, leading_long h)) (stand_after text opening (letters h ++ (space ∷ [])) from s)

  pub name_made : {wire to : ℕ} → NameIs text table from wire to → Made fresh text table before before from left count to count wire false
  name_made d =
      let s = d.behind.standing in
      let w = leads Line (name_may (any_named (known table)) (named_any (known table) d.value d.fitting)) s in
      let v = written_fits text table true (from + length (leading Line)) d.value d.end d.behind.digits
      (unfold fits_as in d.fitting) in
      rw (d.to_is, d.wire_is)
      (form_told text table before from left count refl l k (stand_first text opening (letters Line ++ (space ∷ [])) from s) w before
      (Ok (record { to = d.end + 1; count = count; wire = get_or table d.value 0 / 2; valued = false }))
      (leaf_names text table before (from + length (leading Line)) left count Line refl refl l k v refl refl w.standing name_valueless))

  pub input_told : {value to : ℕ} → Behind text (leading In) from value to → (later : List ℕ) (o : Result Operand Refusal)
      → Closes In (gate In value 0 0) before later to count o → Told fresh text table before later from left count o
  input_told {value} {to} d later o c =
      let w = leads In (input_may (any_named (known table))) d.standing in
      let v = written_fits text table false (from + length (leading In)) value to d.digits
      (unfold fits_as in le-leb value largest d.digits.small) in
      form_told text table before from left count refl l k (stand_first text opening (letters In ++ (space ∷ [])) from d.standing) w later o
      (leaf_closes text table before (from + length (leading In)) left count In refl refl l k v later o refl c)
