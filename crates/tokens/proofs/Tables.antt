-- The code's tables: the words one after the other, and the rows that were read, each with the gate of its value or without.
-- Assumes nothing.
use Prim.Native.Nat.{ℕ, zero, suc, ◌/◌, ◌%◌, ◌≤◌, ◌<◌}
use mathlib.Core.Path.{◌≡◌, refl, ap}
use mathlib.Core.Bool.{Bool, true, false, ◌&&◌, ◌||◌, false≢true}
use mathlib.Core.List.{List, [], ◌∷◌, ◌++◌}
use native.Mathlib.Omega.{arith}
use lib.ListN.{length, get_or}
use lib.Dec.{eqb, ltb}
use borrow.Author.Tests.{ltb-true, ltb-false}
use Rattle.circuit.proofs.Tests.{by_cases}
use Rattle.circuit.specs.Code.{role_of}
use Rattle.forms.specs.declared.Head.{Head}
use Rattle.forms.specs.Words.{sort, kind, letters, names, valued, shape_of}
use Rattle.forms.specs.Form.{named}
use Rattle.forms.specs.Machine.{any_named}
use Rattle.tokens.specs.declared.Row.{Row}
use Rattle.tokens.specs.Code.{RowOf, known, gates_at}

-- words -----------------------------------------------------------------------------------------------------------------

pub row_as : {h k : Head} {r s : Row} → h ≡ k → r ≡ s → s.length ≡ length (letters k) → s.sort ≡ sort k → s.kind ≡ kind k →
    s.naming ≡ names k → s.valued ≡ valued k → role_of s.first ≡ (shape_of k).first → role_of s.second ≡ (shape_of k).second →
    role_of s.constant ≡ (shape_of k).constant → RowOf h r
row_as {h} {k} {r} {s} e d length sort kind naming valued first second constant =
    rw (e, d) (record {
      length_is = length;
      sort_is = sort;
      kind_is = kind;
      naming_is = naming;
      valued_is = valued;
      first_is = first;
      second_is = second;
      constant_is = constant;
    })

-- rows ------------------------------------------------------------------------------------------------------------------

pub length_known : (table : List ℕ) → length (known table) ≡ length table
unfolding known
length_known [] = refl
length_known (w ∷ ws) = ap suc (length_known ws)

pub named_in : (table : List ℕ) (v : ℕ) → v < length table → named (known table) v ≡ eqb (get_or table v 0 % 2) 1
unfolding named known
named_in [] v h = absurd (omega arith)
named_in (w ∷ ws) zero h = refl
named_in (w ∷ ws) (suc v) h = named_in ws v (omega arith)

pub named_out : (table : List ℕ) (v : ℕ) → length table ≤ v → named (known table) v ≡ false
unfolding named known
named_out [] v h = refl
named_out (w ∷ ws) zero h = absurd (omega arith)
named_out (w ∷ ws) (suc v) h = named_out ws v (omega arith)

-- the code's test of a row
pub named_at : (table : List ℕ) (v : ℕ) → named (known table) v ≡ (ltb v (length table) && eqb (get_or table v 0 % 2) 1)
named_at table v = by_cases (ltb v (length table)) (λ t. rw t (named_in table v (ltb-true v (length table) t)))
    (λ f. rw f (named_out table v (ltb-false v (length table) f)))

pub gate_at : (table : List ℕ) (v : ℕ) → get_or (gates_at table) v 0 ≡ get_or table v 0 / 2
unfolding gates_at
gate_at [] v = refl
gate_at (w ∷ ws) zero = refl
gate_at (w ∷ ws) (suc v) = gate_at ws v

-- a row that is named is there, and then some row can be named
pub named_low : (ms : List Bool) (v : ℕ) → named ms v ≡ true → v < length ms
unfolding named
named_low [] v e = absurd (false≢true e)
named_low (m ∷ ms) zero e = omega arith
named_low (m ∷ ms) (suc v) e = let l : v < length ms = named_low ms v e in omega arith

pub named_any : (ms : List Bool) (v : ℕ) → named ms v ≡ true → any_named ms ≡ true
unfolding named any_named
named_any [] v e = absurd (false≢true e)
named_any (m ∷ ms) zero e = rw e
named_any (m ∷ ms) (suc v) e = rw (named_any ms v e) (go m)
  where
    go : (b : Bool) → (b || true) ≡ true
    go true = refl
    go false = refl

-- a row more
pub known_append : (xs ys : List ℕ) → known (xs ++ ys) ≡ known xs ++ known ys
unfolding known
known_append [] ys = refl
known_append (x ∷ xs) ys = ap (λ (l : List Bool). eqb (x % 2) 1 ∷ l) (known_append xs ys)

pub gates_append : (xs ys : List ℕ) → gates_at (xs ++ ys) ≡ gates_at xs ++ gates_at ys
unfolding gates_at
gates_append [] ys = refl
gates_append (x ∷ xs) ys = ap (λ (l : List ℕ). x / 2 ∷ l) (gates_append xs ys)
