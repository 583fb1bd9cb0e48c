-- The code's tests of digits: whether they begin a name goes row by row, and digits that live are no larger than a word.
-- Assumes nothing.
use Prim.Native.Nat.{ℕ, zero, suc, ◌+◌, ◌/◌, ◌%◌, ◌≤◌, ◌<◌}
use mathlib.Core.Path.{◌≡◌, refl, sym, ap, ◌∙◌}
use mathlib.Core.Bool.{Bool, true, false, not, ◌&&◌, ◌||◌, false≢true}
use mathlib.Core.List.{List, [], ◌∷◌}
use native.Mathlib.Omega.{arith}
use native.Mathlib.Numerals.{add-one}
use lib.ListN.{length, get_or, drop, drop_of_length-le}
use lib.Seq.{drop-cons}
use lib.Dec.{eqb, ltb}
use borrow.Author.Tests.{lt-ltb, le-ltb, ne_eqb, eqb-true, leb-true, ltb-false}
use Rattle.std.specs.List.{list_any}
use Rattle.circuit.specs.Accept.{most_gates}
use Rattle.circuit.proofs.Tests.{both_right}
use Rattle.field.specs.Words.{largest}
use Rattle.forms.specs.Form.{ten}
use Rattle.forms.specs.Machine.{begins, name_lives, any_named}
use Rattle.forms.proofs.Choices.{or_elim}
use Rattle.forms.proofs.Numerals.{begins_self}
use Rattle.tokens.specs.Code.{known, lives_as}
use Rattle.tokens.proofs.Tables.{length_known}

-- digits that begin a number ----------------------------------------------------------------------------------------------

or_false : (a : Bool) → (a || false) ≡ a
or_false true = refl
or_false false = refl

-- more fuel than the number changes nothing
begins_fuel : (k m v j : ℕ) → j ≤ k → j ≤ m → begins k v j ≡ begins m v j
unfolding begins
begins_fuel zero zero v j h l = refl
begins_fuel zero (suc m) v j h l = rw (lt-ltb j ten (omega arith)) (sym (or_false (eqb v j)))
begins_fuel (suc k) zero v j h l = rw (lt-ltb j ten (omega arith)) (or_false (eqb v j))
begins_fuel (suc k) (suc m) v j h l = go (ltb j ten) refl (λ p q. begins_fuel k m v (j / ten) p q)
  where
    go : (c : Bool) → ltb j ten ≡ c → (j / ten ≤ k → j / ten ≤ m → begins k v (j / ten) ≡ begins m v (j / ten)) →
        (eqb v j || not c && begins k v (j / ten)) ≡ (eqb v j || not c && begins m v (j / ten))
    go true c f = refl
    go false c f = let t : ten ≤ j = ltb-false j ten c in rw (f (omega arith) (omega arith))

module _ (v k : ℕ) where
  pub begins_here : v ≡ k → begins k v k ≡ true
  begins_here e = rw e (begins_self k k)

  pub begins_last : (v ≡ k → ⊥) → k < ten → begins k v k ≡ false
  begins_last n h = begins_fuel k (suc k) v k (omega arith) (omega arith) ∙ (unfold begins in rw (ne_eqb v k n, lt-ltb k ten h))

  pub begins_next : (v ≡ k → ⊥) → ten ≤ k → begins k v k ≡ begins (k / ten) v (k / ten)
  begins_next n h =
      let e : begins (suc k) v k ≡ begins k v (k / ten) = unfold begins in rw (ne_eqb v k n, le-ltb k ten h) in
      begins_fuel k (suc k) v k (omega arith) (omega arith) ∙ (e ∙ begins_fuel k (k / ten) v (k / ten) (omega arith) (omega arith))

-- row by row --------------------------------------------------------------------------------------------------------------

module _ (table : List ℕ) (v j : ℕ) where
  pub lives_next : {r : Bool} → j < length table → r ≡ (eqb (get_or table j 0 % 2) 1 && begins j v j) → r ≡ false →
      name_lives (known (drop j table)) j v ≡ name_lives (known (drop (j + 1) table)) (j + 1) v
  unfolding name_lives known
  lives_next h e t = rw (add-one j, drop-cons table j 0 h, sym e ∙ t)

  pub lives_here : {r : Bool} → j < length table → r ≡ (eqb (get_or table j 0 % 2) 1 && begins j v j) → r ≡ true →
      name_lives (known (drop j table)) j v ≡ true
  unfolding name_lives known
  lives_here h e t = rw (drop-cons table j 0 h, sym e ∙ t)

  pub lives_nowhere : length table ≤ j → name_lives (known (drop j table)) j v ≡ false
  unfolding name_lives known
  lives_nowhere h = rw (drop_of_length-le table h)

-- how large digits can be -------------------------------------------------------------------------------------------------

begins_low : (k v j : ℕ) → begins k v j ≡ true → v ≤ j
unfolding begins
begins_low zero v j e = let z : v ≡ j = eqb-true v j e in omega arith
begins_low (suc k) v j e =
    or_elim (eqb v j) (not (ltb j ten) && begins k v (j / ten)) e
    (λ q. let z : v ≡ j = eqb-true v j q in omega arith)
    (λ q. let l : v ≤ j / ten = begins_low k v (j / ten) (both_right (not (ltb j ten)) (begins k v (j / ten)) q) in omega arith)

name_low : (ms : List Bool) (j v : ℕ) → name_lives ms j v ≡ true → v < j + length ms
unfolding name_lives
name_low [] j v e = absurd (false≢true e)
name_low (m ∷ ms) j v e =
    or_elim (m && begins j v j) (name_lives ms (suc j) v) e
    (λ q. let l : v ≤ j = begins_low j v j (both_right m (begins j v j) q) in omega arith)
    (λ q. let l : v < suc j + length ms = name_low ms (suc j) v q in omega arith)

pub lives_small : (table : List ℕ) (naming : Bool) (v : ℕ) → length table ≤ most_gates → lives_as table naming v ≡ true → v ≤ largest
unfolding lives_as
lives_small table true v h e = omega (arith, name_low (known table) 0 v e, length_known table)
lives_small table false v h e = leb-true v largest e

-- the code's test of all rows
pub any_lem : (table : List ℕ) → list_any (λ entry. eqb (entry % 2) 1) table ≡ any_named (known table)
unfolding any_named known
any_lem [] = refl
any_lem (entry ∷ table) = ap (λ (b : Bool). eqb (entry % 2) 1 || b) (any_lem table)
