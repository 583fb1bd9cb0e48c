-- What an accepted circuit's gates are: which gates are there, what they name, and how it starts.
-- Assumes nothing.
use Prim.Native.Nat.{ℕ, zero, suc, ◌<◌, ◌≤◌}
use mathlib.Core.Path.{◌≡◌, refl, subst}
use mathlib.Core.Bool.{true, false, cond, not}
use mathlib.Core.List.{List}
use native.Mathlib.Nat.{not-suc-le-zero}
use native.Mathlib.Omega.{arith}
use lib.Dec.{eqb, leb, ltb}
use borrow.Author.Tests.{eqb-true, ne_eqb, leb-true}
use Rattle.circuit.specs.Gate.{Kind, kind_in, kind_out, kind_sq, kind_give, kind_over, first_kind, last_kind, decode, Out, Gate, gate_of, gate, gates}
use Rattle.circuit.specs.Kind.{Class, Local, Owned, Opens, Output, Role, kind_shape, is_class, shape, is_give, receiver, factor}
use Rattle.circuit.specs.Accept.{is_kind}
use Rattle.circuit.specs.Valid.{Ref, Fits, Valid}
use Rattle.circuit.proofs.Tests.{by_cases, both_right, false_no}
use Rattle.circuit.proofs.KindLaws.{gate_facts, give_second}

-- below sq are the kinds before it, and above the last kind is none
pub other_kinds : (k : ℕ) → k < kind_sq → (eqb k kind_sq ≡ false) × (eqb k kind_give ≡ false) × (eqb k kind_over ≡ false)
other_kinds k h =
    (ne_eqb k kind_sq (λ e. absurd (omega (arith, h, e))), ne_eqb k kind_give (λ e. absurd (omega (arith, h, e))), ne_eqb k kind_over (λ e. absurd (omega (arith, h, e))))

pub decode_past : (k : ℕ) → last_kind < k → decode k ≡ Out
unfolding decode
decode_past k h = rw (other 1 (omega arith), other 2 (omega arith), other 3 (omega arith), other 4 (omega arith), other 5 (omega arith), other 6 (omega arith), other 8 (omega arith), other 9 (omega arith), other 10 (omega arith))
  where
    other : (m : ℕ) → m ≤ last_kind → eqb k m ≡ false
    other m l = ne_eqb k m (λ e. absurd (omega (arith, h, l, e)))

kind_high : (k : ℕ) → is_kind k ≡ true → k ≤ last_kind
unfolding is_kind
kind_high k e = leb-true k last_kind (both_right (leb first_kind k) (leb k last_kind) e)

-- the kinds before out have a value, and of those from it on sq and over
pub kind_valued : (k : ℕ) → is_kind k ≡ true → cond (ltb k kind_out) true (cond (eqb k kind_sq) true (eqb k kind_over)) ≡ not (is_class Output (kind_shape (decode k)).class)
unfolding is_kind decode kind_shape is_class
kind_valued zero e = false_no e
kind_valued (suc zero) e = refl
kind_valued (suc (suc zero)) e = refl
kind_valued (suc (suc (suc zero))) e = refl
kind_valued (suc (suc (suc (suc zero)))) e = refl
kind_valued (suc (suc (suc (suc (suc zero))))) e = refl
kind_valued (suc (suc (suc (suc (suc (suc zero)))))) e = refl
kind_valued (suc (suc (suc (suc (suc (suc (suc zero))))))) e = refl
kind_valued (suc (suc (suc (suc (suc (suc (suc (suc zero)))))))) e = refl
kind_valued (suc (suc (suc (suc (suc (suc (suc (suc (suc zero))))))))) e = refl
kind_valued (suc (suc (suc (suc (suc (suc (suc (suc (suc (suc zero)))))))))) e = refl
kind_valued (suc (suc (suc (suc (suc (suc (suc (suc (suc (suc (suc k))))))))))) e = absurd (omega (arith, kind_high (suc (suc (suc (suc (suc (suc (suc (suc (suc (suc (suc k))))))))))) e))

past_owned : (k : ℕ) → last_kind < k → eqb k kind_in ≡ is_class Owned (kind_shape (decode k)).class
unfolding kind_shape is_class
past_owned k h = rw (decode_past k h, ne_eqb k kind_in (λ e. absurd (omega (arith, h, e))))

-- the first kind alone is an input
pub kind_owned : (k : ℕ) → eqb k kind_in ≡ is_class Owned (kind_shape (decode k)).class
unfolding decode kind_shape is_class
kind_owned zero = refl
kind_owned (suc zero) = refl
kind_owned (suc (suc zero)) = refl
kind_owned (suc (suc (suc zero))) = refl
kind_owned (suc (suc (suc (suc zero)))) = refl
kind_owned (suc (suc (suc (suc (suc zero))))) = refl
kind_owned (suc (suc (suc (suc (suc (suc zero)))))) = refl
kind_owned (suc (suc (suc (suc (suc (suc (suc zero))))))) = refl
kind_owned (suc (suc (suc (suc (suc (suc (suc (suc zero)))))))) = refl
kind_owned (suc (suc (suc (suc (suc (suc (suc (suc (suc zero))))))))) = refl
kind_owned (suc (suc (suc (suc (suc (suc (suc (suc (suc (suc zero)))))))))) = refl
kind_owned (suc (suc (suc (suc (suc (suc (suc (suc (suc (suc (suc k))))))))))) = past_owned (suc (suc (suc (suc (suc (suc (suc (suc (suc (suc (suc k))))))))))) (omega arith)

module _ {n q : ℕ} {c : List ℕ} (v : Valid n q c) where
  -- what gate j names first and second, by what the numbers are for
  pub first_fits : (j : ℕ) {r : Role} → j < gates c → (shape (gate c j)).first ≡ r → Fits n q c j r (gate c j).first
  first_fits j h e = subst (λ (r : Role). Fits n q c j r (gate c j).first) e (v.each j h).first

  pub second_fits : (j : ℕ) {r : Role} → j < gates c → (shape (gate c j)).second ≡ r → Fits n q c j r (gate c j).second
  second_fits j h e = subst (λ (r : Role). Fits n q c j r (gate c j).second) e (v.each j h).second

  -- an input names its owner, every other gate a gate before it
  pub owner_named : (j : ℕ) → j < gates c → (shape (gate c j)).class ≡ Owned → (gate c j).first < n
  owner_named j h e = first_fits j h (gate_facts (gate c j) e).first

  pub local_named : (j : ℕ) → j < gates c → (shape (gate c j)).class ≡ Local → Ref c j (gate c j).first
  local_named j h e = first_fits j h (gate_facts (gate c j) e).first

  pub output_named : (j : ℕ) → j < gates c → (shape (gate c j)).class ≡ Output → Ref c j (gate c j).first
  output_named j h e = first_fits j h (gate_facts (gate c j) e).first

  pub opens_named : (j : ℕ) → j < gates c → (shape (gate c j)).class ≡ Opens → Ref c j (gate c j).first
  opens_named j h e = first_fits j h (gate_facts (gate c j) e).first

  pub factor_named : (j : ℕ) → j < gates c → (shape (gate c j)).class ≡ Opens → Ref c j (factor (gate c j))
  unfolding factor
  factor_named j h e =
      by_cases (eqb (shape (gate c j)).openings 2)
      (λ z. rw z (second_fits j h ((gate_facts (gate c j) e).second (eqb-true (shape (gate c j)).openings 2 z))))
      (λ z. rw z (opens_named j h e))

  -- the party whose score of an output is listed is one of the parties
  pub receiver_named : (j : ℕ) → j < gates c → 0 < n → receiver (gate c j) < n
  unfolding receiver
  receiver_named j h some =
      by_cases (is_give (gate c j)) (λ e. rw e (second_fits j h (give_second (gate c j) e))) (λ e. rw e some)

  -- a circuit starts with an input
  pub gate_zero : (shape (gate c 0)).class ≡ Owned
  gate_zero = go (shape (gate c 0)).class refl
    where
      here : 0 < gates c
      here = omega (arith, v.two)

      no_ref : {A : Type 0} {x : ℕ} → Ref c 0 x → A
      no_ref r = absurd (not-suc-le-zero r.earlier)

      go : (k : Class) → (shape (gate c 0)).class ≡ k → k ≡ Owned
      go Local e = no_ref (local_named 0 here e)
      go Owned e = refl
      go Opens e = no_ref (opens_named 0 here e)
      go Output e = no_ref (output_named 0 here e)

-- a gate is what its four numbers are
pub gate_from : {g : Gate} {k : Kind} {x z a : ℕ} → k ≡ g.kind → x ≡ g.first → z ≡ g.second → a ≡ g.constant → gate_of k x z a ≡ g
gate_from e f h d = rw (e, f, h, d)
