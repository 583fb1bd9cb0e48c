-- What one pass over the gates finds: a gate of which it says yes is valid.
-- Assumes nothing.
use Prim.Native.Nat.{ℕ, zero, suc, ◌*◌, ◌<◌}
use mathlib.Core.Path.{◌≡◌, refl, sym, ap, subst, ◌∙◌}
use mathlib.Core.Bool.{Bool, true, false}
use mathlib.Core.List.{List}
use native.Mathlib.Omega.{arith}
use lib.ListN.{get_or}
use lib.Dec.{leb}
use borrow.Author.Tests.{leb-true, leb-false, le-leb}
use Rattle.circuit.specs.Gate.{Out, gate_size, first_kind, last_kind, decode, entry, gate}
use Rattle.circuit.specs.Kind.{Shape, Role, Unused, Party, Wire, Constant, Divisor, Output, kind_shape, is_class, is_divisor, shape}
use Rattle.circuit.specs.Accept.{is_kind}
use Rattle.circuit.specs.Valid.{Fits, ValidGate}
use Rattle.circuit.specs.Code.{class_of, role_of, shape_of}
use Rattle.circuit.specs.declared.Shape as code
use Rattle.circuit.proofs.Tests.{false_no, by_cases, both_left, both_right, both_true}
use Rattle.circuit.proofs.Gates.{decode_past}
use Rattle.circuit.proofs.Asking.{kind_at}
use Rattle.circuit.proofs.Valid.{ref}

-- a gate that may be named
pub ruleset named = (ref)

-- a number that does not count as out is a kind
kind_found : (x : ℕ) → is_class Output (kind_shape (decode x)).class ≡ false → is_kind x ≡ true
unfolding is_kind decode kind_shape is_class
kind_found zero e = sym e
kind_found (suc k) e =
    by_cases (leb (suc k) last_kind) (λ h. both_true (le-leb first_kind (suc k) (omega arith)) h)
    (λ h. let past : decode (suc k) ≡ Out = decode_past (suc k) (leb-false (suc k) last_kind h) in false_no (sym (rw past at e)))

pub not_out : (s : code.Shape) (x : ℕ) → shape_of s ≡ kind_shape (decode x) → {r : Bool} → r ≡ is_class Output (class_of s.class) → r ≡ false → is_kind x ≡ true
unfolding shape_of
not_out s x at said h = kind_found x (ap (λ (t : Shape). is_class Output t.class) (sym at) ∙ sym said ∙ h)

module _ (n q : ℕ) (c : List ℕ) (j : ℕ) where
  -- a divisor is an element other than 0
  pub divisor_fits : (r : Role) {x y : ℕ} → is_divisor r ≡ true → y ≡ x → (y ≡ 0 → ⊥) → y < q → Fits n q c j r x
  divisor_fits Unused e is other low = false_no e
  divisor_fits Party e is other low = false_no e
  divisor_fits Wire e is other low = false_no e
  divisor_fits Constant e is other low = false_no e
  divisor_fits Divisor e is other low = (omega arith, omega arith)

  -- where the code finds the kind of gate j
  kind_at_gate : {x : ℕ} → x ≡ get_or c (gate_size * j) 0 → x ≡ entry c j 0
  kind_at_gate here = here ∙ kind_at c j

  pub kind_shape_lem : (s : code.Shape) {x : ℕ} → shape_of s ≡ shape (gate c j) → x ≡ get_or c (gate_size * j) 0 → shape_of s ≡ kind_shape (decode x)
  unfolding gate
  kind_shape_lem s at here = at ∙ ap (λ (k : ℕ). kind_shape (decode k)) (sym (kind_at_gate here))

  -- the same number, with the same role, in the code and in the definition
  carried : {w v : Role} {x y : ℕ} → w ≡ v → x ≡ y → Fits n q c j w x → Fits n q c j v y
  carried {w} {v} {x} {y} e h f = subst (λ (r : Role). Fits n q c j r y) e (subst (λ (k : ℕ). Fits n q c j w k) h f)

  -- the kind is one, and each number is what the shape that the code found says
  pub valid_gate : (s : code.Shape) {x y : ℕ} → shape_of s ≡ shape (gate c j) → x ≡ get_or c (gate_size * j) 0 → is_kind x ≡ true →
      Fits n q c j (role_of s.first) (gate c j).first → y ≡ (gate c j).second → Fits n q c j (role_of s.second) y →
      Fits n q c j (role_of s.constant) (gate c j).constant → ValidGate n q c j
  unfolding shape_of is_kind
  valid_gate s at here kind first named second constant =
      let found : is_kind (entry c j 0) ≡ true = ap is_kind (sym (kind_at_gate here)) ∙ kind in
      record {
        low = leb-true first_kind (entry c j 0) (both_left (leb first_kind (entry c j 0)) (leb (entry c j 0) last_kind) found);
        high = leb-true (entry c j 0) last_kind (both_right (leb first_kind (entry c j 0)) (leb (entry c j 0) last_kind) found);
        first = carried (ap (λ (t : Shape). t.first) at) refl first;
        second = carried (ap (λ (t : Shape). t.second) at) named second;
        constant = carried (ap (λ (t : Shape). t.constant) at) refl constant;
      }
