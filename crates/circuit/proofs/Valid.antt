-- A circuit is accepted just where it is valid gate by gate. What a number of a gate is for decides which question it is asked,
-- so the laws go by that, and by no kind.
-- Assumes nothing.
use Prim.Native.Nat.{ℕ, zero, suc, ◌%◌, ◌<◌}
use mathlib.Core.Path.{◌≡◌, refl}
use mathlib.Core.Bool.{true, ◌&&◌}
use mathlib.Core.List.{List}
use native.Mathlib.Omega.{arith}
use lib.ListN.{length}
use lib.Dec.{ltb, leb, eqb}
use borrow.Author.Tests.{ltb-true, leb-true, eqb-true, lt-ltb, le-leb, eq-eqb}
use Rattle.circuit.specs.Verdict.{Accepted, ◌then◌, each, ask}
use Rattle.circuit.specs.Gate.{gate_size, entry, gate, gates, first_kind, last_kind}
use Rattle.circuit.specs.Kind.{has_value, Role, Unused, Party, Wire, Constant, Divisor, shape, role}
use Rattle.circuit.specs.Accept.{fewest_gates, most_gates, is_kind, may_name, name_ok, rest_ok, ask_name, ask_rest, ask_gate, ask_size, ask_last, ask_circuit}
use Rattle.circuit.specs.Valid.{Ref, Fits, ValidGate, Valid}
use Rattle.circuit.proofs.Tests.{both_left, both_right, both_true}
use Rattle.circuit.proofs.Verdicts.{ask_true, ask_yes, then_left, then_right, then_both, each_below, each_all}

-- the numbers of a gate that are asked questions 5 and 6
three : (P : ℕ → Type 0) → P 0 → P 1 → P 2 → (k : ℕ) → k < 3 → P k
three P x y z zero h = x
three P x y z (suc zero) h = y
three P x y z (suc (suc zero)) h = z
three P x y z (suc (suc (suc k))) h = absurd (omega arith)

pub ref : (c : List ℕ) (j x : ℕ) → may_name c j x ≡ true → Ref c j x
unfolding may_name
ref c j x e = record { earlier = ltb-true x j (both_left (ltb x j) (has_value (gate c x)) e); valued = both_right (ltb x j) (has_value (gate c x)) e }

pub may_name_lem : (c : List ℕ) (j x : ℕ) → Ref c j x → may_name c j x ≡ true
unfolding may_name
may_name_lem c j x r = both_true (lt-ltb x j r.earlier) r.valued

module _ (n q : ℕ) (c : List ℕ) (j : ℕ) where
  -- questions 5 and 6 of a number come to what it is for
  number_fits : (r : Role) (x : ℕ) → name_ok n c j x r ≡ true → rest_ok q x r ≡ true → Fits n q c j r x
  unfolding name_ok rest_ok
  number_fits Unused x a b = eqb-true x 0 b
  number_fits Party x a b = ltb-true x n a
  number_fits Wire x a b = ref c j x a
  number_fits Constant x a b = ltb-true x q b
  number_fits Divisor x a b = (ltb-true 0 x (both_left (ltb 0 x) (ltb x q) b), ltb-true x q (both_right (ltb 0 x) (ltb x q) b))

  fits_name : (r : Role) (x : ℕ) → Fits n q c j r x → name_ok n c j x r ≡ true
  unfolding name_ok
  fits_name Unused x f = refl
  fits_name Party x f = lt-ltb x n f
  fits_name Wire x f = may_name_lem c j x f
  fits_name Constant x f = refl
  fits_name Divisor x f = refl

  fits_rest : (r : Role) (x : ℕ) → Fits n q c j r x → rest_ok q x r ≡ true
  unfolding rest_ok
  fits_rest Unused x f = eq-eqb x 0 f
  fits_rest Party x f = refl
  fits_rest Wire x f = refl
  fits_rest Constant x f = lt-ltb x q f
  fits_rest Divisor x f = both_true (lt-ltb 0 x f.0) (lt-ltb x q f.1)

  -- what questions 5 and 6 ask of number k + 1
  NameOk : ℕ → Type 0
  NameOk k = name_ok n c j (entry c j (suc k)) (role (shape (gate c j)) (suc k)) ≡ true

  RestOk : ℕ → Type 0
  RestOk k = rest_ok q (entry c j (suc k)) (role (shape (gate c j)) (suc k)) ≡ true

  module _ (e : ask_gate n q c j ≡ Accepted) where
    names_rests : (each 3 (ask_name n q c j) then each 3 (ask_rest n q c j)) ≡ Accepted
    unfolding ask_gate
    names_rests = then_right (ask 4 j (is_kind (entry c j 0))) _ e

    pub is_kind_lem : is_kind (entry c j 0) ≡ true
    unfolding ask_gate
    is_kind_lem = ask_true 4 j _ (then_left (ask 4 j (is_kind (entry c j 0))) (each 3 (ask_name n q c j) then each 3 (ask_rest n q c j)) e)

    name_ok_lem : (k : ℕ) → k < 3 → NameOk k
    unfolding ask_name NameOk
    name_ok_lem k h = ask_true 5 j _ (each_below (ask_name n q c j) 3 (then_left _ (each 3 (ask_rest n q c j)) names_rests) k h)

    rest_ok_lem : (k : ℕ) → k < 3 → RestOk k
    unfolding ask_rest RestOk
    rest_ok_lem k h = ask_true 6 j _ (each_below (ask_rest n q c j) 3 (then_right (each 3 (ask_name n q c j)) _ names_rests) k h)

    gate_valid : ValidGate n q c j
    unfolding is_kind NameOk RestOk role gate
    gate_valid =
        record {
          low = leb-true first_kind (entry c j 0) (both_left (leb first_kind (entry c j 0)) (leb (entry c j 0) last_kind) is_kind_lem);
          high = leb-true (entry c j 0) last_kind (both_right (leb first_kind (entry c j 0)) (leb (entry c j 0) last_kind) is_kind_lem);
          first = number_fits _ _ (name_ok_lem 0 (omega arith)) (rest_ok_lem 0 (omega arith));
          second = number_fits _ _ (name_ok_lem 1 (omega arith)) (rest_ok_lem 1 (omega arith));
          constant = number_fits _ _ (name_ok_lem 2 (omega arith)) (rest_ok_lem 2 (omega arith));
        }

  -- the way back
  names_ok : ValidGate n q c j → (k : ℕ) → k < 3 → NameOk k
  unfolding NameOk role gate
  names_ok v = three _ (fits_name _ _ v.first) (fits_name _ _ v.second) (fits_name _ _ v.constant)

  rests_ok : ValidGate n q c j → (k : ℕ) → k < 3 → RestOk k
  unfolding RestOk role gate
  rests_ok v = three _ (fits_rest _ _ v.first) (fits_rest _ _ v.second) (fits_rest _ _ v.constant)

  pub gate_accepted : ValidGate n q c j → ask_gate n q c j ≡ Accepted
  unfolding ask_gate is_kind ask_name ask_rest NameOk RestOk
  gate_accepted v =
      then_both (ask_yes 4 j (both_true (le-leb first_kind (entry c j 0) v.low) (le-leb (entry c j 0) last_kind v.high)))
      (then_both (each_all (ask_name n q c j) 3 (λ k h. ask_yes 5 j (names_ok v k h)))
      (each_all (ask_rest n q c j) 3 (λ k h. ask_yes 6 j (rests_ok v k h))))

module _ (n q : ℕ) (c : List ℕ) where
  pub valid : ask_circuit n q c ≡ Accepted → Valid n q c
  unfolding ask_circuit ask_size ask_last gates
  valid e =
      let whole = eqb (length c % gate_size) 0 in
      let two = leb fewest_gates (gates c) in
      let few = leb (gates c) most_gates in
      let scan = each (gates c) (ask_gate n q c) in
      let rest : (scan then ask_last n q c) ≡ Accepted = then_right (ask_size n q c) _ e in
      let size : (whole && two && few) ≡ true = ask_true 3 0 _ (then_left (ask_size n q c) (scan then ask_last n q c) e) in
      let least : (whole && two) ≡ true = both_left (whole && two) few size in
      let none : length c % gate_size ≡ 0 = eqb-true (length c % gate_size) 0 (both_left whole two least) in
      record {
        whole = omega arith;
        two = leb-true fewest_gates (gates c) (both_right whole two least);
        few = leb-true (gates c) most_gates (both_right (whole && two) few size);
        each = λ j h. gate_valid n q c j (each_below (ask_gate n q c) (gates c) (then_left scan (ask_last n q c) rest) j h);
        last = ask_true 7 0 _ (then_right scan (ask_last n q c) rest);
      }

  pub accepted : Valid n q c → ask_circuit n q c ≡ Accepted
  unfolding ask_circuit ask_size ask_last
  accepted v =
      let none : length c % gate_size ≡ 0 = omega (arith, v.whole) in
      then_both (ask_yes 3 0 (both_true (both_true (eq-eqb (length c % gate_size) 0 none) (le-leb fewest_gates (gates c) v.two)) (le-leb (gates c) most_gates v.few)))
      (then_both (each_all (ask_gate n q c) (gates c) (λ j h. gate_accepted n q c j (v.each j h))) (ask_yes 7 0 v.last))
