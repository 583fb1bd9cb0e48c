-- Which circuits are accepted: questions 3 to 7 of document 01, in their order.
-- Assumes nothing.
use Rattle.std.specs.Prelude.{ℕ, suc, ◌-◌, ◌%◌, Bool, true, ◌&&◌, List, length, ltb, leb, eqb}
use Rattle.circuit.specs.Verdict.{Verdict, ask, ◌then◌, each}
use Rattle.circuit.specs.Gate.{gate_size, entry, gate, gates, first_kind, last_kind}
use Rattle.circuit.specs.Kind.{shape, has_value, is_out, role, Role, Unused, Party, Wire, Constant, Divisor}

-- "L from 2 to 256"
abbrev pub fewest_gates : ℕ
fewest_gates = 2

abbrev pub most_gates : ℕ
most_gates = 256

-- "is the kind 1 to 7? 4."; document 02: "question 4 admits kind 8", "4 to 9 read with kind 9 included",
-- "question 4 admits kind 10"
unfoldable pub is_kind : ℕ → Bool
is_kind kind = leb first_kind kind && leb kind last_kind

-- may gate j name gate x? "each named line earlier and with a value"
unfoldable pub may_name : List ℕ → ℕ → ℕ → Bool
may_name c j x = ltb x j && has_value (gate c x)

-- "Is a named seat below the number of seats, each named line earlier and with a value? 5."
unfoldable pub name_ok : ℕ → List ℕ → ℕ → ℕ → Role → Bool
name_ok n c j x Unused = true
name_ok n c j x Party = ltb x n
name_ok n c j x Wire = may_name c j x
name_ok n c j x Constant = true
name_ok n c j x Divisor = true

-- "Is the constant below p and each unused field 0? 6."; of over, "question 6 refuses a constant 0 there"
unfoldable pub rest_ok : ℕ → ℕ → Role → Bool
rest_ok q x Unused = eqb x 0
rest_ok q x Party = true
rest_ok q x Wire = true
rest_ok q x Constant = ltb x q
rest_ok q x Divisor = ltb 0 x && ltb x q

-- n parties, and a field of q elements
module _ (n q : ℕ) (c : List ℕ) where
  unfoldable pub ask_name : ℕ → ℕ → Verdict
  ask_name j k = ask 5 j (name_ok n c j (entry c j (suc k)) (role (shape (gate c j)) (suc k)))

  unfoldable pub ask_rest : ℕ → ℕ → Verdict
  ask_rest j k = ask 6 j (rest_ok q (entry c j (suc k)) (role (shape (gate c j)) (suc k)))

  -- "Of each line": 4 of its kind, 5 and then 6 of its first, second and constant
  unfoldable pub ask_gate : ℕ → Verdict
  ask_gate j = ask 4 j (is_kind (entry c j 0)) then each 3 (ask_name j) then each 3 (ask_rest j)

  -- "Is the circuit 4 × L numbers, L from 2 to 256? 3."
  unfoldable pub ask_size : Verdict
  ask_size = ask 3 0 (eqb (length c % gate_size) 0 && leb fewest_gates (gates c) && leb (gates c) most_gates)

  -- "Is the last line an out? 7."; of a give document 02 says that it "may be last"
  unfoldable pub ask_last : Verdict
  ask_last = ask 7 0 (is_out (gate c (gates c - 1)))

  -- questions 3 to 7. "All three are asked of line 0 before line 1."
  unfoldable pub ask_circuit : Verdict
  ask_circuit = ask_size then each (gates c) ask_gate then ask_last
