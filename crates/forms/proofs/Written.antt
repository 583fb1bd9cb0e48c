-- The rows that are written of a valid circuit are a sheet of a gate a row, within every bound, and the circuit of that sheet is the same.
-- Assumes nothing.
use Prim.Native.Nat.{ℕ, zero, suc, ◌+◌, ◌*◌, ◌≤◌, ◌<◌}
use mathlib.Core.Path.{◌≡◌, refl, sym, ap, ◌∙◌}
use mathlib.Core.Bool.{Bool, true, false, not}
use mathlib.Core.List.{List, [], ◌∷◌, ◌++◌, append_assoc}
use mathlib.Core.Logic.{⊎_elim}
use native.Mathlib.Nat.{le_of_suc-le-suc, not-suc-le-zero, eq-or-lt_of_le, le_refl, add-zero}
use native.Mathlib.Numerals.{add-one, add-two, add-three, add-four}
use native.Mathlib.Omega.{arith}
use lib.ListN.{length, get_or, take, length-append, get_or-append}
use lib.Seq.{take-suc, take-length, get_or_at}
use borrow.Author.Tests.{ne_eqb}
use Rattle.circuit.specs.Gate.{gate_size, decode, entry, gate, gates}
use Rattle.circuit.specs.Kind.{kind_shape, is_class, Output, has_value}
use Rattle.circuit.specs.Accept.{most_gates}
use Rattle.circuit.specs.Valid.{Ref, Valid}
use Rattle.forms.specs.Words.{Head, Sort, Leaf, One, Two, Scaled, sort, kind, no_kind, names, shape_of, valued}
use Rattle.forms.specs.Form.{
  head,
  depth,
  depth_of_all,
  marks,
  named,
  Fits,
  Follow,
  Sheet,
  gates_in,
  gates_in_all,
  wire_of,
  flat,
  circuit_from,
  circuit_of,
}
use Rattle.forms.specs.Refusals.{deepest}
use Rattle.forms.specs.Entry.{head_of, number_of, row_for, row_of, rows_up_to, rows_of}
use Rattle.forms.proofs.Counting.{gates_snoc}
use Rattle.forms.proofs.Depths.{rows_deeper}
use Rattle.forms.proofs.Rows.{
  Operands,
  line_for,
  Told,
  told,
  Named,
  formed_head,
  formed_depth,
  formed_gates,
  formed_wire,
  formed_flat,
  formed_fits,
  marks_more,
  marks_length,
  named_before,
  named_last,
  follow_more,
  values_from,
  values_more,
  circuit_more,
}

-- rows and gates of any circuit ------------------------------------------------------------------------------------------

module _ (c : List ℕ) where
  rows_length : (k : ℕ) → length (rows_up_to c k) ≡ k
  unfolding rows_up_to
  rows_length zero = refl
  rows_length (suc k) = omega (arith, length-append (rows_up_to c k) (row_of c k ∷ []), rows_length k)

  -- a row before is marked as it has a value
  named_row : (j x : ℕ) → x < j → named (marks (rows_up_to c j)) x ≡ valued (head (row_of c x))
  unfolding rows_up_to
  named_row zero x l = absurd (not-suc-le-zero l)
  named_row (suc j) x l =
      let before = marks (rows_up_to c j) in
      let here = valued (head (row_of c j)) in
      let long : length before ≡ j = marks_length (rows_up_to c j) ∙ rows_length j in
      ap (λ (ms : List Bool). named ms x) (marks_more (rows_up_to c j) (row_of c j))
      ∙ ⊎_elim (λ e. rw e (ap (named (before ++ (here ∷ []))) (sym long) ∙ named_last before here))
      (λ k. named_before before (here ∷ []) x (rw long k) ∙ named_row j x k) (eq-or-lt_of_le (le_of_suc-le-suc l))

  row_depth : (j : ℕ) → depth (row_of c j) ≤ 2
  unfolding row_of row_for
  row_depth j =
      let h = head_of (entry c j 0) in
      formed_depth h (sort h) (entry c j 1) (entry c j 2) (number_of (shape_of h) (entry c j 1) (entry c j 2) (entry c j 3))

  rows_depth : (k : ℕ) → depth_of_all (rows_up_to c k) ≤ 2
  unfolding rows_up_to depth_of_all
  rows_depth zero = omega arith
  rows_depth (suc k) = rows_deeper (rows_up_to c k) (row_of c k) 2 (rows_depth k) (row_depth k)

take_four : (xs : List ℕ) (m : ℕ) → m + 4 ≤ length xs
    → take m xs ++ (get_or xs (m + 0) 0 ∷ get_or xs (m + 1) 0 ∷ get_or xs (m + 2) 0 ∷ get_or xs (m + 3) 0 ∷ []) ≡ take (m + 4) xs
take_four xs m l =
    rw (add-zero m, add-one m, add-two m, add-three m, add-four m)
    (simp (
      take-suc xs (suc (suc (suc m))) 0 (omega arith),
      take-suc xs (suc (suc m)) 0 (omega arith),
      take-suc xs (suc m) 0 (omega arith),
      take-suc xs m 0 (omega arith),
      append_assoc,
    ))

-- one gate more
gate_taken : (c : List ℕ) (k : ℕ) → k < gates c
    → take (gate_size * k) c ++ (entry c k 0 ∷ entry c k 1 ∷ entry c k 2 ∷ entry c k 3 ∷ []) ≡ take (gate_size * suc k) c
unfolding entry gates
gate_taken c k l =
    let whole : gate_size * suc k ≡ gate_size * k + 4 = omega arith in
    rw whole (take_four c (gate_size * k) (omega arith))

-- the gates that rows stand for are counted from 0
record Counts (values : List ℕ) (k : ℕ) : Type 0 where
  long : length values ≡ k
  each : (x : ℕ) → x < k → get_or values x 0 ≡ x

counts_more : (values : List ℕ) (k : ℕ) → Counts values k → Counts (values ++ (k ∷ [])) (suc k)
counts_more values k C =
    record {
      long = omega (arith, length-append values (k ∷ []), C.long);
      each = λ x l.
          ⊎_elim (λ e. rw e (get_or_at values k [] 0 k C.long))
          (λ b. get_or-append values (k ∷ []) 0 x (rw C.long b) ∙ C.each x b) (eq-or-lt_of_le (le_of_suc-le-suc l));
    }

operands_line : (c values : List ℕ) (j : ℕ) (s : Sort) (h : Head) (x y n : ℕ) → Counts values j → Operands s c j x y
    → line_for s h (get_or values x 0) (get_or values y 0) n ≡ line_for s h x y n
operands_line c values j Leaf h x y n C O = refl
operands_line c values j One h x y n C O = rw (C.each x O.earlier)
operands_line c values j Two h x y n C O = rw (C.each x O.0.earlier, C.each y O.1.earlier)
operands_line c values j Scaled h x y n C O = rw (C.each x O.earlier)

-- the rows of a valid circuit --------------------------------------------------------------------------------------------

-- parties and elements are numbers that a sheet may have
module _ (n q top : ℕ) (c : List ℕ) (v : Valid n q c) (parties-fit : n ≤ suc top) (elements-fit : q ≤ suc top) where
  gate_told : (j : ℕ) → j < gates c → Told top c j (entry c j 0) (entry c j 1) (entry c j 2) (entry c j 3)
  unfolding gate
  gate_told j l =
      told n q top c j (entry c j 0) (entry c j 1) (entry c j 2) (entry c j 3) parties-fit elements-fit
      (v.each j l).low (v.each j l).high (v.each j l).first (v.each j l).second (v.each j l).constant

  -- no row names a row itself
  makes_gate : (j : ℕ) → j < gates c → names (head_of (entry c j 0)) ≡ false
  makes_gate j l =
      ne_eqb (kind (head_of (entry c j 0))) no_kind (λ e. omega (arith, e, (gate_told j l).kind_is, (v.each j l).low))

  row_valued : (x : ℕ) → x < gates c → valued (head (row_of c x)) ≡ has_value (gate c x)
  unfolding row_of row_for valued gate
  row_valued x l =
      let h = head_of (entry c x 0) in
      ap valued (formed_head h (sort h) (entry c x 1) (entry c x 2) (number_of (shape_of h) (entry c x 1) (entry c x 2) (entry c x 3)))
      ∙ ap (λ (k : ℕ). not (is_class Output (kind_shape (decode k)).class)) (gate_told x l).kind_is

  ref_named : (j x : ℕ) → j < gates c → Ref c j x → named (marks (rows_up_to c j)) x ≡ true
  ref_named j x l r = named_row c j x r.earlier ∙ row_valued x (omega (arith, l, r.earlier)) ∙ r.valued

  operands_named : (s : Sort) (j x y : ℕ) → j < gates c → Operands s c j x y → Named s (rows_up_to c j) x y
  operands_named Leaf j x y l O = tt
  operands_named One j x y l O = ref_named j x l O
  operands_named Two j x y l O = (ref_named j x l O.0, ref_named j y l O.1)
  operands_named Scaled j x y l O = ref_named j x l O

  row_fits : (j : ℕ) → j < gates c → Fits top (rows_up_to c j) true (row_of c j)
  unfolding row_of row_for
  row_fits j l =
      let h = head_of (entry c j 0) in
      let t = gate_told j l in
      formed_fits h (makes_gate j l) top (rows_up_to c j) (sort h) (entry c j 1) (entry c j 2)
      (number_of (shape_of h) (entry c j 1) (entry c j 2) (entry c j 3)) refl t.low
      (operands_named (sort h) j (entry c j 1) (entry c j 2) l t.operands)

  rows_up_to_sheet : (k : ℕ) → k ≤ gates c → Sheet top (rows_up_to c k)
  unfolding rows_up_to Sheet Follow
  rows_up_to_sheet zero l = tt
  rows_up_to_sheet (suc k) l = follow_more top [] (rows_up_to c k) (row_of c k) (rows_up_to_sheet k (omega arith)) (row_fits k l)

  pub rows_sheet : Sheet top (rows_of c)
  unfolding rows_of
  rows_sheet = rows_up_to_sheet (gates c) (le_refl (gates c))

  pub row_gates : (j : ℕ) → j < gates c → gates_in (row_of c j) ≡ 1
  unfolding row_of row_for
  row_gates j l =
      let h = head_of (entry c j 0) in
      formed_gates h (makes_gate j l) (sort h) (entry c j 1) (entry c j 2) (number_of (shape_of h) (entry c j 1) (entry c j 2) (entry c j 3))

  -- a row's value is its own gate
  pub row_wire : (values : List ℕ) (at j : ℕ) → j < gates c → wire_of values at (row_of c j) ≡ at
  unfolding row_of row_for
  row_wire values at j l =
      let h = head_of (entry c j 0) in
      formed_wire h (makes_gate j l) values at (sort h) (entry c j 1) (entry c j 2)
      (number_of (shape_of h) (entry c j 1) (entry c j 2) (entry c j 3))

  -- where row x stands for gate x, row j is gate j
  row_flat : (values : List ℕ) (at j : ℕ) → j < gates c → Counts values j
      → flat values at (row_of c j) ≡ entry c j 0 ∷ entry c j 1 ∷ entry c j 2 ∷ entry c j 3 ∷ []
  unfolding row_of row_for
  row_flat values at j l C =
      let h = head_of (entry c j 0) in
      let number = number_of (shape_of h) (entry c j 1) (entry c j 2) (entry c j 3) in
      let t = gate_told j l in
      formed_flat h (makes_gate j l) values at (sort h) (entry c j 1) (entry c j 2) number
      ∙ operands_line c values j (sort h) h (entry c j 1) (entry c j 2) number C t.operands
      ∙ t.line_is

  rows_gates : (k : ℕ) → k ≤ gates c → gates_in_all (rows_up_to c k) ≡ k
  unfolding rows_up_to gates_in_all
  rows_gates zero l = refl
  rows_gates (suc k) l = omega (arith, gates_snoc (rows_up_to c k) (row_of c k), rows_gates k (omega arith), row_gates k l)

  rows_count : (k : ℕ) → k ≤ gates c → Counts (values_from [] 0 (rows_up_to c k)) k
  unfolding rows_up_to values_from
  rows_count zero l = record { long = refl; each = λ x b. absurd (not-suc-le-zero b) }
  rows_count (suc k) l =
      let values = values_from [] 0 (rows_up_to c k) in
      let at : 0 + gates_in_all (rows_up_to c k) ≡ k = omega (arith, rows_gates k (omega arith)) in
      let wire : wire_of values (0 + gates_in_all (rows_up_to c k)) (row_of c k) ≡ k = row_wire values _ k l ∙ at in
      rw (values_more [] 0 (rows_up_to c k) (row_of c k), wire) (counts_more values k (rows_count k (omega arith)))

  circuit_up_to : (k : ℕ) → k ≤ gates c → circuit_of (rows_up_to c k) ≡ take (gate_size * k) c
  unfolding rows_up_to circuit_of circuit_from
  circuit_up_to zero l = refl
  circuit_up_to (suc k) l =
      let values = values_from [] 0 (rows_up_to c k) in
      circuit_more [] 0 (rows_up_to c k) (row_of c k)
      ∙ ap (λ (ns : List ℕ). circuit_from [] 0 (rows_up_to c k) ++ ns) (row_flat values (0 + gates_in_all (rows_up_to c k)) k l (rows_count k (omega arith)))
      ∙ ap (λ (ns : List ℕ). ns ++ (entry c k 0 ∷ entry c k 1 ∷ entry c k 2 ∷ entry c k 3 ∷ [])) (circuit_up_to k (omega arith))
      ∙ gate_taken c k l

  pub circuit_back : circuit_of (rows_of c) ≡ c
  unfolding rows_of
  circuit_back =
      circuit_up_to (gates c) (le_refl (gates c)) ∙ ap (λ (k : ℕ). take k c) (sym v.whole) ∙ take-length c

  pub rows_low : depth_of_all (rows_of c) ≤ deepest
  unfolding rows_of
  rows_low = omega (arith, rows_depth c (gates c))

  pub same_gates : gates_in_all (rows_of c) ≡ gates c
  unfolding rows_of
  same_gates = rows_gates (gates c) (le_refl (gates c))

  pub rows_few : gates_in_all (rows_of c) ≤ most_gates
  rows_few = omega (arith, same_gates, v.few)
