-- Lengths, counts and places that a circuit fixes.
-- Assumes nothing.
use Rattle.std.specs.Prelude.{ℕ, zero, suc, ◌+◌, Bool, cond, List}
use Rattle.circuit.specs.Gate.{Gate, gate, gates}
use Rattle.circuit.specs.Kind.{Shape, shape, Output, is_class, owned_by, is_in, is_out}

-- the sum of f over the gates before j
unfoldable pub total : (Gate → ℕ) → List ℕ → ℕ → ℕ
total f c zero = 0
total f c (suc j) = total f c j + f (gate c j)

-- how many gates before j have the property
unfoldable pub count : (Gate → Bool) → List ℕ → ℕ → ℕ
count has c j = total (λ g. cond (has g) 1 0) c j

-- "Material: its key share; then, in line order, three numbers for each in line .. and six for each mul line", four for each sq line
-- and three for each give line: where the record of gate j starts
unfoldable pub prep_at : List ℕ → ℕ → ℕ
prep_at c j = 1 + total (λ g. (shape g).prep) c j

-- "With I in lines and M mul lines, material has 1 + 3 × I + 6 × M numbers", 4 more for each sq line and 3 more for each give line
unfoldable pub prep_size : List ℕ → ℕ
prep_size c = prep_at c (gates c)

-- "2M + 1 opened values", and one more for each sq line: the room for opened entries
unfoldable pub capacity : List ℕ → ℕ
capacity c = total (λ g. (shape g).openings) c (gates c) + 1

-- how many in gates of party i stand before gate j. "Inputs: the seat's own, in line order": it is where the party's input for gate j stands
unfoldable pub input_at : List ℕ → ℕ → ℕ → ℕ
input_at c i j = count (owned_by i) c j

-- "as many inputs as this seat has in lines"
unfoldable pub input_count : List ℕ → ℕ → ℕ
input_count c i = input_at c i (gates c)

-- document 01's I
unfoldable pub in_count : List ℕ → ℕ
in_count c = count is_in c (gates c)

-- document 01's "outs"; a give counts as an out, since it "stops as out does"
unfoldable pub out_count : List ℕ → ℕ
out_count c = count is_out c (gates c)

-- the entries that are unchecked after a gate, where u are before it: an output checks them all
unfoldable pub unchecked_after : Shape → ℕ → ℕ
unchecked_after s u = cond (is_class Output s.class) 0 (u + s.openings)

-- how many entries are opened and unchecked when gate j is reached
unfoldable pub unchecked : List ℕ → ℕ → ℕ
unchecked c zero = 0
unchecked c (suc j) = unchecked_after (shape (gate c j)) (unchecked c j)
