-- What a party is lent at every call, beside its scratch.
-- Assumes nothing.
use Rattle.std.specs.Prelude.{ℕ, ◌*◌, ◌-◌, List, get_or, drop}
use Rattle.circuit.specs.Count.{prep_at, input_at}

-- Document 01's "seat"; the preprocessing is its "material"
pub record Party : Type 0 where
  -- how many parties there are, and which of them this is
  pub parties : ℕ
  pub me : ℕ
  pub circuit : List ℕ
  pub prep : List ℕ
  -- "Inputs: the seat's own, in line order."
  pub inputs : List ℕ

-- what a call is lent, from the lists of the code
abbrev pub party_of : ℕ → ℕ → List ℕ → List ℕ → List ℕ → Party
party_of n i c prep inputs = record { parties = n; me = i; circuit = c; prep = prep; inputs = inputs }

-- "Material: its key share; then .."
unfoldable pub key : Party → ℕ
key P = get_or P.prep 0 0

-- "Each line reads its own record from the middle of the material": what starts at the record of gate j
unfoldable pub record_in : List ℕ → List ℕ → ℕ → List ℕ
record_in c prep j = drop (prep_at c j) prep

unfoldable pub record_of : Party → ℕ → List ℕ
record_of P j = record_in P.circuit P.prep j

-- the party's input for gate j, which is its own
unfoldable pub input_of : Party → ℕ → ℕ
input_of P j = get_or P.inputs (input_at P.circuit P.me j) 0

-- "three numbers for each in line (mask share, MAC share, whole mask) and six for each mul line (a, MAC of a, b, MAC of b, c, MAC of c)"; of an
-- sq line "Its record is a, MAC of a, c, MAC of c"; of a give line "a three-number mask record", as of an in line: where each stands in its record
abbrev pub mask_at : ℕ
mask_at = 0

abbrev pub whole_mask_at : ℕ
whole_mask_at = 2

abbrev pub a_at : ℕ
a_at = 0

-- b and c in a record of k openings: where one value is opened, b is a again
abbrev pub b_at : ℕ → ℕ
b_at k = 2 * k - 2

abbrev pub c_at : ℕ → ℕ
c_at k = 2 * k
