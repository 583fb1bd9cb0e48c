-- The rule that matches preprocessing for the first inputs with preprocessing for the second.
-- Assumes nothing.
use Rattle.std.specs.Prelude.{ℕ, zero, suc, Bool, cond, List, [], ◌∷◌, ◌++◌, eqb}
use Rattle.algebra.specs.Ops.{Ops}
use Rattle.circuit.specs.Gate.{Gate, gate, gates}
use Rattle.circuit.specs.Kind.{Class, Local, Owned, Opens, Output, shape, is_give, factor}
use Rattle.protocol.specs.Party.{a_at, b_at}
use Rattle.protocol.specs.Joint.{Joint, joined}
use Rattle.protocol.specs.Plain.{plain_input, value}
use Rattle.protocol.specs.Good.{whole_key, share_sum}

-- the first of n parties that is not in A, or n where all are
unfoldable pub left_out : (ℕ → Bool) → ℕ → ℕ
left_out A zero = zero
left_out A (suc n) = cond (A 0) (suc (left_out (λ i. A (suc i)) n)) 0

-- the lists' numbers added one by one
unfoldable pub add_lists : Ops → List ℕ → List ℕ → List ℕ
add_lists O [] ys = []
add_lists O (x ∷ xs) [] = x ∷ xs
add_lists O (x ∷ xs) (y ∷ ys) = O.add x y ∷ add_lists O xs ys

-- d at party s, and 0 at every other party
unfoldable pub only : ℕ → ℕ → ℕ → ℕ
only s d i = cond (eqb i s) d 0

-- a run of n parties on inputs, for its values on plain inputs alone
unfoldable pub plainly : ℕ → List ℕ → List ℕ → Joint
plainly n c inputs = record { parties = n; circuit = c; preps = []; inputs = inputs; coefficients = []; nonces = [] }

-- n parties, circuit c, the party h that carries the differences, and two sets of inputs
module _ (O : Ops) (n : ℕ) (c : List ℕ) (h : ℕ) (x x' : List ℕ) where
  open O use {sub, mul, add}

  -- by how much the input for gate j, and value j, differ
  unfoldable pub input_move : ℕ → ℕ
  input_move j = sub (plain_input O (plainly n c x') j) (plain_input O (plainly n c x) j)

  unfoldable pub value_move : ℕ → ℕ
  value_move j = sub (value O (plainly n c x') j) (value O (plainly n c x) j)

  module _ (preps : List ℕ) where
    -- a difference of a shared number, and of its MAC, at party i: party h has it all
    unfoldable pub moved : ℕ → ℕ → List ℕ
    moved i d = only h d i ∷ only h (mul (whole_key O n c preps) d) i ∷ []

    -- c is a times b, in a record of k openings: by how much it differs where a differs by d and b by e
    unfoldable pub product_move : ℕ → ℕ → ℕ → ℕ → ℕ
    product_move j k d e =
        sub (mul (add (share_sum O n c preps j a_at) d) (add (share_sum O n c preps j (b_at k)) e))
        (mul (share_sum O n c preps j a_at) (share_sum O n c preps j (b_at k)))

    -- the differences of a and b in a record of k openings, where they hide values y and z: where one value is opened, b is a again
    unfoldable pub mask_move : ℕ → ℕ → ℕ → ℕ → List ℕ
    mask_move i y z k = cond (eqb k 2) (moved i (value_move y) ++ moved i (value_move z)) (moved i (value_move y))

    -- the differences in a mask's record, where the mask differs by d: party o knows it whole
    unfoldable pub mask_record_move : ℕ → ℕ → ℕ → List ℕ
    mask_record_move i o d = moved i d ++ (only o d i ∷ [])

    -- the differences in party i's record of gate j, which is g: a mask, and its owner's whole mask, move with the input that they hide, a and b
    -- with the values that they hide, the mask of a give and its receiver's whole mask with the value that they hide
    unfoldable pub record_move : ℕ → ℕ → Gate → Class → List ℕ
    record_move i j g Local = []
    record_move i j g Owned = mask_record_move i g.first (input_move j)
    record_move i j g Opens =
        mask_move i g.first (factor g) (shape g).openings
        ++ moved i (product_move j (shape g).openings (value_move g.first) (value_move (factor g)))
    record_move i j g Output = cond (is_give g) (mask_record_move i g.second (value_move g.first)) []

    -- party i's differences: none in the key share, then record by record up to gate j
    unfoldable pub prep_move : ℕ → ℕ → List ℕ
    prep_move i zero = 0 ∷ []
    prep_move i (suc j) = prep_move i j ++ record_move i j (gate c j) (shape (gate c j)).class

    unfoldable pub match : List ℕ
    match = add_lists O preps (joined n (λ i. prep_move i (gates c)))

-- the rule: it depends on the number of parties, the circuit, A and both sets of inputs, and on no coefficient, nonce or scratch
unfoldable pub rule : (O : Ops) (n : ℕ) (c : List ℕ) (A : ℕ → Bool) (x x' preps : List ℕ) → List ℕ
rule O n c A x x' preps = match O n c (left_out A n) x x' preps
