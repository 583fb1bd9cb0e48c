-- The circuit's value on plain inputs.
-- Assumes nothing.
use Rattle.std.specs.Prelude.{ℕ, zero, suc, Bool, cond, ◌&&◌, List, [], ◌∷◌, ◌++◌, get_or}
use Rattle.algebra.specs.Ops.{Ops}
use Rattle.circuit.specs.Gate.{Kind, In, Add, Sub, Plus, Times, Mul, Out, Sq, Give, Over, Gate, gate, gates}
use Rattle.circuit.specs.Kind.{is_out, seen_by, everyone}
use Rattle.protocol.specs.Party.{input_of}
use Rattle.protocol.specs.Receive.{operand_of}
use Rattle.protocol.specs.Joint.{Joint, party}

module _ (O : Ops) where
  open O use {add, sub, mul}

  -- "On plain inputs, the value of an in line is its owner's input for it; of add, sub and mul the sum, difference and product of the two
  -- named values; of plus and times the named value with the constant added or multiplied." Of sq the product of the named
  -- value and itself; of over that of the named value and the constant's inverse, so that it "undoes times". An out gate has no value, nor has a
  -- give: 0 keeps its place. k is the constant, of over its inverse; vs are the values of the earlier gates
  unfoldable pub kind_value : Kind → ℕ → ℕ → ℕ → ℕ → ℕ
  kind_value In input x z k = input
  kind_value Add input x z k = add x z
  kind_value Sub input x z k = sub x z
  kind_value Plus input x z k = add x k
  kind_value Times input x z k = mul x k
  kind_value Mul input x z k = mul x z
  kind_value Out input x z k = 0
  kind_value Sq input x z k = mul x x
  kind_value Give input x z k = 0
  kind_value Over input x z k = mul x k

  unfoldable pub value_of : ℕ → List ℕ → Gate → ℕ
  value_of input vs g =
      kind_value g.kind input (get_or vs g.first 0) (get_or vs g.second 0) (operand_of O g)

  module _ (J : Joint) where
    -- the owner's input for gate j
    unfoldable pub plain_input : ℕ → ℕ
    plain_input j = input_of (party J (gate J.circuit j).first) j

    -- the values of the gates before j
    unfoldable pub values : ℕ → List ℕ
    values zero = []
    values (suc j) = let vs = values j in vs ++ (value_of (plain_input j) vs (gate J.circuit j) ∷ [])

    -- "Line j's value is called value j."
    unfoldable pub value : ℕ → ℕ
    value j = get_or (values (gates J.circuit)) j 0

    -- "An out line's score is the value it names.", and so is a give's: the score of gate g, if a party of A sees it
    unfoldable pub score_of : (ℕ → Bool) → Gate → List ℕ
    score_of A g = cond (is_out g && seen_by A g) (value g.first ∷ []) []

    -- the scores of the gates before j that A's parties see, in order
    unfoldable pub scores_seen : (ℕ → Bool) → ℕ → List ℕ
    scores_seen A zero = []
    scores_seen A (suc j) = scores_seen A j ++ score_of A (gate J.circuit j)

    -- all scores
    abbrev pub scores : ℕ → List ℕ
    scores j = scores_seen everyone j
