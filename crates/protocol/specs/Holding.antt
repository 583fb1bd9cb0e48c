-- What a scratch holds: numbers below the size of a field where a step reads them.
-- Assumes nothing.
use Rattle.std.specs.Prelude.{ℕ, ◌<◌, ◌≡◌, true, List, get_or}
use Rattle.circuit.specs.Gate.{Gate, gate}
use Rattle.circuit.specs.Kind.{Role, Unused, Party, Wire, Constant, Divisor, shape, has_value}
use Rattle.protocol.specs.Scratch.{Slot, Share, Mac, Value, ValueMac, Layout, read}

-- every number of a list is below q, the size of a field (past the end get_or gives 0)
abbrev pub Below : ℕ → List ℕ → Type 0
Below q xs = (k : ℕ) → get_or xs k 0 < q

-- the slot lies in the scratch
abbrev pub Within : Layout → Slot → Type 0
Within y (Share j) = j < y.gates
Within y (Mac j) = j < y.gates
Within y (Value t) = t < y.capacity
Within y (ValueMac t) = t < y.capacity

-- the part of gate x can be read, and is of numbers below q
pub record Held (q : ℕ) (y : Layout) (l : List ℕ) (x : ℕ) : Type 0 where
  pub within : x < y.gates
  pub share : read y l (Share x) < q
  pub mac : read y l (Mac x) < q

-- the gates before j that have a value are worked out
abbrev pub Worked : ℕ → List ℕ → Layout → List ℕ → ℕ → Type 0
Worked q c y l j = (x : ℕ) → x < j → has_value (gate c x) ≡ true → Held q y l x

-- opened entry t is of numbers below q
pub record Opened (q : ℕ) (y : Layout) (l : List ℕ) (t : ℕ) : Type 0 where
  pub within : t < y.capacity
  pub value : read y l (Value t) < q
  pub mac : read y l (ValueMac t) < q

-- what a gate's number is for is there: the part of a gate can be read, a constant or divisor is below q
abbrev pub Read : ℕ → Layout → List ℕ → Role → ℕ → Type 0
Read q y l Unused x = Unit {0}
Read q y l Party x = Unit {0}
Read q y l Wire x = Held q y l x
Read q y l Constant x = x < q
Read q y l Divisor x = x < q

pub record Reads (q : ℕ) (y : Layout) (l : List ℕ) (g : Gate) : Type 0 where
  pub first : Read q y l (shape g).first g.first
  pub second : Read q y l (shape g).second g.second
  pub constant : Read q y l (shape g).constant g.constant
