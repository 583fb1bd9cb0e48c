-- Which numbers the wire of each gate can take: an interval, worked out of the intervals of the gates that it names.
-- Assumes nothing.
use Rattle.std.specs.Prelude.{ℕ, zero, suc, ◌+◌, ◌*◌, ◌-◌, Bool, true, false, cond, List, [], ◌∷◌, ◌++◌, get_or, ltb}
use Rattle.circuit.specs.Gate.{Kind, In, Add, Sub, Plus, Times, Mul, Out, Sq, Give, Over, gate}
use Rattle.circuit.specs.Kind.{is_in}
use Rattle.circuit.specs.Count.{count}

-- the numbers from a lowest to a highest
pub record Interval : Type 0 where
  pub lowest : ℕ
  pub highest : ℕ

abbrev pub interval : ℕ → ℕ → Interval
interval lowest highest = record { lowest = lowest; highest = highest }

-- "its lowest then its highest number"; "each line's interval, lowest first": how many numbers of a list an interval takes
abbrev pub interval_size : ℕ
interval_size = 2

-- interval k of a list of them
unfoldable pub interval_at : List ℕ → ℕ → Interval
interval_at l k = interval (get_or l (interval_size * k) 0) (get_or l (interval_size * k + 1) 0)

-- what a gate comes to: an interval within 0 to p − 1; or it leaves, of which no interval is told. Over a field of q elements p is q
pub data Reach : Type 0 where
  Stays : ℕ → ℕ → Reach
  Leaves : Reach

-- "leaves 0 to p − 1", upwards
unfoldable pub up_to : ℕ → ℕ → ℕ → Reach
up_to q lowest highest = cond (ltb highest q) (Stays lowest highest) Leaves

-- "a tool finds every line's interval: like ends summed for add and plus, multiplied for times, mul and sq, and opposite ends subtracted for sub."
-- An in gate has the range r that is given for it. A difference whose lowest end is below 0 leaves downwards, so that where one is taken it is
-- exact. "the first line that is an over or leaves": an over counts as leaving. Of an out and a give "0 0 without a value". x and z are the intervals
-- of the gates named first and second, k is the constant
unfoldable pub kind_reach : ℕ → Kind → Interval → Interval → Interval → ℕ → Reach
kind_reach q In r x z k = up_to q r.lowest r.highest
kind_reach q Add r x z k = up_to q (x.lowest + z.lowest) (x.highest + z.highest)
kind_reach q Sub r x z k = cond (ltb x.lowest z.highest) Leaves (up_to q (x.lowest - z.highest) (x.highest - z.lowest))
kind_reach q Plus r x z k = up_to q (x.lowest + k) (x.highest + k)
kind_reach q Times r x z k = up_to q (x.lowest * k) (x.highest * k)
kind_reach q Mul r x z k = up_to q (x.lowest * z.lowest) (x.highest * z.highest)
kind_reach q Out r x z k = up_to q 0 0
kind_reach q Sq r x z k = up_to q (x.lowest * x.lowest) (x.highest * x.highest)
kind_reach q Give r x z k = up_to q 0 0
kind_reach q Over r x z k = Leaves

abbrev pub stays : Reach → Bool
stays (Stays lowest highest) = true
stays Leaves = false

-- the numbers that are written of a gate
abbrev pub ends : Reach → List ℕ
ends (Stays lowest highest) = lowest ∷ highest ∷ []
ends Leaves = 0 ∷ 0 ∷ []

-- the range given for gate j, if it is an in gate, by "a list giving each in line, in line order, its lowest then its highest number": that of as many
-- in gates as stand before it
unfoldable pub range_at : List ℕ → List ℕ → ℕ → Interval
range_at c ranges j = interval_at ranges (count is_in c j)

-- a field of q elements
module _ (q : ℕ) (c ranges : List ℕ) where
  -- what gate j comes to, where the gates before it have the intervals es
  unfoldable pub reach : List ℕ → ℕ → Reach
  reach es j =
      kind_reach q (gate c j).kind (range_at c ranges j) (interval_at es (gate c j).first) (interval_at es (gate c j).second) (gate c j).constant

  -- the intervals of the gates before j
  unfoldable pub intervals : ℕ → List ℕ
  intervals zero = []
  intervals (suc j) = let es = intervals j in es ++ ends (reach es j)

  -- does gate j stay within 0 to p − 1? It is asked where all gates before it do
  unfoldable pub gate_stays : ℕ → Bool
  gate_stays j = stays (reach (intervals j) j)
