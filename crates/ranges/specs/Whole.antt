-- What the tool promises: where it fits, a score is the whole number itself, and moves by no more than its move.
-- Assumes nothing.
use Rattle.std.specs.Prelude.{ℕ, ◌+◌, ◌*◌, ◌-◌, ◌<◌, ◌≤◌, ◌≡◌, Bool, true, List, length, get_or}
use Rattle.algebra.specs.Ops.{Ops}
use Rattle.circuit.specs.Gate.{Sub, Over, gate, gates}
use Rattle.circuit.specs.Kind.{is_in}
use Rattle.circuit.specs.Count.{out_count}
use Rattle.protocol.specs.Joint.{Joint}
use Rattle.protocol.specs.Plain.{plain_input, value, scores_seen, scores}
use Rattle.ranges.specs.Interval.{Interval, interval_at, range_at}
use Rattle.ranges.specs.Move.{Change, Of}
use Rattle.ranges.specs.Entry.{Query, query_of, Fits, fit_answer, fit_intervals, fit_moves}

-- "the whole-number result": the circuit's value on plain inputs, by its own definition, at sums, differences and products of whole numbers, of which none
-- is reduced. Two things that whole numbers from 0 on do not have stand in for themselves: a difference below 0 is 0, and an inverse is 0. Where it
-- fits there is neither (`exact`, `no_over`)
abbrev pub whole_numbers : Ops
whole_numbers =
    record { size = 0; norm = λ x. x; add = ◌+◌; neg = λ x. 0; sub = ◌-◌; mul = ◌*◌; inv = λ k. 0 }

-- operations whose sums, differences and products are those of whole numbers wherever these are from 0 to p − 1
pub record Counting (O : Ops) : Type 0 where
  pub sums : (x y : ℕ) → x + y < O.size → O.add x y ≡ x + y
  pub differences : (x y : ℕ) → y ≤ x → x - y < O.size → O.sub x y ≡ x - y
  pub products : (x y : ℕ) → x * y < O.size → O.mul x y ≡ x * y

-- a number of an interval
pub record Within (i : Interval) (v : ℕ) : Type 0 where
  pub low : i.lowest ≤ v
  pub high : v ≤ i.highest

-- "all inputs in range": that of each in gate
abbrev pub InRange : Joint → List ℕ → Type 0
InRange J ranges =
    (j : ℕ) → j < gates J.circuit → is_in (gate J.circuit j) ≡ true → Within (range_at J.circuit ranges j) (plain_input whole_numbers J j)

-- what a run's parties and circuit are asked
abbrev pub asking : Joint → List ℕ → Change → Query
asking J ranges change = query_of J.parties J.circuit ranges change

-- the call's lists for intervals and moves, es and ms
module _ (O : Ops) (J : Joint) (ranges : List ℕ) (change : Change) (es ms : List ℕ) where
  open O use {size}

  -- the tool answers that it fits
  abbrev pub ItFits : Type 0
  ItFits = fit_answer size (asking J ranges change) (length es) (length ms) ≡ Fits

  -- the intervals and the moves that stand in the two lists afterwards
  abbrev pub interval_told : ℕ → Interval
  interval_told j = interval_at (fit_intervals size (asking J ranges change) es (length ms)) j

  abbrev pub move_told : ℕ → ℕ
  move_told s = get_or (fit_moves size (asking J ranges change) (length es) ms) s 0

  -- "otherwise every score equals the whole-number result for all inputs in range"
  pub record Whole : Type 0 where
    -- the whole number of each gate lies in the interval that is told of it; of an output, which has no value, 0 keeps the place
    pub within : (j : ℕ) → j < gates J.circuit → Within (interval_told j) (value whole_numbers J j)
    -- no difference falls below 0
    pub exact : (j : ℕ)
        → j < gates J.circuit
        → (gate J.circuit j).kind ≡ Sub
        → value whole_numbers J (gate J.circuit j).second ≤ value whole_numbers J (gate J.circuit j).first
    pub no_over : (j : ℕ) → j < gates J.circuit → (gate J.circuit j).kind ≡ Over → ⊥
    -- "every line with a value" has its whole number, modulo p or not
    pub values : (j : ℕ) → j < gates J.circuit → value O J j ≡ value whole_numbers J j
    -- and so has every score, of an out or a give, whoever sees it
    pub same_scores : (A : ℕ → Bool) → scores_seen O J A (gates J.circuit) ≡ scores_seen whole_numbers J A (gates J.circuit)

-- that promise, for all circuits, ranges, inputs in range, and whatever change and lists are lent
abbrev pub FitsWhole : Ops → Type 0
FitsWhole O =
    (J : Joint) (ranges : List ℕ) (change : Change) (es ms : List ℕ)
    → ItFits O J ranges change es ms
    → InRange J ranges
    → Whole O J ranges change es ms

-- numbers that differ by at most m, whichever is larger
pub record Near (m x y : ℕ) : Type 0 where
  pub up : x ≤ y + m
  pub down : y ≤ x + m

-- "Given also one in line and its largest change, the others' being 0, .. both inputs in range": two runs of one circuit whose inputs differ at gate
-- line alone, by at most amount
pub record Changed (J K : Joint) (line amount : ℕ) : Type 0 where
  pub circuit : K.circuit ≡ J.circuit
  pub others : (j : ℕ)
      → j < gates J.circuit
      → is_in (gate J.circuit j) ≡ true
      → (j ≡ line → ⊥)
      → plain_input whole_numbers K j ≡ plain_input whole_numbers J j
  pub there : Near amount (plain_input whole_numbers J line) (plain_input whole_numbers K line)

-- "it bounds each score's move": the whole numbers of score s differ by at most the move that is told of it
pub record Moved (O : Ops) (J K : Joint) (ranges : List ℕ) (line amount : ℕ) (es ms : List ℕ) : Type 0 where
  pub as_many : length (scores whole_numbers J (gates J.circuit)) ≡ out_count J.circuit
  pub near : (s : ℕ)
      → s < out_count J.circuit
      → Near (move_told O J ranges (Of line amount) es ms s) (get_or (scores whole_numbers J (gates J.circuit)) s 0)
      (get_or (scores whole_numbers K (gates K.circuit)) s 0)

abbrev pub MovesBound : Ops → Type 0
MovesBound O =
    (J K : Joint) (ranges : List ℕ) (line amount : ℕ) (es ms : List ℕ)
    → ItFits O J ranges (Of line amount) es ms
    → InRange J ranges
    → InRange K ranges
    → Changed J K line amount
    → Moved O J K ranges line amount es ms
