-- Where a party stands in a run, and where it goes from there.
-- Assumes nothing.
use Rattle.std.specs.Prelude.{ℕ, zero, suc, ◌-◌, Bool, false, cond, ◌&&◌, List, [], ◌∷◌, ltb, eqb}
use Rattle.circuit.specs.Gate.{gate, gates}
use Rattle.circuit.specs.Kind.{is_linear}
use Rattle.circuit.specs.Round.{Second, Round, Reveal, is_commit, is_reveal, rounds, among, following}

-- "Each stop has a speaking half .. and a hearing half": sending and receiving
pub data Stage : Type 0 where
  Send Receive : Round → Stage
  Finished Aborted : Stage

-- a point of a run, common to all parties: a gate and a stage
pub record Point : Type 0 where
  pub gate : ℕ
  pub stage : Stage

-- Document 01's "place": "A place is a line, a stage and a held check word (0 unless between speaking a seal and speaking its reveal)."
pub record Position : Type 0 where
  pub gate : ℕ
  pub stage : Stage
  pub held : ℕ

unfoldable pub holding : Point → ℕ → Position
holding x held = record { gate = x.gate; stage = x.stage; held = held }

-- "A finished place names the last line, a stopped one its line; both hold 0."
unfoldable pub finished : List ℕ → Point
finished c = record { gate = gates c - 1; stage = Finished }

unfoldable pub aborted : ℕ → Point
aborted j = record { gate = j; stage = Aborted }

-- the sending half of the first of these rounds of gate j
unfoldable pub begin : List ℕ → ℕ → List Round → Point
begin c j [] = finished c
begin c j (r ∷ rs) = record { gate = j; stage = Send r }

-- the first gate from j on that needs a round, where left gates are left
unfoldable pub reach : List ℕ → ℕ → ℕ → ℕ
reach c zero j = j
reach c (suc left) j = cond (is_linear (gate c j)) (reach c left (suc j)) j

-- the first round of gate j, or the end
unfoldable pub enter : List ℕ → ℕ → Point
enter c j = cond (ltb j (gates c)) (begin c j (rounds c j)) (finished c)

-- "hearing does all such lines up to the next stop": where a run goes on once the gates before j are done
unfoldable pub resume : List ℕ → ℕ → Point
resume c j = enter c (reach c (gates c - j) j)

-- "Opening a run .. gives the speaking half of line 0."
unfoldable pub start : List ℕ → Point
start c = enter c 0

-- the rounds of gate j that are left, and once there are none what comes after the gate
unfoldable pub proceed : List ℕ → ℕ → List Round → Point
proceed c j [] = resume c (suc j)
proceed c j (r ∷ rs) = begin c j (r ∷ rs)

-- what follows round r of gate j once it is received and stops no run
unfoldable pub follow : List ℕ → ℕ → Round → Point
follow c j r = proceed c j (following r (rounds c j))

-- a check share stays held from the commitment to its reveal
unfoldable pub keep : Round → ℕ → ℕ
keep r held = cond (is_commit r) held 0

-- f of the round at a sending half, and the other thing elsewhere; likewise at a receiving half
unfoldable pub when_sending : {A : Type 0} → Stage → A → (Round → A) → A
when_sending (Send r) other f = f r
when_sending (Receive r) other f = other
when_sending Finished other f = other
when_sending Aborted other f = other

unfoldable pub when_receiving : {A : Type 0} → Stage → A → (Round → A) → A
when_receiving (Send r) other f = other
when_receiving (Receive r) other f = f r
when_receiving Finished other f = other
when_receiving Aborted other f = other

-- "Can the place occur in this circuit": a round of the gate; finished at the last gate; aborted where there is a check
unfoldable pub stage_occurs : List ℕ → ℕ → Stage → Bool
stage_occurs c j (Send r) = among r (rounds c j)
stage_occurs c j (Receive r) = among r (rounds c j)
stage_occurs c j Finished = eqb (suc j) (gates c)
stage_occurs c j Aborted = among (Reveal Second) (rounds c j)

-- a check share is held between sending a commitment and sending its reveal
unfoldable pub may_hold : Stage → Bool
may_hold (Send r) = is_reveal r
may_hold (Receive r) = is_commit r
may_hold Finished = false
may_hold Aborted = false

-- "its held word below p", and 0 where none is held; q is the size of the field
unfoldable pub occurs : ℕ → List ℕ → Position → Bool
occurs q c at =
    ltb at.gate (gates c)
    && stage_occurs c at.gate at.stage
    && cond (may_hold at.stage) (ltb at.held q) (eqb at.held 0)
