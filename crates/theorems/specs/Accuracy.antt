-- Demand 2 for whole runs: accuracy, and how many rounds a run takes.
-- Assumes nothing.
use Rattle.std.specs.Prelude.{ℕ, ◌*◌, ◌<◌, ◌≤◌, ◌≡◌, true, List, length}
use Rattle.algebra.specs.Ops.{Ops}
use Rattle.algebra.specs.Sum.{sum}
use Rattle.circuit.specs.Gate.{gate, gates}
use Rattle.circuit.specs.Kind.{has_value}
use Rattle.circuit.specs.Count.{unchecked}
use Rattle.circuit.specs.Round.{opened_in, word_count}
use Rattle.protocol.specs.Scratch.{layout, wire, read, Value, ValueMac}
use Rattle.protocol.specs.Position.{finished, when_sending}
use Rattle.protocol.specs.Joint.{Joint}
use Rattle.protocol.specs.Run.{whole}
use Rattle.protocol.specs.Plain.{value, scores}
use Rattle.protocol.specs.Good.{whole_key}
use Rattle.protocol.specs.Formula.{round_formula, most_rounds_of_all}
use Rattle.theorems.specs.Premises.{after}

module _ (O : Ops) (J : Joint) (scratch : List ℕ) where
  open O use {mul}

  -- the key, and party i's scratch after k rounds
  abbrev pub the_key : ℕ
  the_key = whole_key O J.parties J.circuit J.preps

  abbrev pub scratch_after : ℕ → ℕ → List ℕ
  scratch_after k i = (after O J scratch k).scratch i

  -- how many entries are opened and unchecked after k rounds
  abbrev pub open_after : ℕ → ℕ
  open_after k =
      when_sending (after O J scratch k).point.stage 0 (opened_in (unchecked J.circuit (after O J scratch k).point.gate))

  pub record Accurate : Type 0 where
    -- "at every line and place": the shares of each gate worked out sum to its value on plain inputs ..
    pub shares : (k x : ℕ)
        → x < (after O J scratch k).point.gate
        → has_value (gate J.circuit x) ≡ true
        → sum O J.parties (λ i. (wire (layout J.circuit) (scratch_after k i) x).share) ≡ value O J x
    -- .. and "the MAC shares of a line sum to the key times its value"
    pub macs : (k x : ℕ)
        → x < (after O J scratch k).point.gate
        → has_value (gate J.circuit x) ≡ true
        → sum O J.parties (λ i. (wire (layout J.circuit) (scratch_after k i) x).mac) ≡ mul the_key (value O J x)
    -- opened values are alike at all parties ..
    pub opened_alike : (k t i : ℕ)
        → t < open_after k
        → i < J.parties
        → read (layout J.circuit) (scratch_after k i) (Value t) ≡ read (layout J.circuit) (scratch_after k 0) (Value t)
    -- .. and their MAC shares sum to the key times them
    pub opened_macs : (k t : ℕ)
        → t < open_after k
        → sum O J.parties (λ i. read (layout J.circuit) (scratch_after k i) (ValueMac t))
        ≡ mul the_key (read (layout J.circuit) (scratch_after k 0) (Value t))
    -- no check stops the run: it finishes
    pub finishes : (whole O J scratch).last.point ≡ finished J.circuit
    -- "each score is the circuit's value on the plain inputs", of out gates and of gives, whose receivers' scores are listed
    pub outputs : (whole O J scratch).outputs ≡ scores O J (gates J.circuit)
    -- "A run takes I + M + 5 × outs − 2 × (outs with nothing unchecked) rounds, at most 766", and one more for each sq gate; a give counts as an
    -- out
    pub rounds : (whole O J scratch).rounds ≡ round_formula J.circuit
    pub at_most : (whole O J scratch).rounds ≤ most_rounds_of_all
    -- the transcript's length
    pub words : length (whole O J scratch).transcript ≡ J.parties * word_count J.circuit
