-- What the theorems ask of a joint run's lists.
-- Assumes nothing.
use Rattle.std.specs.Prelude.{ℕ, zero, suc, ◌*◌, ◌≤◌, ◌≡◌, List, length, eqb}
use Rattle.algebra.specs.Ops.{Ops}
use Rattle.circuit.specs.Verdict.{Accepted, ask, ◌then◌, elements}
use Rattle.circuit.specs.Count.{in_count}
use Rattle.circuit.specs.Round.{nonce_size, check_count}
use Rattle.circuit.specs.Accept.{ask_circuit}
use Rattle.protocol.specs.Position.{when_sending}
use Rattle.protocol.specs.Scratch.{scratch_size}
use Rattle.protocol.specs.Ask.{ask_parties}
use Rattle.protocol.specs.Joint.{Joint}
use Rattle.protocol.specs.Run.{State, begun, step}
use Rattle.protocol.specs.Good.{Good}

-- the number of parties and the circuit "pass 1 and 3 to 7"
pub record Accepts (O : Ops) (n : ℕ) (c : List ℕ) : Type 0 where
  pub parties : ask_parties n ≡ Accepted
  pub circuit : ask_circuit n O.size c ≡ Accepted

-- inputs that "pass 10 and 11"
abbrev pub InputsPass : Ops → List ℕ → List ℕ → Type 0
InputsPass O c inputs = (ask 10 0 (eqb (length inputs) (in_count c)) then elements 11 O.size inputs) ≡ Accepted

-- the nonces and the scratch last for a whole run, as 25 and 12 make sure. Where they were shorter, a nonce or a mark would be cut off at
-- their end, and what a party reveals would not fit its mark
pub record Enough (J : Joint) (scratch : List ℕ) : Type 0 where
  pub nonces : nonce_size * (J.parties * check_count J.circuit) ≤ length J.nonces
  pub room : J.parties * scratch_size J.parties J.circuit ≤ length scratch

-- "With good material": a joint run of an accepted circuit on good preprocessing and accepted inputs. Of the coefficients nothing is asked,
-- of the nonces and of the starting scratch only that they are long enough
pub record Honest (O : Ops) (J : Joint) (scratch : List ℕ) : Type 0 where
  pub accepts : Accepts O J.parties J.circuit
  pub good : Good O J.parties J.circuit J.preps
  pub inputs : InputsPass O J.circuit J.inputs
  pub enough : Enough J scratch

-- the state after k rounds, or where the run ended before
unfoldable pub after : Ops → Joint → List ℕ → ℕ → State
after O J scratch zero = begun O J scratch
after O J scratch (suc k) =
    let s = after O J scratch k in
    when_sending s.point.stage s (step O J s)
