-- What a joint run is lent, and what of it each party gets.
-- Assumes nothing.
use Rattle.std.specs.Prelude.{ℕ, zero, suc, ◌+◌, ◌*◌, List, [], ◌++◌, take, drop}
use Rattle.circuit.specs.Count.{prep_size, input_count}
use Rattle.circuit.specs.Round.{nonce_size}
use Rattle.protocol.specs.Scratch.{band}
use Rattle.protocol.specs.Party.{Party}

-- "The joint run takes materials, inputs and scratch joined in seat order and all draws in order of use"; "The joint run takes the nonces in order
-- of checks, seats in order within." The scratch stands apart
pub record Joint : Type 0 where
  pub parties : ℕ
  pub circuit : List ℕ
  pub preps : List ℕ
  pub inputs : List ℕ
  pub coefficients : List ℕ
  pub nonces : List ℕ

-- the lists f 0, .., f (n - 1), joined in party order
unfoldable pub joined : ℕ → (ℕ → List ℕ) → List ℕ
joined zero f = []
joined (suc n) f = joined n f ++ f n

-- where party i's inputs start: after those of the parties before it
unfoldable pub inputs_at : List ℕ → ℕ → ℕ
inputs_at c zero = 0
inputs_at c (suc i) = inputs_at c i + input_count c i

-- party i with its preprocessing and its inputs
unfoldable pub party : Joint → ℕ → Party
party J i =
    record {
      parties = J.parties;
      me = i;
      circuit = J.circuit;
      prep = band (prep_size J.circuit) J.preps i;
      inputs = take (input_count J.circuit i) (drop (inputs_at J.circuit i) J.inputs);
    }

-- party i's nonce of check k
unfoldable pub nonce_for : Joint → ℕ → ℕ → List ℕ
nonce_for J k i = band nonce_size J.nonces (k * J.parties + i)
