-- What an honest run is given, in the form that proofs use.
-- Assumes nothing.
use Prim.Native.Nat.{ℕ, ◌<◌}
use mathlib.Core.Path.{◌≡◌}
use mathlib.Core.List.{List}
use native.Mathlib.Omega.{arith}
use borrow.Author.Tests.{leb-true}
use Rattle.algebra.specs.Ops.{Ops}
use Rattle.algebra.specs.Field.{Field}
use Rattle.circuit.specs.Verdict.{Accepted}
use Rattle.circuit.specs.Gate.{gate, gates}
use Rattle.circuit.specs.Kind.{shape}
use Rattle.circuit.specs.Count.{input_at, input_count}
use Rattle.circuit.specs.Valid.{Valid}
use Rattle.circuit.proofs.Tests.{both_left}
use Rattle.circuit.proofs.Verdicts.{ask_true, then_right, elements_below}
use Rattle.circuit.proofs.Valid.{valid}
use Rattle.protocol.specs.Party.{input_of}
use Rattle.protocol.specs.Ask.{ask_parties, fewest_parties}
use Rattle.protocol.specs.Joint.{Joint, inputs_at, party}
use Rattle.protocol.specs.Plain.{plain_input}
use Rattle.protocol.specs.Good.{Good, GoodRecord}
use Rattle.protocol.proofs.Said.{below_part}
use Rattle.theorems.specs.Premises.{Accepts, InputsPass, Honest}

-- an accepted circuit, at least one party, good records and inputs that are elements
pub record Given (O : Ops) (J : Joint) : Type 0 where
  pub valid : Valid J.parties O.size J.circuit
  pub some : 0 < J.parties
  pub good : (j : ℕ) → j < gates J.circuit → GoodRecord O J.parties J.circuit J.preps j (gate J.circuit j) (shape (gate J.circuit j)).class
  pub inputs : (j : ℕ) → O.norm (plain_input O J j) ≡ plain_input O J j

-- Where the number of parties is accepted there is a party.
pub some_party : (n : ℕ) → ask_parties n ≡ Accepted → 0 < n
unfolding ask_parties
some_party n e = omega (arith, leb-true fewest_parties n (both_left _ _ (ask_true 1 0 _ e)))

module _ {O : Ops} (F : Field O) (J : Joint) where
  -- Inputs that pass are elements.
  pub input_below : InputsPass O J.circuit J.inputs → (i j : ℕ) → input_of (party J i) j < O.size
  unfolding input_of party
  input_below pass i j =
      below_part J.inputs (input_count J.circuit i) (inputs_at J.circuit i)
      (elements_below 11 O.size J.inputs (omega (arith, F.one_lt)) (then_right _ _ pass)) (input_at J.circuit i j)

  pub input_normed : InputsPass O J.circuit J.inputs → (j : ℕ) → O.norm (plain_input O J j) ≡ plain_input O J j
  unfolding plain_input
  input_normed pass j = F.norm_of_lt (input_below pass (gate J.circuit j).first j)

  -- An accepted circuit on good preprocessing and inputs that pass is what an honest run is given.
  pub given : Accepts O J.parties J.circuit → Good O J.parties J.circuit J.preps → InputsPass O J.circuit J.inputs
      → Given O J
  given accepts good inputs =
      record {
        valid = valid J.parties O.size J.circuit accepts.circuit;
        some = some_party J.parties accepts.parties;
        good = good.records;
        inputs = input_normed inputs;
      }

  -- What the theorems call an honest run is given that too.
  pub given_honest : (scratch : List ℕ) → Honest O J scratch → Given O J
  given_honest scratch h = given h.accepts h.good h.inputs
