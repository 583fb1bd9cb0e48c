-- The joint run of parties' own lists gives each party its own lists back.
-- Assumes nothing.
use Prim.Native.Nat.{ℕ, zero, suc, ◌+◌, ◌*◌, ◌<◌, ◌≤◌}
use mathlib.Core.Path.{◌≡◌, refl, ◌∙◌}
use mathlib.Core.List.{List, ◌++◌}
use native.Mathlib.Decide.{ℕ_discrete}
use native.Mathlib.Omega.{arith}
use lib.ListN.{length, take, drop, length-append, length-drop}
use lib.Seq.{length-take-le, take_all, take-append-le, drop-append-le, drop_at}
use Rattle.algebra.specs.Ops.{Ops}
use Rattle.algebra.specs.Field.{Field}
use Rattle.circuit.specs.Verdict.{Accepted}
use Rattle.circuit.specs.Count.{prep_size, input_count}
use Rattle.circuit.specs.Accept.{ask_circuit}
use Rattle.circuit.specs.Valid.{Valid}
use Rattle.protocol.specs.Scratch.{scratch_size, band}
use Rattle.protocol.specs.Ask.{ask_parties, ask_lent}
use Rattle.protocol.proofs.Accepted.{Lends, lends}
use Rattle.protocol.specs.Joint.{joined, inputs_at, party}
use Rattle.protocol.proofs.Inputs.{starts_suc, starts_mono}
use Rattle.protocol.proofs.Words.{length_joined}
use Rattle.protocol.proofs.Bands.{band_joined}
use Rattle.theorems.specs.Apart.{Apart, party_in, jointly, bands}

-- lists as long as the parties' numbers of inputs
module _ (c : List ℕ) (f : ℕ → List ℕ) where
  -- Joined they end where the next party's inputs start.
  pub length_inputs : (n : ℕ) → ((i : ℕ) → i < n → length (f i) ≡ input_count c i) → length (joined n f) ≡ inputs_at c n
  unfolding joined inputs_at
  length_inputs zero e = refl
  length_inputs (suc n) e =
      length-append (joined n f) (f n) ∙ omega (arith, length_inputs n (λ i l. e i (omega arith)), e n (omega arith))

  -- A party's inputs among them are its own.
  pub inputs_joined : (n : ℕ) → ((i : ℕ) → i < n → length (f i) ≡ input_count c i) → (i : ℕ) → i < n
      → take (input_count c i) (drop (inputs_at c i) (joined n f)) ≡ f i
  unfolding joined
  inputs_joined zero e i l = absurd (omega arith)
  inputs_joined (suc n) e i l = go (ℕ_discrete i n) (inputs_joined n (λ j h. e j (omega arith)) i)
    where
      len : length (joined n f) ≡ inputs_at c n
      len = length_inputs n (λ j h. e j (omega arith))

      go : Dec (i ≡ n) → (i < n → take (input_count c i) (drop (inputs_at c i) (joined n f)) ≡ f i)
          → take (input_count c i) (drop (inputs_at c i) (joined n f ++ f n)) ≡ f i
      go (yes here) earlier =
          rw (here, drop_at (joined n f) (f n) (inputs_at c n) len) (take_all (input_count c n) (f n) (omega (arith, e n (omega arith))))
      go (no there) earlier =
          let b : inputs_at c i + input_count c i ≤ inputs_at c n = omega (arith, starts_suc c i, starts_mono c (suc i) n (omega arith)) in
          rw (
            drop-append-le (inputs_at c i) (joined n f) (f n) (omega (arith, len)),
            take-append-le (input_count c i) (drop (inputs_at c i) (joined n f)) (f n) (omega (arith, len, length-drop (inputs_at c i) (joined n f))),
          )
          (earlier (omega arith))

module _ {O : Ops} (F : Field O) (D : Apart) (coefficients nonces : List ℕ) (some : 0 < D.parties)
    (lent : (i : ℕ) → i < D.parties → ask_lent O.size (party_in D i) (D.scratch i) ≡ Accepted) where
  open O use {size}

  -- What each party's questions make sure of.
  pub passed : (i : ℕ) → i < D.parties → Lends size (party_in D i) (D.scratch i)
  passed i h = lends (omega (arith, F.one_lt)) (party_in D i) (D.scratch i) (lent i h)

  -- The number of parties and the circuit are accepted.
  pub circuit_accepted : ask_circuit D.parties size D.circuit ≡ Accepted
  circuit_accepted = (passed 0 some).circuit

  pub parties_accepted : ask_parties D.parties ≡ Accepted
  parties_accepted = (passed 0 some).parties

  pub circuit_valid : Valid D.parties size D.circuit
  circuit_valid = (passed 0 some).valid

  -- each list has its length
  pub prep_long : (i : ℕ) → i < D.parties → length (D.prep i) ≡ prep_size D.circuit
  prep_long i h = (passed i h).prep_long

  pub inputs_long : (i : ℕ) → i < D.parties → length (D.inputs i) ≡ input_count D.circuit i
  inputs_long i h = (passed i h).inputs_long

  pub scratch_long : (i : ℕ) → i < D.parties → scratch_size D.parties D.circuit ≤ length (D.scratch i)
  scratch_long i h = (passed i h).room

  -- Party i of the joint run is party i.
  pub party_is : (i : ℕ) → i < D.parties → party (jointly D coefficients nonces) i ≡ party_in D i
  unfolding party
  party_is i h =
      λ t.
      record {
        parties = D.parties;
        me = i;
        circuit = D.circuit;
        prep = band_joined (prep_size D.circuit) D.parties D.prep prep_long i h t;
        inputs = inputs_joined D.circuit D.inputs D.parties inputs_long i h t;
      }

  -- Its band is the front of the party's scratch.
  front_long : (i : ℕ) → i < D.parties → length (take (scratch_size D.parties D.circuit) (D.scratch i)) ≡ scratch_size D.parties D.circuit
  front_long i h = length-take-le (scratch_size D.parties D.circuit) (D.scratch i) (scratch_long i h)

  pub band_is : (i : ℕ) → i < D.parties → band (scratch_size D.parties D.circuit) (bands D) i ≡ take (scratch_size D.parties D.circuit) (D.scratch i)
  unfolding bands
  band_is i h = band_joined (scratch_size D.parties D.circuit) D.parties _ front_long i h

  pub bands_room : D.parties * scratch_size D.parties D.circuit ≤ length (bands D)
  unfolding bands
  bands_room =
      omega (arith, length_joined D.parties (scratch_size D.parties D.circuit) (λ i. take (scratch_size D.parties D.circuit) (D.scratch i)) front_long)
