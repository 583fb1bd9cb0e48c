-- What each party is lent of the lists of all.
-- Assumes nothing.
use Prim.Native.Nat.{ℕ, suc, ◌+◌, ◌*◌, ◌<◌, ◌≤◌}
use mathlib.Core.Path.{◌≡◌, refl}
use mathlib.Core.List.{List, []}
use native.Mathlib.Omega.{arith}
use lib.ListN.{length, get_or, drop, length-drop}
use lib.Seq.{length-take-le}
use Rattle.circuit.specs.Gate.{gate, gates}
use Rattle.circuit.specs.Kind.{shape}
use Rattle.circuit.specs.Count.{prep_at, prep_size, input_count}
use Rattle.circuit.proofs.Counts.{prep_within, prep_positive}
use Rattle.field.specs.Words.{size}
use Rattle.protocol.specs.Holding.{Below}
use Rattle.protocol.specs.Scratch.{band, scratch_size}
use Rattle.protocol.specs.Joint.{Joint, inputs_at, party}
use Rattle.joint.specs.declared.Frame.{Frame}
use Rattle.joint.specs.Code.{joint_of, Lent, prep_from, key_in, Prepared, Banded}
use Rattle.protocol.proofs.Words.{length_band}
use Rattle.protocol.proofs.Said.{below_part}
use Rattle.protocol.proofs.Inputs.{inputs_all, starts_suc, starts_mono}

-- Coefficients and nonces are no party's own.
abbrev pub undrawn : Joint → Joint
undrawn J = record { parties = J.parties; circuit = J.circuit; preps = J.preps; inputs = J.inputs; coefficients = []; nonces = [] }

pub party_undrawn : (J : Joint) (i : ℕ) → party J i ≡ party (undrawn J) i
unfolding party
party_undrawn J i = refl

pub lent_undrawn : {J : Joint} {f : Frame} → Lent J f → Lent (undrawn J) f
lent_undrawn h =
    record {
      framed = h.framed;
      some = h.some;
      few = h.few;
      valid = h.valid;
      preps_long = h.preps_long;
      preps_low = h.preps_low;
      inputs_long = h.inputs_long;
      inputs_low = h.inputs_low;
    }

module _ {J : Joint} {f : Frame} (h : Lent J f) (i : ℕ) (l : i < J.parties) where
  -- where party i's inputs end
  pub inputs_end : inputs_at J.circuit i + input_count J.circuit i ≤ length J.inputs
  inputs_end = omega (arith, starts_suc J.circuit i, starts_mono J.circuit (suc i) J.parties l, inputs_all h.valid, h.inputs_long)

  -- a party's parts are of elements, as many as there should be
  pub party_prep : length (party J i).prep ≡ prep_size J.circuit
  unfolding party
  party_prep = length_band (prep_size J.circuit) J.parties J.preps (omega (arith, h.preps_long)) i l

  pub party_prep_low : Below size (party J i).prep
  unfolding party band
  party_prep_low = below_part J.preps (prep_size J.circuit) (i * prep_size J.circuit) h.preps_low

  pub party_inputs : length (party J i).inputs ≡ input_count J.circuit i
  unfolding party
  party_inputs =
      length-take-le (input_count J.circuit i) (drop (inputs_at J.circuit i) J.inputs)
      (simp length-drop (omega (arith, inputs_end)))

  pub party_inputs_low : Below size (party J i).inputs
  unfolding party
  party_inputs_low = below_part J.inputs (input_count J.circuit i) (inputs_at J.circuit i) h.inputs_low

-- what the code cuts out of the lists of all is the party's
module _ {f : Frame} {c preps inputs coefficients nonces : List ℕ} (t : Lent (joint_of f.parties c preps inputs coefficients nonces) f) where
  pub lent_prepared : (a k : ℕ) → a + k ≤ f.prep → Prepared f preps a k
  lent_prepared a k h = record { long = rw t.framed.prep (omega (arith, t.preps_long)); low = t.preps_low; fits = h }

  pub lent_key : Prepared f preps 0 1
  unfolding prep_size
  lent_key = lent_prepared 0 1 (omega (arith, t.framed.prep, prep_positive c (gates c)))

  pub lent_banded : {l : List ℕ} → f.parties * f.scratch ≤ length l → Banded f l
  unfolding scratch_size
  lent_banded h = record { size = rw t.framed.lay (omega (arith, t.framed.scratch)); room = h }

  pub lent_keyed : (i : ℕ) → key_in f preps i ≡ get_or (party (joint_of f.parties c preps inputs coefficients nonces) i).prep 0 0
  unfolding party
  lent_keyed i = rw t.framed.prep

  -- a gate's record
  module _ {a j : ℕ} (e : a ≡ prep_at c j) (h : j < gates c) where
    pub lent_record : a + (shape (gate c j)).prep ≤ f.prep
    lent_record = omega (arith, e, t.framed.prep, prep_within c j h)

    pub lent_record_is : (i : ℕ) → prep_from f preps a i ≡ drop a (party (joint_of f.parties c preps inputs coefficients nonces) i).prep
    unfolding party
    lent_record_is i = rw t.framed.prep
