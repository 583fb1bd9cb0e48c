-- A round leaves what the next round asks.
-- Assumes nothing.
use Prim.Native.Nat.{ℕ, ◌+◌, ◌*◌, ◌<◌, ◌≤◌}
use mathlib.Core.Path.{◌≡◌, refl, sym, ap, ◌∙◌}
use mathlib.Core.Bool.{true, false}
use mathlib.Core.List.{List}
use native.Mathlib.Nat.{mul-add, mul_comm}
use native.Mathlib.Omega.{arith}
use lib.ListN.{length, get_or}
use Rattle.field.specs.Words.{ops, size}
use Rattle.field.proofs.Laws.{laws}
use Rattle.circuit.specs.Gate.{gate, gates}
use Rattle.circuit.specs.Count.{prep_at, unchecked}
use Rattle.circuit.specs.Round.{Round, is_commit, is_reveal, rounds, among, nonce_size, words, coefficients_in, commits_in, nonce_in}
use Rattle.circuit.proofs.Tests.{by_cases}
use Rattle.protocol.specs.Scratch.{band, scratch_size}
use Rattle.protocol.specs.Position.{Point, Send, keep, stage_occurs, may_hold}
use Rattle.protocol.specs.Send.{noted}
use Rattle.protocol.specs.Receive.{Ruling, passed, next, left}
use Rattle.protocol.specs.Code.{Sited}
use Rattle.protocol.specs.Ready.{Ready}
use Rattle.protocol.specs.Joint.{Joint, party, nonce_for}
use Rattle.protocol.specs.Run.{said, notes, ends, step}
use Rattle.protocol.proofs.Following.{Possible, next_possible, next_holds}
use Rattle.protocol.proofs.Points.{FitsStage}
use Rattle.protocol.proofs.Tails.{nonce_room}
use Rattle.protocol.proofs.Lengths.{length_noted}
use Rattle.protocol.proofs.Keeping.{Stood, Standing, ready_stood, noted_stood, received_stands, ready_next}
use Rattle.protocol.proofs.Words.{length_band}
use Rattle.protocol.proofs.Said.{length_said}
use Rattle.protocol.proofs.Marks.{ends_reveals}
use Rattle.joint.specs.declared.Frame.{Frame}
use Rattle.joint.specs.Code.{Course, site_of, state_of, Going, Moved}

module _ (J : Joint) (f : Frame) (s : Course) (r : Round) (held l : List ℕ) (g : Going J f s r held l) where
  -- the words of all in this round, how it ends, and where it leads
  abbrev pub heard_in : List ℕ
  heard_in = said ops J (state_of f s held l) r

  abbrev pub ends_in : Ruling
  ends_in = ends ops J (state_of f s held l) r

  abbrev pub next_in : Point
  next_in = next J.circuit s.point.gate r ends_in

  first : 0 < J.parties
  first = omega (arith, g.lent.some)

  -- the gate is there, and the round is one of its rounds
  pub within : s.point.gate < gates J.circuit
  unfolding site_of party
  within = (g.ready 0 first).sited.within

  pub occurs : among r (rounds J.circuit s.point.gate) ≡ true
  unfolding site_of party
  occurs = (g.ready 0 first).occurs

  -- each party has its whole scratch
  pub rooms : (i : ℕ) → i < J.parties → scratch_size J.parties J.circuit ≤ length (band f.scratch l i)
  unfolding site_of party
  rooms i h = (g.ready i h).room

  -- and at a commitment a nonce
  pub nonces_long : is_commit r ≡ true → (i : ℕ) → i < J.parties → length (nonce_for J s.checks i) ≡ nonce_size
  unfolding nonce_for commits_in
  nonces_long e i h =
      let z : nonce_size * (J.parties * (s.checks + 1)) ≤ length J.nonces = rw e at g.nonce_count in
      length_band nonce_size (J.parties * (s.checks + 1)) J.nonces (omega (arith, z)) (s.checks * J.parties + i)
      (omega (arith, mul-add J.parties s.checks 1, mul_comm s.checks J.parties))

  -- there are as many words as the round has
  pub heard_long : length heard_in ≡ J.parties * words (gate J.circuit s.point.gate) r
  unfolding state_of
  heard_long = length_said ops J (state_of f s held l) r occurs (λ i h. nonce_room J.parties J.circuit (rooms i h))

  -- only a reveal stops the run
  pub lawful : passed ends_in ≡ false → is_reveal r ≡ true
  lawful = ends_reveals ops J (state_of f s held l) r

  pub next_there : Possible J.circuit next_in
  next_there = next_possible J.circuit s.point.gate ends_in r occurs lawful within

  stood : (i : ℕ) → i < J.parties → Stood J.parties size J.circuit (band f.scratch l i) s.point.gate r
  unfolding site_of party
  stood i h = ready_stood (g.ready i h)

  -- a party that has sent still has what the round asks
  notes_stood : (i : ℕ) → i < J.parties → Stood J.parties size J.circuit (notes ops J (state_of f s held l) r i) s.point.gate r
  unfolding notes state_of party nonce_in
  notes_stood i h =
      by_cases (is_commit r)
      (λ e. noted_stood laws (party J i) (band f.scratch l i) s.point.gate heard_in r (nonce_for J s.checks i) (rw e (nonces_long e i h)) (stood i h))
      (λ e. unfold noted in rw e (stood i h))

  notes_long : (i : ℕ) → length (notes ops J (state_of f s held l) r i) ≡ length (band f.scratch l i)
  unfolding notes state_of
  notes_long i = length_noted ops (party J i) (band f.scratch l i) r (nonce_for J s.checks i)

  module _ {t : List ℕ} {s' : Course} {held' l' t' : List ℕ} (d : Moved J f s r held l t s' held' l' t') where
    -- where the round leads
    pub point_is : s'.point ≡ next_in
    unfolding state_of step
    point_is = d.alike.point

    gate_is : s'.point.gate ≡ next_in.gate
    gate_is = ap (λ (x : Point). x.gate) point_is

    -- which is a round of a gate, if it is one
    pub next_fits : (r' : Round) → next_in.stage ≡ Send r' → FitsStage J.circuit s'.point.gate (Send r')
    unfolding stage_occurs
    next_fits r' e = (omega (arith, gate_is, next_there.within), rw gate_is (rw e at next_there.occurs))

    -- the record of the next round's gate
    record_next : (r' : Round) → next_in.stage ≡ Send r' → s'.prep ≡ prep_at J.circuit s'.point.gate
    record_next r' e = d.prep_is r' (ap (λ (x : Point). x.stage) point_is ∙ e)

    sited : (r' : Round) → next_in.stage ≡ Send r' → (i : ℕ) → i < J.parties → Sited J.circuit i (site_of J.circuit s' i)
    unfolding site_of
    sited r' e i h =
        record {
          within = omega (arith, gate_is, next_there.within);
          prep = record_next r' e;
          unchecked = refl;
          input = refl;
        }

    left_is : (i : ℕ) → i < J.parties → band f.scratch l' i ≡ left ops (party J i) ends_in (notes ops J (state_of f s held l) r i) s.point.gate r heard_in
    unfolding state_of step
    left_is i h = d.alike.scratch i h

    stands : (i : ℕ) → i < J.parties → Standing size J.circuit (band f.scratch l i) (band f.scratch l' i) next_in
    unfolding party
    stands i h =
        let k = received_stands laws (party J i) (notes ops J (state_of f s held l) r i) s.point.gate heard_in r (notes_stood i h) heard_long ends_in in
        rw (left_is i h) (record { len = k.len ∙ notes_long i; stands = k.stands })

    ready_then : (r' : Round) → next_in.stage ≡ Send r' → (i : ℕ) → i < J.parties → Ready size (party J i) (band f.scratch l' i) f.layout (site_of J.circuit s' i) r'
    unfolding site_of party
    ready_then r' e i h =
        ready_next (party J i) (band f.scratch l i) (band f.scratch l' i) f.layout (site_of J.circuit s i) (site_of J.circuit s' i) r r' next_in (g.ready i h)
        (stands i h) next_there.occurs (sited r' e i h) gate_is e

    -- a check share is held where the next round is a reveal alone
    none_held_lem : (r' : Round) → next_in.stage ≡ Send r' → is_reveal r' ≡ false → (i : ℕ) → i < J.parties → get_or held' i 0 ≡ 0
    unfolding state_of step keep may_hold
    none_held_lem r' e n i h =
        let z : is_commit r ≡ false =
        sym (next_holds J.circuit s.point.gate ends_in r occurs lawful) ∙ ap may_hold e ∙ n in
        d.alike.held i h ∙ rw z

    -- what the next round asks, if there is one and the coefficients and nonces last
    pub going_next : (r' : Round) → next_in.stage ≡ Send r'
        → s'.used + coefficients_in (unchecked J.circuit s'.point.gate) r' ≤ length J.coefficients
        → nonce_size * (J.parties * (s'.checks + commits_in r')) ≤ length J.nonces
        → Going J f s' r' held' l'
    going_next r' e has_coefficient_count nonce_count =
        record {
          lent = g.lent;
          room = omega (arith, g.room, d.long);
          prep_is = record_next r' e;
          eight = d.eight;
          held_low = d.held_low;
          held_none = none_held_lem r' e;
          ready = ready_then r' e;
          has_coefficient_count = has_coefficient_count;
          coefficients_low = g.coefficients_low;
          nonce_count = nonce_count;
        }
