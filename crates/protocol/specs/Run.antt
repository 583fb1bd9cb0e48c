-- The joint run: in each round every party sends, and then every party receives the words of all.
-- Assumes nothing.
use Rattle.std.specs.Prelude.{ℕ, zero, suc, ◌+◌, ◌*◌, cond, ◌&&◌, List, [], ◌∷◌, ◌++◌, take, drop}
use Rattle.algebra.specs.Ops.{Ops}
use Rattle.circuit.specs.Gate.{gate, gates}
use Rattle.circuit.specs.Kind.{receiver}
use Rattle.circuit.specs.Count.{unchecked}
use Rattle.circuit.specs.Round.{Round, coefficients_in, commits_in}
use Rattle.protocol.specs.Scratch.{scratch_size, band}
use Rattle.protocol.specs.Position.{Point, start, keep, when_sending}
use Rattle.protocol.specs.Send.{sent, holds, noted}
use Rattle.protocol.specs.Receive.{Blame, Nobody, Ruling, Passed, Stopped, passed, scored, next, finds, left}
use Rattle.protocol.specs.Entry.{releases}
use Rattle.protocol.specs.Joint.{Joint, joined, party, nonce_for}

-- all parties between two rounds: the point is common to them, the check share and the scratch are each party's own
pub record State : Type 0 where
  pub point : Point
  pub held : ℕ → ℕ
  pub scratch : ℕ → List ℕ
  -- how many coefficients are used up, and how many checks are begun
  pub used : ℕ
  pub checks : ℕ
  -- whom the round that stopped the run names
  pub blame : Blame

-- a run of some rounds: its words ("rounds in order, seats in order within"), its outputs, its number of rounds and where it ends
pub record Run : Type 0 where
  pub transcript : List ℕ
  pub outputs : List ℕ
  pub rounds : ℕ
  pub last : State

abbrev pub first_ruling : Ruling → Ruling → Ruling
first_ruling Passed v = v
first_ruling (Stopped b) v = Stopped b

-- how a round ends for n parties together: as the lowest of them tells whose own hearing stops the run
unfoldable pub lowest : ℕ → (ℕ → Ruling) → Ruling
lowest zero f = Passed
lowest (suc n) f = first_ruling (lowest n f) (f n)

abbrev pub blamed : Ruling → Blame
blamed Passed = Nobody
blamed (Stopped b) = b

module _ (O : Ops) (J : Joint) where
  -- "It lends each seat its own band of the scratch. Each band has exactly the length above, the excess lying at the end."
  unfoldable pub begun : List ℕ → State
  begun scratch =
      record {
        point = start J.circuit;
        held = λ i. 0;
        scratch = band (scratch_size J.parties J.circuit) scratch;
        used = 0;
        checks = 0;
        blame = Nobody;
      }

  -- how many coefficients round r takes
  unfoldable pub takes : State → Round → ℕ
  takes s r = coefficients_in (unchecked J.circuit s.point.gate) r

  -- those that it takes
  unfoldable pub taken : State → Round → List ℕ
  taken s r = take (takes s r) (drop s.used J.coefficients)

  -- the words of all parties in round r, in party order
  unfoldable pub said : State → Round → List ℕ
  said s r =
      joined J.parties
      (λ i. sent O (party J i) (s.scratch i) s.point.gate (s.held i) (taken s r) (nonce_for J s.checks i) r)

  -- party i's scratch once round r is sent
  unfoldable pub notes : State → Round → ℕ → List ℕ
  notes s r i = noted O (party J i) (s.scratch i) r (nonce_for J s.checks i)

  -- how the round ends
  unfoldable pub ends : State → Round → Ruling
  ends s r = lowest J.parties (λ i. finds O (party J i) (notes s r i) r (said s r))

  -- every party has sent and received round r
  unfoldable pub step : State → Round → State
  step s r =
      let heard = said s r in
      let v = ends s r in
      record {
        point = next J.circuit s.point.gate r v;
        held = λ i. keep r (holds O (party J i) (s.scratch i) s.point.gate r (taken s r));
        scratch = λ i. left O (party J i) v (notes s r i) s.point.gate r heard;
        used = s.used + takes s r;
        checks = s.checks + commits_in r;
        blame = blamed v;
      }

  -- the score that round r releases, if any: that of a give is the receiver's, "listed by the joint run at the line's turn"
  unfoldable pub released : State → Round → List ℕ
  released s r =
      let i = receiver (gate J.circuit s.point.gate) in
      cond (releases r && passed (ends s r))
      (scored O (party J i) (s.scratch i) s.point.gate ∷ []) []

  -- no round
  unfoldable pub still : State → Run
  still s = record { transcript = []; outputs = []; rounds = 0; last = s }

  -- round r, and then a run
  unfoldable pub ahead : State → Round → Run → Run
  ahead s r rest =
      record {
        transcript = said s r ++ rest.transcript;
        outputs = released s r ++ rest.outputs;
        rounds = suc rest.rounds;
        last = rest.last;
      }

  -- round after round until no party sends any more, k rounds at most
  unfoldable pub run : ℕ → State → Run
  run zero s = still s
  run (suc k) s = when_sending s.point.stage (still s) (λ r. ahead s r (run k (step s r)))

  -- no gate has more rounds than an output with two checks
  abbrev pub most_rounds : ℕ
  most_rounds = 5

  unfoldable pub whole : List ℕ → Run
  whole scratch = run (most_rounds * gates J.circuit) (begun scratch)
