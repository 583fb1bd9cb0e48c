-- Parties apart: each has its own position and its own scratch and calls its own three entries, as document 01's docks do. In each round the
-- words that all have written are received by all, in party order.
-- Assumes nothing.
use Rattle.std.specs.Prelude.{ℕ, zero, suc, ◌*◌, ◌<◌, ◌≤◌, ◌≡◌, Bool, cond, List, [], ◌∷◌, ◌++◌, length, take, drop, eqb}
use Rattle.algebra.specs.Ops.{Ops}
use Rattle.circuit.specs.Verdict.{Accepted, ask, ◌then◌, elements}
use Rattle.circuit.specs.Gate.{gate}
use Rattle.circuit.specs.Kind.{seen_by, alone, everyone}
use Rattle.circuit.specs.Round.{Round, is_commit, nonce_size, words, coefficient_count, check_count}
use Rattle.protocol.specs.Scratch.{scratch_size}
use Rattle.protocol.specs.Position.{Stage, Send, Receive, Finished, Aborted, Position, holding, aborted, when_sending, when_receiving}
use Rattle.protocol.specs.Party.{Party, party_of}
use Rattle.protocol.specs.Send.{sent, holds}
use Rattle.protocol.specs.Receive.{Nobody}
use Rattle.protocol.specs.Ask.{ask_lent}
use Rattle.protocol.specs.Entry.{Answer, Refusal, Next, Output, Abort, open_answer, send_answer, send_out, send_scratch, receive_answer, receive_scratch}
use Rattle.protocol.specs.Joint.{Joint, joined, nonce_for}
use Rattle.protocol.specs.Run.{State, begun, taken, released, run}
use Rattle.theorems.specs.Premises.{after}

-- what the parties bring: the lists of party i; and in round k the coefficients and the nonce that it is handed and the list that it lends for
-- its words
pub record Apart : Type 0 where
  pub parties : ℕ
  pub circuit : List ℕ
  pub prep : ℕ → List ℕ
  pub inputs : ℕ → List ℕ
  pub scratch : ℕ → List ℕ
  pub coefficients : ℕ → ℕ → List ℕ
  pub nonces : ℕ → ℕ → List ℕ
  pub out : ℕ → ℕ → List ℕ

-- what party i lends at every call
abbrev pub party_in : Apart → ℕ → Party
party_in D i = party_of D.parties i D.circuit (D.prep i) (D.inputs i)

-- one party between two calls: where it stands, its scratch, and the answers that it got, in order
pub record Local : Type 0 where
  pub position : Position
  pub scratch : List ℕ
  pub answers : List Answer

-- the position after an answer. On a refusal "the caller's place remains"
unfoldable pub moved : Position → Answer → Position
moved at (Refusal number index) = at
moved at (Next x) = x
moved at (Output v x) = x
moved at (Abort b x) = x

-- words that a call has written. "It writes nowhere": a refusal has none
unfoldable pub unless_refused : Answer → List ℕ → List ℕ
unless_refused (Refusal number index) ws = []
unless_refused (Next x) ws = ws
unless_refused (Output v x) ws = ws
unless_refused (Abort b x) ws = ws

-- the outputs among answers
unfoldable pub outputs_in : List Answer → List ℕ
outputs_in [] = []
outputs_in (Refusal number index ∷ rest) = outputs_in rest
outputs_in (Next x ∷ rest) = outputs_in rest
outputs_in (Output v x ∷ rest) = v ∷ outputs_in rest
outputs_in (Abort b x ∷ rest) = outputs_in rest

-- no answer is a refusal
abbrev pub Unrefused : List Answer → Type 0
Unrefused [] = Unit {0}
Unrefused (Refusal number index ∷ rest) = ⊥
Unrefused (Next x ∷ rest) = Unrefused rest
Unrefused (Output v x ∷ rest) = Unrefused rest
Unrefused (Abort b x ∷ rest) = Unrefused rest

module _ (O : Ops) (P : Party) where
  -- opening a run. A party that is refused has no position: it calls nothing, as at an ended one
  unfoldable pub opens : List ℕ → Local
  opens scratch =
      let a = open_answer O P scratch in
      record { position = moved (holding (aborted 0) 0) a; scratch = scratch; answers = a ∷ [] }

  -- at a sending half the party sends; elsewhere it does not
  unfoldable pub sends : List ℕ → List ℕ → List ℕ → Local → Local
  sends coefficients nonce out s =
      when_sending s.position.stage s
      (λ r.
      let a = send_answer O P s.scratch s.position coefficients nonce (length out) in
      record {
        position = moved s.position a;
        scratch = send_scratch O P s.scratch s.position coefficients nonce (length out);
        answers = s.answers ++ (a ∷ []);
      })

  -- the words that it writes then: as many as its round has, from the start of the list that it lends
  unfoldable pub writes : List ℕ → List ℕ → List ℕ → Local → List ℕ
  writes coefficients nonce out s =
      when_sending s.position.stage []
      (λ r.
      unless_refused (send_answer O P s.scratch s.position coefficients nonce (length out))
      (take (words (gate P.circuit s.position.gate) r) (send_out O P s.scratch s.position coefficients nonce out)))

  -- at a receiving half it receives the words of all; elsewhere it does not
  unfoldable pub receives : List ℕ → Local → Local
  receives heard s =
      when_receiving s.position.stage s
      (λ r.
      let a = receive_answer O P s.scratch s.position heard in
      record {
        position = moved s.position a;
        scratch = receive_scratch O P s.scratch s.position heard;
        answers = s.answers ++ (a ∷ []);
      })

module _ (O : Ops) (D : Apart) where
  -- what party i writes in round k, where s are all parties
  unfoldable pub written : ℕ → (ℕ → Local) → ℕ → List ℕ
  written k s i = writes O (party_in D i) (D.coefficients k i) (D.nonces k i) (D.out k i) (s i)

  -- the words of all, in party order
  unfoldable pub heard_in : ℕ → (ℕ → Local) → List ℕ
  heard_in k s = joined D.parties (written k s)

  -- round k: every party sends, and every party receives the words of all
  unfoldable pub round : ℕ → (ℕ → Local) → ℕ → Local
  round k s i = receives O (party_in D i) (heard_in k s) (sends O (party_in D i) (D.coefficients k i) (D.nonces k i) (D.out k i) (s i))

  -- all parties after k rounds, from their own openings on
  unfoldable pub apart : ℕ → ℕ → Local
  apart zero i = opens O (party_in D i) (D.scratch i)
  apart (suc k) i = round k (apart k) i

  -- the words of the first k rounds
  unfoldable pub spoken : ℕ → List ℕ
  spoken zero = []
  spoken (suc k) = spoken k ++ heard_in k (apart k)

-- the joint run of the same lists, joined in party order, on all coefficients in order of use and all nonces in order of checks
abbrev pub jointly : Apart → List ℕ → List ℕ → Joint
jointly D coefficients nonces =
    record {
      parties = D.parties;
      circuit = D.circuit;
      preps = joined D.parties D.prep;
      inputs = joined D.parties D.inputs;
      coefficients = coefficients;
      nonces = nonces;
    }

-- its scratch: of each party's as much as a band has
unfoldable pub bands : Apart → List ℕ
bands D = joined D.parties (λ i. take (scratch_size D.parties D.circuit) (D.scratch i))

-- what a party is told of a round in which the joint run releases outputs and then stands at x: the abort of a run that is aborted, which names
-- nobody, the output where one is released, and else the next position
unfoldable pub told_output : List ℕ → Position → Answer
told_output [] x = Next x
told_output (v ∷ vs) x = Output v x

unfoldable pub told_at : Stage → List ℕ → Position → Answer
told_at (Send r) outputs x = told_output outputs x
told_at (Receive r) outputs x = told_output outputs x
told_at Finished outputs x = told_output outputs x
told_at Aborted outputs x = Abort Nobody x

unfoldable pub told : List ℕ → Position → Answer
told outputs x = told_at x.stage outputs x

-- the score that the joint run releases in round r, if a party of A sees it
unfoldable pub released_to : Ops → Joint → (ℕ → Bool) → State → Round → List ℕ
released_to O J A s r = cond (seen_by A (gate J.circuit s.point.gate)) (released O J s r) []

-- those of the first k rounds
unfoldable pub outputs_to : Ops → Joint → List ℕ → (ℕ → Bool) → ℕ → List ℕ
outputs_to O J scratch A zero = []
outputs_to O J scratch A (suc k) =
    let s = after O J scratch k in
    outputs_to O J scratch A k ++ when_sending s.point.stage [] (released_to O J A s)

module _ (O : Ops) (D : Apart) (coefficients nonces : List ℕ) where
  open O use {size}

  -- the joint run after k rounds, and where it leaves party i
  abbrev pub the_joint : Joint
  the_joint = jointly D coefficients nonces

  abbrev pub place_of : ℕ → ℕ → Position
  place_of k i = holding (after O the_joint (bands D) k).point ((after O the_joint (bands D) k).held i)

  -- what is asked of the parties' lists: each passes its own questions; the coefficients and nonces of the joint run pass 16, 17 and 25, and each
  -- party is handed the coefficients of its round and, at a commitment, its own nonce; and the lists for the words hold them
  pub record Meets : Type 0 where
    pub some : 0 < D.parties
    pub lent : (i : ℕ) → i < D.parties → ask_lent size (party_in D i) (D.scratch i) ≡ Accepted
    pub enough :
        (ask 16 0 (eqb (length coefficients) (coefficient_count D.circuit))
        then elements 17 size coefficients
        then ask 25 0 (eqb (length nonces) (nonce_size * (D.parties * check_count D.circuit))))
        ≡ Accepted
    pub handed : (k i : ℕ) (r : Round)
        → i < D.parties
        → (after O the_joint (bands D) k).point.stage ≡ Send r
        → D.coefficients k i ≡ taken O the_joint (after O the_joint (bands D) k) r
    pub noncing : (k i : ℕ) (r : Round)
        → i < D.parties
        → (after O the_joint (bands D) k).point.stage ≡ Send r
        → D.nonces k i ≡ cond (is_commit r) (nonce_for the_joint (after O the_joint (bands D) k).checks i) []
    pub room : (k i : ℕ) (r : Round)
        → i < D.parties
        → (after O the_joint (bands D) k).point.stage ≡ Send r
        → words (gate D.circuit (after O the_joint (bands D) k).point.gate) r ≤ length (D.out k i)

  -- the parties apart are the joint run, whatever the preprocessing
  pub record Together : Type 0 where
    -- no call is refused, after any number of rounds
    pub unrefused : (k i : ℕ) → i < D.parties → Unrefused (apart O D k i).answers
    -- every party stands at the joint run's point with its own check share ..
    pub position : (k i : ℕ) → i < D.parties → (apart O D k i).position ≡ place_of k i
    -- .. has the joint run's band as its scratch, and beyond it what was there ..
    pub scratch : (k i : ℕ)
        → i < D.parties
        → (apart O D k i).scratch ≡ (after O the_joint (bands D) k).scratch i ++ drop (scratch_size D.parties D.circuit) (D.scratch i)
    -- .. and writes its part of the joint run's words
    pub words : (k i : ℕ) (r : Round)
        → i < D.parties
        → (after O the_joint (bands D) k).point.stage ≡ Send r
        → written O D k (apart O D k) i
        ≡ sent O (party_in D i) ((after O the_joint (bands D) k).scratch i) (after O the_joint (bands D) k).point.gate ((after O the_joint (bands D) k).held i)
        (D.coefficients k i) (D.nonces k i) r
    -- all together they write the joint run's transcript
    pub transcript : (k : ℕ) → spoken O D k ≡ (run O the_joint k (begun O the_joint (bands D))).transcript
    -- a round of the joint run is two answers at every party: the position to receive at; and then the output exactly where the joint run
    -- releases one that the party sees, the abort exactly where the joint run is aborted, and else the next position
    pub answers : (k i : ℕ) (r : Round)
        → i < D.parties
        → (after O the_joint (bands D) k).point.stage ≡ Send r
        → (apart O D (suc k) i).answers
        ≡ (apart O D k i).answers
        ++ (Next (record {
          gate = (after O the_joint (bands D) k).point.gate;
          stage = Receive r;
          held =
              holds O (party_in D i) ((after O the_joint (bands D) k).scratch i) (after O the_joint (bands D) k).point.gate r
              (D.coefficients k i);
        })
        ∷ told (released_to O the_joint (alone i) (after O the_joint (bands D) k) r) (place_of (suc k) i)
        ∷ [])
    -- and where the joint run has ended nothing is called
    pub over : (k i : ℕ)
        → i < D.parties
        → ((r : Round) → (after O the_joint (bands D) k).point.stage ≡ Send r → ⊥)
        → apart O D (suc k) i ≡ apart O D k i
    -- so the outputs of every party are those of the joint run that it sees, which lists all
    pub outputs : (k i : ℕ)
        → i < D.parties
        → outputs_in (apart O D k i).answers ≡ outputs_to O the_joint (bands D) (alone i) k
    pub listed : (k : ℕ) → outputs_to O the_joint (bands D) everyone k ≡ (run O the_joint k (begun O the_joint (bands D))).outputs
