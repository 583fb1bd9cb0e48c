-- The questions of a whole call, one after another: what they come to, what their acceptance gives, and what an accepted call leaves.
-- Assumes nothing.
use Prim.Native.Nat.{ℕ, ◌+◌, ◌*◌, ◌<◌, ◌≤◌}
use mathlib.Core.Path.{◌≡◌, refl, sym, ap, subst, ◌∙◌}
use mathlib.Core.Bool.{Bool, true, cond, ◌&&◌}
use mathlib.Core.List.{List}
use native.Mathlib.Omega.{arith}
use Rattle.std.specs.Prelude.{Option, Some, None}
use lib.ListN.{length, drop}
use Rattle.field.specs.Words.{size, ops}
use Rattle.circuit.specs.Verdict.{Verdict, Accepted, ◌then◌}
use Rattle.circuit.specs.Gate.{gate_size, gate, gates}
use Rattle.circuit.specs.Kind.{is_give, seen_by, alone}
use Rattle.circuit.specs.Count.{unchecked}
use Rattle.circuit.specs.Round.{Round, rounds, among}
use Rattle.circuit.specs.declared.Round.{Round as Told}
use Rattle.protocol.specs.Scratch.{slots_size}
use Rattle.protocol.specs.Position as At
use Rattle.protocol.specs.Party.{Party}
use Rattle.protocol.specs.Send.{overwrite, sent, holds, noted}
use Rattle.protocol.specs.Receive.{Ruling, Passed, Stopped, score, next, finds, left}
use Rattle.protocol.specs.Holding.{Below, Opened}
use Rattle.protocol.specs.Code.{layout_of, stage_of, Sited}
use Rattle.protocol.specs.Ready.{Ready}
use Rattle.protocol.specs.declared.Stage as D
use Rattle.protocol.specs.declared.Layout.{Layout}
use Rattle.protocol.specs.declared.Site.{Site}
use Rattle.protocol.specs.Ask.{most_parties, ask_send_round, ask_receive_round, ask_send, ask_receive}
use Rattle.protocol.specs.Entry as E
use Rattle.party.specs.Code.{position_of, leads_to, Laid, Posed, place_of, LentTo, RoundAt, Sendable, Receivable}
use Rattle.party.specs.declared.Position.{Position}
use Rattle.circuit.proofs.Tests.{by_cases, both_left}
use Rattle.circuit.proofs.Loops.{then_assoc}
use Rattle.protocol.proofs.Answers.{release_second}
use Rattle.protocol.proofs.Scoring.{score_asks, score_made}
use Rattle.protocol.proofs.Accepted.{Lends, parties_few, gate_occurs, stage_occurs_lem, entries_fit, sends, receives}
use Rattle.protocol.proofs.Readiness.{lay_gates}
use Rattle.protocol.proofs.Tails.{slots_room}
use Rattle.party.proofs.Accepted.{positive, lends_here}
use Rattle.protocol.proofs.Entries.{asked, half_decides, sending_at_lem, receiving_at_lem, Sending, send_done, Receiving, receive_done}

-- all questions of a call: 1 to 13, and then those of its half
pub placed : (P : Party) (l : List ℕ) (at : At.Position) (half : Verdict) {v : Verdict} → v ≡ (place_of P l at then half) → v ≡ asked size P l at half
unfolding place_of
placed P l at half e = e ∙ then_assoc _ _ _

-- a stage at which nothing is sent, or nothing received
module _ {A : Type 0} (other : A) (f : Round → A) where
  pub sends_nothing : (s : D.Stage) → ((r : Told) → s ≡ D.Stage.Send r → ⊥) → other ≡ At.when_sending (stage_of s) other f
  unfolding At.when_sending
  sends_nothing (D.Stage.Send r) never = absurd (never r refl)
  sends_nothing (D.Stage.Receive r) never = refl
  sends_nothing D.Stage.Finished never = refl
  sends_nothing D.Stage.Aborted never = refl

  pub receives_nothing : (s : D.Stage) → ((r : Told) → s ≡ D.Stage.Receive r → ⊥) → other ≡ At.when_receiving (stage_of s) other f
  unfolding At.when_receiving
  receives_nothing (D.Stage.Send r) never = refl
  receives_nothing (D.Stage.Receive r) never = absurd (never r refl)
  receives_nothing D.Stage.Finished never = refl
  receives_nothing D.Stage.Aborted never = refl

-- what the code makes of a round's end is what is defined
leads_is : (P : Party) (j held : ℕ) (r : Round) {told : Bool} {output : Option ℕ} (w : ℕ) (v : Ruling)
    → told ≡ (E.releases r && seen_by (alone P.me) (gate P.circuit j))
    → output ≡ cond told (Some w) None
    → leads_to r held output v (next P.circuit j r v) ≡ E.concludes ops P w j held r v
unfolding leads_to E.concludes E.next_position
leads_is P j held r {told} w Passed e h = rw (h, ← e) (by_cases told (λ b. rw b) (λ b. rw b))
leads_is P j held r w (Stopped b) e h = refl

module _ (P : Party) (l : List ℕ) (y : Layout) (site : Site) where
  -- what question 13 asks
  pub can_asks : (j : ℕ) → LentTo P l y site j
      → (gate_size * y.gates ≤ length P.circuit) × (y.gates ≡ gates P.circuit) × (j < y.gates → site.unchecked ≡ unchecked P.circuit j)
  can_asks j h = (
    omega (arith, (lends_here P l h.accepted).valid.whole, count),
    count,
    λ less. subst (λ (k : ℕ). site.unchecked ≡ unchecked P.circuit k) h.here (h.sited (omega (arith, count))).unchecked,
  )
    where
      count : y.gates ≡ gates P.circuit
      count = lay_gates P.circuit y h.lay

  pub few_parties : (j : ℕ) → LentTo P l y site j → P.parties ≤ most_parties
  few_parties j h = parties_few size P l h.accepted

  -- where a score is told, the round is the second check's reveal, and the score can be read
  pub told_asks : {r : Round} {told : Bool} → Ready size P l y site r → told ≡ (E.releases r && seen_by (alone P.me) (gate P.circuit site.gate))
      → told ≡ true
      → (gate_size * site.gate + gate_size ≤ length P.circuit)
      × (site.prep ≤ length P.prep)
      × (is_give (gate P.circuit site.gate) ≡ true → site.prep + 2 < length P.prep)
      × Below size P.prep
      × (slots_size (layout_of y) ≤ length l)
      × Opened size (layout_of y) l 0
  told_asks {r} h e t = score_asks P l y site (rw (release_second r (both_left (E.releases r) _ (sym e ∙ t))) at h)

  module _ (at : Position) (h : RoundAt P l y site at) where
    lent : Lends size P l
    lent = lends_here P l h.lent.accepted

    there : Sited P.circuit P.me site
    unfolding position_of
    there = h.lent.sited (gate_occurs size P.circuit (position_of at) h.can)

    -- what questions 15 to 20 ask
    pub scratch_laid : Laid P.circuit l y
    scratch_laid = record { whole = lent.valid.whole; few = lent.valid.few; lay = h.lent.lay; room = slots_room P.parties P.circuit lent.room }

    pub round_asks : (r : Round) → Posed P.circuit site r
    round_asks r =
        record {
          within = there.within;
          waiting = there.unchecked;
          fits = entries_fit P.circuit site.gate r there.within;
        }

    module _ (r : Round) where
      stands : At.stage_occurs P.circuit at.gate (stage_of at.stage) ≡ true
      unfolding position_of
      stands = stage_occurs_lem size P.circuit (position_of at) h.can

      sending_occurs : stage_of at.stage ≡ At.Send r → among r (rounds P.circuit site.gate) ≡ true
      unfolding At.stage_occurs
      sending_occurs g = rw h.lent.here (rw g at stands)

      receiving_occurs : stage_of at.stage ≡ At.Receive r → among r (rounds P.circuit site.gate) ≡ true
      unfolding At.stage_occurs
      receiving_occurs g = rw h.lent.here (rw g at stands)

      -- all questions of a call, by those of its round
      module _ (g : stage_of at.stage ≡ At.Send r) (coefficients nonce : List ℕ) (room : ℕ) where
        pub send_asked : {v : Verdict} → v ≡ ask_send_round size P.circuit l site.gate coefficients nonce room r → v ≡ ask_send size P l (position_of at) coefficients nonce room
        unfolding position_of ask_send
        send_asked e =
            half_decides size P l (position_of at) _ h.lent.accepted h.can
            (e ∙ ap (λ (k : ℕ). ask_send_round size P.circuit l k coefficients nonce room r) h.lent.here ∙ sym (sending_at_lem (stage_of at.stage) r g _ _))

        pub sendable : ask_send_round size P.circuit l site.gate coefficients nonce room r ≡ Accepted → Sendable P l at coefficients nonce room y site r
        sendable e =
            record {
              here = h.lent.here;
              half = g;
              sends = sends positive P l y site r lent h.lent.lay there (sending_occurs g) at.held coefficients nonce room e;
            }

      module _ (g : stage_of at.stage ≡ At.Receive r) (heard : List ℕ) where
        pub receive_asked : {v : Verdict} → v ≡ ask_receive_round size P.circuit P.parties l site.gate heard r → v ≡ ask_receive size P l (position_of at) heard
        unfolding position_of ask_receive
        receive_asked e =
            half_decides size P l (position_of at) _ h.lent.accepted h.can
            (e ∙ ap (λ (k : ℕ). ask_receive_round size P.circuit P.parties l k heard r) h.lent.here ∙ sym (receiving_at_lem (stage_of at.stage) r g _ _))

        pub receivable : ask_receive_round size P.circuit P.parties l site.gate heard r ≡ Accepted → Receivable P l at heard y site r
        receivable e =
            record {
              here = h.lent.here;
              half = g;
              receives = receives positive P l y site r lent h.lent.lay there (receiving_occurs g) heard e;
            }

  -- an accepted call, once its step is done
  module _ (at : Position) (r : Round) where
    module _ (coefficients nonce out : List ℕ) (s : Sendable P l at coefficients nonce (length out) y site r) where
      pub sent_done : {held : ℕ} {later scratch : List ℕ} → ask_send size P l (position_of at) coefficients nonce (length out) ≡ Accepted
          → held ≡ holds ops P l site.gate r coefficients
          → later ≡ overwrite (sent ops P l site.gate at.held coefficients nonce r) out
          → scratch ≡ noted ops P l r nonce
          → Sending ops P l (position_of at) coefficients nonce out (E.Next (record { gate = at.gate; stage = At.Receive r; held = held })) later scratch
      unfolding position_of
      sent_done e i j k =
          send_done ops P l (position_of at) coefficients nonce out r e s.half
          (rw (i ∙ ap (λ (k : ℕ). holds ops P l k r coefficients) s.here) refl)
          (j ∙ ap (λ (k : ℕ). overwrite (sent ops P l k at.held coefficients nonce r) out) s.here) k

    module _ (heard : List ℕ) (s : Receivable P l at heard y site r) where
      pub received_done : {told : Bool} {output : Option ℕ} {v : Ruling} {x : At.Point} {a : E.Answer} {later : List ℕ} → ask_receive size P l (position_of at) heard ≡ Accepted
          → told ≡ (E.releases r && seen_by (alone P.me) (gate P.circuit site.gate))
          → output ≡ cond told (Some (score ops (layout_of y) l (is_give (gate P.circuit site.gate)) (drop site.prep P.prep))) None
          → v ≡ finds ops P l r heard
          → x ≡ next P.circuit site.gate r (finds ops P l r heard)
          → a ≡ leads_to r at.held output v x
          → later ≡ left ops P (finds ops P l r heard) l site.gate r heard
          → Receiving ops P l (position_of at) heard a later
      unfolding position_of E.outcome
      received_done {told} e t o w x a j =
          receive_done ops P l (position_of at) heard r e s.half
          (a ∙ rw (w, x, ← s.here) (leads_is P site.gate at.held r _ (finds ops P l r heard) t (o ∙ ap (λ (w : ℕ). cond told (Some w) None) (score_made ops P l y site r s.receives.ready refl refl refl))))
          (j ∙ ap (λ (k : ℕ). left ops P (finds ops P l r heard) l k r heard) s.here)
