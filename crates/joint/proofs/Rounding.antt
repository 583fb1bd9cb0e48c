-- One round of all parties: where its words stand in the transcript, what receiving them asks, and what the round leaves.
-- Assumes nothing.
use Prim.Native.Nat.{ℕ, ◌+◌, ◌-◌, ◌*◌, ◌<◌, ◌≤◌}
use mathlib.Core.Path.{◌≡◌, refl, sym, ap, subst, ◌∙◌}
use mathlib.Core.Bool.{true, false}
use mathlib.Core.List.{List, ◌++◌}
use native.Mathlib.Nat.{add-sub_cancel_left}
use native.Mathlib.Omega.{arith}
use lib.ListN.{length, get_or, take, drop, length-append, length-drop}
use lib.Seq.{length-take-le, take_at, drop_at, drop-drop}
use borrow.Rule.Slice.PartMut.{put_mid}
use Rattle.algebra.specs.Element.{Is}
use Rattle.field.specs.Words.{size, ops}
use Rattle.field.proofs.Laws.{laws}
use Rattle.circuit.specs.Gate.{gate_size, gate}
use Rattle.circuit.specs.Count.{prep_at}
use Rattle.circuit.specs.Round.{Round, is_commit, words, commits_in}
use Rattle.protocol.specs.Scratch.{band, written_at}
use Rattle.protocol.specs.Party.{Party}
use Rattle.protocol.specs.Position.{Send}
use Rattle.protocol.specs.Send.{noted}
use Rattle.protocol.specs.Receive.{Nobody, passed, left}
use Rattle.protocol.specs.Ready.{Ready, HeardLow, Receives}
use Rattle.protocol.specs.Ask.{most_parties}
use Rattle.protocol.specs.Joint.{Joint, joined, party, nonce_for}
use Rattle.protocol.specs.Run.{blamed, takes, taken, said, notes, step}
use Rattle.protocol.proofs.Keeping.{ready_stood}
use Rattle.protocol.proofs.Tails.{length_written, written_is}
use Rattle.protocol.proofs.Lengths.{length_left, length_noted}
use Rattle.protocol.proofs.Words.{length_band, length_joined}
use Rattle.protocol.proofs.Bands.{band_front, band_joined}
use Rattle.protocol.proofs.Said.{sent_low}
use Rattle.joint.specs.declared.Frame.{Frame}
use Rattle.joint.specs.Code.{Course, site_of, state_of, received_in, rebanded, Moving, Moved}
use Rattle.joint.proofs.Parties.{undrawn, party_undrawn}
use Rattle.joint.proofs.Going.{heard_long, ends_in, next_in}
use Rattle.joint.proofs.Rows.{gate_fits}

-- a part of a list that comes back as ws holds ws, and the list is as long as before
module _ (t ws : List ℕ) (a m : ℕ) (fits : a + m ≤ length t) (len : length ws ≡ m) where
  pub part_again : take (a + m - a) (drop a (put_mid a (a + m - a) t ws)) ≡ ws
  part_again =
      rw (add-sub_cancel_left a m, drop_at (take a t) (ws ++ drop m (drop a t)) a (length-take-le a t (omega arith)), take_at ws (drop m (drop a t)) m len)

  pub put_written : put_mid a (a + m - a) t ws ≡ written_at a ws t
  put_written =
      let z : put_mid a (a + m - a) t ws ≡ take a t ++ (ws ++ drop (a + length ws) t) = rw (add-sub_cancel_left a m, drop-drop m a t, len) in
      z ∙ sym (written_is a ws t (omega (arith, len)))

-- a part of a list is as long as its ends say
pub part_long : (a m : ℕ) (t : List ℕ) → a + m ≤ length t → length (take (a + m - a) (drop a t)) ≡ m
part_long a m t h = rw (add-sub_cancel_left a m) (length-take-le m (drop a t) (simp length-drop (omega arith)))

-- the transcript t once ws are put where a run stands, in a part m numbers long, and that part then
abbrev pub sent_at : Course → ℕ → List ℕ → List ℕ → List ℕ
sent_at s m t ws = put_mid s.written (s.written + m - s.written) t ws

abbrev pub heard_at : Course → ℕ → List ℕ → List ℕ → List ℕ
heard_at s m t ws = take (s.written + m - s.written) (drop s.written (sent_at s m t ws))

module _ {J : Joint} {f : Frame} {s : Course} {r : Round} {held l t : List ℕ} (u : Moving J f s r held l t) where
  -- the words of all in this round
  abbrev pub said_here : List ℕ
  said_here = said ops J (state_of f s held l) r

  pub round_gate : gate_size * s.point.gate + gate_size ≤ length J.circuit
  round_gate = gate_fits J f s r held l u.going

  -- they are elements where that is asked, and as many as the round has
  pub said_long : length said_here ≡ J.parties * words (gate J.circuit s.point.gate) r
  said_long = heard_long J f s r held l u.going

  pub said_low : HeardLow size J.parties r said_here
  unfolding said state_of site_of party
  said_low =
      sent_low laws J.parties s.point.gate (party J) (band f.scratch l) (λ i. get_or held i 0) (λ i. taken ops J (state_of f s held l) r) (nonce_for J s.checks) r
      (λ i h. ready_stood (u.going.ready i h)) u.going.held_low

  -- so all can receive them
  pub said_received : (i : ℕ) → i < J.parties → Receives size (party (undrawn J) i) (band f.scratch l i) f.layout (site_of J.circuit s i) r said_here
  unfolding site_of party
  said_received i h =
      record {
        ready = subst (λ (P : Party). Ready size P (band f.scratch l i) f.layout (site_of J.circuit s i) r) (party_undrawn J i) (u.going.ready i h);
        whole = said_long;
        heard_low = said_low;
      }

  -- they stand in a part of the transcript, m numbers long
  module _ {m : ℕ} (m-is : m ≡ J.parties * words (gate J.circuit s.point.gate) r) where
    pub round_end : s.written + m ≤ length t
    round_end = rw m-is u.words_fit

    pub round_room : length (take (s.written + m - s.written) (drop s.written t)) ≡ J.parties * words (gate J.circuit s.point.gate) r
    round_room = part_long s.written m t round_end ∙ m-is

    -- the parties have sent: ws came back
    module _ {ws : List ℕ} (d : ws ≡ said_here) where
      whole : length ws ≡ m
      whole = ap length d ∙ said_long ∙ sym m-is

      pub heard_is : heard_at s m t ws ≡ said_here
      heard_is = part_again t ws s.written m round_end whole ∙ d

      pub sent_to : sent_at s m t ws ≡ written_at s.written said_here t
      sent_to = put_written t ws s.written m round_end whole ∙ ap (λ (x : List ℕ). written_at s.written x t) d

      pub round_long : length (sent_at s m t ws) ≡ length t
      round_long = ap length sent_to ∙ length_written s.written said_here t

      pub round_receives : (i : ℕ) → i < J.parties → Receives size (party (undrawn J) i) (band f.scratch l i) f.layout (site_of J.circuit s i) r (heard_at s m t ws)
      round_receives i h = rw heard_is (said_received i h)

  -- what a round that is no commitment leaves of each band, where it stops the run and where it does not
  module _ (e : is_commit r ≡ false) where
    pub received_step : passed (ends_in J f s r held l u.going) ≡ true → (i : ℕ) → i < J.parties
        → received_in f (undrawn J) s.point.gate l r said_here i ≡ (step ops J (state_of f s held l) r).scratch i
    unfolding step notes noted left state_of party
    received_step z i h = rw (e, z)

    pub stopped_step : passed (ends_in J f s r held l u.going) ≡ false → (i : ℕ) → i < J.parties
        → band f.scratch l i ≡ (step ops J (state_of f s held l) r).scratch i
    unfolding step notes noted left state_of
    stopped_step z i h = rw (e, z)

  -- the parties have received: the bands are F i, and those of the definition
  module _ (F : ℕ → List ℕ) (same : (i : ℕ) → i < J.parties → F i ≡ (step ops J (state_of f s held l) r).scratch i) {l' : List ℕ} (el : l' ≡ rebanded f F l) where
    lengths : (i : ℕ) → i < J.parties → length (F i) ≡ f.scratch
    unfolding step notes state_of
    lengths i h =
        ap length (same i h)
        ∙ length_left ops (party J i) _ _ s.point.gate r _
        ∙ length_noted ops (party J i) (band f.scratch l i) r _
        ∙ length_band f.scratch J.parties l u.going.room i h

    front : length (joined J.parties F) ≡ J.parties * f.scratch
    front = length_joined J.parties f.scratch F lengths

    left_is : l' ≡ joined J.parties F ++ drop (J.parties * f.scratch) l
    left_is = subst (λ (k : ℕ). l' ≡ joined k F ++ drop (k * f.scratch) l) u.going.lent.framed.parties el

    bands : (i : ℕ) → i < J.parties → band f.scratch l' i ≡ (step ops J (state_of f s held l) r).scratch i
    bands i h =
        ap (λ (z : List ℕ). band f.scratch z i) left_is
        ∙ band_front f.scratch J.parties _ (drop (J.parties * f.scratch) l) front i h
        ∙ band_joined f.scratch J.parties F lengths i h
        ∙ same i h

    -- what the round leaves, which names nobody
    pub round_moved : blamed (ends_in J f s r held l u.going) ≡ Nobody
        → {s' : Course} {held' t' : List ℕ}
        → s'.point ≡ next_in J f s r held l u.going
        → ((r' : Round) → s'.point.stage ≡ Send r' → s'.prep ≡ prep_at J.circuit s'.point.gate)
        → length held' ≡ most_parties
        → ((i : ℕ) → i < J.parties → Is size ((step ops J (state_of f s held l) r).held i) (get_or held' i 0))
        → s'.used ≡ s.used + takes ops J (state_of f s held l) r
        → s'.checks ≡ s.checks + commits_in r
        → t' ≡ written_at s.written said_here t
        → s'.written ≡ s.written + length said_here
        → s'.rounds ≡ s.rounds + 1
        → Moved J f s r held l t s' held' l' t'
    unfolding state_of
    round_moved eb ep er eight eh eu ec et ew en =
        record {
          alike =
              record {
                point = ep ∙ (unfold step in refl);
                held = λ i h. (eh i h).is;
                scratch = bands;
                used = eu ∙ (unfold step in refl);
                checks = ec ∙ (unfold step in refl);
                blame = sym eb ∙ (unfold step in refl);
              };
          prep_is = er;
          eight = eight;
          held_low = λ i h. (eh i h).below;
          long = ap length left_is ∙ rw (length-append, front, length-drop) (omega (arith, u.going.room));
          excess = ap (drop (J.parties * f.scratch)) left_is ∙ drop_at (joined J.parties F) (drop (J.parties * f.scratch) l) (J.parties * f.scratch) front;
          transcript = et;
          written = ew;
          rounds = en;
        }
