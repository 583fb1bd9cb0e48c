-- A run keeps the length of every party's scratch, so that the parties' parts of the joint scratch are what the run leaves them.
-- Assumes nothing.
use Prim.Native.Nat.{ℕ, zero, suc, ◌*◌, ◌<◌, ◌≤◌}
use mathlib.Core.Path.{◌≡◌, refl, ◌∙◌}
use mathlib.Core.List.{List}
use lib.ListN.{length}
use Rattle.algebra.specs.Ops.{Ops}
use Rattle.circuit.specs.Verdict.{Accepted}
use Rattle.circuit.specs.Round.{Round}
use Rattle.protocol.specs.Scratch.{scratch_size, band}
use Rattle.protocol.specs.Position.{Stage, Send, Receive, Finished, Aborted, when_sending}
use Rattle.protocol.specs.Entry.{leave}
use Rattle.protocol.specs.Joint.{Joint, joined}
use Rattle.protocol.specs.Run.{State, begun, notes, step, still, ahead, run, whole}
use Rattle.protocol.specs.JointEntry.{verdict, joint_scratch}
use Rattle.protocol.proofs.Lengths.{length_left, length_noted}
use Rattle.protocol.proofs.Words.{length_band, length_joined}
use Rattle.protocol.proofs.Bands.{band_front, band_joined}

module _ (O : Ops) where
  module _ (J : Joint) where
    -- A run keeps the length of each party's scratch.
    length_run : (k : ℕ) (s : State) (i : ℕ) → length ((run O J k s).last.scratch i) ≡ length (s.scratch i)
    unfolding run still
    length_run zero s i = refl
    length_run (suc k) s i = go s.point.stage (λ r. length_run k (step O J s r) i)
      where
        go : (p : Stage) → ((r : Round) → length ((run O J k (step O J s r)).last.scratch i) ≡ length ((step O J s r).scratch i))
            → length ((when_sending p (still O J s) (λ r. ahead O J s r (run O J k (step O J s r)))).last.scratch i) ≡ length (s.scratch i)
        go (Send r) later = unfold when_sending ahead step notes in later r ∙ length_left O _ _ _ _ r _ ∙ length_noted O _ _ r _
        go (Receive r) later = unfold when_sending in refl
        go Finished later = unfold when_sending in refl
        go Aborted later = unfold when_sending in refl

    -- A party's part of the joint scratch is what the run leaves it.
    pub band_left : (scratch t o : List ℕ) → J.parties * scratch_size J.parties J.circuit ≤ length scratch
        → verdict O J scratch t o ≡ Accepted
        → (i : ℕ)
        → i < J.parties
        → band (scratch_size J.parties J.circuit) (joint_scratch O J scratch t o) i ≡ (whole O J scratch).last.scratch i
    unfolding joint_scratch leave
    band_left scratch t o room e i l =
        rw e
        (band_front _ J.parties (joined J.parties (whole O J scratch).last.scratch) _ (length_joined _ _ _ lengths) i l
        ∙ band_joined _ J.parties _ lengths i l)
      where
        lengths : (i : ℕ) → i < J.parties → length ((whole O J scratch).last.scratch i) ≡ scratch_size J.parties J.circuit
        lengths i l = unfold whole begun in length_run _ (begun O J scratch) i ∙ length_band _ J.parties scratch room i l
