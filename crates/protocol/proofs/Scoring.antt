-- The score of an output: what reading it asks, and that it is what is defined.
-- Assumes nothing.
use Prim.Native.Nat.{ℕ, ◌+◌, ◌*◌, ◌<◌, ◌≤◌}
use mathlib.Core.Path.{◌≡◌, ◌∙◌}
use mathlib.Core.Bool.{Bool, true}
use mathlib.Core.List.{List}
use native.Mathlib.Omega.{arith}
use lib.ListN.{length, drop}
use Rattle.algebra.specs.Ops.{Ops}
use Rattle.circuit.specs.Gate.{gate_size, gate}
use Rattle.circuit.specs.Kind.{is_give}
use Rattle.circuit.specs.Round.{Second, Round, Reveal}
use Rattle.protocol.specs.Scratch as S
use Rattle.protocol.specs.Party.{Party, record_in, record_of}
use Rattle.protocol.specs.Receive.{score, scored}
use Rattle.protocol.specs.Holding.{Below, Opened}
use Rattle.protocol.specs.Code.{layout_of}
use Rattle.protocol.specs.Ready.{Ready}
use Rattle.protocol.specs.declared.Layout.{Layout}
use Rattle.protocol.specs.declared.Site.{Site}
use Rattle.protocol.proofs.Readiness.{gate_there, mask_there, room_there, opened_there}

module _ {q : ℕ} (P : Party) (l : List ℕ) (y : Layout) (at : Site) (k : Ready q P l y at (Reveal Second)) where
  -- what reading the score of a gate asks
  pub score_asks :
      (gate_size * at.gate + gate_size ≤ length P.circuit)
      × (at.prep ≤ length P.prep)
      × (is_give (gate P.circuit at.gate) ≡ true → at.prep + 2 < length P.prep)
      × Below q P.prep
      × (S.slots_size (layout_of y) ≤ length l)
      × Opened q (layout_of y) l 0
  score_asks =
      let record_there = mask_there P l y at (Reveal Second) k in (
        gate_there P l y at (Reveal Second) k,
        record_there.0,
        record_there.1,
        k.prep_low,
        room_there P l y at (Reveal Second) k,
        opened_there P l y at (Reveal Second) k 0 (omega arith),
      )

-- what is read is the score that is defined
pub score_made : (O : Ops) (P : Party) (l : List ℕ) (y : Layout) (at : Site) (r : Round) → Ready O.size P l y at r
    → {give : Bool} {m : List ℕ} {s : ℕ}
    → give ≡ is_give (gate P.circuit at.gate)
    → m ≡ drop at.prep P.prep
    → s ≡ score O (layout_of y) l give m
    → s ≡ scored O P l at.gate
unfolding scored record_of record_in
score_made O P l y at r k eg em e = e ∙ rw (eg, em, k.lay, k.sited.prep)
