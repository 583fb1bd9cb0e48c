-- What the code's types stand for.
-- Assumes nothing.
use Rattle.std.specs.Prelude.{ℕ, ◌<◌, ◌≡◌, List, Option, None, Some, Result, Ok, Err}
use Rattle.circuit.specs.Gate.{gates}
use Rattle.circuit.specs.Count.{prep_at, input_at, unchecked}
use Rattle.circuit.specs.Code.{round_of}
use Rattle.protocol.specs.Scratch as S
use Rattle.protocol.specs.Position as P
use Rattle.protocol.specs.Receive as R
use Rattle.protocol.specs.declared.Layout.{Layout}
use Rattle.protocol.specs.declared.Slot.{Slot}
use Rattle.protocol.specs.declared.Slot.TheVariants.{Share, Mac, Value, ValueMac}
use Rattle.protocol.specs.declared.Stage.{Stage}
use Rattle.protocol.specs.declared.Stage.TheVariants.{Send, Receive, Finished, Aborted}
use Rattle.protocol.specs.declared.Point.{Point}
use Rattle.protocol.specs.declared.Site.{Site}

unfoldable pub layout_of : Layout → S.Layout
layout_of y = record { gates = y.gates; capacity = y.capacity }

abbrev pub slot_of : Slot → S.Slot
slot_of (Share j) = S.Share j
slot_of (Mac j) = S.Mac j
slot_of (Value t) = S.Value t
slot_of (ValueMac t) = S.ValueMac t

abbrev pub stage_of : Stage → P.Stage
stage_of (Send r) = P.Send (round_of r)
stage_of (Receive r) = P.Receive (round_of r)
stage_of Finished = P.Finished
stage_of Aborted = P.Aborted

unfoldable pub point_of : Point → P.Point
point_of x = record { gate = x.gate; stage = stage_of x.stage }

-- where gate j's numbers stand: its record, the unchecked entries before it, the party's input for it
pub record Sited (c : List ℕ) (i : ℕ) (at : Site) : Type 0 where
  pub within : at.gate < gates c
  pub prep : at.prep ≡ prep_at c at.gate
  pub unchecked : at.unchecked ≡ unchecked c at.gate
  pub input : at.input ≡ input_at c i at.gate

-- whom a stop names, and how a round ends
unfoldable pub blame_of : Option ℕ → R.Blame
blame_of None = R.Nobody
blame_of (Some i) = R.Blames i

unfoldable pub ruling_of : Result Unit (Option ℕ) → R.Ruling
ruling_of (Ok passed) = R.Passed
ruling_of (Err b) = R.Stopped (blame_of b)
