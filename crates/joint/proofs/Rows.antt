-- All parties in a row: what a round makes sure of for all of them.
-- Assumes nothing.
use Prim.Native.Nat.{ℕ, ◌+◌, ◌*◌, ◌<◌, ◌≤◌}
use mathlib.Core.List.{List}
use native.Mathlib.Omega.{arith}
use lib.ListN.{length}
use Rattle.circuit.specs.Gate.{gate_size}
use Rattle.circuit.specs.Round.{Round}
use Rattle.field.specs.Words.{size}
use Rattle.protocol.specs.Holding.{Below}
use Rattle.protocol.specs.Ready.{Receives, Hears}
use Rattle.protocol.proofs.Received.{hears}
use Rattle.protocol.specs.Scratch.{band}
use Rattle.protocol.specs.Joint.{Joint, party}
use Rattle.joint.specs.declared.Frame.{Frame}
use Rattle.joint.specs.Code.{Course, site_of, Going}
use Rattle.joint.proofs.Going.{within}

-- the gate of a round lies in the circuit
pub gate_fits : (J : Joint) (f : Frame) (s : Course) (r : Round) (held l : List ℕ) → Going J f s r held l → gate_size * s.point.gate + gate_size ≤ length J.circuit
gate_fits J f s r held l g = omega (arith, g.lent.valid.whole, within J f s r held l g)

-- words that are elements can be summed
pub all_hear : (J : Joint) (f : Frame) (s : Course) (r : Round) (heard l : List ℕ)
    → ((i : ℕ) → i < J.parties → Receives size (party J i) (band f.scratch l i) f.layout (site_of J.circuit s i) r heard)
    → Below size heard
    → 0 < J.parties
    → Hears size J.parties J.circuit s.point.gate r heard
unfolding site_of party
all_hear J f s r heard l asks low some = hears (party J 0) (band f.scratch l 0) f.layout (site_of J.circuit s 0) (asks 0 some) low
