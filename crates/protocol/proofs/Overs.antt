-- What the definitions of a run come to where a gate is an over gate: document 02's words; and that over and times undo each other.
-- Assumes nothing.
use Prim.Native.Nat.{ℕ, ◌<◌}
use mathlib.Core.Path.{◌≡◌, ap₂, ◌∙◌}
use mathlib.Core.List.{List}
use lib.ListN.{get_or}
use Rattle.algebra.specs.Ops.{Ops}
use Rattle.algebra.specs.Field.{Field, Inverses}
use Rattle.algebra.proofs.Inverse.{over_times, times_over}
use Rattle.circuit.specs.Gate.{Over, Gate}
use Rattle.circuit.specs.Kind.{kind_shape}
use Rattle.protocol.specs.Part.{Part, scale}
use Rattle.protocol.specs.Scratch.{Layout}
use Rattle.protocol.specs.Receive.{operand, linear, put_linear, after_linear}
use Rattle.protocol.specs.Plain.{kind_value, value_of}
use Rattle.protocol.specs.Over.{over, after_over, Undoes}
use Rattle.protocol.proofs.Writing.{Elements}

-- what a party works out
pub over_after : (O : Ops) (i key : ℕ) (y : Layout) (l : List ℕ) (j : ℕ) (g : Gate) → g.kind ≡ Over
    → after_linear O i key y l j g ≡ after_over O y l j g.first g.constant
unfolding after_linear put_linear linear operand kind_shape scale over after_over
over_after O i key y l j g e = rw e

-- and on plain inputs
pub over_value : (O : Ops) (input : ℕ) (vs : List ℕ) (g : Gate) → g.kind ≡ Over
    → value_of O input vs g ≡ O.mul (get_or vs g.first 0) (O.inv g.constant)
unfolding value_of kind_value operand kind_shape
over_value O input vs g e = rw e

-- a part by its share and its MAC share
made : ℕ → ℕ → Part
made s m = record { share = s; mac = m }

-- for a constant from 1 to p - 1 and a part of elements
pub undoes : {O : Ops} (F : Field O) (I : Inverses O) (k : ℕ) → 0 < k → k < O.size → (x : Part) → Elements O.size x → Undoes O k x
unfolding over scale made
undoes F I k low high x e =
    record {
      times_then_over =
          ap₂ made
          (over_times F I k low high x.share ∙ F.norm_of_lt e.share)
          (over_times F I k low high x.mac ∙ F.norm_of_lt e.mac);
      over_then_times =
          ap₂ made
          (times_over F I k low high x.share ∙ F.norm_of_lt e.share)
          (times_over F I k low high x.mac ∙ F.norm_of_lt e.mac);
    }
