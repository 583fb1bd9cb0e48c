-- What the code's parts stand for.
-- Assumes nothing.
use Rattle.std.specs.Prelude.{ℕ, ◌-◌, ◌<◌, ◌≡◌, List, get_or}
use Rattle.algebra.specs.Element.{Is}
use Rattle.algebra.specs.Sum.{sum}
use Rattle.field.specs.Words.{size, ops}
use Rattle.circuit.specs.Round.{Round}
use Rattle.protocol.specs.Part as A
use Rattle.protocol.specs.Scratch.{Layout, Value, read}
use Rattle.protocol.specs.Party.{Party}
use Rattle.protocol.specs.Receive.{next, finds, left}
use Rattle.protocol.specs.Code.{point_of, ruling_of}
use Rattle.steps.specs.declared.parts.Part.{Part}
use Rattle.steps.specs.declared.Ends.{Ends}
use Rattle.steps.specs.declared.Conclusion.{Conclusion}

-- the first k opened values, each times its coefficient
abbrev pub value_sum : Layout → List ℕ → ℕ → List ℕ → ℕ
value_sum y l k coefficients = sum ops k (λ t. ops.mul (get_or coefficients t 0) (read y l (Value t)))

-- the first k coefficients, each times the number at its place, summed up
abbrev pub weighed : List ℕ → List ℕ → ℕ → ℕ
weighed values coefficients k = sum ops k (λ t. ops.mul (get_or coefficients t 0) (get_or values t 0))

-- how many products a pass adds at most
abbrev pub pass_size : ℕ
pass_size = 1024

unfoldable pub part_of : Part → A.Part
part_of x = record { share = x.share; mac = x.mac }

-- both numbers of a part are elements
pub record Low (x : Part) : Type 0 where
  pub share : x.share < size
  pub mac : x.mac < size

-- what a function ensures of a part: it is v, and both its numbers are elements
pub record IsPart (v : A.Part) (x : Part) : Type 0 where
  pub is : part_of x ≡ v
  pub low : Low x

-- and of the first and the last of k words
pub record AreEnds (ws : List ℕ) (k : ℕ) (x : Ends ℕ) : Type 0 where
  pub first : Is size (get_or ws 0 0) x.first
  pub last : Is size (get_or ws (k - 1) 0) x.last

-- what receiving round r of gate j ensures: how the round ends, the point that follows, and the scratch, which is then l'
pub record Concludes (P : Party) (l : List ℕ) (j : ℕ) (r : Round) (heard : List ℕ) (x : Conclusion) (l' : List ℕ) : Type 0 where
  pub ruling : ruling_of x.ruling ≡ finds ops P l r heard
  pub point : point_of x.point ≡ next P.circuit j r (finds ops P l r heard)
  pub scratch : l' ≡ left ops P (finds ops P l r heard) l j r heard
