-- An over gate in document 02's own words. The definitions of a run go by what a gate's constant is for; that they come to these where it is an
-- over gate is proved (`proofs/Overs.antt`).
-- Assumes nothing.
use Rattle.std.specs.Prelude.{ℕ, ◌≡◌, List}
use Rattle.algebra.specs.Ops.{Ops}
use Rattle.protocol.specs.Part.{Part, scale}
use Rattle.protocol.specs.Scratch.{Layout, wire, put_wire}

module _ (O : Ops) where
  open O use {mul, inv}

  -- "It multiplies share and MAC share alike by the constant's inverse."
  unfoldable pub over : ℕ → Part → Part
  over k x = record { share = mul (inv k) x.share; mac = mul (inv k) x.mac }

  -- what is written for gate j, which divides gate x by k
  unfoldable pub after_over : Layout → List ℕ → ℕ → ℕ → ℕ → List ℕ
  after_over y l j x k = put_wire y l j (over k (wire y l x))

  -- "undoes times by a constant from 1 to p − 1: the two in either order give the line's value again", at a party's share and MAC share
  pub record Undoes (k : ℕ) (x : Part) : Type 0 where
    pub times_then_over : over k (scale O k x) ≡ x
    pub over_then_times : scale O k (over k x) ≡ x
