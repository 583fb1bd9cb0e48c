-- What the code's types stand for.
-- Assumes nothing.
use Rattle.std.specs.Prelude.{ℕ, ◌≡◌, List}
use Rattle.circuit.specs.Gate as G
use Rattle.circuit.specs.Kind as K
use Rattle.circuit.specs.Count.{total, count, prep_at, input_at, unchecked}
use Rattle.circuit.specs.Round as R
use Rattle.circuit.specs.declared.Kind.{Kind}
use Rattle.circuit.specs.declared.Kind.TheVariants.{In, Add, Sub, Plus, Times, Mul, Out, Sq, Give, Over}
use Rattle.circuit.specs.declared.Class.{Class}
use Rattle.circuit.specs.declared.Class.TheVariants.{Local, Owned, Opens, Output}
use Rattle.circuit.specs.declared.Role.{Role}
use Rattle.circuit.specs.declared.Role.TheVariants.{Unused, Party, Wire, Constant, Divisor}
use Rattle.circuit.specs.declared.Check.{Check}
use Rattle.circuit.specs.declared.Check.TheVariants.{First, Second}
use Rattle.circuit.specs.declared.Round.{Round}
use Rattle.circuit.specs.declared.Round.TheVariants.{Own, Open, Commit, Reveal}
use Rattle.circuit.specs.declared.Shape.{Shape}
use Rattle.circuit.specs.declared.Tally.{Tally}
use Rattle.circuit.specs.declared.Totals.{Totals}

abbrev pub kind_of : Kind → G.Kind
kind_of In = G.In
kind_of Add = G.Add
kind_of Sub = G.Sub
kind_of Plus = G.Plus
kind_of Times = G.Times
kind_of Mul = G.Mul
kind_of Out = G.Out
kind_of Sq = G.Sq
kind_of Give = G.Give
kind_of Over = G.Over

abbrev pub class_of : Class → K.Class
class_of Local = K.Local
class_of Owned = K.Owned
class_of Opens = K.Opens
class_of Output = K.Output

abbrev pub role_of : Role → K.Role
role_of Unused = K.Unused
role_of Party = K.Party
role_of Wire = K.Wire
role_of Constant = K.Constant
role_of Divisor = K.Divisor

abbrev pub check_of : Check → R.Check
check_of First = R.First
check_of Second = R.Second

abbrev pub round_of : Round → R.Round
round_of Own = R.Own
round_of Open = R.Open
round_of (Commit k) = R.Commit (check_of k)
round_of (Reveal k) = R.Reveal (check_of k)

unfoldable pub shape_of : Shape → K.Shape
shape_of r =
    record {
      class = class_of r.class;
      prep = r.prep;
      openings = r.openings;
      words = r.words;
      first = role_of r.first;
      second = role_of r.second;
      constant = role_of r.constant;
    }

-- what is counted of the gates before j: where the record of gate j starts, all openings, the unchecked ones, and the inputs of party i
pub record Tallied (c : List ℕ) (i j : ℕ) (t : Tally) : Type 0 where
  pub prep : t.prep ≡ prep_at c j
  pub openings : t.openings ≡ total (λ g. (K.shape g).openings) c j
  pub unchecked : t.unchecked ≡ unchecked c j
  pub inputs : t.inputs ≡ input_at c i j

-- what a run of the gates before j takes: the numbers of a party's preprocessing, the opened entries, its in and out gates, the words of a
-- party, the coefficients and the checks
pub record Totalled (c : List ℕ) (j : ℕ) (t : Totals) : Type 0 where
  pub prep : t.prep ≡ prep_at c j
  pub openings : t.openings ≡ total (λ g. (K.shape g).openings) c j
  pub ins : t.ins ≡ count K.is_in c j
  pub outs : t.outs ≡ count K.is_out c j
  pub words : t.words ≡ R.over_run (λ i r. R.words (G.gate c i) r) c j
  pub coefficients : t.coefficients ≡ R.over_run (λ i r. R.coefficients_in (unchecked c i) r) c j
  pub checks : t.checks ≡ R.over_run (λ i r. R.commits_in r) c j
