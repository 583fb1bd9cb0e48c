-- Demands 2 and 3 of parties apart: what each releases with good preprocessing, and what a set A of them sees.
-- Assumes nothing.
use Rattle.std.specs.Prelude.{ℕ, ◌<◌, ◌≡◌, Bool, true, List, length}
use Rattle.algebra.specs.Ops.{Ops}
use Rattle.circuit.specs.Gate.{gates}
use Rattle.circuit.specs.Kind.{alone}
use Rattle.circuit.specs.Count.{prep_size, input_count}
use Rattle.protocol.specs.Position.{holding, finished}
use Rattle.protocol.specs.Scratch.{band}
use Rattle.protocol.specs.Joint.{joined}
use Rattle.protocol.specs.Plain.{scores_seen}
use Rattle.protocol.specs.Good.{Good}
use Rattle.protocol.specs.Formula.{round_formula}
use Rattle.theorems.specs.Matching.{rule}
use Rattle.theorems.specs.Secrecy.{Compared}
use Rattle.theorems.specs.Apart.{Apart, party_in, outputs_in, apart, heard_in, jointly, Meets}

-- "each score is the circuit's value on the plain inputs": after the rounds of the formula every party is finished and has released the scores that
-- it sees, those of out gates and of the gives whose receiver it is
pub record Scored (O : Ops) (D : Apart) (coefficients nonces : List ℕ) : Type 0 where
  pub finishes : (i : ℕ) → i < D.parties → (apart O D (round_formula D.circuit) i).position ≡ holding (finished D.circuit) 0
  pub outputs : (i : ℕ)
      → i < D.parties
      → outputs_in (apart O D (round_formula D.circuit) i).answers ≡ scores_seen O (jointly D coefficients nonces) (alone i) (gates D.circuit)

-- the good preprocessing of all parties
abbrev pub GoodApart : Ops → Apart → Type 0
GoodApart O D = Good O D.parties D.circuit (joined D.parties D.prep)

-- demand 2 with good preprocessing
abbrev pub Scores : Ops → Type 0
Scores O = (D : Apart) (coefficients nonces : List ℕ) → Meets O D coefficients nonces → GoodApart O D → Scored O D coefficients nonces

-- the same parties on other inputs, with the preprocessing that the rule of secrecy matches with theirs; scratch, coefficients, nonces and
-- lists for words are alike
unfoldable pub matched : Ops → Apart → (ℕ → Bool) → (ℕ → List ℕ) → Apart
matched O D A inputs' =
    record {
      parties = D.parties;
      circuit = D.circuit;
      prep =
          band (prep_size D.circuit)
          (rule O D.parties D.circuit A (joined D.parties D.inputs) (joined D.parties inputs') (joined D.parties D.prep));
      inputs = inputs';
      scratch = D.scratch;
      coefficients = D.coefficients;
      nonces = D.nonces;
      out = D.out;
    }

-- what is asked: the two sets of inputs are as demand 3 compares them, and each party has as many of the second as it has in gates
pub record ComparedApart (O : Ops) (D : Apart) (A : ℕ → Bool) (inputs' : ℕ → List ℕ) : Type 0 where
  pub compared : Compared O D.parties D.circuit A (joined D.parties D.inputs) (joined D.parties inputs')
  pub counts : (i : ℕ) → i < D.parties → length (inputs' i) ≡ input_count D.circuit i

-- two runs apart that A cannot tell apart
pub record AlikeApart (O : Ops) (D D' : Apart) (A : ℕ → Bool) (coefficients nonces : List ℕ) : Type 0 where
  -- the second is not refused either
  pub meets : Meets O D' coefficients nonces
  -- A's parties lend the same lists ..
  pub parties : (i : ℕ) → i < D.parties → A i ≡ true → party_in D' i ≡ party_in D i
  -- .. in every round the words of all are the same ..
  pub words : (k : ℕ) → heard_in O D' k (apart O D' k) ≡ heard_in O D k (apart O D k)
  -- .. and so are, after any number of rounds, position, scratch and answers of A's parties
  pub locals : (k i : ℕ) → i < D.parties → A i ≡ true → apart O D' k i ≡ apart O D k i

-- demand 3 of parties apart. That the rule matches good preprocessing one for one is said of the joint run (`Secret`)
abbrev pub SecrecyApart : Ops → Type 0
SecrecyApart O =
    (D : Apart) (coefficients nonces : List ℕ) (A : ℕ → Bool) (inputs' : ℕ → List ℕ)
    → Meets O D coefficients nonces
    → GoodApart O D
    → ComparedApart O D A inputs'
    → AlikeApart O D (matched O D A inputs') A coefficients nonces
