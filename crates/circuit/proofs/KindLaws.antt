-- What a class tells of a shape: one record of facts for each class, proved of every kind in one place. Laws elsewhere go by the class.
-- Assumes nothing.
use Prim.Native.Nat.{ℕ, zero, suc, ◌+◌, ◌*◌, ◌≤◌}
use mathlib.Core.Path.{◌≡◌, refl, ap, sym, subst, ◌∙◌}
use mathlib.Core.Bool.{Bool, true, false, cond, ◌&&◌}
use native.Mathlib.Omega.{arith}
use lib.Dec.{eqb}
use borrow.Author.Tests.{eqb-true, eq-eqb}
use Rattle.circuit.specs.Gate.{Kind, In, Add, Sub, Plus, Times, Mul, Out, Sq, Give, Over, Gate}
use Rattle.circuit.specs.Kind.{Class, Local, Owned, Opens, Output, Party, Wire, Shape, mask_size, kind_shape, shape, class_number, is_class, is_linear, is_in, is_out, is_give, seen_by, everyone, owned_by}
use Rattle.circuit.specs.Code.{class_of, role_of, shape_of}
use Rattle.circuit.proofs.Tests.{false_no, both_left, both_right}
use Rattle.circuit.specs.declared.Shape as code

pub record LocalFacts (s : Shape) : Type 0 where
  pub prep : s.prep ≡ 0
  pub openings : s.openings ≡ 0
  pub words : s.words ≡ 0
  pub first : s.first ≡ Wire

pub record OwnedFacts (s : Shape) : Type 0 where
  pub prep : s.prep ≡ 3
  pub openings : s.openings ≡ 0
  pub words : s.words ≡ 1
  pub first : s.first ≡ Party

pub record OpensFacts (s : Shape) : Type 0 where
  pub some : 1 ≤ s.openings
  pub few : s.openings ≤ 2
  pub words : s.words ≡ s.openings
  pub prep : s.prep ≡ 2 * s.openings + 2
  pub first : s.first ≡ Wire
  pub second : s.openings ≡ 2 → s.second ≡ Wire

pub record OutputFacts (s : Shape) : Type 0 where
  -- a mask for the party that its second names, or no record
  pub bare : eqb s.prep mask_size ≡ false → s.prep ≡ 0
  pub masked : eqb s.prep mask_size ≡ true → s.second ≡ Party
  pub low : s.prep ≤ mask_size
  pub openings : s.openings ≡ 0
  pub words : s.words ≡ 1
  pub first : s.first ≡ Wire

abbrev pub Facts : Class → Shape → Type 0
Facts Local s = LocalFacts s
Facts Owned s = OwnedFacts s
Facts Opens s = OpensFacts s
Facts Output s = OutputFacts s

-- the facts of every kind
pub facts : (k : Kind) → Facts (kind_shape k).class (kind_shape k)
unfolding kind_shape
facts In = record { prep = refl; openings = refl; words = refl; first = refl }
facts Add = record { prep = refl; openings = refl; words = refl; first = refl }
facts Sub = record { prep = refl; openings = refl; words = refl; first = refl }
facts Plus = record { prep = refl; openings = refl; words = refl; first = refl }
facts Times = record { prep = refl; openings = refl; words = refl; first = refl }
facts Mul = record { some = omega arith; few = omega arith; words = refl; prep = refl; first = refl; second = λ e. refl }
facts Out = record { bare = λ e. refl; masked = λ e. false_no e; low = omega arith; openings = refl; words = refl; first = refl }
facts Sq = record { some = omega arith; few = omega arith; words = refl; prep = refl; first = refl; second = λ e. absurd (omega (arith, e)) }
facts Give = record { bare = λ e. false_no (sym e); masked = λ e. refl; low = omega arith; openings = refl; words = refl; first = refl }
facts Over = record { prep = refl; openings = refl; words = refl; first = refl }

-- the class of a number
class_at : ℕ → Class
class_at zero = Local
class_at (suc zero) = Owned
class_at (suc (suc zero)) = Opens
class_at (suc (suc (suc n))) = Output

class_at_lem : (k : Class) → class_at (class_number k) ≡ k
unfolding class_at
class_at_lem Local = refl
class_at_lem Owned = refl
class_at_lem Opens = refl
class_at_lem Output = refl

-- a test of the class tells the class, and the class passes its test
pub is_class_lem : (k : Class) {h : Class} → is_class k h ≡ true → h ≡ k
unfolding is_class
is_class_lem k {h} e = sym (class_at_lem h) ∙ ap class_at (eqb-true (class_number h) (class_number k) e) ∙ class_at_lem k

pub class_is : {k h : Class} → h ≡ k → is_class k h ≡ true
unfolding is_class
class_is {k} e = ap (is_class k) e ∙ eq-eqb (class_number k) (class_number k) refl

-- what a class is not
module _ {h : Class} where
  pub local_no_in : h ≡ Local → is_class Owned h ≡ false
  unfolding is_class
  local_no_in = ap (is_class Owned)

  pub local_no_out : h ≡ Local → is_class Output h ≡ false
  unfolding is_class
  local_no_out = ap (is_class Output)

  pub owned_no_out : h ≡ Owned → is_class Output h ≡ false
  unfolding is_class
  owned_no_out = ap (is_class Output)

  pub opens_no_in : h ≡ Opens → is_class Owned h ≡ false
  unfolding is_class
  opens_no_in = ap (is_class Owned)

  pub opens_no_out : h ≡ Opens → is_class Output h ≡ false
  unfolding is_class
  opens_no_out = ap (is_class Output)

  pub output_no_in : h ≡ Output → is_class Owned h ≡ false
  unfolding is_class
  output_no_in = ap (is_class Owned)

module _ (g : Gate) where
  pub gate_facts : {k : Class} → (shape g).class ≡ k → Facts k (shape g)
  gate_facts e = subst (λ (k : Class). Facts k (shape g)) e (facts g.kind)

  pub local_facts : (shape g).class ≡ Local → LocalFacts (shape g)
  local_facts = gate_facts

  pub owned_facts : (shape g).class ≡ Owned → OwnedFacts (shape g)
  owned_facts = gate_facts

  pub opens_facts : (shape g).class ≡ Opens → OpensFacts (shape g)
  opens_facts = gate_facts

  pub output_facts : (shape g).class ≡ Output → OutputFacts (shape g)
  output_facts = gate_facts

-- a give is an output with a mask, for the party that it names second; an out has no record
module _ (g : Gate) where
  pub output_gives : (shape g).class ≡ Output → is_give g ≡ eqb (shape g).prep mask_size
  unfolding is_give
  output_gives e = rw (class_is e)

  pub give_output : is_give g ≡ true → (shape g).class ≡ Output
  unfolding is_give
  give_output e = is_class_lem Output (both_left (is_out g) (eqb (shape g).prep mask_size) e)

  pub give_prep : is_give g ≡ true → (shape g).prep ≡ mask_size
  unfolding is_give
  give_prep e = eqb-true (shape g).prep mask_size (both_right (is_out g) (eqb (shape g).prep mask_size) e)

  pub give_second : is_give g ≡ true → (shape g).second ≡ Party
  give_second e = (output_facts g (give_output e)).masked (sym (output_gives (give_output e)) ∙ e)

  pub bare_prep : (shape g).class ≡ Output → is_give g ≡ false → (shape g).prep ≡ 0
  bare_prep k e = (output_facts g k).bare (sym (output_gives k) ∙ e)

  pub no_give : is_out g ≡ false → is_give g ≡ false
  unfolding is_give
  no_give e = rw e

  -- everyone sees every score
  pub everyone_sees : seen_by everyone g ≡ true
  unfolding seen_by
  everyone_sees = either (is_give g)
    where
      either : (b : Bool) → cond b true true ≡ true
      either true = refl
      either false = refl

-- a linear gate has no record, opens nothing and is nobody's
pub record Idle (g : Gate) : Type 0 where
  pub prep : (shape g).prep ≡ 0
  pub openings : (shape g).openings ≡ 0
  pub no_in : is_in g ≡ false
  pub nobody : (i : ℕ) → owned_by i g ≡ false
  pub no_out : is_out g ≡ false

pub idle : (g : Gate) → is_linear g ≡ true → Idle g
unfolding owned_by
idle g e =
    let k : (shape g).class ≡ Local = is_class_lem Local e in
    record {
      prep = (local_facts g k).prep;
      openings = (local_facts g k).openings;
      no_in = local_no_in k;
      nobody = λ i. rw (local_no_in k);
      no_out = local_no_out k;
    }

-- the longest record, the most openings and the most words of a kind
pub record Low (s : Shape) : Type 0 where
  pub prep : s.prep ≤ 6
  pub openings : s.openings ≤ 2
  pub words : s.words ≤ 2

pub facts_low : (k : Class) (s : Shape) → Facts k s → Low s
facts_low Local s f = record { prep = omega (arith, f.prep); openings = omega (arith, f.openings); words = omega (arith, f.words) }
facts_low Owned s f = record { prep = omega (arith, f.prep); openings = omega (arith, f.openings); words = omega (arith, f.words) }
facts_low Opens s f = record { prep = omega (arith, f.prep, f.few); openings = f.few; words = omega (arith, f.words, f.few) }
facts_low Output s f = record { prep = omega (arith, f.low); openings = omega (arith, f.openings); words = omega (arith, f.words) }

pub kind_low : (k : Kind) → Low (kind_shape k)
kind_low k = facts_low (kind_shape k).class (kind_shape k) (facts k)

pub shape_low : (g : Gate) → Low (shape g)
shape_low g = kind_low g.kind

-- what the code's shape of a kind says
module _ (r : code.Shape) (k : Kind) (e : shape_of r ≡ kind_shape k) where
  pub shape_class : class_of r.class ≡ (kind_shape k).class
  unfolding shape_of
  shape_class = ap (λ (s : Shape). s.class) e

  pub shape_constant : role_of r.constant ≡ (kind_shape k).constant
  unfolding shape_of
  shape_constant = ap (λ (s : Shape). s.constant) e

  pub shape_prep : r.prep ≡ (kind_shape k).prep
  unfolding shape_of
  shape_prep = ap (λ (s : Shape). s.prep) e

  pub shape_openings : r.openings ≡ (kind_shape k).openings
  unfolding shape_of
  shape_openings = ap (λ (s : Shape). s.openings) e

  pub shape_words_lem : r.words ≡ (kind_shape k).words
  unfolding shape_of
  shape_words_lem = ap (λ (s : Shape). s.words) e

  pub shape_small : (r.prep ≤ 6) × (r.openings ≤ 2) × (r.words ≤ 2)
  shape_small = (rw shape_prep (kind_low k).prep, rw shape_openings (kind_low k).openings, rw shape_words_lem (kind_low k).words)

-- and of a gate that it is a give
pub shape_gives : (r : code.Shape) (g : Gate) → shape_of r ≡ shape g → {b : Bool} → b ≡ (is_class Output (class_of r.class) && eqb r.prep mask_size) → b ≡ is_give g
unfolding is_give
shape_gives r g e h = h ∙ rw (shape_class r g.kind e, shape_prep r g.kind e)
