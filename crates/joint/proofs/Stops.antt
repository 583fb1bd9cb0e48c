-- The gates that a run comes to: which round is due there, and where the next one is.
-- Assumes nothing.
use Prim.Native.Nat.{ℕ, suc, ◌+◌, ◌-◌, ◌<◌, ◌≤◌}
use mathlib.Core.Path.{◌≡◌, refl, sym, ap, subst, ◌∙◌}
use mathlib.Core.Bool.{false}
use mathlib.Core.List.{List}
use native.Mathlib.Decide.{ℕ_discrete}
use native.Mathlib.Numerals.{add-one}
use native.Mathlib.Omega.{arith}
use lib.Dec.{ltb}
use borrow.Author.Tests.{lt-ltb, le-ltb, ltb-true, ltb-false, eq-eqb, ne_eqb}
use Rattle.circuit.specs.Gate.{gate, gates}
use Rattle.circuit.specs.Kind.{Class, Local, Owned, Opens, Output, shape, is_class, is_linear}
use Rattle.circuit.specs.Count.{unchecked}
use Rattle.circuit.specs.Round.{First, Own, Open, Commit, class_rounds, check_rounds}
use Rattle.circuit.proofs.Tests.{false_no, by_cases}
use Rattle.protocol.specs.Position.{finished, begin, reach, enter, resume}
use Rattle.protocol.proofs.Following.{enter_at, enter_end}
use Rattle.protocol.proofs.Points.{Reached, reached}
use Rattle.joint.specs.Code.{due_at, due_in, came_to}

-- the first round of a gate is due there
first_due : (c : List ℕ) (k u : ℕ) (h : Class) → is_class Local h ≡ false → begin c k (class_rounds u h) ≡ due_at k (due_in h u)
unfolding begin class_rounds check_rounds due_in is_class
first_due c k u Local e = false_no (sym e)
first_due c k u Owned e = refl
first_due c k u Opens e = refl
first_due c k u Output e = go (ℕ_discrete u 0)
  where
    go : Dec (u ≡ 0) → begin c k (class_rounds u Output) ≡ due_at k (due_in Output u)
    go (yes z) = rw (eq-eqb u 0 z)
    go (no z) = rw (ne_eqb u 0 z)

-- gates whose own round is due
pub own_in : (w : ℕ) → due_in Owned w ≡ Own
unfolding due_in
own_in w = refl

pub own_opens : (w : ℕ) → due_in Opens w ≡ Own
unfolding due_in
own_opens w = refl

-- a gate that is not linear, no in gate and opens no values is an output
pub must_output : (h : Class) → is_class Local h ≡ false → is_class Owned h ≡ false → is_class Opens h ≡ false → h ≡ Output
unfolding is_class
must_output Local e f g = false_no (sym e)
must_output Owned e f g = false_no (sym f)
must_output Opens e f g = false_no (sym g)
must_output Output e f g = refl

-- the point of a run that has come to gate k
module _ (c : List ℕ) (k w : ℕ) where
  pub came_in : k < gates c → came_to c k w ≡ due_at k (due_in (shape (gate c k)).class w)
  unfolding came_to
  came_in h = rw (lt-ltb k (gates c) h)

  pub came_end : gates c ≤ k → came_to c k w ≡ finished c
  unfolding came_to
  came_end h = rw (le-ltb k (gates c) h)

  -- by the gate's class
  pub came_own : k < gates c → {h : Class} → (shape (gate c k)).class ≡ h → due_in h w ≡ Own → came_to c k w ≡ due_at k Own
  came_own h cl e = came_in h ∙ ap (λ (x : Class). due_at k (due_in x w)) cl ∙ ap (due_at k) e

  module _ (h : k < gates c) (cl : (shape (gate c k)).class ≡ Output) where
    pub came_open : w ≡ 0 → came_to c k w ≡ due_at k Open
    unfolding due_in
    came_open z = came_in h ∙ rw (cl, eq-eqb w 0 z)

    pub came_commit : (w ≡ 0 → ⊥) → came_to c k w ≡ due_at k (Commit First)
    unfolding due_in
    came_commit z = came_in h ∙ rw (cl, ne_eqb w 0 z)

-- where the linear gates after gate j lead
module _ (c : List ℕ) (j : ℕ) (h : j < gates c) {stop : ℕ} (es : stop ≡ reach c (gates c - (j + 1)) (j + 1)) where
  stop_there : Reached c (j + 1) stop
  stop_there = subst (Reached c (j + 1)) (sym es) (reached c (gates c - (j + 1)) (j + 1) (omega arith))

  pub stop_within : stop ≤ gates c
  stop_within = stop_there.within

  pub stop_stands : stop < gates c → is_linear (gate c stop) ≡ false
  stop_stands = stop_there.stands

  pub resume_came : {w : ℕ} → w ≡ unchecked c stop → resume c (suc j) ≡ came_to c stop w
  unfolding resume
  resume_came {w} ew =
      ap (λ (k : ℕ). enter c (reach c (gates c - k) k)) (sym (add-one j))
      ∙ ap (enter c) (sym es)
      ∙ by_cases (ltb stop (gates c)) (λ z. here (ltb-true stop (gates c) z)) (λ z. over (ltb-false stop (gates c) z))
    where
      here : stop < gates c → enter c stop ≡ came_to c stop w
      here l = sym (enter_at c stop l ew refl) ∙ first_due c stop w (shape (gate c stop)).class (stop_stands l) ∙ sym (came_in c stop w l)

      over : gates c ≤ stop → enter c stop ≡ came_to c stop w
      over l = sym (enter_end c stop l) ∙ sym (came_end c stop w l)
