-- A bracket that closes a form, as the machine and the code take it: the form is made, and its gate written, or it is one gate too many. And
-- the leaves, which are closed right after their number.
-- Assumes nothing.
use Prim.Native.Nat.{ℕ, ◌+◌, ◌*◌, ◌/◌, ◌≤◌, ◌<◌}
use mathlib.Core.Path.{◌≡◌, refl, sym, ap, ◌∙◌}
use mathlib.Core.Bool.{Bool, true, false, false≢true}
use mathlib.Core.List.{List, [], ◌++◌, append_assoc, append-nil}
use mathlib.Core.Option.{some}
use native.Mathlib.Omega.{arith}
use lib.ListN.{length, get_or, take, drop}
use lib.Dec.{eqb}
use borrow.Author.Tests.{eq-eqb}
use Rattle.circuit.specs.Gate.{gate_size}
use Rattle.circuit.specs.Accept.{most_gates}
use Rattle.field.specs.Words.{largest}
use Rattle.forms.specs.declared.Head.{Head}
use Rattle.forms.specs.declared.Sort.TheVariants.{Leaf}
use Rattle.forms.specs.Words.{sort, names, valued, outer, stands, line}
use Rattle.forms.specs.Form.{Form, leaf, head, gates_in, wire_of, flat, closing}
use Rattle.forms.specs.Refusals.{deepest}
use Rattle.forms.specs.Machine.{Frame, plain, whose, closed, at, digit, made, when, closed_numbered, step, read}
use Rattle.tokens.specs.Code.{is_at, known, gates_at, fits_as, Wanted, NumberIs, NumberDies}
use Rattle.tokens.proofs.Tables.{length_known, named_low, gate_at}
use Rattle.tokens.proofs.Numerals.{fits_at}
use Rattle.tokens.proofs.Onward.{at_inside, expected, calm}
use Rattle.std.specs.Prelude.{Result, Ok, Err}
use Rattle.circuit.specs.declared.questions.Refusal.{Refusal}
use Rattle.reader.specs.declared.Operand.{Operand}
use Rattle.reader.specs.Code.{Ready, Place, worded, gate, Made, Stopped, Told, Closes}
use Rattle.reader.proofs.Pushing.{line_as}
use Rattle.reader.proofs.Places.{calm_number, made_closed, made_open, too_many_lem, worded_leaf}

-- a name makes no gate and any other leaf one ---------------------------------------------------------------------------

module _ (values : List ℕ) (n : ℕ) (h : Head) (v : ℕ) where
  name_gates : names h ≡ true → gates_in (leaf h v) ≡ 0
  unfolding gates_in
  name_gates e = rw e

  own_gates : names h ≡ false → gates_in (leaf h v) ≡ 1
  unfolding gates_in
  own_gates e = rw e

  name_wire : names h ≡ true → wire_of values n (leaf h v) ≡ get_or values v 0
  unfolding wire_of
  name_wire e = rw e

  own_wire : names h ≡ false → wire_of values n (leaf h v) ≡ n
  unfolding wire_of
  own_wire e = rw e

  name_flat : names h ≡ true → flat values n (leaf h v) ≡ []
  unfolding flat
  name_flat e = rw e

  own_flat : names h ≡ false → flat values n (leaf h v) ≡ line h 0 0 v
  unfolding flat
  own_flat e = rw e

-- what names a row does not stand outermost
name_inside : (h : Head) (left : ℕ) → stands (eqb left deepest) h ≡ true → names h ≡ true → left ≡ deepest → ⊥
unfolding stands outer
name_inside h left s n e = false≢true (sym (rw (eq-eqb left deepest e, n)) ∙ s)

module _ (text table before : List ℕ) (from left count : ℕ) where
  -- reading comes from one place to another
  abbrev pub Comes : Place → Place → ℕ → Type 0
  Comes P S to = (rows : List Form) (stack : List Frame) → Ready table left count rows stack
      → read largest (P rows stack) (drop from text) from ≡ read largest (S rows stack) (drop to text) to

  -- the bracket of a form with a gate, at a place from which it makes the form, behind the gates of the forms in it
  pub closes : (P S : Place) (f : Form) (h : Head) (n to : ℕ) (x y v : ℕ) (inner mid later : List ℕ) (o : Result Operand Refusal)
      → Comes P S to
      → ((rows : List Form) (stack : List Frame) → Ready table left count rows stack
      → step largest (S rows stack) closing ≡ some (at rows stack (made f)))
      → is_at text to closing ≡ true → head f ≡ h → count ≤ n → count + gates_in f ≡ n + 1 → wire_of (gates_at table) count f ≡ n
      → length mid ≡ length before → take (gate_size * n) mid ≡ take (gate_size * count) before ++ inner
      → flat (gates_at table) count f ≡ inner ++ line h x y v
      → Closes h (line h x y v) mid later to n o → Told P text table before later from left count o
  closes P S f h n to x y v inner mid later (Ok o) c s b q k e w z t g p = record {
    form = f;
    reads = λ rows stack r. rw p.to_is
        (c rows stack r ∙ expected largest text to closing (S rows stack) (at rows stack (made f)) b (s rows stack r)
        (calm (at rows stack (made f)) (made_open r f) (rw (made_closed r f) (omega (arith, p.room)))));
    inside = omega (arith, p.to_is, at_inside text to closing b);
    counted = omega (arith, p.total_is);
    few = omega (arith, p.total_is, p.room);
    carried = p.wire_is ∙ sym w;
    marked = p.mark_is ∙ ap valued (sym q);
    written = p.written
        ∙ (ap (λ (z : List ℕ). z ++ line h x y v) t
        ∙ (append_assoc (take (gate_size * count) before) inner (line h x y v) ∙ ap (λ (z : List ℕ). take (gate_size * count) before ++ z) (sym g)));
    sized = p.sized ∙ z;
    own = λ d. (omega (arith, p.total_is), omega (arith, p.total_is, p.wire_is));
  }
  closes P S f h n to x y v inner mid later (Err e') c s b q k e w z t g p = record {
    stops = λ rows stack r. rw (p.number_is, p.index_is)
        (c rows stack r
        ∙ too_many_lem text to (S rows stack) (at rows stack (made f)) b (s rows stack r) (made_open r f)
        (made_closed r f ∙ (e ∙ omega (arith, p.full))));
  }

  -- leaves --------------------------------------------------------------------------------------------------------------

  module _ (h : Head) (s : sort h ≡ Leaf) {naming : Bool} (q : naming ≡ names h) (l : 1 ≤ left) (k : count ≤ most_gates) where
    leaf_wanted : (rows : List Form) (stack : List Frame) → Ready table left count rows stack → Wanted table naming rows stack (plain h)
    leaf_wanted rows stack r = record {
      naming_is = unfold whose in sym q;
      marked = r.marked;
      calm = calm_number r (plain h) count l (unfold closed_numbered in omega arith) k;
    }

    pub leaf_dies : {index : ℕ} → NumberDies text table naming from index → Stopped (worded h) text table from left count 22 index
    leaf_dies d = record { stops = λ rows stack r. rw (worded_leaf h rows stack s) (d.dies rows stack (plain h) (leaf_wanted rows stack r)) }

    module _ {v to : ℕ} (d : NumberIs text table naming from v to) where
      leaf_comes : Comes (worded h) (λ rows stack. at rows stack (digit (plain h) v)) to
      leaf_comes rows stack r = rw (worded_leaf h rows stack s) (d.reads rows stack (plain h) (leaf_wanted rows stack r))

      leaf_step : (rows : List Form) (stack : List Frame) → Ready table left count rows stack
          → step largest (at rows stack (digit (plain h) v)) closing ≡ some (at rows stack (made (leaf h v)))
      unfolding step when closed
      leaf_step rows stack r = rw (fits_at text table naming rows stack (plain h) (leaf_wanted rows stack r) v, d.fitting)

      -- the row that is named is there
      pub leaf_row : {j : ℕ} → j ≡ v → naming ≡ true → j < length table
      leaf_row e t = omega (arith, named_low (known table) v (unfold fits_as in rw t at d.fitting), length_known table)

      pub leaf_names : {j : ℕ} → j ≡ v → naming ≡ true → stands (eqb left deepest) h ≡ true → {mark : Bool} → mark ≡ valued h
          → Made (worded h) text table before before from left count (to + 1) count (get_or table j 0 / 2) mark
      leaf_names j-is t i m =
          let z : names h ≡ true = sym q ∙ t in
          record {
            form = leaf h v;
            reads = λ rows stack r. leaf_comes rows stack r
                ∙ expected largest text to closing (at rows stack (digit (plain h) v)) (at rows stack (made (leaf h v))) d.closes
                (leaf_step rows stack r)
                (calm (at rows stack (made (leaf h v))) (made_open r (leaf h v))
                (rw (made_closed r (leaf h v)) (omega (arith, name_gates (gates_at table) count h v z))));
            inside = omega (arith, at_inside text to closing d.closes);
            counted = omega (arith, name_gates (gates_at table) count h v z);
            few = k;
            carried = rw j-is (sym (name_wire (gates_at table) count h v z ∙ gate_at table v));
            marked = m ∙ unfold head in refl;
            written = sym
                (ap (λ (x : List ℕ). take (gate_size * count) before ++ x) (name_flat (gates_at table) count h v z)
                ∙ append-nil (take (gate_size * count) before));
            sized = refl;
            own = λ e. absurd (name_inside h left i z e);
          }

      pub leaf_closes : (later : List ℕ) (o : Result Operand Refusal) → naming ≡ false → Closes h (gate h v 0 0) before later to count o
          → Told (worded h) text table before later from left count o
      leaf_closes later o t c =
          let z : names h ≡ false = sym q ∙ t in
          closes (worded h) (λ rows stack. at rows stack (digit (plain h) v)) (leaf h v) h count to 0 0 v [] before later o
          leaf_comes leaf_step d.closes (unfold head in refl) (omega arith) (omega (arith, own_gates (gates_at table) count h v z))
          (own_wire (gates_at table) count h v z) refl (sym (append-nil (take (gate_size * count) before))) (own_flat (gates_at table) count h v z)
          (rw (line_as h 0 0 v Leaf s z) c)
