-- What is known of a state at which a form is read, and at each place inside the form.
-- Assumes nothing.
use Prim.Native.Nat.{ℕ, suc, ◌+◌, ◌-◌, ◌≤◌}
use mathlib.Core.Path.{◌≡◌, refl, sym}
use mathlib.Core.Bool.{true, false≢true}
use mathlib.Core.List.{List, [], ◌∷◌}
use mathlib.Core.Option.{some, none}
use native.Mathlib.Omega.{arith}
use lib.ListN.{length, drop}
use lib.Dec.{eqb}
use borrow.Author.Tests.{eq-eqb, ne_eqb, le-ltb}
use Rattle.circuit.specs.Accept.{most_gates}
use Rattle.field.specs.Words.{largest}
use Rattle.forms.specs.declared.Head.{Head}
use Rattle.forms.specs.declared.Sort.{Sort}
use Rattle.forms.specs.declared.Sort.TheVariants.{Leaf, One, Two, Scaled}
use Rattle.forms.specs.Words.{sort}
use Rattle.forms.specs.Form.{Form, gates_in, gates_in_all, opening, closing, space}
use Rattle.forms.specs.Refusals.{deepest}
use Rattle.forms.specs.Machine.{
  Frame,
  first,
  second,
  Numbered,
  plain,
  State,
  at,
  start,
  spelling,
  number,
  made,
  is_nil,
  when,
  begun,
  operand,
  step,
  read,
  No,
  open_in,
  open_here,
  closed_in,
  closed_here,
  closed_frames,
  closed_numbered,
  too_deep,
  too_many,
}
use Rattle.forms.proofs.Table.{holds}
use Rattle.tokens.specs.Code.{Calm, is_at}
use Rattle.tokens.proofs.Onward.{calm, at_inside, at_is, deep, many}
use Rattle.reader.specs.Code.{Ready, worded, Given}

-- a call is given what its caller was, further on
pub given_next : {text table lines : List ℕ} {from count : ℕ} → Given text table lines from count
    → {lines' : List ℕ} {from' count' : ℕ} → length lines' ≡ length lines → from' ≤ length text → count' ≤ most_gates
    → Given text table lines' from' count'
given_next g e f c = record { short = g.short; rows_fit = g.rows_fit; within = f; few = c; long = omega (arith, g.long) }

module _ {table : List ℕ} {left count : ℕ} {rows : List Form} {stack : List Frame} (r : Ready table left count rows stack) where
  -- the gates of a state are those before it and those in its hole
  before_hole : gates_in_all rows + closed_frames stack ≡ count
  unfolding closed_in closed_here
  before_hole = omega (arith, r.counted)

  pub calm_word : 1 ≤ left → count ≤ most_gates → Calm (at rows stack (spelling []))
  calm_word h c =
      calm (at rows stack (spelling [])) (unfold open_in open_here in omega (arith, r.room)) (unfold closed_in closed_here in omega (arith, before_hole))

  pub calm_number : (p : Numbered) (n : ℕ) → 1 ≤ left → count + closed_numbered p ≡ n → n ≤ most_gates → Calm (at rows stack (number p))
  calm_number p n h e c =
      calm (at rows stack (number p)) (unfold open_in open_here in omega (arith, r.room)) (unfold closed_in closed_here in omega (arith, before_hole))

  pub calm_start : count ≤ most_gates → Calm (at rows stack start)
  calm_start c =
      calm (at rows stack start) (unfold open_in open_here in omega (arith, r.room)) (unfold closed_in closed_here in omega (arith, before_hole))

  pub ready_first : (h : Head) → 1 ≤ left → Ready table (left - 1) count rows (first h ∷ stack)
  ready_first h l = record { marked = r.marked; room = omega (arith, r.room); counted = unfold closed_in closed_frames in r.counted }

  pub ready_second : (h : Head) (f : Form) (n : ℕ) → 1 ≤ left → n ≡ count + gates_in f → Ready table (left - 1) n rows (second h f ∷ stack)
  ready_second h f n l e = record {
    marked = r.marked;
    room = omega (arith, r.room);
    counted = unfold closed_in closed_frames closed_here in omega (arith, before_hole);
  }

  pub made_closed : (f : Form) → closed_in (at rows stack (made f)) ≡ count + gates_in f
  unfolding closed_in closed_here
  made_closed f = omega (arith, before_hole)

  pub made_open : (f : Form) → open_in (at rows stack (made f)) ≤ deepest
  unfolding open_in open_here
  made_open f = omega (arith, r.room)

pub place_is : (table : List ℕ) (left count : ℕ) (rows : List Form) (stack : List Frame) → Ready table left count rows stack
    → is_nil stack ≡ eqb left deepest
unfolding is_nil
place_is table left count rows [] r = sym (eq-eqb left deepest (omega (arith, r.room)))
place_is table left count rows (f ∷ fs) r = sym (ne_eqb left deepest (omega (arith, r.room)))

-- too much -------------------------------------------------------------------------------------------------------------

pub too_many_lem : (text : List ℕ) (i : ℕ) (s t : State) → is_at text i closing ≡ true → step largest s closing ≡ some t → open_in t ≤ deepest
    → closed_in t ≡ suc most_gates → read largest s (drop i text) i ≡ No 24 i
unfolding too_many
too_many_lem text i s t b e d l =
    many largest text i s t (at_inside text i closing b) (rw (at_is text i closing b) e) (unfold too_deep in le-ltb deepest (open_in t) d)
    (rw l)

pub too_deep_lem : (text : List ℕ) (i : ℕ) (rows : List Form) (stack : List Frame) → is_at text i opening ≡ true → length stack ≡ deepest
    → read largest (at rows stack start) (drop i text) i ≡ No 23 i
too_deep_lem text i rows stack b d =
    deep largest text i (at rows stack start) (at rows stack (spelling [])) (at_inside text i opening b)
    (rw (at_is text i opening b) (unfold step when in refl)) (unfold too_deep open_in open_here in rw d)

-- words ----------------------------------------------------------------------------------------------------------------

-- what follows the first operand of a sort that has one
abbrev pub wants : Sort → ℕ
wants Leaf = closing
wants One = closing
wants Two = space
wants Scaled = space

pub worded_leaf : (h : Head) (rows : List Form) (stack : List Frame) → sort h ≡ Leaf → worded h rows stack ≡ at rows stack (number (plain h))
unfolding begun
worded_leaf h rows stack s = rw s

pub worded_first : (h : Head) (rows : List Form) (stack : List Frame) (k : Sort) → sort h ≡ k → holds k ≡ true
    → worded h rows stack ≡ at rows (first h ∷ stack) start
unfolding begun
worded_first h rows stack Leaf s e = absurd (false≢true e)
worded_first h rows stack One s e = rw s
worded_first h rows stack Two s e = rw s
worded_first h rows stack Scaled s e = rw s

-- any other byte than the one wanted dies
pub wanted_none : (rows : List Form) (stack : List Frame) (h : Head) (f : Form) (k : Sort) (x : ℕ) → (x ≡ wants k → ⊥)
    → operand rows stack h f k x ≡ none
unfolding operand when
wanted_none rows stack h f Leaf x d = refl
wanted_none rows stack h f One x d = rw (ne_eqb x closing d)
wanted_none rows stack h f Two x d = rw (ne_eqb x space d)
wanted_none rows stack h f Scaled x d = rw (ne_eqb x space d)
