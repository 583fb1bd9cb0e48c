-- How the rows of a text grow, one after another: what is read so far, the table of rows, and the gates written.
-- Assumes nothing.
use Prim.Native.Nat.{ℕ, suc, ◌+◌, ◌*◌, ◌/◌, ◌%◌, ◌^◌, ◌≤◌, ◌<◌}
use mathlib.Core.Path.{◌≡◌, refl, sym, ap, ◌∙◌}
use mathlib.Core.Bool.{Bool, true, false}
use mathlib.Core.List.{List, [], ◌∷◌, ◌++◌}
use native.Mathlib.Omega.{arith}
use lib.ListN.{length, take, drop, set, drop_of_length-le, length-take, length-set}
use lib.Seq.{take-suc-set}
use lib.Dec.{eqb}
use borrow.Author.Tests.{ne_eqb}
use Rattle.circuit.specs.Gate.{gate_size}
use Rattle.circuit.specs.Accept.{most_gates}
use Rattle.field.specs.Words.{largest}
use Rattle.forms.specs.Words.{valued}
use Rattle.forms.specs.Form.{Form, head, marks, gates_in_all, wire_of, flat, circuit_from, circuit_of, feed}
use Rattle.forms.specs.Refusals.{deepest}
use Rattle.forms.specs.Machine.{
  Frame,
  at,
  start,
  made,
  is_nil,
  when,
  handed,
  ended,
  open_in,
  open_here,
  closed_in,
  closed_here,
  closed_frames,
  step,
  read,
  reading,
  No,
}
use Rattle.forms.proofs.Counting.{gates_snoc}
use Rattle.forms.proofs.Rows.{marks_more, values_from, values_more, circuit_more}
use Rattle.tokens.specs.Code.{is_at, known, gates_at}
use Rattle.tokens.proofs.Onward.{at_inside, expected, unexpected, calm}
use Rattle.tokens.proofs.Tables.{known_append, gates_append}
use Rattle.reader.specs.Code.{Ready, fresh, Made, Stopped, RowMade, RowsRead, Given}

-- a form without its line feed
pub row_shut : {text table before later : List ℕ} {from count to total wire : ℕ} {mark : Bool}
    → Made fresh text table before later from deepest count to total wire mark → is_at text to feed ≡ false
    → Stopped fresh text table from deepest count 22 to
row_shut {text} {table} {count = count} {to = to} a b = record { stops = λ rows stack r. a.reads rows stack r ∙ go rows stack r }
  where
    go : (rows : List Form) (stack : List Frame) → Ready table deepest count rows stack
        → read largest (at rows stack (made a.form)) (drop to text) to ≡ No 22 to
    go rows [] r =
        unexpected largest text to feed (at rows [] (made a.form)) b (λ y d. unfold step handed when in rw (ne_eqb y feed d))
        (unfold ended in refl)
    go rows (f ∷ fs) r = absurd (omega (arith, r.room))

pub row_fed : {text table before later : List ℕ} {from count end total wire : ℕ} {mark : Bool}
    → Made fresh text table before later from deepest count end total wire mark → is_at text end feed ≡ true
    → RowMade text table before later from count (end + 1) total wire mark
row_fed {end = end} a b = record { end = end; read = a; feeds = b; to_is = refl }

-- the table of the first k rows, as it is lent
abbrev pub lent : List ℕ → ℕ → List ℕ
lent table k = take k table

-- after k rows: text, table and gates are read so far
pub record Grown (text table lines : List ℕ) (k from count : ℕ) : Type 0 where
  pub rows : List Form
  pub reads : reading largest text ≡ read largest (at rows [] start) (drop from text) from
  pub marked : marks rows ≡ known (lent table k)
  pub valued : gates_at (lent table k) ≡ values_from [] 0 rows
  pub counted : gates_in_all rows ≡ count
  pub written : take (gate_size * count) lines ≡ circuit_of rows
  pub inside : from ≤ length text
  pub few : count ≤ most_gates
  pub rows_few : k ≤ count
  pub sized : length table ≡ most_gates

pub grown_none : (text table lines : List ℕ) → length table ≡ most_gates → Grown text table lines 0 0 0
unfolding reading marks known gates_at values_from gates_in_all circuit_of circuit_from
grown_none text table lines e = record {
  rows = [];
  reads = refl;
  marked = refl;
  valued = refl;
  counted = refl;
  written = refl;
  inside = omega arith;
  few = omega arith;
  rows_few = omega arith;
  sized = e;
}

module _ {text table lines : List ℕ} {k from count : ℕ} (g : Grown text table lines k from count) where
  pub grown_ready : Ready (lent table k) deepest count g.rows []
  grown_ready = record {
    marked = g.marked;
    room = refl;
    counted = unfold closed_in closed_frames closed_here in omega (arith, g.counted);
  }

  pub grown_given : length text < 2 ^ 64 → gate_size * most_gates ≤ length lines → Given text (lent table k) lines from count
  grown_given s l = record {
    short = s;
    rows_fit = simp length-take (omega (arith, g.rows_few, g.few, g.sized));
    within = g.inside;
    few = g.few;
    long = l;
  }

  pub grown_stops : {reason index : ℕ} → Stopped fresh text (lent table k) from deepest count reason index → reading largest text ≡ No reason index
  grown_stops d = g.reads ∙ d.stops g.rows [] grown_ready

  -- the text is at its end, between two rows
  pub grown_all : gate_size * most_gates ≤ length lines → length text ≤ from → RowsRead text lines count
  grown_all l h = record {
    rows = g.rows;
    reads = g.reads ∙ unfold read ended is_nil in rw (drop_of_length-le text h);
    few = g.few;
    written = g.written;
    long = l;
  }

  module _ {later : List ℕ} {to total wire : ℕ} {mark : Bool} (a : RowMade text (lent table k) lines later from count to total wire mark) where
    -- there is room in the table for another row
    pub grown_room : k < most_gates
    grown_room = omega (arith, g.rows_few, a.read.few, (a.read.own refl).0)

    pub grown_wire : wire < most_gates
    grown_wire = omega (arith, a.read.few, (a.read.own refl).1)

    pub grown_less : count < total
    grown_less = (a.read.own refl).0

    -- its entry
    pub grown_more : (w : ℕ) → w / 2 ≡ wire → eqb (w % 2) 1 ≡ mark → Grown text (set table k w) later (k + 1) to total
    unfolding circuit_of
    grown_more w ew em =
        let f : Form = a.read.form in
        let place : count ≡ 0 + gates_in_all g.rows = omega (arith, g.counted) in
        let more : k + 1 ≡ suc k = omega arith in
        let table_is : lent (set table k w) (k + 1) ≡ lent table k ++ (w ∷ []) =
        rw more (take-suc-set table k w (omega (arith, grown_room, g.sized))) in
        let known_is : known (lent (set table k w) (k + 1)) ≡ known (lent table k) ++ (mark ∷ []) =
        ap known table_is ∙ (known_append (lent table k) (w ∷ []) ∙ unfold known in rw em) in
        let gates-is : gates_at (lent (set table k w) (k + 1)) ≡ gates_at (lent table k) ++ (wire ∷ []) =
        ap gates_at table_is ∙ (gates_append (lent table k) (w ∷ []) ∙ unfold gates_at in rw ew) in
        record {
          rows = g.rows ++ (f ∷ []);
          reads = rw a.to_is
              (g.reads
              ∙ (a.read.reads g.rows [] grown_ready
              ∙ expected largest text a.end feed (at g.rows [] (made f)) (at (g.rows ++ (f ∷ [])) [] start) a.feeds
              (unfold step handed when in refl)
              (calm (at (g.rows ++ (f ∷ [])) [] start) (unfold open_in open_here in omega arith)
              (unfold closed_in closed_frames closed_here in omega (arith, gates_snoc g.rows f, g.counted, a.read.counted, a.read.few)))));
          marked = marks_more g.rows f
              ∙ (ap (λ (ms : List Bool). ms ++ (valued (head f) ∷ [])) g.marked
              ∙ (ap (λ (m : Bool). known (lent table k) ++ (m ∷ [])) (sym a.read.marked) ∙ sym known_is));
          valued = gates-is
              ∙ (ap (λ (v : ℕ). gates_at (lent table k) ++ (v ∷ [])) a.read.carried
              ∙ (ap (λ (vs : List ℕ). vs ++ (wire_of vs count f ∷ [])) g.valued
              ∙ (ap (λ (n : ℕ). values_from [] 0 g.rows ++ (wire_of (values_from [] 0 g.rows) n f ∷ [])) place
              ∙ sym (values_more [] 0 g.rows f))));
          counted = gates_snoc g.rows f ∙ omega (arith, g.counted, a.read.counted);
          written = a.read.written
              ∙ (ap (λ (ls : List ℕ). ls ++ flat (gates_at (lent table k)) count f) g.written
              ∙ (ap (λ (vs : List ℕ). circuit_of g.rows ++ flat vs count f) g.valued
              ∙ (ap (λ (n : ℕ). circuit_of g.rows ++ flat (values_from [] 0 g.rows) n f) place
              ∙ sym (circuit_more [] 0 g.rows f))));
          inside = omega (arith, a.to_is, at_inside text a.end feed a.feeds);
          few = a.read.few;
          rows_few = omega (arith, g.rows_few, (a.read.own refl).0);
          sized = rw length-set g.sized;
        }
