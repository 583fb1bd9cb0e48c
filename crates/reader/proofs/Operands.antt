-- Forms with operands, from their words on; a form from its bracket on; and an operand, which is never a row. Each law takes what a callee
-- promised to what its caller promises.
-- Assumes nothing.
use Prim.Native.Nat.{ℕ, ◌+◌, ◌*◌, ◌-◌, ◌≤◌, ◌<◌}
use mathlib.Core.Path.{◌≡◌, refl, sym, ap, ◌∙◌}
use mathlib.Core.Bool.{Bool, true, false, true≢false}
use mathlib.Core.List.{List, [], ◌∷◌, ◌++◌, append_assoc}
use mathlib.Core.Option.{some}
use native.Mathlib.Omega.{arith}
use lib.ListN.{length, get_or, take, drop}
use lib.Dec.{eqb, ltb}
use borrow.Author.Tests.{ne_eqb, ltb-true, ltb-false}
use Rattle.circuit.specs.Gate.{gate_size, decode}
use Rattle.circuit.specs.Kind.{kind_shape, is_class}
use Rattle.circuit.specs.Accept.{most_gates}
use Rattle.field.specs.Words.{largest}
use Rattle.forms.specs.declared.Head.{Head}
use Rattle.forms.specs.declared.Head.TheVariants.{In, Line}
use Rattle.forms.specs.declared.Sort.{Sort}
use Rattle.forms.specs.declared.Sort.TheVariants.{One, Two, Scaled}
use Rattle.forms.specs.Words.{letters, sort, valued, inner, stands, line}
use Rattle.forms.specs.Form.{Form, one, two, scaled, head, gates_in, wire_of, flat, opening, closing, space}
use Rattle.forms.specs.Refusals.{deepest}
use Rattle.forms.specs.Machine.{
  Frame,
  first,
  second,
  after,
  whose,
  closed,
  at,
  start,
  spelling,
  number,
  digit,
  made,
  starts,
  any_named,
  may,
  when,
  operand,
  handed,
  ended,
  closed_numbered,
  step,
}
use Rattle.forms.proofs.Table.{holds, holder_names_none}
use Rattle.tokens.specs.Code.{is_at, Calm, known, gates_at, Wanted, NumberIs, NumberDies, WordWanted, WordIs, WordDies}
use Rattle.tokens.proofs.Numerals.{fits_at}
use Rattle.tokens.proofs.Lettering.{standing_word}
use Rattle.tokens.proofs.Onward.{dies, ends, expected, unexpected, is_at_lem}
use Rattle.std.specs.Prelude.{Result, Ok, Err}
use Rattle.circuit.specs.declared.questions.Refusal.{Refusal}
use Rattle.reader.specs.declared.Operand.{Operand}
use Rattle.reader.specs.Code.{Ready, Place, fresh, worded, gate, Made, Stopped, Told, Closes}
use Rattle.reader.proofs.Pushing.{line_as}
use Rattle.reader.proofs.Places.{
  calm_word,
  calm_number,
  calm_start,
  ready_first,
  ready_second,
  place_is,
  too_deep_lem,
  wants,
  worded_first,
  wanted_none,
}
use Rattle.reader.proofs.Closings.{Comes, closes}

-- a name may stand inside where a row has a value, and an (in S) always
pub name_may : (any : Bool) → any ≡ true → may any false Line ≡ true
unfolding may stands inner
name_may any e = rw e

pub input_may : (any : Bool) → may any false In ≡ true
unfolding may stands inner valued is_class kind_shape decode
input_may any = refl

-- the word of a leaf inside another form, at once
pub leaf_stands : {any : Bool} (text : List ℕ) (from left : ℕ) (h : Head) (to : ℕ) → left < deepest → from < length text → may any false h ≡ true
    → to ≡ from + 1 + length (letters h) + 1 → starts (letters h ++ (space ∷ [])) (drop (from + 1) text) ≡ true
    → WordIs text any (eqb left deepest) (from + 1) h to
leaf_stands {any} text from left h to l i m e p =
    rw (ne_eqb left deepest (omega arith), e) (standing_word text any false (from + 1) h (omega arith) m p)

module _ (text table before : List ℕ) (from left count : ℕ) where
  two_flat : (h : Head) (f g : Form) (x y n : ℕ) → n ≡ count + gates_in f → x ≡ wire_of (gates_at table) count f → y ≡ wire_of (gates_at table) n g
      → flat (gates_at table) count (two h f g)
      ≡ (flat (gates_at table) count f ++ flat (gates_at table) (count + gates_in f) g) ++ line h x y 0
  unfolding flat
  two_flat h f g x y n m p q = rw (p, q, m, append_assoc)

  module _ (h : Head) (k : Sort) (s : sort h ≡ k) (e : holds k ≡ true) (l : 1 ≤ left) where
    pub first_stops : {number index : ℕ} → Stopped fresh text table from (left - 1) count number index
        → Stopped (worded h) text table from left count number index
    first_stops d = record { stops = λ rows stack r. rw (worded_first h rows stack k s e) (d.stops rows (first h ∷ stack) (ready_first r h l)) }

    module _ {mid : List ℕ} {to n x : ℕ} {m : Bool} (a : Made fresh text table before mid from (left - 1) count to n x m) where
      first_comes : Comes text table before from left count (worded h) (λ rows stack. at rows (first h ∷ stack) (made a.form)) to
      first_comes rows stack r = rw (worded_first h rows stack k s e) (a.reads rows (first h ∷ stack) (ready_first r h l))

      pub first_shut : is_at text to (wants k) ≡ false → Stopped (worded h) text table from left count 22 to
      first_shut b = record {
        stops = λ rows stack r. first_comes rows stack r
            ∙ unexpected largest text to (wants k) (at rows (first h ∷ stack) (made a.form)) b
            (λ y d. unfold step handed in rw s (wanted_none rows stack h a.form k y d)) (unfold ended in refl);
      }

      -- the first operand and a space
      second_comes : (S : Place) → is_at text to space ≡ true
          → ((rows : List Form) (stack : List Frame) → operand rows stack h a.form k space ≡ some (S rows stack))
          → ((rows : List Form) (stack : List Frame) → Ready table left count rows stack → Calm (S rows stack))
          → Comes text table before from left count (worded h) S (to + 1)
      second_comes S b o c rows stack r = first_comes rows stack r
          ∙ expected largest text to space (at rows (first h ∷ stack) (made a.form)) (S rows stack) b (unfold step handed in rw s (o rows stack))
          (c rows stack r)

  module _ (h : Head) (l : 1 ≤ left) {mid : List ℕ} {to n x : ℕ} {m : Bool}
      (a : Made fresh text table before mid from (left - 1) count to n x m) where
    pub one_closes : sort h ≡ One → (later : List ℕ) (o : Result Operand Refusal) → is_at text to closing ≡ true → Closes h (gate h x 0 0) mid later to n o
        → Told (worded h) text table before later from left count o
    one_closes s later o b c =
        closes text table before from left count (worded h) (λ rows stack. at rows (first h ∷ stack) (made a.form)) (one h a.form) h n to x 0 0
        (flat (gates_at table) count a.form) mid later o
        (first_comes h One s refl l a) (λ rows stack r. unfold step handed operand when in rw s) b
        (unfold head in refl) (omega (arith, a.counted)) (unfold gates_in in omega (arith, a.counted)) (unfold wire_of in sym a.counted)
        a.sized a.written (unfold flat in rw a.carried) (rw (line_as h x 0 0 One s (holder_names_none h (rw s))) c)

    module _ (s : sort h ≡ Two) (b : is_at text to space ≡ true) where
      two_ready : (rows : List Form) (stack : List Frame) → Ready table left count rows stack
          → Ready table (left - 1) n rows (second h a.form ∷ stack)
      two_ready rows stack r = ready_second r h a.form n l a.counted

      two_comes : Comes text table before from left count (worded h) (λ rows stack. at rows (second h a.form ∷ stack) start) (to + 1)
      two_comes =
          second_comes h Two s refl l a (λ rows stack. at rows (second h a.form ∷ stack) start) b
          (λ rows stack. unfold operand when in refl) (λ rows stack r. calm_start (two_ready rows stack r) a.few)

      pub two_stops : {number index : ℕ} → Stopped fresh text table (to + 1) (left - 1) n number index
          → Stopped (worded h) text table from left count number index
      two_stops d = record { stops = λ rows stack r. two_comes rows stack r ∙ d.stops rows (second h a.form ∷ stack) (two_ready rows stack r) }

      module _ {mid₂ : List ℕ} {to₂ n₂ y : ℕ} {m₂ : Bool} (c : Made fresh text table mid mid₂ (to + 1) (left - 1) n to₂ n₂ y m₂) where
        both_come : Comes text table before from left count (worded h) (λ rows stack. at rows (second h a.form ∷ stack) (made c.form)) to₂
        both_come rows stack r = two_comes rows stack r ∙ c.reads rows (second h a.form ∷ stack) (two_ready rows stack r)

        pub two_shut : is_at text to₂ closing ≡ false → Stopped (worded h) text table from left count 22 to₂
        two_shut d = record {
          stops = λ rows stack r. both_come rows stack r
              ∙ unexpected largest text to₂ closing (at rows (second h a.form ∷ stack) (made c.form)) d
              (λ z q. unfold step handed when in rw (ne_eqb z closing q)) (unfold ended in refl);
        }

        pub two_closes : (later : List ℕ) (o : Result Operand Refusal) → is_at text to₂ closing ≡ true → Closes h (gate h x y 0) mid₂ later to₂ n₂ o
            → Told (worded h) text table before later from left count o
        two_closes later o d p =
            closes text table before from left count (worded h) (λ rows stack. at rows (second h a.form ∷ stack) (made c.form))
            (two h a.form c.form) h n₂ to₂ x y 0
            (flat (gates_at table) count a.form ++ flat (gates_at table) (count + gates_in a.form) c.form) mid₂ later o
            both_come (λ rows stack r. unfold step handed when in refl) d
            (unfold head in refl) (omega (arith, a.counted, c.counted)) (unfold gates_in in omega (arith, a.counted, c.counted))
            (unfold wire_of in sym (c.counted ∙ ap (λ (z : ℕ). z + gates_in c.form) a.counted)) (c.sized ∙ a.sized)
            (c.written
            ∙ (ap (λ (z : List ℕ). z ++ flat (gates_at table) n c.form) a.written
            ∙ (append_assoc (take (gate_size * count) before) (flat (gates_at table) count a.form) (flat (gates_at table) n c.form)
            ∙ ap (λ (z : ℕ). take (gate_size * count) before ++ (flat (gates_at table) count a.form ++ flat (gates_at table) z c.form))
            a.counted)))
            (two_flat h a.form c.form x y n a.counted a.carried c.carried)
            (rw (line_as h x y 0 Two s (holder_names_none h (rw s))) p)

    module _ (s : sort h ≡ Scaled) (b : is_at text to space ≡ true) where
      scaled_wanted : (rows : List Form) (stack : List Frame) → Ready table left count rows stack → Wanted table false rows stack (after h a.form)
      scaled_wanted rows stack r = record {
        naming_is = unfold whose in holder_names_none h (rw s);
        marked = r.marked;
        calm = calm_number r (after h a.form) n l (unfold closed_numbered in sym a.counted) a.few;
      }

      scaled_comes : Comes text table before from left count (worded h) (λ rows stack. at rows stack (number (after h a.form))) (to + 1)
      scaled_comes =
          second_comes h Scaled s refl l a (λ rows stack. at rows stack (number (after h a.form))) b
          (λ rows stack. unfold operand when in refl) (λ rows stack r. (scaled_wanted rows stack r).calm)

      pub scaled_dies : {index : ℕ} → NumberDies text table false (to + 1) index → Stopped (worded h) text table from left count 22 index
      scaled_dies d = record {
        stops = λ rows stack r. scaled_comes rows stack r ∙ d.dies rows stack (after h a.form) (scaled_wanted rows stack r);
      }

      pub scaled_closes : {v to₂ : ℕ} → NumberIs text table false (to + 1) v to₂ → (later : List ℕ) (o : Result Operand Refusal)
          → Closes h (line h x 0 v) mid later to₂ n o → Told (worded h) text table before later from left count o
      scaled_closes {v} {to₂} d later o p =
          closes text table before from left count (worded h) (λ rows stack. at rows stack (digit (after h a.form) v))
          (scaled h a.form v) h n to₂ x 0 v (flat (gates_at table) count a.form) mid later o
          (λ rows stack r. scaled_comes rows stack r ∙ d.reads rows stack (after h a.form) (scaled_wanted rows stack r))
          (λ rows stack r. unfold step when closed in
          rw (fits_at text table false rows stack (after h a.form) (scaled_wanted rows stack r) v, d.fitting))
          d.closes (unfold head in refl) (omega (arith, a.counted)) (unfold gates_in in omega (arith, a.counted))
          (unfold wire_of in sym a.counted) a.sized a.written (unfold flat in rw a.carried) p

  -- brackets and words --------------------------------------------------------------------------------------------------

  form_shut : from < length text → is_at text from opening ≡ false → Stopped fresh text table from left count 22 from
  form_shut h e = record {
    stops = λ rows stack r. dies largest text from (at rows stack start) h
        (unfold step when in rw (ne_eqb (get_or text from 0) opening (λ q. true≢false (sym (is_at_lem text from opening h q) ∙ e))));
  }

  module _ {o : Bool} (q : o ≡ eqb left deepest) (l : 1 ≤ left) (k : count ≤ most_gates) (b : is_at text from opening ≡ true) where
    form_wanted : (rows : List Form) (stack : List Frame) → Ready table left count rows stack → WordWanted (any_named (known table)) o rows stack
    form_wanted rows stack r = record {
      any_is = ap any_named r.marked;
      place = place_is table left count rows stack r ∙ sym q;
      calm = calm_word r l k;
    }

    form_comes : Comes text table before from left count fresh (λ rows stack. at rows stack (spelling [])) (from + 1)
    form_comes rows stack r =
        expected largest text from opening (at rows stack start) (at rows stack (spelling [])) b (unfold step when in refl) (calm_word r l k)

    pub form_dies : {index : ℕ} → WordDies text (any_named (known table)) o (from + 1) index → Stopped fresh text table from left count 22 index
    form_dies d = record { stops = λ rows stack r. form_comes rows stack r ∙ d.dies rows stack (form_wanted rows stack r) }

    pub form_told : {h : Head} {to : ℕ} → WordIs text (any_named (known table)) o (from + 1) h to → (later : List ℕ) (r : Result Operand Refusal)
        → Told (worded h) text table before later to left count r → Told fresh text table before later from left count r
    form_told d later (Ok o) a = record {
      form = a.form;
      reads = λ rows stack r. form_comes rows stack r ∙ (d.reads rows stack (form_wanted rows stack r) ∙ a.reads rows stack r);
      inside = a.inside;
      counted = a.counted;
      few = a.few;
      carried = a.carried;
      marked = a.marked;
      written = a.written;
      sized = a.sized;
      own = a.own;
    }
    form_told d later (Err e) a = record {
      stops = λ rows stack r. form_comes rows stack r ∙ (d.reads rows stack (form_wanted rows stack r) ∙ a.stops rows stack r);
    }

  -- an operand: a text that ends there ends within a row, and a bracket there may be too deep -------------------------------

  operand_ends : (left ≡ deepest → ⊥) → length text ≤ from → Stopped fresh text table from left count 22 from
  operand_ends n h = record {
    stops = λ rows stack r. ends largest text from (at rows stack start) h
        (unfold ended in rw (place_is table left count rows stack r, ne_eqb left deepest n));
  }

  pub operand_shut : (left ≡ deepest → from < length text) → is_at text from opening ≡ false → Stopped fresh text table from left count 22 from
  operand_shut m e = go (ltb from (length text)) refl
    where
      go : (b : Bool) → ltb from (length text) ≡ b → Stopped fresh text table from left count 22 from
      go true t = form_shut (ltb-true from (length text) t) e
      go false t = let h : length text ≤ from = ltb-false from (length text) t in operand_ends (λ q. omega (arith, m q)) h

  pub operand_deep : left ≡ 0 → is_at text from opening ≡ true → Stopped fresh text table from left count 23 from
  operand_deep z b = record { stops = λ rows stack r. too_deep_lem text from rows stack b (omega (arith, r.room)) }
