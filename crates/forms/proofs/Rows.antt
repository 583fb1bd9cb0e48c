-- What the writer's rows are: a gate a row, whose operands are names of earlier rows. They are a sheet, and the circuit that they were written of.
-- Assumes nothing.
use Prim.Native.Nat.{ℕ, zero, suc, ◌+◌, ◌≤◌, ◌<◌}
use mathlib.Core.Path.{◌≡◌, refl, sym, ap, ◌∙◌}
use mathlib.Core.Bool.{Bool, true, false}
use mathlib.Core.List.{List, [], ◌∷◌, ◌++◌, append_assoc, append-nil}
use native.Mathlib.Nat.{le_of_suc-le-suc, not-suc-le-zero, add-zero, add_assoc}
use native.Mathlib.Omega.{arith}
use lib.ListN.{length, get_or}
use borrow.Author.Tests.{le-leb}
use Rattle.circuit.specs.Gate.{first_kind, last_kind, decode}
use Rattle.circuit.specs.Kind.{kind_shape}
use Rattle.circuit.specs.Valid.{Ref, Fits as Meant}
use Rattle.forms.specs.Words.{Head, Line, Sort, Leaf, One, Two, Scaled, sort, kind, names, shape_of, valued, outer, inner, stands, line, placed}
use Rattle.forms.specs.Form.{
  Form,
  head,
  larger,
  depth,
  marks,
  named,
  number_fits,
  Fits,
  leaf_fits,
  one_fits,
  two_fits,
  scaled_fits,
  Follow,
  gates_in,
  gates_in_all,
  wire_of,
  flat,
  circuit_from,
}
use Rattle.forms.specs.Entry.{picked, head_of, counted, number_of, name, form_of}

-- the table of words against the table of kinds -----------------------------------------------------------------------------

-- the operands of gate j, by what follows its word: gates that it may name
abbrev pub Operands : Sort → List ℕ → ℕ → ℕ → ℕ → Type 0
Operands Leaf c j x y = Unit {0}
Operands One c j x y = Ref c j x
Operands Two c j x y = Ref c j x × Ref c j y
Operands Scaled c j x y = Ref c j x

-- the gate of a form whose operands are the gates x and y and whose number is n, by what follows its word
abbrev pub line_for : Sort → Head → ℕ → ℕ → ℕ → List ℕ
line_for Leaf h x y n = line h 0 0 n
line_for One h x y n = line h x 0 0
line_for Two h x y n = line h x y 0
line_for Scaled h x y n = line h x 0 n

-- what the word of a kind k tells of gate j with the numbers x, y and z: it is the word of that kind, its form's number fits, its operands
-- may be named, and its form's gate is just that gate
pub record Told (top : ℕ) (c : List ℕ) (j k x y z : ℕ) : Type 0 where
  pub kind_is : kind (head_of k) ≡ k
  pub low : number_of (shape_of (head_of k)) x y z ≤ top
  pub operands : Operands (sort (head_of k)) c j x y
  pub line_is : line_for (sort (head_of k)) (head_of k) x y (number_of (shape_of (head_of k)) x y z) ≡ k ∷ x ∷ y ∷ z ∷ []

numbers_are : {k x y z a b d : ℕ} → a ≡ x → b ≡ y → d ≡ z → k ∷ a ∷ b ∷ d ∷ [] ≡ k ∷ x ∷ y ∷ z ∷ []
numbers_are p q r = rw (p, q, r)

-- the one law that goes by the kinds
pub told : (n q top : ℕ) (c : List ℕ) (j k x y z : ℕ)
    → n ≤ suc top → q ≤ suc top → first_kind ≤ k → k ≤ last_kind
    → Meant n q c j (kind_shape (decode k)).first x
    → Meant n q c j (kind_shape (decode k)).second y
    → Meant n q c j (kind_shape (decode k)).constant z
    → Told top c j k x y z
unfolding kind_shape decode head_of picked number_of counted line placed
told n q top c j zero x y z np qp lo hi a b d = absurd (omega arith)
told n q top c j (suc zero) x y z np qp lo hi a b d =
    record { kind_is = refl; low = omega arith; operands = tt; line_is = numbers_are (omega arith) (sym b) (sym d) }
told n q top c j (suc (suc zero)) x y z np qp lo hi a b d =
    record { kind_is = refl; low = omega arith; operands = (a, b); line_is = numbers_are refl refl (sym d) }
told n q top c j (suc (suc (suc zero))) x y z np qp lo hi a b d =
    record { kind_is = refl; low = omega arith; operands = (a, b); line_is = numbers_are refl refl (sym d) }
told n q top c j (suc (suc (suc (suc zero)))) x y z np qp lo hi a b d =
    record { kind_is = refl; low = omega arith; operands = a; line_is = numbers_are refl (sym b) (omega arith) }
told n q top c j (suc (suc (suc (suc (suc zero))))) x y z np qp lo hi a b d =
    record { kind_is = refl; low = omega arith; operands = a; line_is = numbers_are refl (sym b) (omega arith) }
told n q top c j (suc (suc (suc (suc (suc (suc zero)))))) x y z np qp lo hi a b d =
    record { kind_is = refl; low = omega arith; operands = (a, b); line_is = numbers_are refl refl (sym d) }
told n q top c j (suc (suc (suc (suc (suc (suc (suc zero))))))) x y z np qp lo hi a b d =
    record { kind_is = refl; low = omega arith; operands = a; line_is = numbers_are refl (sym b) (sym d) }
told n q top c j (suc (suc (suc (suc (suc (suc (suc (suc zero)))))))) x y z np qp lo hi a b d =
    record { kind_is = refl; low = omega arith; operands = a; line_is = numbers_are refl (sym b) (sym d) }
told n q top c j (suc (suc (suc (suc (suc (suc (suc (suc (suc zero))))))))) x y z np qp lo hi a b d =
    record { kind_is = refl; low = omega arith; operands = a; line_is = numbers_are refl (omega arith) (sym d) }
told n q top c j (suc (suc (suc (suc (suc (suc (suc (suc (suc (suc zero)))))))))) x y z np qp lo hi a b d =
    record { kind_is = refl; low = omega (arith, d.1); operands = a; line_is = numbers_are refl (sym b) (omega arith) }
told n q top c j (suc (suc (suc (suc (suc (suc (suc (suc (suc (suc (suc k))))))))))) x y z np qp lo hi a b d = absurd (omega arith)

-- a form with names as its operands, by what follows its word ----------------------------------------------------------------

-- may the operands be named after these rows?
abbrev pub Named : Sort → List Form → ℕ → ℕ → Type 0
Named Leaf rows x y = Unit {0}
Named One rows x y = named (marks rows) x ≡ true
Named Two rows x y = (named (marks rows) x ≡ true) × (named (marks rows) y ≡ true)
Named Scaled rows x y = named (marks rows) x ≡ true

pub formed_head : (h : Head) (s : Sort) (x y n : ℕ) → head (form_of h s x y n) ≡ h
unfolding head form_of
formed_head h Leaf x y n = refl
formed_head h One x y n = refl
formed_head h Two x y n = refl
formed_head h Scaled x y n = refl

pub formed_depth : (h : Head) (s : Sort) (x y n : ℕ) → depth (form_of h s x y n) ≤ 2
unfolding depth larger form_of name
formed_depth h Leaf x y n = omega arith
formed_depth h One x y n = omega arith
formed_depth h Two x y n = omega arith
formed_depth h Scaled x y n = omega arith

module _ (h : Head) (makes : names h ≡ false) where
  pub formed_gates : (s : Sort) (x y n : ℕ) → gates_in (form_of h s x y n) ≡ 1
  unfolding gates_in form_of name
  formed_gates Leaf x y n = rw makes
  formed_gates One x y n = refl
  formed_gates Two x y n = refl
  formed_gates Scaled x y n = refl

  pub formed_wire : (values : List ℕ) (at : ℕ) (s : Sort) (x y n : ℕ) → wire_of values at (form_of h s x y n) ≡ at
  unfolding wire_of gates_in form_of name
  formed_wire values at Leaf x y n = rw makes
  formed_wire values at One x y n = add-zero at
  formed_wire values at Two x y n = add-zero (at + 0) ∙ add-zero at
  formed_wire values at Scaled x y n = add-zero at

  pub formed_flat : (values : List ℕ) (at : ℕ) (s : Sort) (x y n : ℕ)
      → flat values at (form_of h s x y n) ≡ line_for s h (get_or values x 0) (get_or values y 0) n
  unfolding flat wire_of gates_in form_of name
  formed_flat values at Leaf x y n = rw makes
  formed_flat values at One x y n = refl
  formed_flat values at Two x y n = refl
  formed_flat values at Scaled x y n = refl

  module _ (top : ℕ) (rows : List Form) where
    name_fits : (x : ℕ) → named (marks rows) x ≡ true → Fits top rows false (name x)
    unfolding name
    name_fits x e =
        let here : stands false Line ≡ true = unfold stands inner in refl in
        let there : number_fits top rows Line x ≡ true = unfold number_fits in e in
        leaf_fits here refl there

    pub formed_fits : (s : Sort) (x y n : ℕ) → sort h ≡ s → n ≤ top → Named s rows x y → Fits top rows true (form_of h s x y n)
    unfolding form_of
    formed_fits s x y n e l N = go s e N
      where
        here : stands true h ≡ true
        here = unfold stands outer in rw makes

        number_fits_lem : number_fits top rows h n ≡ true
        number_fits_lem = unfold number_fits in rw makes (le-leb n top l)

        go : (s : Sort) → sort h ≡ s → Named s rows x y → Fits top rows true (form_of h s x y n)
        go Leaf e N = leaf_fits here e number_fits_lem
        go One e N = one_fits here e (name_fits x N)
        go Two e N = two_fits here e (name_fits x N.0) (name_fits y N.1)
        go Scaled e N = scaled_fits here e (name_fits x N) number_fits_lem

-- one row more -----------------------------------------------------------------------------------------------------------

pub marks_more : (rows : List Form) (f : Form) → marks (rows ++ (f ∷ [])) ≡ marks rows ++ (valued (head f) ∷ [])
unfolding marks
marks_more [] f = refl
marks_more (g ∷ rows) f = ap (λ (ms : List Bool). valued (head g) ∷ ms) (marks_more rows f)

pub marks_length : (rows : List Form) → length (marks rows) ≡ length rows
unfolding marks
marks_length [] = refl
marks_length (f ∷ rows) = ap suc (marks_length rows)

pub named_before : (ms ns : List Bool) (x : ℕ) → x < length ms → named (ms ++ ns) x ≡ named ms x
unfolding named
named_before [] ns x l = absurd (not-suc-le-zero l)
named_before (m ∷ ms) ns zero l = refl
named_before (m ∷ ms) ns (suc x) l = named_before ms ns x (le_of_suc-le-suc l)

pub named_last : (ms : List Bool) (m : Bool) → named (ms ++ (m ∷ [])) (length ms) ≡ m
unfolding named
named_last [] m = refl
named_last (k ∷ ms) m = named_last ms m

pub follow_more : (top : ℕ) (rows fs : List Form) (f : Form)
    → Follow top rows fs → Fits top (rows ++ fs) true f → Follow top rows (fs ++ (f ∷ []))
unfolding Follow
follow_more top rows [] f F G = (rw append-nil at G, tt)
follow_more top rows (g ∷ gs) f F G = (F.0, follow_more top (rows ++ (g ∷ [])) gs f F.1 (rw (append_assoc rows (g ∷ []) gs) G))

-- the gates that rows stand for, where those before them stand for values and their own start at a place
unfoldable pub values_from : List ℕ → ℕ → List Form → List ℕ
values_from values at [] = values
values_from values at (f ∷ fs) = values_from (values ++ (wire_of values at f ∷ [])) (at + gates_in f) fs

pub values_more : (values : List ℕ) (at : ℕ) (rows : List Form) (f : Form)
    → values_from values at (rows ++ (f ∷ [])) ≡ values_from values at rows ++ (wire_of (values_from values at rows) (at + gates_in_all rows) f ∷ [])
unfolding values_from gates_in_all
values_more values at [] f = rw (add-zero at)
values_more values at (g ∷ rows) f =
    rw (← add_assoc at (gates_in g) (gates_in_all rows)) (values_more (values ++ (wire_of values at g ∷ [])) (at + gates_in g) rows f)

pub circuit_more : (values : List ℕ) (at : ℕ) (rows : List Form) (f : Form)
    → circuit_from values at (rows ++ (f ∷ [])) ≡ circuit_from values at rows ++ flat (values_from values at rows) (at + gates_in_all rows) f
unfolding values_from circuit_from gates_in_all
circuit_more values at [] f = rw (add-zero at) (append-nil (flat values at f))
circuit_more values at (g ∷ rows) f =
    rw (← add_assoc at (gates_in g) (gates_in_all rows))
    (ap (λ (l : List ℕ). flat values at g ++ l) (circuit_more (values ++ (wire_of values at g ∷ [])) (at + gates_in g) rows f)
    ∙ sym (append_assoc (flat values at g) (circuit_from (values ++ (wire_of values at g ∷ [])) (at + gates_in g) rows) _))
