-- A gate is put behind the gates before it; and a form's gate, by its sort.
-- Assumes nothing.
use Prim.Native.Nat.{ℕ, ◌+◌, ◌*◌, ◌≤◌, ◌<◌}
use mathlib.Core.Path.{◌≡◌, refl, sym, ap, ◌∙◌}
use mathlib.Core.Bool.{Bool, true, false, cond, true≢false}
use mathlib.Core.List.{List, [], ◌∷◌, ◌++◌}
use native.Mathlib.Omega.{arith}
use lib.ListN.{length, take, length-append, length-take, length-drop}
use borrow.Rule.Slice.PartMut.{put_mid}
use Rattle.std.proofs.lemmas.Slice.{take-put_mid}
use Rattle.circuit.specs.Gate.{gate_size, decode}
use Rattle.circuit.specs.Accept.{most_gates}
use Rattle.circuit.specs.Kind.{Role, Unused, Party, Wire, Constant, Divisor, kind_shape}
use Rattle.circuit.specs.Code.{role_of}
use Rattle.circuit.specs.declared.Role as C
use Rattle.forms.specs.declared.Head.{Head}
use Rattle.forms.specs.declared.Head.TheVariants.{In, Add, Sub, Plus, Times, Mul, Out, Line, Sq, Give, Over}
use Rattle.forms.specs.declared.Sort.{Sort}
use Rattle.forms.specs.declared.Sort.TheVariants.{Leaf, One, Two, Scaled}
use Rattle.forms.specs.Words.{sort, kind, names, shape_of, placed, line}
use Rattle.forms.proofs.Table.{holder_names_none}
use Rattle.tokens.specs.Code.{RowOf}
use Rattle.tokens.specs.declared.Row.{Row}
use Rattle.reader.specs.Code.{Pushed, gate}

-- a gate that is put over the numbers behind the gates before it
pub pushed_gate : (l : List ℕ) (at count : ℕ) (h : Head) (a b d : ℕ) {r : Row} {n : ℕ} {ys : List ℕ} → RowOf h r → count < most_gates
    → gate_size * most_gates ≤ length l → n ≡ gate_size → ys ≡ r.kind ∷ a ∷ b ∷ d ∷ []
    → Pushed h (gate h a b d) l (put_mid (gate_size * count) n l ys) at count (at + 1) (count + 1) count r.valued
pushed_gate l at count h a b d {r} {n} {ys} o room long m e =
    let long-ys : length ys ≡ gate_size = rw e in record {
      to_is = refl;
      total_is = refl;
      wire_is = refl;
      mark_is = o.valued_is;
      room = room;
      written = take-put_mid (gate_size * count) n l ys (gate_size * (count + 1)) (omega arith) (omega arith)
          ∙ ap (λ (xs : List ℕ). take (gate_size * count) l ++ xs) (e ∙ ap (λ (k : ℕ). k ∷ a ∷ b ∷ d ∷ []) o.kind_is);
      sized = simp (length-append, length-take, length-drop) (omega arith);
    }

-- is it a constant, a divisor among them?
abbrev pub is_constant : Role → Bool
is_constant Unused = false
is_constant Party = false
is_constant Wire = false
is_constant Constant = true
is_constant Divisor = true

-- where a form of a sort has the gates of its operands, and its number; with one operand the number is its constant, or stands second
abbrev numbers_by : Bool → Sort → ℕ → ℕ → ℕ → List ℕ
numbers_by b Leaf x y n = n ∷ 0 ∷ 0 ∷ []
numbers_by b One x y n = x ∷ 0 ∷ 0 ∷ []
numbers_by b Two x y n = x ∷ y ∷ 0 ∷ []
numbers_by b Scaled x y n = cond b (x ∷ 0 ∷ n ∷ []) (x ∷ n ∷ 0 ∷ [])

module _ (h : Head) (x y n : ℕ) where
  line_by : (h : Head) → names h ≡ false → line h x y n ≡ kind h ∷ numbers_by (is_constant (shape_of h).constant) (sort h) x y n
  unfolding line placed kind_shape decode
  line_by In e = refl
  line_by Add e = refl
  line_by Sub e = refl
  line_by Plus e = refl
  line_by Times e = refl
  line_by Mul e = refl
  line_by Out e = refl
  line_by Line e = absurd (true≢false e)
  line_by Sq e = refl
  line_by Give e = refl
  line_by Over e = refl

  pub line_as : (k : Sort) → sort h ≡ k → names h ≡ false → line h x y n ≡ kind h ∷ numbers_by (is_constant (shape_of h).constant) k x y n
  line_as k s e = line_by h e ∙ ap (λ (q : Sort). kind h ∷ numbers_by (is_constant (shape_of h).constant) q x y n) s

-- the gate of a form with an operand and a number, by the table's role for its constant
pub scaled_line : (k : C.Role) (h : Head) (x n : ℕ) {r : Row} → sort h ≡ Scaled → RowOf h r → r.constant ≡ k
    → line h x 0 n ≡ cond (is_constant (role_of k)) (gate h x 0 n) (gate h x n 0)
scaled_line k h x n {r} s o e =
    line_as h x 0 n Scaled s (holder_names_none h (rw s)) ∙ rw (ap is_constant (sym o.constant_is ∙ ap role_of e)) (each (is_constant (role_of k)))
  where
    each : (b : Bool) → kind h ∷ cond b (x ∷ 0 ∷ n ∷ []) (x ∷ n ∷ 0 ∷ []) ≡ cond b (gate h x 0 n) (gate h x n 0)
    each true = refl
    each false = refl
