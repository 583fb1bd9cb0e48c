-- The reading as steps: it goes on while the states are within depth and count, and comes to the rows, or stops where a byte dies or a state is not
-- within.
-- Assumes nothing.
use Prim.Native.Nat.{ℕ, suc, ◌+◌, ◌≤◌, ◌<◌}
use mathlib.Core.Path.{◌≡◌, refl, sym, ap, ◌∙◌}
use mathlib.Core.Bool.{Bool, true, false}
use mathlib.Core.List.{List, [], ◌∷◌, ◌++◌}
use mathlib.Core.Option.{Option, some, none}
use native.Mathlib.Omega.{arith}
use lib.ListN.{length}
use borrow.Author.Tests.{ltb-true, ltb-false, le-ltb}
use Rattle.circuit.specs.Accept.{most_gates}
use Rattle.forms.specs.Form.{Form, gates_in_all}
use Rattle.forms.specs.Refusals.{deepest}
use Rattle.forms.specs.Machine.{
  Frame,
  Focus,
  start,
  spelling,
  number,
  digit,
  made,
  State,
  at,
  origin,
  is_nil,
  open_here,
  open_in,
  closed_here,
  closed_frames,
  closed_in,
  too_deep,
  too_many,
  step,
  steps,
  read,
  ended,
  Reading,
  Rows,
  No,
}
use Rattle.forms.proofs.Stepping.{steps_cons}

-- a state within the bounds
pub record Calm (s : State) : Type 0 where
  pub shallow : open_in s ≤ deepest
  pub few : closed_in s ≤ most_gates

pub origin_calm : Calm origin
unfolding open_in open_here closed_in closed_here closed_frames gates_in_all
origin_calm = record { shallow = omega arith; few = omega arith }

-- refusals are not rows
rows_no : {G : Type 0} {rows : List Form} {m i : ℕ} → Rows rows ≡ No m i → G
rows_no e = let z : ◌≡◌ {A = ℕ} 0 1 = cc in absurd (omega arith)

module _ (top : ℕ) where
  -- steps over a text to a state, every state on the way within the bounds
  pub data Runs : State → List ℕ → State → Type 0 where
    done : {s : State} → Runs s [] s
    onward : {s u t : State} {b : ℕ} {bs : List ℕ} → step top s b ≡ some u → Calm u → Runs u bs t → Runs s (b ∷ bs) t

  pub runs_steps : {s t : State} {text : List ℕ} → Runs s text t → steps top s text ≡ some t
  unfolding steps
  runs_steps done = refl
  runs_steps (onward {s = s} {b = b} {bs = bs} e c r) = steps_cons top s b bs e ∙ runs_steps r

  pub runs_calm : {s t : State} {text : List ℕ} → Runs s text t → Calm s → Calm t
  runs_calm done k = k
  runs_calm (onward e c r) k = runs_calm r c

  pub runs_prefix : (a b : List ℕ) {s t : State} → Runs s (a ++ b) t → (u : State) × Runs s a u
  runs_prefix [] b {s} r = (s, done)
  runs_prefix (x ∷ a) b (onward e c r) = let k = runs_prefix a b r in (k.0, onward e c k.1)

  -- a byte of the text before which all is within the bounds
  pub record Stop (s : State) (text : List ℕ) (i j : ℕ) : Type 0 where
    pub earlier : List ℕ
    pub byte : ℕ
    pub later : List ℕ
    pub state : State
    pub index : j ≡ i + length earlier
    pub cut : text ≡ earlier ++ (byte ∷ later)
    pub runs : Runs s earlier state

  -- what a reading comes to
  pub data Outcome (s : State) (text : List ℕ) (i : ℕ) : Reading → Type 0 where
    whole : {rows : List Form} → Runs s text (at rows [] start) → Outcome s text i (Rows rows)
    unended : {t : State} (j : ℕ) → j ≡ i + length text → Runs s text t → ((rows : List Form) → t ≡ at rows [] start → ⊥) → Outcome s text i (No 22 j)
    dies : {j : ℕ} (p : Stop s text i j) → step top p.state p.byte ≡ none → Outcome s text i (No 22 j)
    deepens : {j : ℕ} {v : State} (p : Stop s text i j) → step top p.state p.byte ≡ some v → deepest < open_in v → Outcome s text i (No 23 j)
    exceeds : {j : ℕ} {v : State} (p : Stop s text i j) → step top p.state p.byte ≡ some v → open_in v ≤ deepest → most_gates < closed_in v →
        Outcome s text i (No 24 j)

  ended_outcome : (s : State) (i : ℕ) → Outcome s [] i (ended s i)
  unfolding ended is_nil
  ended_outcome s i = go s.rows s.stack s.focus
    where
      no : (rows : List Form) (stack : List Frame) (x : Focus) → ended (at rows stack x) i ≡ No 22 i →
          (r : List Form) → at rows stack x ≡ at r [] start → ⊥
      no rows stack x e r q = rows_no (ap (λ (z : State). ended z i) (sym q) ∙ e)

      go : (rows : List Form) (stack : List Frame) (x : Focus) → Outcome (at rows stack x) [] i (ended (at rows stack x) i)
      go rows [] start = whole done
      go rows (f ∷ stack) start = unended i (omega arith) done (no rows (f ∷ stack) start refl)
      go rows stack (spelling w) = unended i (omega arith) done (no rows stack (spelling w) refl)
      go rows stack (number p) = unended i (omega arith) done (no rows stack (number p) refl)
      go rows stack (digit p v) = unended i (omega arith) done (no rows stack (digit p v) refl)
      go rows stack (made f) = unended i (omega arith) done (no rows stack (made f) refl)

  -- a step before
  stop_before : {s u : State} {b i j : ℕ} {bs : List ℕ} → step top s b ≡ some u → Calm u → Stop u bs (suc i) j → Stop s (b ∷ bs) i j
  stop_before {b = b} e c p =
      record {
        earlier = b ∷ p.earlier;
        byte = p.byte;
        later = p.later;
        state = p.state;
        index = omega (arith, p.index);
        cut = ap (λ (l : List ℕ). b ∷ l) p.cut;
        runs = onward e c p.runs;
      }

  before : {s u : State} {b i : ℕ} {bs : List ℕ} {r : Reading} → step top s b ≡ some u → Calm u → Outcome u bs (suc i) r → Outcome s (b ∷ bs) i r
  unfolding stop_before
  before e c (whole r) = whole (onward e c r)
  before e c (unended j q r n) = unended j (omega (arith, q)) (onward e c r) n
  before e c (dies p d) = dies (stop_before e c p) d
  before e c (deepens p d o) = deepens (stop_before e c p) d o
  before e c (exceeds p d o m) = exceeds (stop_before e c p) d o m

  stop_here : (s : State) (b : ℕ) (bs : List ℕ) (i : ℕ) → Stop s (b ∷ bs) i i
  stop_here s b bs i = record { earlier = []; byte = b; later = bs; state = s; index = omega arith; cut = refl; runs = done }

  pub outcome : (s : State) (text : List ℕ) (i : ℕ) → Outcome s text i (read top s text i)
  unfolding read too_deep too_many stop_here
  outcome s [] i = ended_outcome s i
  outcome s (b ∷ bs) i = go (step top s b) refl (λ u. outcome u bs (suc i))
    where
      ask : (u : State) (d m : Bool) → step top s b ≡ some u → too_deep u ≡ d → too_many u ≡ m → Outcome u bs (suc i) (read top u bs (suc i))
          → Outcome s (b ∷ bs) i (elim d [ true ↦ No 23 i | false ↦ elim m [ true ↦ No 24 i | false ↦ read top u bs (suc i) ] ])
      ask u true m p d n f = deepens (stop_here s b bs i) p (ltb-true deepest (open_in u) d)
      ask u false true p d n f =
          exceeds (stop_here s b bs i) p (ltb-false deepest (open_in u) d) (ltb-true most_gates (closed_in u) n)
      ask u false false p d n f =
          before p (record { shallow = ltb-false deepest (open_in u) d; few = ltb-false most_gates (closed_in u) n }) f

      go : (r : Option State) → step top s b ≡ r → ((u : State) → Outcome u bs (suc i) (read top u bs (suc i))) → Outcome s (b ∷ bs) i (elim r [
        | none ↦ No 22 i
        | some u ↦ elim (too_deep u) [ true ↦ No 23 i | false ↦ elim (too_many u) [ true ↦ No 24 i | false ↦ read top u bs (suc i) ] ]
      ])
      go none p f = dies (stop_here s b bs i) p
      go (some u) p f = ask u (too_deep u) (too_many u) p refl refl (f u)

  -- a text that runs is read to its end
  pub runs_read : {s t : State} {text : List ℕ} (i : ℕ) → Runs s text t → read top s text i ≡ ended t (i + length text)
  unfolding read too_deep too_many
  runs_read {s = s} i done = ap (ended s) (omega arith)
  runs_read i (onward {s = s} {u = u} {t = t} {b = b} {bs = bs} e c r) =
      rw (e, read)
      (rw (le-ltb deepest (open_in u) c.shallow, le-ltb most_gates (closed_in u) c.few) (runs_read (suc i) r ∙ ap (ended t) (omega arith)))
