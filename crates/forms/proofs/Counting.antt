-- Brackets counted: at a state that is reached, as many more are opened than closed as forms are open, and closed brackets are the gates closed and
-- the names begun.
-- Assumes nothing.
use Prim.Native.Nat.{ℕ, ◌+◌, ◌≤◌}
use mathlib.Core.Path.{◌≡◌, refl, sym, subst, ◌∙◌}
use mathlib.Core.Bool.{Bool, true, false, cond, not, ◌&&◌}
use mathlib.Core.List.{List, [], ◌∷◌, ◌++◌}
use mathlib.Core.Option.{some}
use native.Mathlib.Omega.{arith}
use lib.Dec.{eqb}
use borrow.Author.Tests.{eqb-true, not-true}
use Rattle.circuit.proofs.Tests.{by_cases, both_left, both_right}
use Rattle.forms.specs.Words.{names}
use Rattle.forms.specs.Form.{Form, gates_in, gates_in_all, opening, closing}
use Rattle.forms.specs.Refusals.{count, count_names, line_letter}
use Rattle.forms.specs.Machine.{
  Frame,
  Numbered,
  plain,
  after,
  Focus,
  start,
  spelling,
  number,
  digit,
  made,
  State,
  at,
  origin,
  closed,
  open_here,
  open_in,
  closed_frames,
  closed_numbered,
  closed_here,
  closed_in,
  step,
  steps,
}
use Rattle.forms.proofs.Choices.{some_is}
use Rattle.forms.proofs.Stepping.{steps_split, steps_one, steps_then}
use Rattle.forms.proofs.Moves.{
  plain_byte,
  name_begun,
  Move,
  opens,
  spells,
  wants_number,
  wants_form,
  first_digit,
  more_digits,
  closes_number,
  closes_one,
  wants_second,
  wants_number_after,
  closes_two,
  feeds,
  step_move,
}

-- is the byte this one?
abbrev pub hit : ℕ → ℕ → ℕ
hit b x = cond (eqb x b) 1 0

pub hit_elim : (b x : ℕ) {G : Type 0} → (x ≡ b → hit b x ≡ 1 → G) → (hit b x ≡ 0 → G) → G
hit_elim b x f g = by_cases (eqb x b) (λ e. f (eqb-true x b e) (rw e)) (λ e. g (rw e))

pub plain_opening : (b : ℕ) → plain_byte b ≡ true → hit opening b ≡ 0
unfolding plain_byte
plain_opening b e = rw (not-true (eqb b opening) (both_left (not (eqb b opening)) (not (eqb b closing)) e))

pub plain_closing : (b : ℕ) → plain_byte b ≡ true → hit closing b ≡ 0
unfolding plain_byte
plain_closing b e = rw (not-true (eqb b closing) (both_right (not (eqb b opening)) (not (eqb b closing)) e))

-- what is known of a state ----------------------------------------------------------------------------------------------

-- is a bracket just read?
unfoldable just_opened : Focus → Bool
just_opened start = false
just_opened (spelling []) = true
just_opened (spelling (x ∷ w)) = false
just_opened (number p) = false
just_opened (digit p v) = false
just_opened (made f) = false

unfoldable name_pending : Numbered → ℕ
name_pending (plain h) = cond (names h) 1 0
name_pending (after h f) = 0

-- is a name begun that is not closed?
unfoldable pending : Focus → ℕ
pending start = 0
pending (spelling w) = name_begun w
pending (number p) = name_pending p
pending (digit p v) = name_pending p
pending (made f) = 0

pub gates_snoc : (rows : List Form) (f : Form) → gates_in_all (rows ++ (f ∷ [])) ≡ gates_in_all rows + gates_in f
unfolding gates_in_all
gates_snoc [] f = omega arith
gates_snoc (g ∷ rows) f = omega (arith, gates_snoc rows f)

-- a move ----------------------------------------------------------------------------------------------------------------

pub move_opens : {rows : List Form} {stack : List Frame} {x : Focus} {b : ℕ} {t : State} → Move rows stack x b t →
    open_in t + hit closing b ≡ open_in (at rows stack x) + hit opening b
unfolding open_in open_here
move_opens opens = omega arith
move_opens (spells {b = b} p) = omega (arith, plain_opening b p, plain_closing b p)
move_opens (wants_number e) = omega arith
move_opens (wants_form e) = omega arith
move_opens (first_digit {b = b} p) = omega (arith, plain_opening b p, plain_closing b p)
move_opens (more_digits {b = b} p) = omega (arith, plain_opening b p, plain_closing b p)
move_opens closes_number = omega arith
move_opens closes_one = omega arith
move_opens wants_second = omega arith
move_opens wants_number_after = omega arith
move_opens closes_two = omega arith
move_opens feeds = omega arith

closed_here_lem : (p : Numbered) (v : ℕ) → gates_in (closed p v) + name_pending p ≡ closed_numbered p + 1
unfolding gates_in closed closed_numbered name_pending
closed_here_lem (plain h) v = go (names h)
  where
    go : (n : Bool) → cond n 0 1 + cond n 1 0 ≡ 0 + 1
    go true = refl
    go false = refl
closed_here_lem (after h f) v = omega arith

pending_most : (p : Numbered) → name_pending p ≤ 1
unfolding name_pending
pending_most (plain h) = go (names h)
  where
    go : (n : Bool) → cond n 1 0 ≤ 1
    go true = omega arith
    go false = omega arith
pending_most (after h f) = omega arith

move_flag : {rows : List Form} {stack : List Frame} {x : Focus} {b : ℕ} {t : State} → Move rows stack x b t → just_opened t.focus ≡ eqb b opening
unfolding just_opened plain_byte
move_flag opens = refl
move_flag (spells {w = w} {b = b} p) = longer w ∙ sym (not-true (eqb b opening) (both_left (not (eqb b opening)) (not (eqb b closing)) p))
  where
    longer : (w : List ℕ) → just_opened (spelling (w ++ (b ∷ []))) ≡ false
    longer [] = refl
    longer (x ∷ w) = refl
move_flag (wants_number e) = refl
move_flag (wants_form e) = refl
move_flag (first_digit {b = b} p) = sym (not-true (eqb b opening) (both_left (not (eqb b opening)) (not (eqb b closing)) p))
move_flag (more_digits {b = b} p) = sym (not-true (eqb b opening) (both_left (not (eqb b opening)) (not (eqb b closing)) p))
move_flag closes_number = refl
move_flag closes_one = refl
move_flag wants_second = refl
move_flag wants_number_after = refl
move_flag closes_two = refl
move_flag feeds = refl

-- one letter more
begun_more : (w : List ℕ) (b : ℕ) → name_begun (w ++ (b ∷ [])) ≡ cond (just_opened (spelling w) && eqb b line_letter) 1 0 + name_begun w
unfolding just_opened name_begun
begun_more [] b = omega arith
begun_more (x ∷ w) b = omega arith

and_no : (a : Bool) → (a && false) ≡ false
and_no true = refl
and_no false = refl

move_names : {rows : List Form} {stack : List Frame} {x : Focus} {b : ℕ} {t : State} → Move rows stack x b t →
    hit closing b + pending t.focus + closed_in (at rows stack x) ≡ cond (just_opened x && eqb b line_letter) 1 0 + closed_in t + pending x
unfolding pending closed_in closed_here closed_frames closed_numbered just_opened name_pending
move_names opens = unfold name_begun in omega arith
move_names (spells {w = w} {b = b} p) = omega (arith, plain_closing b p, begun_more w b)
move_names (wants_number {w = w} e) = rw (and_no (just_opened (spelling w))) (omega (arith, e))
move_names (wants_form {w = w} e) = rw (and_no (just_opened (spelling w))) (omega (arith, e))
move_names (first_digit {b = b} p) = omega (arith, plain_closing b p)
move_names (more_digits {b = b} p) = omega (arith, plain_closing b p)
move_names (closes_number {p = p} {v = v}) = omega (arith, closed_here_lem p v)
move_names closes_one = unfold gates_in in omega arith
move_names wants_second = omega arith
move_names wants_number_after = omega arith
move_names closes_two = unfold gates_in in omega arith
move_names {rows} (feeds {f = f}) = omega (arith, gates_snoc rows f)

-- gates are closed one at a time, by brackets
pub move_closes : {rows : List Form} {stack : List Frame} {x : Focus} {b : ℕ} {t : State} → Move rows stack x b t →
    (closed_in (at rows stack x) ≤ closed_in t) × (closed_in t ≤ closed_in (at rows stack x) + hit closing b)
unfolding closed_in closed_here closed_frames closed_numbered
move_closes opens = (omega arith, omega arith)
move_closes (spells p) = (omega arith, omega arith)
move_closes (wants_number e) = (omega arith, omega arith)
move_closes (wants_form e) = (omega arith, omega arith)
move_closes (first_digit p) = (omega arith, omega arith)
move_closes (more_digits p) = (omega arith, omega arith)
move_closes (closes_number {p = p} {v = v}) = (omega (arith, pending_most p, closed_here_lem p v), omega (arith, closed_here_lem p v))
move_closes closes_one = unfold gates_in in (omega arith, omega arith)
move_closes wants_second = (omega arith, omega arith)
move_closes wants_number_after = (omega arith, omega arith)
move_closes closes_two = unfold gates_in in (omega arith, omega arith)
move_closes {rows} (feeds {f = f}) = (omega (arith, gates_snoc rows f), omega (arith, gates_snoc rows f))

-- no name is begun where a bracket closes
move_ends : {rows : List Form} {stack : List Frame} {x : Focus} {b : ℕ} {t : State} → Move rows stack x b t → hit closing b ≡ 1 →
    pending t.focus ≡ 0
unfolding pending
move_ends opens e = absurd (omega arith)
move_ends (spells {b = b} p) e = absurd (omega (arith, plain_closing b p))
move_ends (wants_number q) e = absurd (omega arith)
move_ends (wants_form q) e = absurd (omega arith)
move_ends (first_digit {b = b} p) e = absurd (omega (arith, plain_closing b p))
move_ends (more_digits {b = b} p) e = absurd (omega (arith, plain_closing b p))
move_ends closes_number e = refl
move_ends closes_one e = refl
move_ends wants_second e = absurd (omega arith)
move_ends wants_number_after e = absurd (omega arith)
move_ends closes_two e = refl
move_ends feeds e = absurd (omega arith)

-- a text ----------------------------------------------------------------------------------------------------------------

module _ (top : ℕ) where
  -- what each step carries on, steps carry on
  pub steps_elim : (P : State → List ℕ → State → Type 0) → ((s : State) → P s [] s)
      → ((s u t : State) (b : ℕ) (bs : List ℕ) → Move s.rows s.stack s.focus b u → P u bs t → P s (b ∷ bs) t)
      → (s : State) (text : List ℕ) (t : State) → steps top s text ≡ some t → P s text t
  unfolding steps
  steps_elim P done more s [] t e = subst (P s []) (some_is e) (done s)
  steps_elim P done more s (b ∷ bs) t e =
      let o = steps_split top s b bs t e in
      more s o.next t b bs (step_move top s b o.next o.one) (steps_elim P done more o.next bs t o.others)

  steps_open : (s : State) (text : List ℕ) (t : State) → steps top s text ≡ some t → open_in t + count closing text ≡ open_in s + count opening text
  unfolding count
  steps_open = steps_elim (λ s text t. open_in t + count closing text ≡ open_in s + count opening text) (λ s. refl)
      (λ s u t b bs m k. omega (arith, move_opens m, k))

  steps_names : (s : State) (text : List ℕ) (t : State) → steps top s text ≡ some t
      → count closing text + pending t.focus + closed_in s ≡ count_names (just_opened s.focus) text + closed_in t + pending s.focus
  unfolding count count_names
  steps_names = steps_elim
      (λ s text t. count closing text + pending t.focus + closed_in s ≡ count_names (just_opened s.focus) text + closed_in t + pending s.focus)
      (λ s. omega arith)
      (λ s u t b bs m k. omega (arith, move_names m, rw (move_flag m) at k))

  pub opened_are : (u : List ℕ) (s : State) → steps top origin u ≡ some s → count opening u ≡ count closing u + open_in s
  unfolding open_in open_here
  opened_are u s e = omega (arith, steps_open origin u s e)

  -- every bracket that closes closes a gate, but that of a name
  pub closed_are : (u : List ℕ) (s t : State) → steps top origin u ≡ some s → step top s closing ≡ some t
      → count closing (u ++ (closing ∷ [])) ≡ count_names false (u ++ (closing ∷ [])) + closed_in t
  unfolding pending just_opened closed_in closed_here closed_frames gates_in_all
  closed_are u s t e q =
      omega (
        arith,
        steps_names origin (u ++ (closing ∷ [])) t (steps_then top u (closing ∷ []) origin e (steps_one top s closing q)),
        move_ends (step_move top s closing t q) refl,
      )
