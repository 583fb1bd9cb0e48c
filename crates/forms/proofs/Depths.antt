-- How deep a reading goes: what is read is within a depth exactly where every state on the way has no more forms open.
-- Assumes nothing.
use Prim.Native.Nat.{ℕ, suc, ◌+◌, ◌≤◌}
use mathlib.Core.Path.{◌≡◌, refl}
use mathlib.Core.Bool.{Bool, true, false, cond}
use mathlib.Core.List.{List, [], ◌∷◌, ◌++◌}
use native.Mathlib.Omega.{arith}
use lib.ListN.{length}
use lib.Dec.{leb}
use borrow.Author.Tests.{leb-true, leb-false}
use Rattle.forms.specs.Form.{Form, larger, depth, depth_of_all}
use Rattle.forms.specs.Machine.{
  Frame,
  first,
  second,
  Numbered,
  plain,
  after,
  Focus,
  start,
  spelling,
  number,
  digit,
  made,
  State,
  at,
  closed,
  open_here,
  open_in,
}
use Rattle.forms.proofs.Moves.{
  Move,
  opens,
  spells,
  wants_number,
  wants_form,
  first_digit,
  more_digits,
  closes_number,
  closes_one,
  wants_second,
  wants_number_after,
  closes_two,
  feeds,
}

-- the larger of two -----------------------------------------------------------------------------------------------------

larger_left : (x y : ℕ) → x ≤ larger x y
unfolding larger
larger_left x y = go (leb x y) refl
  where
    go : (b : Bool) → leb x y ≡ b → x ≤ cond b y x
    go true e = leb-true x y e
    go false e = omega arith

larger_right : (x y : ℕ) → y ≤ larger x y
unfolding larger
larger_right x y = go (leb x y) refl
  where
    go : (b : Bool) → leb x y ≡ b → y ≤ cond b y x
    go true e = omega arith
    go false e = omega (arith, leb-false x y e)

larger_most : (n x y d : ℕ) → n + x ≤ d → n + y ≤ d → n + larger x y ≤ d
unfolding larger
larger_most n x y d p q = go (leb x y)
  where
    go : (b : Bool) → n + cond b y x ≤ d
    go true = q
    go false = p

pub rows_deeper : (rows : List Form) (f : Form) (d : ℕ) → depth_of_all rows ≤ d → depth f ≤ d → depth_of_all (rows ++ (f ∷ [])) ≤ d
unfolding depth_of_all
rows_deeper [] f d p q = omega (arith, larger_most 0 (depth f) 0 d (omega arith) (omega arith))
rows_deeper (g ∷ rows) f d p q =
    let r = rows_deeper rows f d (omega (arith, larger_right (depth g) (depth_of_all rows))) q in
    omega (arith, larger_most 0 (depth g) (depth_of_all (rows ++ (f ∷ []))) d (omega (arith, larger_left (depth g) (depth_of_all rows))) (omega arith))

rows_were : (rows : List Form) (f : Form) (d : ℕ) → depth_of_all (rows ++ (f ∷ [])) ≤ d → (depth_of_all rows ≤ d) × (depth f ≤ d)
unfolding depth_of_all
rows_were [] f d p = (omega arith, omega (arith, larger_left (depth f) 0))
rows_were (g ∷ rows) f d p =
    let r = rows_were rows f d (omega (arith, larger_right (depth g) (depth_of_all (rows ++ (f ∷ []))))) in
    let g-most = larger_left (depth g) (depth_of_all (rows ++ (f ∷ []))) in
    (omega (arith, larger_most 0 (depth g) (depth_of_all rows) d (omega arith) (omega (arith, r.0))), r.1)

-- within a depth --------------------------------------------------------------------------------------------------------

unfoldable depth_numbered : Numbered → ℕ
depth_numbered (plain h) = 1
depth_numbered (after h f) = suc (depth f)

-- how deep what is read in the hole goes
unfoldable pub depth_here : Focus → ℕ
unfolding depth_numbered
depth_here start = 0
depth_here (spelling w) = 1
depth_here (number p) = depth_numbered p
depth_here (digit p v) = depth_numbered p
depth_here (made f) = depth f

-- the operands that open forms have
unfoldable pub FramesWithin : ℕ → List Frame → Type 0
FramesWithin d [] = Unit {0}
FramesWithin d (first h ∷ fs) = FramesWithin d fs
FramesWithin d (second h f ∷ fs) = (length fs + 1 + depth f ≤ d) × FramesWithin d fs

pub record Within (d : ℕ) (s : State) : Type 0 where
  pub rows_within : depth_of_all s.rows ≤ d
  pub frames_within : FramesWithin d s.stack
  pub hole_within : length s.stack + depth_here s.focus ≤ d

closed_depth : (p : Numbered) (v : ℕ) → depth (closed p v) ≡ depth_numbered p
unfolding depth closed depth_numbered
closed_depth (plain h) v = refl
closed_depth (after h f) v = refl

pub within_open : (d : ℕ) (s : State) → Within d s → open_in s ≤ d
unfolding open_in open_here depth_here depth_numbered
within_open d s w = go s.focus w.hole_within
  where
    numbered : (p : Numbered) → 1 ≤ depth_numbered p
    numbered (plain h) = omega arith
    numbered (after h f) = omega arith

    go : (x : Focus) → length s.stack + depth_here x ≤ d → length s.stack + open_here x ≤ d
    go start h = h
    go (spelling v) h = h
    go (number p) h = omega (arith, numbered p)
    go (digit p v) h = omega (arith, numbered p)
    go (made f) h = omega arith

abbrev within : {d : ℕ} {rows : List Form} {stack : List Frame} {x : Focus} →
    depth_of_all rows ≤ d → FramesWithin d stack → length stack + depth_here x ≤ d → Within d (at rows stack x)
within r f h = record { rows_within = r; frames_within = f; hole_within = h }

-- what is read stays within, as long as no more forms are open
pub move_within : (d : ℕ) {rows : List Form} {stack : List Frame} {x : Focus} {b : ℕ} {t : State} → Move rows stack x b t →
    open_in t ≤ d → Within d (at rows stack x) → Within d t
unfolding open_in open_here depth_here depth_numbered FramesWithin depth
move_within d opens o w = within w.rows_within w.frames_within o
move_within d (spells p) o w = within w.rows_within w.frames_within w.hole_within
move_within d (wants_number e) o w = within w.rows_within w.frames_within w.hole_within
move_within d (wants_form e) o w = within w.rows_within w.frames_within o
move_within d (first_digit p) o w = within w.rows_within w.frames_within w.hole_within
move_within d (more_digits p) o w = within w.rows_within w.frames_within w.hole_within
move_within d (closes_number {p = p} {v = v}) o w = within w.rows_within w.frames_within (omega (arith, w.hole_within, closed_depth p v))
move_within d closes_one o w = within w.rows_within w.frames_within (omega (arith, w.hole_within))
move_within d wants_second o w = within w.rows_within (omega (arith, w.hole_within), w.frames_within) o
move_within d wants_number_after o w = within w.rows_within w.frames_within (omega (arith, w.hole_within))
move_within d (closes_two {stack = stack} {f = f} {g = g}) o w =
    within w.rows_within w.frames_within.1
    (omega (arith, larger_most (length stack + 1) (depth f) (depth g) d w.frames_within.0 (omega (arith, w.hole_within))))
move_within d {rows} (feeds {f = f}) o w = within (rows_deeper rows f d w.rows_within (omega (arith, w.hole_within))) tt o

-- and was within before
pub move_was_within : (d : ℕ) {rows : List Form} {stack : List Frame} {x : Focus} {b : ℕ} {t : State} → Move rows stack x b t →
    Within d t → Within d (at rows stack x)
unfolding depth_here depth_numbered FramesWithin depth
move_was_within d opens w = within w.rows_within w.frames_within (omega (arith, w.hole_within))
move_was_within d (spells p) w = within w.rows_within w.frames_within w.hole_within
move_was_within d (wants_number e) w = within w.rows_within w.frames_within w.hole_within
move_was_within d (wants_form e) w = within w.rows_within w.frames_within (omega (arith, w.hole_within))
move_was_within d (first_digit p) w = within w.rows_within w.frames_within w.hole_within
move_was_within d (more_digits p) w = within w.rows_within w.frames_within w.hole_within
move_was_within d (closes_number {p = p} {v = v}) w = within w.rows_within w.frames_within (omega (arith, w.hole_within, closed_depth p v))
move_was_within d closes_one w = within w.rows_within w.frames_within (omega (arith, w.hole_within))
move_was_within d wants_second w = within w.rows_within w.frames_within.1 (omega (arith, w.frames_within.0))
move_was_within d wants_number_after w = within w.rows_within w.frames_within (omega (arith, w.hole_within))
move_was_within d (closes_two {f = f} {g = g}) w =
    within w.rows_within (omega (arith, w.hole_within, larger_left (depth f) (depth g)), w.frames_within)
    (omega (arith, w.hole_within, larger_right (depth f) (depth g)))
move_was_within d {rows} (feeds {f = f}) w = let r = rows_were rows f d w.rows_within in within r.0 tt (omega (arith, r.1))
