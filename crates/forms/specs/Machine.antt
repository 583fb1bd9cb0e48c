-- How a text is read, byte by byte. The state is a sheet with a hole: the rows before, the open forms that wait for an operand, innermost
-- first, and what is being read in the hole. That the reading is just what the definitions of sheets and refusals say is proved
-- (`proofs/Exactly.antt`).
-- Assumes nothing.
use Rattle.std.specs.Prelude.{ℕ, zero, suc, ◌+◌, ◌*◌, ◌-◌, ◌/◌, Bool, true, false, cond, not, ◌&&◌, ◌||◌, List, [], ◌∷◌, ◌++◌, length, eqb, ltb, leb}
use Rattle.std.proofs.Math.Option.{Option, some, none}
use Rattle.circuit.specs.Accept.{most_gates}
use Rattle.forms.specs.Words.{Head, Sort, Leaf, One, Two, Scaled, heads, letters, sort, names, stands}
use Rattle.forms.specs.Form.{Form, leaf, one, two, scaled, marks, number_fits, gates_in, gates_in_all, opening, closing, space, feed, naught, ten}
use Rattle.forms.specs.Refusals.{deepest}

-- an open form that waits for an operand: "(w " before F, or "(w F " before G
pub data Frame : Type 0 where
  first : Head → Frame
  second : Head → Form → Frame

-- an open form that waits for a number: "(w " or "(w F "
pub data Numbered : Type 0 where
  plain : Head → Numbered
  after : Head → Form → Numbered

-- what is read in the hole: nothing yet; a bracket and letters; as far as a number; some of its digits; a whole form
pub data Focus : Type 0 where
  start : Focus
  spelling : List ℕ → Focus
  number : Numbered → Focus
  digit : Numbered → ℕ → Focus
  made : Form → Focus

pub record State : Type 0 where
  pub rows : List Form
  pub stack : List Frame
  pub focus : Focus

abbrev pub at : List Form → List Frame → Focus → State
at rows stack focus = record { rows = rows; stack = stack; focus = focus }

abbrev pub origin : State
origin = at [] [] start

unfoldable pub is_nil : {A : Type 0} → List A → Bool
is_nil [] = true
is_nil (x ∷ xs) = false

unfoldable pub when : Bool → State → Option State
when true s = some s
when false s = none

-- words -----------------------------------------------------------------------------------------------------------------

unfoldable pub starts : List ℕ → List ℕ → Bool
starts [] ys = true
starts (x ∷ xs) [] = false
starts (x ∷ xs) (y ∷ ys) = eqb x y && starts xs ys

unfoldable pub same : List ℕ → List ℕ → Bool
same xs ys = starts xs ys && eqb (length xs) (length ys)

unfoldable pub any_named : List Bool → Bool
any_named [] = false
any_named (m ∷ ms) = m || any_named ms

-- where no row can be named, no (line J) can begin
unfoldable pub may : Bool → Bool → Head → Bool
may any outermost h = stands outermost h && (not (names h) || any)

-- do the letters begin a word that may stand here?
unfoldable pub word_lives : List Head → Bool → Bool → List ℕ → Bool
word_lives [] any o w = false
word_lives (h ∷ hs) any o w = starts w (letters h) && may any o h || word_lives hs any o w

-- the word that they are
unfoldable pub word_is : List Head → Bool → Bool → List ℕ → Option Head
word_is [] any o w = none
word_is (h ∷ hs) any o w = cond (same w (letters h) && may any o h) (some h) (word_is hs any o w)

-- numbers ---------------------------------------------------------------------------------------------------------------

unfoldable pub is_digit : ℕ → Bool
is_digit b = leb naught b && ltb b (naught + ten)

-- do the digits of v begin those of j? The fuel is enough where it is at least j
unfoldable pub begins : ℕ → ℕ → ℕ → Bool
begins zero v j = eqb v j
begins (suc k) v j = eqb v j || not (ltb j ten) && begins k v (j / ten)

-- do the digits of v begin the name of a row from j on?
unfoldable pub name_lives : List Bool → ℕ → ℕ → Bool
name_lives [] j v = false
name_lives (m ∷ ms) j v = m && begins j v j || name_lives ms (suc j) v

unfoldable pub whose : Numbered → Head
whose (plain h) = h
whose (after h f) = h

unfoldable pub closed : Numbered → ℕ → Form
closed (plain h) v = leaf h v
closed (after h f) v = scaled h f v

-- what is open and what is closed ---------------------------------------------------------------------------------------

unfoldable pub open_here : Focus → ℕ
open_here start = 0
open_here (spelling w) = 1
open_here (number p) = 1
open_here (digit p v) = 1
open_here (made f) = 0

-- how many forms are open
unfoldable pub open_in : State → ℕ
open_in s = length s.stack + open_here s.focus

unfoldable pub closed_frames : List Frame → ℕ
closed_frames [] = 0
closed_frames (first h ∷ fs) = closed_frames fs
closed_frames (second h f ∷ fs) = gates_in f + closed_frames fs

unfoldable pub closed_numbered : Numbered → ℕ
closed_numbered (plain h) = 0
closed_numbered (after h f) = gates_in f

unfoldable pub closed_here : Focus → ℕ
closed_here start = 0
closed_here (spelling w) = 0
closed_here (number p) = closed_numbered p
closed_here (digit p v) = closed_numbered p
closed_here (made f) = gates_in f

-- how many gates are closed
unfoldable pub closed_in : State → ℕ
closed_in s = gates_in_all s.rows + closed_frames s.stack + closed_here s.focus

unfoldable pub too_deep : State → Bool
too_deep s = ltb deepest (open_in s)

unfoldable pub too_many : State → Bool
too_many s = ltb most_gates (closed_in s)

-- a step ----------------------------------------------------------------------------------------------------------------

-- a whole word and its space: what its sort wants first
unfoldable pub begun : List Form → List Frame → Head → Sort → State
begun rows stack h Leaf = at rows stack (number (plain h))
begun rows stack h One = at rows (first h ∷ stack) start
begun rows stack h Two = at rows (first h ∷ stack) start
begun rows stack h Scaled = at rows (first h ∷ stack) start

unfoldable pub begun_as : List Form → List Frame → Option Head → Option State
begun_as rows stack none = none
begun_as rows stack (some h) = some (begun rows stack h (sort h))

-- a form of this sort has its first operand: a bracket for one, else a space
unfoldable pub operand : List Form → List Frame → Head → Form → Sort → ℕ → Option State
operand rows stack h f Leaf b = none
operand rows stack h f One b = when (eqb b closing) (at rows stack (made (one h f)))
operand rows stack h f Two b = when (eqb b space) (at rows (second h f ∷ stack) start)
operand rows stack h f Scaled b = when (eqb b space) (at rows stack (number (after h f)))

-- a whole form goes to the innermost open form; the outermost wants its line feed
unfoldable pub handed : List Form → List Frame → Form → ℕ → Option State
handed rows [] f b = when (eqb b feed) (at (rows ++ (f ∷ [])) [] start)
handed rows (first h ∷ stack) f b = operand rows stack h f (sort h) b
handed rows (second h f ∷ stack) g b = when (eqb b closing) (at rows stack (made (two h f g)))

-- what a text comes to: its rows, or a refusal's number and index
pub data Reading : Type 0 where
  Rows : List Form → Reading
  No : ℕ → ℕ → Reading

-- "or at the text's length if it ends within a line"
unfoldable pub ended : State → ℕ → Reading
ended s i =
    elim s.focus [
      | start ↦ cond (is_nil s.stack) (Rows s.rows) (No 22 i)
      | spelling w ↦ No 22 i
      | number p ↦ No 22 i
      | digit p v ↦ No 22 i
      | made f ↦ No 22 i
    ]

-- top is the largest number that a sheet may have
module _ (top : ℕ) where
  unfoldable pub number_lives : List Form → Head → ℕ → Bool
  number_lives rows h v = cond (names h) (name_lives (marks rows) 0 v) (number_fits top rows h v)

  unfoldable pub step : State → ℕ → Option State
  step s b = elim s.focus [
    | start ↦ when (eqb b opening) (at s.rows s.stack (spelling []))
    | spelling w ↦ cond (eqb b space) (begun_as s.rows s.stack (word_is heads (any_named (marks s.rows)) (is_nil s.stack) w))
        (when (word_lives heads (any_named (marks s.rows)) (is_nil s.stack) (w ++ (b ∷ []))) (at s.rows s.stack (spelling (w ++ (b ∷ [])))))
    | number p ↦ when (is_digit b && number_lives s.rows (whose p) (b - naught)) (at s.rows s.stack (digit p (b - naught)))
    | digit p v ↦ cond (eqb b closing) (when (number_fits top s.rows (whose p) v) (at s.rows s.stack (made (closed p v))))
        (when (is_digit b && not (eqb v 0) && number_lives s.rows (whose p) (v * ten + (b - naught)))
        (at s.rows s.stack (digit p (v * ten + (b - naught)))))
    | made f ↦ handed s.rows s.stack f b
  ]

  -- several steps, depth and count aside
  unfoldable pub steps : State → List ℕ → Option State
  steps s [] = some s
  steps s (b ∷ bs) = elim (step s b) [ none ↦ none | some t ↦ steps t bs ]

  -- "The earliest byte decides and is the index, 22 first where two fall on one byte": a byte lives or not; then depth and count are asked
  unfoldable pub read : State → List ℕ → ℕ → Reading
  read s [] i = ended s i
  read s (b ∷ bs) i = elim (step s b) [
    | none ↦ No 22 i
    | some t ↦ elim (too_deep t) [ true ↦ No 23 i | false ↦ elim (too_many t) [ true ↦ No 24 i | false ↦ read t bs (suc i) ] ]
  ]

  unfoldable pub reading : List ℕ → Reading
  reading text = read origin text 0
