-- What the writer's functions promise: bytes that stand over those of a text from a place on, a row's bytes, and rows that are handed over.
-- Assumes nothing.
use Rattle.std.specs.Prelude.{ℕ, ◌+◌, ◌≤◌, ◌≡◌, List, [], ◌∷◌, ◌++◌, length, take, drop, leb, Result}
use Rattle.circuit.specs.Verdict.{Verdict, ask}
use Rattle.protocol.specs.Send.{overwrite}
use Rattle.protocol.specs.Entry.{leave}
use Rattle.circuit.specs.declared.questions.Refusal.{Refusal}
use Rattle.forms.specs.Form as R
use Rattle.forms.specs.Form.{print, print_rows, feed}
use Rattle.forms.specs.Entry.{answer, name, rows_up_to}
use Rattle.forms.specs.Code.{answer_of}
use Rattle.writer.specs.declared.Form.{Form}
use Rattle.writer.specs.declared.Form.TheVariants.{Leaf, One, Two, Scaled}

-- a text with some bytes over it from a place on
unfoldable pub over : List ℕ → ℕ → List ℕ → List ℕ
over text at bytes = take at text ++ bytes ++ drop (at + length bytes) text

-- bytes were put over a text from a place on; they end at another
pub record Put (before later : List ℕ) (at to : ℕ) (bytes : List ℕ) : Type 0 where
  pub ends : to ≡ at + length bytes
  pub holds : later ≡ over before at bytes

-- a count of bytes that is at most so large
pub record Counts (bytes : List ℕ) (most : ℕ) (r : ℕ) : Type 0 where
  pub counted : r ≡ length bytes
  pub small : r ≤ most

-- the row as the sheet's definition has it
unfoldable pub form_in : Form → R.Form
form_in (Leaf head number) = R.leaf head number
form_in (One head first) = R.one head (name first)
form_in (Two head first second) = R.two head (name first) (name second)
form_in (Scaled head first number) = R.scaled head (name first) number

-- the bytes of a row
unfoldable pub row_text : R.Form → List ℕ
row_text f = print f ++ (feed ∷ [])

-- no row is longer, whatever its numbers are
abbrev pub row_room : ℕ
row_room = 66

-- 18 of the rows of the first k gates
unfoldable pub ask_room : List ℕ → ℕ → ℕ → Verdict
ask_room c k room = ask 18 0 (leb (length (print_rows (rows_up_to c k))) room)

-- their rows are handed over, if that accepts
pub record Handed (c : List ℕ) (k : ℕ) (before later : List ℕ) (r : Result ℕ Refusal) : Type 0 where
  pub answers : answer_of r ≡ answer (ask_room c k (length before)) (length (print_rows (rows_up_to c k)))
  pub leaves : later ≡ leave (ask_room c k (length before)) (overwrite (print_rows (rows_up_to c k)) before) before
