-- The two entries: a sheet is read as a circuit, a circuit is written as a sheet. The answer of each, and what the lent list holds afterwards.
-- Assumes nothing.
use Rattle.std.specs.Prelude.{ℕ, zero, suc, ◌+◌, cond, List, [], ◌∷◌, ◌++◌, length, eqb, leb}
use Rattle.circuit.specs.Verdict.{Verdict, Accepted, Refused, ask, ◌then◌}
use Rattle.circuit.specs.Gate.{entry, gates}
use Rattle.circuit.specs.Kind.{Shape, Role, Unused, Party, Wire, Constant, Divisor}
use Rattle.circuit.specs.Accept.{ask_circuit}
use Rattle.protocol.specs.Ask.{ask_parties}
use Rattle.protocol.specs.Send.{overwrite}
use Rattle.protocol.specs.Entry.{leave}
use Rattle.forms.specs.Words.{Head, Line, Sort, Leaf, One, Two, Scaled, heads, sort, kind, shape_of}
use Rattle.forms.specs.Form.{Form, leaf, one, two, scaled, print_rows, circuit_of}
use Rattle.forms.specs.Machine.{Reading, Rows, No, reading}

-- what an entry answers: a refusal's number and index, or how many gates were read, how many bytes were written
pub data Answer : Type 0 where
  Refusal : ℕ → ℕ → Answer
  Done : ℕ → Answer

unfoldable pub answer : Verdict → ℕ → Answer
answer Accepted n = Done n
answer (Refused number index) n = Refusal number index

-- reading ---------------------------------------------------------------------------------------------------------------

unfoldable pub ask_shape : Reading → Verdict
ask_shape (Rows rows) = Accepted
ask_shape (No number index) = Refused number index

unfoldable pub rows_in : Reading → List Form
rows_in (Rows rows) = rows
rows_in (No number index) = []

-- the circuit that a text is, top being the largest number that a sheet may have
unfoldable pub circuit_in : ℕ → List ℕ → List ℕ
circuit_in top text = circuit_of (rows_in (reading top text))

-- n parties, and a field of q elements
module _ (n q top : ℕ) where
  -- 1, then 22 to 24; "3 to 7 follow on the circuit, then 18". The list for the circuit has room numbers
  unfoldable pub ask_read : List ℕ → ℕ → Verdict
  ask_read text room =
      ask_parties n
      then ask_shape (reading top text)
      then ask_circuit n q (circuit_in top text)
      then ask 18 0 (leb (length (circuit_in top text)) room)

  unfoldable pub read_answer : List ℕ → ℕ → Answer
  read_answer text room = answer (ask_read text room) (gates (circuit_in top text))

  -- the list for the circuit afterwards
  unfoldable pub read_circuit : List ℕ → List ℕ → List ℕ
  read_circuit text circuit = leave (ask_read text (length circuit)) (overwrite (circuit_in top text) circuit) circuit

-- writing ---------------------------------------------------------------------------------------------------------------

-- the word whose form makes a gate of this kind
unfoldable pub picked : List Head → ℕ → Head
picked [] k = Line
picked (h ∷ hs) k = cond (eqb (kind h) k) h (picked hs k)

unfoldable pub head_of : ℕ → Head
head_of k = picked heads k

-- the number of a gate that its form has as its number; no gate has two
unfoldable pub counted : Role → ℕ → ℕ
counted Unused x = 0
counted Party x = x
counted Wire x = 0
counted Constant x = x
counted Divisor x = x

unfoldable pub number_of : Shape → ℕ → ℕ → ℕ → ℕ
number_of s x y z = counted s.first x + counted s.second y + counted s.constant z

-- "The writer uses only (line J) for operands"
unfoldable pub name : ℕ → Form
name j = leaf Line j

unfoldable pub form_of : Head → Sort → ℕ → ℕ → ℕ → Form
form_of h Leaf x y n = leaf h n
form_of h One x y n = one h (name x)
form_of h Two x y n = two h (name x) (name y)
form_of h Scaled x y n = scaled h (name x) n

unfoldable pub row_for : Head → ℕ → ℕ → ℕ → Form
row_for h x y z = form_of h (sort h) x y (number_of (shape_of h) x y z)

-- gate j as a row
unfoldable pub row_of : List ℕ → ℕ → Form
row_of c j = row_for (head_of (entry c j 0)) (entry c j 1) (entry c j 2) (entry c j 3)

-- the first k gates
unfoldable pub rows_up_to : List ℕ → ℕ → List Form
rows_up_to c zero = []
rows_up_to c (suc k) = rows_up_to c k ++ (row_of c k ∷ [])

unfoldable pub rows_of : List ℕ → List Form
rows_of c = rows_up_to c (gates c)

unfoldable pub sheet_of : List ℕ → List ℕ
sheet_of c = print_rows (rows_of c)

module _ (n q : ℕ) (c : List ℕ) where
  -- 1, 3 to 7, then 18 of the sheet's bytes. The list for the text has room bytes
  unfoldable pub ask_write : ℕ → Verdict
  ask_write room = ask_parties n then ask_circuit n q c then ask 18 0 (leb (length (sheet_of c)) room)

  unfoldable pub write_answer : ℕ → Answer
  write_answer room = answer (ask_write room) (length (sheet_of c))

  -- the list for the text afterwards
  unfoldable pub write_text : List ℕ → List ℕ
  write_text text = leave (ask_write (length text)) (overwrite (sheet_of c) text) text
