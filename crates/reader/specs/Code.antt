-- What the code's readers of forms and of rows promise: reading on, as the readers of words and numbers do, and what is written on the way.
-- Assumes nothing.
use Rattle.std.specs.Prelude.{ℕ, ◌+◌, ◌*◌, ◌^◌, ◌<◌, ◌≤◌, ◌≡◌, Bool, true, List, [], ◌∷◌, ◌++◌, length, take, drop, leb, Result, Ok, Err, MatchResult}
use Rattle.circuit.specs.Verdict.{Verdict, ask, ◌then◌}
use Rattle.circuit.specs.Question.{number_of}
use Rattle.circuit.specs.declared.questions.Refusal.{Refusal}
use Rattle.circuit.specs.declared.questions.Question.TheVariants as Q
use Rattle.circuit.specs.Gate.{gate_size, gates}
use Rattle.circuit.specs.Accept.{most_gates, ask_circuit}
use Rattle.protocol.specs.Send.{overwrite}
use Rattle.protocol.specs.Entry.{leave}
use Rattle.field.specs.Words.{size, largest}
use Rattle.forms.specs.declared.Head.{Head}
use Rattle.forms.specs.Words.{sort, kind, valued}
use Rattle.forms.specs.Form.{Form, head, marks, gates_in, wire_of, flat, circuit_of, feed}
use Rattle.forms.specs.Refusals.{deepest}
use Rattle.forms.specs.Machine.{Frame, State, at, start, made, begun, closed_in, read, reading, Rows, No}
use Rattle.forms.specs.Entry as E
use Rattle.forms.specs.Code.{answer_of}
use Rattle.tokens.specs.Code.{is_at, known, gates_at}
use Rattle.reader.specs.declared.Operand.{Operand}

-- forms -----------------------------------------------------------------------------------------------------------------

-- a row begins or an operand is wanted, as the code knows it: what the rows before are, how many forms more may be open, and how many gates
-- there are
pub record Ready (table : List ℕ) (left count : ℕ) (rows : List Form) (stack : List Frame) : Type 0 where
  pub marked : marks rows ≡ known table
  pub room : length stack + left ≡ deepest
  pub counted : closed_in (at rows stack start) ≡ count

-- where a form is read from: its bracket, or what follows its word
abbrev pub Place : Type 0
Place = List Form → List Frame → State

abbrev pub fresh : Place
fresh rows stack = at rows stack start

abbrev pub worded : Head → Place
worded h rows stack = begun rows stack h (sort h)

-- a form is read: its gates stand behind those before, and one that is a row has a gate of its own
pub record Made (place : Place) (text table before later : List ℕ) (from left count to total wire : ℕ) (mark : Bool) : Type 0 where
  pub form : Form
  pub reads : (rows : List Form) (stack : List Frame) → Ready table left count rows stack →
      read largest (place rows stack) (drop from text) from ≡ read largest (at rows stack (made form)) (drop to text) to
  pub inside : to ≤ length text
  pub counted : total ≡ count + gates_in form
  pub few : total ≤ most_gates
  pub carried : wire ≡ wire_of (gates_at table) count form
  pub marked : mark ≡ valued (head form)
  pub written : take (gate_size * total) later ≡ take (gate_size * count) before ++ flat (gates_at table) count form
  pub sized : length later ≡ length before
  pub own : left ≡ deepest → (count < total) × (wire < total)

pub record Stopped (place : Place) (text table : List ℕ) (from left count number index : ℕ) : Type 0 where
  pub stops : (rows : List Form) (stack : List Frame) → Ready table left count rows stack →
      read largest (place rows stack) (drop from text) from ≡ No number index

abbrev pub Told : Place → List ℕ → List ℕ → List ℕ → List ℕ → ℕ → ℕ → ℕ → Result Operand Refusal → Type 0
Told place text table before later from left count r =
    MatchResult r (λ o. Made place text table before later from left count o.to o.count o.wire o.valued)
    (λ e. Stopped place text table from left count (number_of e.question) e.index)

-- the byte at which a word or a number dies is refused by 22
abbrev pub Placed : {T : Type 0} → Result T ℕ → Result T Refusal → Type 0
Placed r s = MatchResult r (λ x. s ≡ Ok x) (λ index. s ≡ Err (record { question = Q.Form; index = index }))

-- what a call is given: the table of the rows before, a place in the text, whose length is a number, and room for every gate
pub record Given (text table lines : List ℕ) (from count : ℕ) : Type 0 where
  pub short : length text < 2 ^ 64
  pub rows_fit : length table ≤ most_gates
  pub within : from ≤ length text
  pub few : count ≤ most_gates
  pub long : gate_size * most_gates ≤ length lines

-- a word's gate with these numbers
abbrev pub gate : Head → ℕ → ℕ → ℕ → List ℕ
gate h first second constant = kind h ∷ first ∷ second ∷ constant ∷ []

-- a bracket that closes a form with a gate: the gate is written, unless there are 256 before it
pub record Pushed (h : Head) (numbers before later : List ℕ) (at count to total wire : ℕ) (mark : Bool) : Type 0 where
  pub to_is : to ≡ at + 1
  pub total_is : total ≡ count + 1
  pub wire_is : wire ≡ count
  pub mark_is : mark ≡ valued h
  pub room : count < most_gates
  pub written : take (gate_size * total) later ≡ take (gate_size * count) before ++ numbers
  pub sized : length later ≡ length before

pub record Full (at count number index : ℕ) : Type 0 where
  pub number_is : number ≡ 24
  pub index_is : index ≡ at
  pub full : count ≡ most_gates

abbrev pub Closes : Head → List ℕ → List ℕ → List ℕ → ℕ → ℕ → Result Operand Refusal → Type 0
Closes h numbers before later at count r =
    MatchResult r (λ o. Pushed h numbers before later at count o.to o.count o.wire o.valued) (λ e. Full at count (number_of e.question) e.index)

-- rows ------------------------------------------------------------------------------------------------------------------

-- a form and its line feed
pub record RowMade (text table before later : List ℕ) (from count to total wire : ℕ) (mark : Bool) : Type 0 where
  pub end : ℕ
  pub read : Made fresh text table before later from deepest count end total wire mark
  pub feeds : is_at text end feed ≡ true
  pub to_is : to ≡ end + 1

-- all rows of a text
pub record RowsRead (text later : List ℕ) (count : ℕ) : Type 0 where
  pub rows : List Form
  pub reads : reading largest text ≡ Rows rows
  pub few : count ≤ most_gates
  pub written : take (gate_size * count) later ≡ circuit_of rows
  pub long : gate_size * most_gates ≤ length later

abbrev pub RowsTold : List ℕ → List ℕ → Result ℕ Refusal → Type 0
RowsTold text later r = MatchResult r (λ count. RowsRead text later count) (λ e. reading largest text ≡ No (number_of e.question) e.index)

-- a circuit that was read ----------------------------------------------------------------------------------------------

-- questions 3 to 7, then 18
unfoldable pub ask_settled : ℕ → List ℕ → ℕ → Verdict
ask_settled n c room = ask_circuit n size c then ask 18 0 (leb (length c) room)

pub record Settled (n : ℕ) (c before later : List ℕ) (r : Result ℕ Refusal) : Type 0 where
  pub answers : answer_of r ≡ E.answer (ask_settled n c (length before)) (gates c)
  pub leaves : later ≡ leave (ask_settled n c (length before)) (overwrite c before) before
