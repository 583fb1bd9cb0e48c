-- Sheets and circuits as examples: one table of what the two entries are lent, what they answer and what the lent list holds afterwards.
-- Assumes nothing.
use Rattle.std.specs.Prelude.{ℕ, zero, suc, ◌≡◌, List, [], ◌∷◌, ◌++◌, map, length, replicate}
use Prim.Native.Char.{code}
use Prim.Native.String as T
use Rattle.circuit.specs.Gate.{gates}
use Rattle.forms.specs.Machine.{Reading, No, reading}
use Rattle.forms.specs.Entry.{Answer, Refusal, Done, read_answer, read_circuit, write_answer, write_text}

-- document 01's p, and "a number above 4294967295"
abbrev pub prime : ℕ
prime = 2147483647

abbrev pub largest : ℕ
largest = 4294967295

-- a text as its bytes in ASCII
unfoldable pub bytes : T.String → List ℕ
bytes T.[] = []
bytes (T.◌∷◌ c text) = code c ∷ bytes text

unfoldable pub times : ℕ → List ℕ → List ℕ
times zero text = []
times (suc k) text = text ++ times k text

-- an answer, and what the lent list holds afterwards
pub record Outcome : Type 0 where
  pub answer : Answer
  pub after : List ℕ

-- what an entry does, and what is told of it
pub record Case : Type 0 where
  pub does : Outcome
  pub told : Outcome

-- a number that stays where nothing is written
abbrev blank : ℕ
blank = 9

-- n parties read a text into a list
unfoldable pub reads : ℕ → List ℕ → List ℕ → Answer → List ℕ → Case
reads n text lent answer after =
    record {
      does =
          record { answer = read_answer n prime largest text (length lent); after = read_circuit n prime largest text lent };
      told = record { answer = answer; after = after };
    }

-- it is refused, and nothing is written
unfoldable pub refused : ℕ → List ℕ → ℕ → ℕ → Case
refused n text number index = reads n text (replicate 4 blank) (Refusal number index) (replicate 4 blank)

-- it is read as a circuit
unfoldable pub becomes : ℕ → List ℕ → List ℕ → Case
becomes n text circuit = reads n text (replicate (length circuit) blank) (Done (gates circuit)) circuit

-- two parties write a circuit into a list
unfoldable pub writes : List ℕ → List ℕ → Answer → List ℕ → Case
writes circuit lent answer after =
    record {
      does = record { answer = write_answer 2 prime circuit (length lent); after = write_text 2 prime circuit lent };
      told = record { answer = answer; after = after };
    }

abbrev input : List ℕ
input = bytes "(in 0)\n"

abbrev shown : List ℕ
shown = bytes "(out (in 0))\n"

abbrev short : List ℕ
short = bytes "(in 0)\n(out (line 0))\n"

abbrev short_circuit : List ℕ
short_circuit = 1 ∷ 0 ∷ 0 ∷ 0 ∷ 7 ∷ 0 ∷ 0 ∷ 0 ∷ []

abbrev given : List ℕ
given = bytes "(in 0)\n(give (line 0) 1)\n"

abbrev given_circuit : List ℕ
given_circuit = 1 ∷ 0 ∷ 0 ∷ 0 ∷ 9 ∷ 0 ∷ 1 ∷ 0 ∷ []

abbrev halved : List ℕ
halved = bytes "(in 0)\n(over (line 0) 2)\n(out (line 1))\n"

abbrev halved_circuit : List ℕ
halved_circuit = 1 ∷ 0 ∷ 0 ∷ 0 ∷ 10 ∷ 0 ∷ 0 ∷ 2 ∷ 7 ∷ 1 ∷ 0 ∷ 0 ∷ []

unfoldable pub table : List Case
table =
    -- the empty text does not end within a line: a circuit of no gates
    refused 2 [] 3 0
    -- one row, two gates
    ∷ becomes 2 shown short_circuit
    -- the text ends within a line
    ∷ refused 2 (bytes "(in 0)") 22 6
    -- a byte after the last line feed
    ∷ refused 2 (short ++ bytes " ") 22 22
    -- "(i" may become "(in"; the space ends that
    ∷ refused 2 (bytes "(i 0)\n") 22 2
    -- "(inn" begins no word
    ∷ refused 2 (bytes "(inn 0)\n") 22 3
    -- a leading zero
    ∷ refused 2 (bytes "(in 05") 22 5
    -- too large at its tenth digit
    ∷ refused 2 (bytes "(in 4294967296)\n") 22 13
    -- a constant that is no element: gate 1, row 0
    ∷ refused 2 (bytes "(plus (in 0) 2147483647)\n(out (line 0))\n") 6 1
    ∷ becomes 2 (bytes "(plus (in 0) 2147483646)\n(out (line 0))\n") (1 ∷ 0 ∷ 0 ∷ 0 ∷ 4 ∷ 0 ∷ 0 ∷ 2147483646 ∷ 7 ∷ 1 ∷ 0 ∷ 0 ∷ [])
    -- an out inside: "(o" may become "(over", the "u"
    ∷ refused 2 (bytes "(add (out (in 0)) (in 0))\n") 22 7
    ∷ refused 2 (bytes "(out (out (in 0)))\n") 22 7
    -- no earlier row: the "l"
    ∷ refused 2 (bytes "(add (line 0) (in 0))\n") 22 6
    -- no earlier row with a value: the "l"
    ∷ refused 2 (shown ++ bytes "(out (line 0))\n") 22 19
    -- an out cannot be named
    ∷ refused 2 (input ++ shown ++ bytes "(out (line 1))\n") 22 31
    -- "1" may become 10 or 11: the "2"
    ∷ refused 2 (times 12 input ++ bytes "(out (line 12))\n") 22 96
    -- row 1 has no value, and row 10 has one: the bracket
    ∷ refused 2 (input ++ shown ++ times 9 input ++ bytes "(out (line 1))\n") 22 95
    -- inner first, left before right
    ∷ becomes 2 (bytes "(out (mul (add (in 0) (in 1)) (sub (in 0) (in 1))))\n")
    (1 ∷ 0 ∷ 0 ∷ 0 ∷ 1 ∷ 1 ∷ 0 ∷ 0 ∷ 2 ∷ 0 ∷ 1 ∷ 0 ∷ 1 ∷ 0 ∷ 0 ∷ 0 ∷ 1 ∷ 1 ∷ 0 ∷ 0 ∷ 3 ∷ 3 ∷ 4 ∷ 0 ∷ 6 ∷ 2 ∷ 5 ∷ 0 ∷ 7 ∷ 6 ∷ 0 ∷ 0 ∷ [])
    -- the bracket that opens depth 17, before the end of the text
    ∷ refused 2 (times 16 (bytes "(plus ") ++ bytes "(") 23 96
    -- a (line J) counts
    ∷ refused 2 (input ++ times 16 (bytes "(plus ") ++ bytes "(line 0)") 23 103
    -- 22 and 23 on one byte
    ∷ refused 2 (times 15 (bytes "(plus ") ++ bytes "(in (") 22 94
    -- the parties before the text
    ∷ refused 1 (bytes "x") 1 0
    -- the text before the circuit
    ∷ refused 2 (bytes "(in 9)\n(plus (line 0) 4294967295)\nx") 22 34
    -- gate 1 before gate 2
    ∷ refused 2 (bytes "(in 0)\n(in 9)\n(times (line 0) 2147483647)\n") 5 1
    -- the last gate is no output
    ∷ refused 2 (bytes "(in 0)\n(in 1)\n") 7 0
    -- room for the circuit, for a number less, and for one more
    ∷ reads 2 short (replicate 8 blank) (Done 2) short_circuit
    ∷ reads 2 short (replicate 7 blank) (Refusal 18 0) (replicate 7 blank)
    ∷ reads 2 short (replicate 9 blank) (Done 2) (short_circuit ++ (blank ∷ []))
    -- the circuit before the room
    ∷ reads 2 (bytes "(in 0)\n(in 1)\n") (replicate 7 blank) (Refusal 7 0) (replicate 7 blank)
    -- a square, inside and outermost; "(s" may become "(sub" or "(sq", and "(sq" wants its space
    ∷ becomes 2 (bytes "(sq (sq (in 0)))\n(out (line 0))\n") (1 ∷ 0 ∷ 0 ∷ 0 ∷ 8 ∷ 0 ∷ 0 ∷ 0 ∷ 8 ∷ 1 ∷ 0 ∷ 0 ∷ 7 ∷ 2 ∷ 0 ∷ 0 ∷ [])
    ∷ refused 2 (bytes "(so (in 0))\n") 22 2
    ∷ refused 2 (bytes "(sq(in 0))\n") 22 3
    -- a give may be last; its number is its gate's second
    ∷ becomes 2 given given_circuit
    -- a give inside: the "g"
    ∷ refused 2 (bytes "(add (give (in 0) 1) (in 0))\n") 22 6
    -- a give has no value: row 1 cannot be named
    ∷ refused 2 (bytes "(in 0)\n(give (in 0) 1)\n(out (line 1))\n") 22 34
    -- a receiver that no number may be, and one that is no party
    ∷ refused 2 (bytes "(in 0)\n(give (line 0) 4294967296)\n") 22 31
    ∷ refused 2 (bytes "(in 0)\n(give (line 0) 2)\n") 5 1
    -- an over, outermost and inside; its number is its gate's constant
    ∷ becomes 2 halved halved_circuit
    ∷ becomes 2 (bytes "(out (over (in 0) 3))\n") (1 ∷ 0 ∷ 0 ∷ 0 ∷ 10 ∷ 0 ∷ 0 ∷ 3 ∷ 7 ∷ 1 ∷ 0 ∷ 0 ∷ [])
    -- a divisor that is 0, and one that is no element: gate 1, row 0; the largest element
    ∷ refused 2 (bytes "(over (in 0) 0)\n(out (line 0))\n") 6 1
    ∷ refused 2 (bytes "(over (in 0) 2147483647)\n(out (line 0))\n") 6 1
    ∷ becomes 2 (bytes "(over (in 0) 2147483646)\n(out (line 0))\n") (1 ∷ 0 ∷ 0 ∷ 0 ∷ 10 ∷ 0 ∷ 0 ∷ 2147483646 ∷ 7 ∷ 1 ∷ 0 ∷ 0 ∷ [])
    -- "(ov" lives, outermost and inside: the text ends within a line
    ∷ refused 2 (bytes "(ov") 22 3
    ∷ refused 2 (bytes "(add (ov") 22 8
    -- outermost "(o" may become "(out" or "(over", and "(ov" only "(over"
    ∷ refused 2 (bytes "(oo (in 0))\n") 22 2
    ∷ refused 2 (bytes "(ovt (in 0))\n") 22 3
    -- an over has a form and a number
    ∷ refused 2 (bytes "(over 2 (in 0))\n") 22 6
    -- the sheet of a circuit, and room for a byte less
    ∷ writes short_circuit (replicate 22 blank) (Done 22) short
    ∷ writes short_circuit (replicate 21 blank) (Refusal 18 0) (replicate 21 blank)
    ∷ writes given_circuit (replicate 25 blank) (Done 25) given
    ∷ writes halved_circuit (replicate 40 blank) (Done 40) halved
    ∷ []

-- long texts, as far as they are read
pub record LongCase : Type 0 where
  pub does : Reading
  pub told : Reading

unfoldable pub stops : List ℕ → ℕ → ℕ → LongCase
stops text number index = record { does = reading largest text; told = No number index }

unfoldable pub long_table : List LongCase
long_table =
    -- the bracket that closes gate 257; that of (line 0) before it closes none
    stops (times 256 input ++ bytes "(out (line 0))\n") 24 1805
    -- 22 and 24 on one byte
    ∷ stops (times 256 input ++ bytes "(in )") 22 1796
    -- gate 257 is closed before the name is read
    ∷ stops (times 256 input ++ bytes "(add (in 0) (line 999))\n") 24 1802
    ∷ []

-- the entries answer and write what is told, and long texts are refused as told
pub record Examples : Type 0 where
  pub entries : map (λ (x : Case). x.does) table ≡ map (λ (x : Case). x.told) table
  pub long : map (λ (x : LongCase). x.does) long_table ≡ map (λ (x : LongCase). x.told) long_table
