-- Words and numbers in a line of text, as docs/REPLAY.md has them. A byte is its number in ASCII.
-- Assumes nothing.
use Rattle.std.specs.List.{prefix_len}
use Rattle.std.specs.Str.{bytes_eq}
use Rattle.std.specs.Prelude.{ℕ, ◌+◌, ◌*◌, ◌-◌, Bool, true, false, cond, not, ◌&&◌, ◌||◌, List, [], ◌∷◌, ◌++◌, length, drop, eqb, ltb, leb}

-- "Words are separated by spaces, tabs or carriage returns."
unfoldable pub is_space : ℕ → Bool
is_space b = eqb b 32 || (eqb b 9 || eqb b 13)

-- '0' to '9', and what they stand for
unfoldable pub is_digit : ℕ → Bool
is_digit b = leb 48 b && leb b 57

unfoldable pub digit : ℕ → ℕ
digit b = b - 48

-- whether a byte belongs to a run of spaces, or to one of other bytes
unfoldable pub belongs : Bool → ℕ → Bool
belongs spaces b = cond spaces (is_space b) (not (is_space b))

-- how long the run is that a text begins with
abbrev pub run : Bool → List ℕ → ℕ
run spaces text = prefix_len (belongs spaces) text

-- whether two texts are the same
abbrev pub alike : List ℕ → List ℕ → Bool
alike = bytes_eq

-- "A number is decimal digits, of a value from 0 to 4294967295."
abbrev pub number_end : ℕ
number_end = 4294967296

-- how reading a text of numbers ends: all are read, or the first thing that is wrong
pub data Ending : Type 0 where
  Whole Unlike TooLarge TooMany : Ending

-- what a text of numbers comes to: the numbers that are whole before that end
pub record Reading : Type 0 where
  pub numbers : List ℕ
  pub ending : Ending

-- what has been read: the numbers that are whole, whether another is begun, and the value of its digits so far
pub record Begun : Type 0 where
  pub numbers : List ℕ
  pub within : Bool
  pub value : ℕ

-- the numbers, with the one that is begun
unfoldable pub whole : Begun → List ℕ
whole s = cond s.within (s.numbers ++ (s.value ∷ [])) s.numbers

-- the value with one more digit
unfoldable pub more : Begun → ℕ → ℕ
more s b = s.value * 10 + digit b

-- a fault: the number that is begun is not among those that are whole
unfoldable pub stopped : Begun → Ending → Reading
stopped s fault = record { numbers = s.numbers; ending = fault }

-- reading on, where there is room for so many numbers
unfoldable pub reads : ℕ → Begun → List ℕ → Reading
reads room s [] = record { numbers = whole s; ending = Whole }
reads room s (b ∷ bs) =
    cond (is_space b) (reads room (record { numbers = whole s; within = false; value = 0 }) bs)
    (cond (is_digit b)
    (cond (s.within || ltb (length s.numbers) room)
    (cond (ltb (more s b) number_end) (reads room (record { numbers = s.numbers; within = true; value = more s b }) bs) (stopped s TooLarge))
    (stopped s TooMany))
    (stopped s Unlike))

unfoldable pub numbers_in : ℕ → List ℕ → Reading
numbers_in room text = reads room (record { numbers = []; within = false; value = 0 }) text

-- numbers at the start of a list
unfoldable pub at_start : List ℕ → List ℕ → List ℕ
at_start numbers list = numbers ++ drop (length numbers) list

-- a list into which a text is read, after a fault as after none: its length is the room
unfoldable pub read_into : List ℕ → List ℕ → List ℕ
read_into text list = at_start (numbers_in (length list) text).numbers list
