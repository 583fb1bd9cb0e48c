-- What a sheet is: forms and how they are printed, which rows make a sheet, and which circuit that is.
-- Assumes nothing.
use Rattle.std.specs.Prelude.{ℕ, zero, suc, ◌+◌, ◌/◌, ◌%◌, ◌≡◌, Bool, true, false, cond, List, [], ◌∷◌, ◌++◌, get_or, leb, ltb}
use Rattle.forms.specs.Words.{Head, Leaf, One, Two, Scaled, letters, sort, names, valued, stands, line}

-- "A form holds forms": four sorts, however many words
pub data Form : Type 0 where
  leaf : Head → ℕ → Form
  one : Head → Form → Form
  two : Head → Form → Form → Form
  scaled : Head → Form → ℕ → Form

unfoldable pub head : Form → Head
head (leaf h n) = h
head (one h f) = h
head (two h f g) = h
head (scaled h f n) = h

-- printing --------------------------------------------------------------------------------------------------------------

abbrev pub opening : ℕ
opening = 40

abbrev pub closing : ℕ
closing = 41

abbrev pub space : ℕ
space = 32

abbrev pub feed : ℕ
feed = 10

-- the digit 0
abbrev pub naught : ℕ
naught = 48

abbrev pub ten : ℕ
ten = 10

-- "Numbers are decimal without leading zeros." The fuel is enough where it is at least the number
unfoldable pub digits : ℕ → ℕ → List ℕ
digits zero n = (naught + n) ∷ []
digits (suc k) n = elim (ltb n ten) [ true ↦ (naught + n) ∷ [] | false ↦ digits k (n / ten) ++ ((naught + n % ten) ∷ []) ]

unfoldable pub decimal : ℕ → List ℕ
decimal n = digits n n

-- a bracket, a word and a space
unfoldable pub begin : Head → List ℕ
begin h = opening ∷ letters h ++ (space ∷ [])

-- "one bracketed form .. tokens split by one space"
unfoldable pub print : Form → List ℕ
print (leaf h n) = begin h ++ decimal n ++ (closing ∷ [])
print (one h f) = begin h ++ print f ++ (closing ∷ [])
print (two h f g) = begin h ++ print f ++ (space ∷ []) ++ print g ++ (closing ∷ [])
print (scaled h f n) = begin h ++ print f ++ (space ∷ []) ++ decimal n ++ (closing ∷ [])

-- "Each sheet line is one bracketed form ended by a line feed (byte 10)". A row is document 02's sheet line
unfoldable pub print_rows : List Form → List ℕ
print_rows [] = []
print_rows (f ∷ fs) = print f ++ (feed ∷ []) ++ print_rows fs

-- "the outermost at 1; a (line J) counts"
unfoldable pub larger : ℕ → ℕ → ℕ
larger x y = cond (leb x y) y x

unfoldable pub depth : Form → ℕ
depth (leaf h n) = 1
depth (one h f) = suc (depth f)
depth (two h f g) = suc (larger (depth f) (depth g))
depth (scaled h f n) = suc (depth f)

unfoldable pub depth_of_all : List Form → ℕ
depth_of_all [] = 0
depth_of_all (f ∷ fs) = larger (depth f) (depth_of_all fs)

-- sheets ----------------------------------------------------------------------------------------------------------------

-- which rows have a value
unfoldable pub marks : List Form → List Bool
marks [] = []
marks (f ∷ fs) = valued (head f) ∷ marks fs

-- is row j there, with a value?
unfoldable pub named : List Bool → ℕ → Bool
named [] j = false
named (m ∷ ms) zero = m
named (m ∷ ms) (suc j) = named ms j

-- top is the largest number that a sheet may have
module _ (top : ℕ) where
  -- "a number above 4294967295, or a J that is no earlier sheet line with a value"
  unfoldable pub number_fits : List Form → Head → ℕ → Bool
  number_fits rows h n = cond (names h) (named (marks rows) n) (leb n top)

  -- a form that may stand after these rows, outermost or not
  pub data Fits (rows : List Form) : Bool → Form → Type 0 where
    leaf_fits : {o : Bool} {h : Head} {n : ℕ} → stands o h ≡ true → sort h ≡ Leaf → number_fits rows h n ≡ true → Fits rows o (leaf h n)
    one_fits : {o : Bool} {h : Head} {f : Form} → stands o h ≡ true → sort h ≡ One → Fits rows false f → Fits rows o (one h f)
    two_fits : {o : Bool} {h : Head} {f g : Form} →
        stands o h ≡ true → sort h ≡ Two → Fits rows false f → Fits rows false g → Fits rows o (two h f g)
    scaled_fits : {o : Bool} {h : Head} {f : Form} {n : ℕ} →
        stands o h ≡ true → sort h ≡ Scaled → Fits rows false f → number_fits rows h n ≡ true → Fits rows o (scaled h f n)

  -- rows that may follow these rows
  unfoldable pub Follow : List Form → List Form → Type 0
  Follow rows [] = Unit {0}
  Follow rows (f ∷ fs) = Fits rows true f × Follow (rows ++ (f ∷ [])) fs

  unfoldable pub Sheet : List Form → Type 0
  Sheet rows = Follow [] rows

-- the circuit -----------------------------------------------------------------------------------------------------------

-- how many gates a form makes: one for itself, unless it names a row, and those of the forms in it
unfoldable pub gates_in : Form → ℕ
gates_in (leaf h n) = cond (names h) 0 1
gates_in (one h f) = gates_in f + 1
gates_in (two h f g) = gates_in f + gates_in g + 1
gates_in (scaled h f n) = gates_in f + 1

unfoldable pub gates_in_all : List Form → ℕ
gates_in_all [] = 0
gates_in_all (f ∷ fs) = gates_in f + gates_in_all fs

-- the gate that has a form's value, where its gates start at a place: "that of its last circuit line", or that of the row it names.
-- values are the gates of the rows before
unfoldable pub wire_of : List ℕ → ℕ → Form → ℕ
wire_of values at (leaf h n) = cond (names h) (get_or values n 0) at
wire_of values at (one h f) = at + gates_in f
wire_of values at (two h f g) = at + gates_in f + gates_in g
wire_of values at (scaled h f n) = at + gates_in f

-- "Inner forms become circuit lines first, left before right"
unfoldable pub flat : List ℕ → ℕ → Form → List ℕ
flat values at (leaf h n) = cond (names h) [] (line h 0 0 n)
flat values at (one h f) = flat values at f ++ line h (wire_of values at f) 0 0
flat values at (two h f g) =
    flat values at f ++ flat values (at + gates_in f) g ++ line h (wire_of values at f) (wire_of values (at + gates_in f) g) 0
flat values at (scaled h f n) = flat values at f ++ line h (wire_of values at f) 0 n

-- the circuit of the rows that follow
unfoldable pub circuit_from : List ℕ → ℕ → List Form → List ℕ
circuit_from values at [] = []
circuit_from values at (f ∷ fs) = flat values at f ++ circuit_from (values ++ (wire_of values at f ∷ [])) (at + gates_in f) fs

unfoldable pub circuit_of : List Form → List ℕ
circuit_of rows = circuit_from [] 0 rows
