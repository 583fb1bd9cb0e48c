-- What the code's table of words and its readers of words and numbers promise. A reader's promise is reading on: from here, at any stack of
-- open forms, reading comes to what reading from there does, or to a refusal. So no promise takes the caller's state apart.
-- Assumes nothing.
use Rattle.std.specs.Prelude.{ℕ, ◌+◌, ◌-◌, ◌/◌, ◌%◌, ◌≤◌, ◌≡◌, Bool, true, false, cond, ◌&&◌, List, [], ◌∷◌, ◌++◌, length, get_or, take, drop, eqb, ltb, leb, Option, Some, None, Result, MatchResult}
use Rattle.std.proofs.Math.Option as maybe
use Rattle.circuit.specs.declared.Role.{Role}
use Rattle.circuit.specs.Code.{role_of}
use Rattle.field.specs.Words.{largest}
use Rattle.forms.specs.declared.Head.{Head}
use Rattle.forms.specs.declared.Head.TheVariants.{Line}
use Rattle.forms.specs.declared.Sort.{Sort}
use Rattle.forms.specs.Words.{sort, kind, letters, names, valued, shape_of, stands}
use Rattle.forms.specs.Form.{Form, marks, named, decimal, opening, closing, space}
use Rattle.forms.specs.Machine.{
  Frame,
  Numbered,
  whose,
  State,
  at,
  spelling,
  number,
  digit,
  begun,
  name_lives,
  any_named,
  is_nil,
  too_deep,
  too_many,
  starts,
  read,
  No,
}
use Rattle.tokens.specs.declared.Row.{Row}
use Rattle.tokens.specs.declared.Spelt.{Spelt}
use Rattle.tokens.specs.declared.Number.{Number}

-- the row of the table for a word
pub record RowOf (h : Head) (r : Row) : Type 0 where
  pub length_is : r.length ≡ length (letters h)
  pub sort_is : r.sort ≡ sort h
  pub kind_is : r.kind ≡ kind h
  pub naming_is : r.naming ≡ names h
  pub valued_is : r.valued ≡ valued h
  pub first_is : role_of r.first ≡ (shape_of h).first
  pub second_is : role_of r.second ≡ (shape_of h).second
  pub constant_is : role_of r.constant ≡ (shape_of h).constant

-- the row of a word with a gate that has a value
abbrev pub valued_row : ℕ → Sort → ℕ → Role → Role → Role → Row
valued_row length sort kind first second constant = record {
  length = length;
  sort = sort;
  kind = kind;
  naming = false;
  valued = true;
  first = first;
  second = second;
  constant = constant;
}

-- does a byte stand at a place of a text?
unfoldable pub is_at : List ℕ → ℕ → ℕ → Bool
is_at text i b = ltb i (length text) && eqb (get_or text i 0) b

-- a part of a text
abbrev pub part : List ℕ → ℕ → ℕ → List ℕ
part text from to = take (to - from) (drop from text)

-- depth and count allow a state
pub record Calm (s : State) : Type 0 where
  pub shallow : too_deep s ≡ false
  pub few : too_many s ≡ false

-- the code's table of rows: for each row twice the gate of its value, and one more if it has one
unfoldable pub known : List ℕ → List Bool
known [] = []
known (w ∷ ws) = eqb (w % 2) 1 ∷ known ws

unfoldable pub gates_at : List ℕ → List ℕ
gates_at [] = []
gates_at (w ∷ ws) = w / 2 ∷ gates_at ws

-- numbers ---------------------------------------------------------------------------------------------------------------

-- may digits of this value stand, and may they end: as a name or as a number
unfoldable pub lives_as : List ℕ → Bool → ℕ → Bool
lives_as table naming v = cond naming (name_lives (known table) 0 v) (leb v largest)

unfoldable pub fits_as : List ℕ → Bool → ℕ → Bool
fits_as table naming v = cond naming (named (known table) v) (leb v largest)

-- a state that wants a number, as the code knows it
pub record Wanted (table : List ℕ) (naming : Bool) (rows : List Form) (stack : List Frame) (p : Numbered) : Type 0 where
  pub naming_is : names (whose p) ≡ naming
  pub marked : marks rows ≡ known table
  pub calm : Calm (at rows stack (number p))

-- a number as far as its bracket
pub record NumberIs (text table : List ℕ) (naming : Bool) (from value to : ℕ) : Type 0 where
  pub reads : (rows : List Form) (stack : List Frame) (p : Numbered) → Wanted table naming rows stack p →
      read largest (at rows stack (number p)) (drop from text) from ≡ read largest (at rows stack (digit p value)) (drop to text) to
  pub fitting : fits_as table naming value ≡ true
  pub closes : is_at text to closing ≡ true

pub record NumberDies (text table : List ℕ) (naming : Bool) (from index : ℕ) : Type 0 where
  pub dies : (rows : List Form) (stack : List Frame) (p : Numbered) → Wanted table naming rows stack p →
      read largest (at rows stack (number p)) (drop from text) from ≡ No 22 index

abbrev pub NumberRead : List ℕ → List ℕ → Bool → ℕ → Result Number ℕ → Type 0
NumberRead text table naming from r =
    MatchResult r (λ n. NumberIs text table naming from n.value n.to) (λ index. NumberDies text table naming from index)

-- the digits of a number stand from here, and a bracket follows
pub record DigitsAre (text : List ℕ) (from value to : ℕ) : Type 0 where
  pub written : part text from to ≡ decimal value
  pub forward : from ≤ to
  pub small : value ≤ largest
  pub closes : is_at text to closing ≡ true

-- the bytes that lead to the number of a leaf
abbrev pub leading : Head → List ℕ
leading h = opening ∷ (letters h ++ (space ∷ []))

-- these bytes stand here, and digits as far as a bracket behind them
pub record Behind (text w : List ℕ) (from value to : ℕ) : Type 0 where
  pub standing : starts w (drop from text) ≡ true
  pub digits : DigitsAre text (from + length w) value to

-- the name of a row that has a value stands here
pub record NameIs (text table : List ℕ) (from wire to : ℕ) : Type 0 where
  pub value : ℕ
  pub end : ℕ
  pub behind : Behind text (leading Line) from value end
  pub fitting : named (known table) value ≡ true
  pub wire_is : wire ≡ get_or table value 0 / 2
  pub to_is : to ≡ end + 1

-- words -----------------------------------------------------------------------------------------------------------------

-- the word that was found, if one was
abbrev pub found_as : Option Head → maybe.Option Head
found_as (Some h) = maybe.some h
found_as None = maybe.none

-- a state that wants a word, as the code knows it
pub record WordWanted (any outermost : Bool) (rows : List Form) (stack : List Frame) : Type 0 where
  pub any_is : any_named (marks rows) ≡ any
  pub place : is_nil stack ≡ outermost
  pub calm : Calm (at rows stack (spelling []))

-- a word and its space
pub record WordIs (text : List ℕ) (any outermost : Bool) (from : ℕ) (h : Head) (to : ℕ) : Type 0 where
  pub reads : (rows : List Form) (stack : List Frame) → WordWanted any outermost rows stack →
      read largest (at rows stack (spelling [])) (drop from text) from ≡ read largest (begun rows stack h (sort h)) (drop to text) to
  pub standing : stands outermost h ≡ true
  pub inside : to ≤ length text

pub record WordDies (text : List ℕ) (any outermost : Bool) (from index : ℕ) : Type 0 where
  pub dies : (rows : List Form) (stack : List Frame) → WordWanted any outermost rows stack →
      read largest (at rows stack (spelling [])) (drop from text) from ≡ No 22 index

abbrev pub WordRead : List ℕ → Bool → Bool → ℕ → Result Spelt ℕ → Type 0
WordRead text any outermost from r =
    MatchResult r (λ w. WordIs text any outermost from w.head w.to) (λ index. WordDies text any outermost from index)
