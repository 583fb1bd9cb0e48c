-- The words of forms: one table. What a word's form makes, and where it may stand, follows of the kind of its gate.
-- Assumes nothing.
use Rattle.std.specs.Prelude.{ℕ, Bool, cond, not, ◌||◌, List, [], ◌∷◌, eqb}
use Rattle.circuit.specs.Gate.{kind_in, kind_add, kind_sub, kind_plus, kind_times, kind_mul, kind_out, kind_sq, kind_give, kind_over, decode}
use Rattle.circuit.specs.Kind.{Shape, kind_shape, Output, is_class, Role, Unused, Party, Wire, Constant, Divisor}
pub use Rattle.forms.specs.declared.Head.{Head}
pub use Rattle.forms.specs.declared.Head.TheVariants.{In, Add, Sub, Plus, Times, Mul, Out, Line, Sq, Give, Over}
pub use Rattle.forms.specs.declared.Sort.{Sort}
pub use Rattle.forms.specs.declared.Sort.TheVariants.{Leaf, One, Two, Scaled}

-- a word's letters, what follows it ((w N), (w F), (w F F) or (w F N)), and the kind of the gate that its form makes
pub record Word : Type 0 where
  pub letters : List ℕ
  pub sort : Sort
  pub kind : ℕ

-- a (line J) makes no gate
abbrev pub no_kind : ℕ
no_kind = 0

abbrev row : List ℕ → Sort → ℕ → Word
row letters sort kind = record { letters = letters; sort = sort; kind = kind }

-- "A form is (in S), (add F F), (sub F F), (plus F K), (times F K), (mul F F), or inside another form (line J) .. An (out F)"; "The sheet gains
-- (sq F)"; "The sheet gains (give F S)"; "The sheet gains (over F K)". What a number is for, a constant, a divisor or a party, is told by the
-- kind. A byte is its number in ASCII
abbrev pub word : Head → Word
word In = row (105 ∷ 110 ∷ []) Leaf kind_in
word Add = row (97 ∷ 100 ∷ 100 ∷ []) Two kind_add
word Sub = row (115 ∷ 117 ∷ 98 ∷ []) Two kind_sub
word Plus = row (112 ∷ 108 ∷ 117 ∷ 115 ∷ []) Scaled kind_plus
word Times = row (116 ∷ 105 ∷ 109 ∷ 101 ∷ 115 ∷ []) Scaled kind_times
word Mul = row (109 ∷ 117 ∷ 108 ∷ []) Two kind_mul
word Out = row (111 ∷ 117 ∷ 116 ∷ []) One kind_out
word Line = row (108 ∷ 105 ∷ 110 ∷ 101 ∷ []) Leaf no_kind
word Sq = row (115 ∷ 113 ∷ []) One kind_sq
word Give = row (103 ∷ 105 ∷ 118 ∷ 101 ∷ []) Scaled kind_give
word Over = row (111 ∷ 118 ∷ 101 ∷ 114 ∷ []) Scaled kind_over

abbrev pub heads : List Head
heads = In ∷ Add ∷ Sub ∷ Plus ∷ Times ∷ Mul ∷ Out ∷ Line ∷ Sq ∷ Give ∷ Over ∷ []

abbrev pub letters : Head → List ℕ
letters h = (word h).letters

abbrev pub sort : Head → Sort
sort h = (word h).sort

abbrev pub kind : Head → ℕ
kind h = (word h).kind

-- does a form of this word name a row?
abbrev pub names : Head → Bool
names h = eqb (kind h) no_kind

-- what the kind of a word's gate tells
abbrev pub shape_of : Head → Shape
shape_of h = kind_shape (decode (kind h))

-- "An out line has no value and cannot be named."; "A give has no value"
unfoldable pub valued : Head → Bool
valued h = not (is_class Output (shape_of h).class)

-- "inside another form (line J)"
unfoldable pub outer : Head → Bool
outer h = not (names h)

-- "An (out F) stands only outermost."; "(give F S), outermost only"
unfoldable pub inner : Head → Bool
inner h = names h || valued h

unfoldable pub stands : Bool → Head → Bool
stands outermost h = cond outermost (outer h) (inner h)

-- a number of a gate by what it is for: the gate that an operand stands for, or the form's number
unfoldable pub placed : Role → ℕ → ℕ → ℕ
placed Unused wire number = 0
placed Party wire number = number
placed Wire wire number = wire
placed Constant wire number = number
placed Divisor wire number = number

-- the gate of a form: the gates of its operands, 0 where it has none, and its number, 0 where it has none
unfoldable pub line : Head → ℕ → ℕ → ℕ → List ℕ
line h x y n = kind h ∷ placed (shape_of h).first x n ∷ placed (shape_of h).second y n ∷ placed (shape_of h).constant 0 n ∷ []
