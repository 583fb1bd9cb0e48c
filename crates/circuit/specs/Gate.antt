-- Gates, and how a circuit's numbers say them.
-- Assumes nothing.
use Rattle.std.specs.Prelude.{ℕ, ◌+◌, ◌*◌, ◌/◌, cond, List, length, get_or, eqb}

-- "kind 1, in: first is the owner's seat. kind 2, add; kind 3, sub: first and second name earlier lines.
-- kind 4, plus; kind 5, times: first names a line, and the constant is added or multiplied. kind 6, mul: first and second, perhaps equal.
-- kind 7, out: first." Document 02: "Kind 8, sq, first names a line."; "Kind 9, give: first names a line, second the receiver's seat.";
-- "Kind 10, over, undoes times by a constant": first names a line, and there is the constant.
pub data Kind : Type 0 where
  In Add Sub Plus Times Mul Out Sq Give Over : Kind

-- the numbers of the kinds
abbrev pub kind_in : ℕ
kind_in = 1

abbrev pub kind_add : ℕ
kind_add = 2

abbrev pub kind_sub : ℕ
kind_sub = 3

abbrev pub kind_plus : ℕ
kind_plus = 4

abbrev pub kind_times : ℕ
kind_times = 5

abbrev pub kind_mul : ℕ
kind_mul = 6

abbrev pub kind_out : ℕ
kind_out = 7

abbrev pub kind_sq : ℕ
kind_sq = 8

abbrev pub kind_give : ℕ
kind_give = 9

abbrev pub kind_over : ℕ
kind_over = 10

-- the first and the last of them
abbrev pub first_kind : ℕ
first_kind = kind_in

abbrev pub last_kind : ℕ
last_kind = kind_over

-- the kind of a number. One that is no kind counts as out; question 4 refuses it
unfoldable pub decode : ℕ → Kind
decode number =
    cond (eqb number kind_in) In
    (cond (eqb number kind_add) Add
    (cond (eqb number kind_sub) Sub
    (cond (eqb number kind_plus) Plus
    (cond (eqb number kind_times) Times
    (cond (eqb number kind_mul) Mul
    (cond (eqb number kind_sq) Sq
    (cond (eqb number kind_give) Give
    (cond (eqb number kind_over) Over Out))))))))

-- Document 01's "line". What first, second and the constant are for is told by the kind
pub record Gate : Type 0 where
  pub kind : Kind
  pub first : ℕ
  pub second : ℕ
  pub constant : ℕ

abbrev pub gate_of : Kind → ℕ → ℕ → ℕ → Gate
gate_of kind first second constant = record { kind = kind; first = first; second = second; constant = constant }

-- "A line is four numbers: kind, first, second, constant."
abbrev pub gate_size : ℕ
gate_size = 4

-- number k of gate j: 0 its kind, 1 first, 2 second, 3 the constant
unfoldable pub entry : List ℕ → ℕ → ℕ → ℕ
entry c j k = get_or c (gate_size * j + k) 0

-- "Lines count from 0." Past the end stands an out gate, which has no value
unfoldable pub gate : List ℕ → ℕ → Gate
gate c j = gate_of (decode (entry c j 0)) (entry c j 1) (entry c j 2) (entry c j 3)

-- how many gates a circuit has, document 01's L
unfoldable pub gates : List ℕ → ℕ
gates c = length c / gate_size
