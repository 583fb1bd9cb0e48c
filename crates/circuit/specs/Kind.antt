-- What a gate's kind tells of it: one table. Every test, length and count is made of it.
-- Assumes nothing.
use Rattle.std.specs.Prelude.{ℕ, Bool, true, false, cond, not, ◌&&◌, eqb}
use Rattle.circuit.specs.Gate.{Kind, In, Add, Sub, Plus, Times, Mul, Out, Sq, Give, Over, Gate}

-- Local: "They need no round", each party works them out by itself. Owned: one party's input. Opens: differences with the masks of a record
-- are opened. Output: a value is opened and checked; "An out line has no value and cannot be named.", "A give has no value".
pub data Class : Type 0 where
  Local Owned Opens Output : Class

-- what a number of a gate is for. A divisor is a constant other than 0
pub data Role : Type 0 where
  Unused Party Wire Constant Divisor : Role

-- what a kind reads of the preprocessing, opens and sends, and what its numbers are for. "What a line takes from the material and opens is now
-- told by its kind, and every length and count follows."
pub record Shape : Type 0 where
  pub class : Class
  -- "three numbers for each in line .. and six for each mul line"; of sq "Its record is a, MAC of a, c, MAC of c"; of give "a three-number mask
  -- record": the length of its record
  pub prep : ℕ
  -- how many values it opens that wait for the next output's first check
  pub openings : ℕ
  -- "in, one word", "mul, two words", "show, one word", of sq "One round of one word": the words of a party in its own round
  pub words : ℕ
  pub first : Role
  pub second : Role
  pub constant : Role

abbrev shaped : Class → ℕ → ℕ → ℕ → Role → Role → Role → Shape
shaped class prep openings words first second constant =
    record { class = class; prep = prep; openings = openings; words = words; first = first; second = second; constant = constant }

-- the length of a mask's record, "(mask share, MAC share, whole mask)"
abbrev pub mask_size : ℕ
mask_size = 3

unfoldable pub kind_shape : Kind → Shape
kind_shape In = shaped Owned mask_size 0 1 Party Unused Unused
kind_shape Add = shaped Local 0 0 0 Wire Wire Unused
kind_shape Sub = shaped Local 0 0 0 Wire Wire Unused
kind_shape Plus = shaped Local 0 0 0 Wire Unused Constant
kind_shape Times = shaped Local 0 0 0 Wire Unused Constant
kind_shape Mul = shaped Opens 6 2 2 Wire Wire Unused
kind_shape Out = shaped Output 0 0 1 Wire Unused Unused
kind_shape Sq = shaped Opens 4 1 1 Wire Unused Unused
kind_shape Give = shaped Output mask_size 0 1 Wire Party Unused
kind_shape Over = shaped Local 0 0 0 Wire Unused Divisor

-- is a number for dividing by?
abbrev pub is_divisor : Role → Bool
is_divisor Unused = false
is_divisor Party = false
is_divisor Wire = false
is_divisor Constant = false
is_divisor Divisor = true

abbrev pub shape : Gate → Shape
shape g = kind_shape g.kind

-- a number for each class, by which two are told apart
abbrev pub class_number : Class → ℕ
class_number Local = 0
class_number Owned = 1
class_number Opens = 2
class_number Output = 3

unfoldable pub is_class : Class → Class → Bool
is_class k h = eqb (class_number h) (class_number k)

abbrev pub is_linear : Gate → Bool
is_linear g = is_class Local (shape g).class

abbrev pub is_in : Gate → Bool
is_in g = is_class Owned (shape g).class

abbrev pub opens : Gate → Bool
opens g = is_class Opens (shape g).class

abbrev pub is_out : Gate → Bool
is_out g = is_class Output (shape g).class

-- a give: an output that hides its score behind a mask, for the party that its second names
unfoldable pub is_give : Gate → Bool
is_give g = is_out g && eqb (shape g).prep mask_size

-- is the score of output g for a party of A? That of a give is for its receiver, "others get no score"; that of an out is for all
unfoldable pub seen_by : (ℕ → Bool) → Gate → Bool
seen_by A g = cond (is_give g) (A g.second) true

-- party i alone, and all parties
abbrev pub alone : ℕ → ℕ → Bool
alone i k = eqb k i

abbrev pub everyone : ℕ → Bool
everyone k = true

-- the party from which the score of output g is listed: of a give its receiver; of an out, whose score all have, party 0
unfoldable pub receiver : Gate → ℕ
receiver g = cond (is_give g) g.second 0

abbrev pub has_value : Gate → Bool
has_value g = not (is_out g)

-- is it an in gate of party i?
unfoldable pub owned_by : ℕ → Gate → Bool
owned_by i g = is_in g && eqb g.first i

-- what number k of a gate is for: 1 its first, 2 its second, 3 its constant
unfoldable pub role : Shape → ℕ → Role
role s k = cond (eqb k 1) s.first (cond (eqb k 2) s.second s.constant)

-- the gate that gives the second factor of a product: where one value is opened, that is the first again
unfoldable pub factor : Gate → ℕ
factor g = cond (eqb (shape g).openings 2) g.second g.first
