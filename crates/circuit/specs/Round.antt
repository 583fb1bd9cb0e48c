-- The rounds of a gate. In each, every party sends its words and then hears the words of all.
-- Assumes nothing.
use Rattle.std.specs.Prelude.{ℕ, zero, suc, ◌+◌, Bool, true, false, cond, not, List, [], ◌∷◌, ◌++◌, eqb}
use Rattle.circuit.specs.Gate.{Gate, gate, gates}
use Rattle.circuit.specs.Kind.{Class, Local, Owned, Opens, Output, Shape, shape}
use Rattle.circuit.specs.Count.{unchecked}

-- the two checks of an output: of what is opened and unchecked, and of the shown value
pub data Check : Type 0 where
  First Second : Check

-- a gate's own round (document 01's in and mul), the opening of an output (show), the commitment (seal) and the reveal of a check
pub data Round : Type 0 where
  Own Open : Round
  Commit Reveal : Check → Round

-- a number for each round, by which two are told apart
unfoldable pub round_number : Round → ℕ
round_number Own = 0
round_number Open = 1
round_number (Commit First) = 2
round_number (Reveal First) = 3
round_number (Commit Second) = 4
round_number (Reveal Second) = 5

abbrev pub is_commit : Round → Bool
is_commit Own = false
is_commit Open = false
is_commit (Commit k) = true
is_commit (Reveal k) = false

abbrev pub is_reveal : Round → Bool
is_reveal Own = false
is_reveal Open = false
is_reveal (Commit k) = false
is_reveal (Reveal k) = true

-- "if anything is opened and unchecked, a check (seal, reveal); then show ..; then a check of it": the second there is always
abbrev pub has_check : ℕ → Check → Bool
has_check u First = not (eqb u 0)
has_check u Second = true

unfoldable pub check_rounds : ℕ → Check → List Round
check_rounds u k = cond (has_check u k) (Commit k ∷ Reveal k ∷ []) []

-- the rounds of a gate in order, by its class, where u entries are opened and unchecked
unfoldable pub class_rounds : ℕ → Class → List Round
class_rounds u Local = []
class_rounds u Owned = Own ∷ []
class_rounds u Opens = Own ∷ []
class_rounds u Output = check_rounds u First ++ (Open ∷ check_rounds u Second)

unfoldable pub rounds : List ℕ → ℕ → List Round
rounds c j = class_rounds (unchecked c j) (shape (gate c j)).class

-- is r one of these rounds?
unfoldable pub among : Round → List Round → Bool
among r [] = false
among r (s ∷ rs) = cond (eqb (round_number r) (round_number s)) true (among r rs)

-- the rounds that come after r
unfoldable pub following : Round → List Round → List Round
following r [] = []
following r (s ∷ rs) = cond (eqb (round_number r) (round_number s)) rs (following r rs)

-- "The seal's words become the eight 32-bit words of SHA-256": a mark
abbrev pub commit_words : ℕ
commit_words = 8

-- "a 32-byte nonce handed over at the seal": so many bytes, which are so many words
abbrev pub nonce_size : ℕ
nonce_size = 32

abbrev pub nonce_words : ℕ
nonce_words = 8

-- "The reveal posts the check word and the nonce as eight 32-bit words"
abbrev pub reveal_words : ℕ
reveal_words = 9

-- how many words a party sends in a round: the gate's own, or those of a check
unfoldable pub shape_words : Shape → Round → ℕ
shape_words s Own = s.words
shape_words s Open = s.words
shape_words s (Commit k) = commit_words
shape_words s (Reveal k) = reveal_words

abbrev pub words : Gate → Round → ℕ
words g r = shape_words (shape g) r

-- how many entries a check is of, where u are opened and unchecked when its gate is reached
abbrev pub checked : ℕ → Check → ℕ
checked u First = u
checked u Second = 1

-- how many entries are opened and unchecked in a round: u until the first check has passed, none at the show, and then the shown value alone
abbrev pub opened_in : ℕ → Round → ℕ
opened_in u Own = u
opened_in u Open = 0
opened_in u (Commit k) = checked u k
opened_in u (Reveal k) = checked u k

-- "draws are handed over when the seal is spoken, one for each opened entry in order"
unfoldable pub coefficients_in : ℕ → Round → ℕ
coefficients_in u r = cond (is_commit r) (opened_in u r) 0

-- a check begins with its commitment
unfoldable pub commits_in : Round → ℕ
commits_in r = cond (is_commit r) 1 0

-- "a nonce list of any length but 32 at a spoken seal, 0 in any other speaking": the bytes that are handed over
unfoldable pub nonce_in : Round → ℕ
nonce_in r = cond (is_commit r) nonce_size 0

-- the sum of f over rounds
unfoldable pub over_rounds : (Round → ℕ) → List Round → ℕ
over_rounds f [] = 0
over_rounds f (r ∷ rs) = f r + over_rounds f rs

-- the sum of f over the rounds of the gates before j
unfoldable pub over_run : (ℕ → Round → ℕ) → List ℕ → ℕ → ℕ
over_run f c zero = 0
over_run f c (suc j) = over_run f c j + over_rounds (f j) (rounds c j)

-- what a whole run takes: rounds, words of one party, coefficients, and how many checks it has
unfoldable pub round_count : List ℕ → ℕ
round_count c = over_run (λ j r. 1) c (gates c)

unfoldable pub word_count : List ℕ → ℕ
word_count c = over_run (λ j r. words (gate c j) r) c (gates c)

unfoldable pub coefficient_count : List ℕ → ℕ
coefficient_count c = over_run (λ j r. coefficients_in (unchecked c j) r) c (gates c)

unfoldable pub check_count : List ℕ → ℕ
check_count c = over_run (λ j r. commits_in r) c (gates c)
