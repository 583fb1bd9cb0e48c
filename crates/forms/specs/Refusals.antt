-- When a text is refused, by the words of document 02: 22 by the existence of a completion, 23 and 24 by counting brackets.
-- Assumes nothing.
use Rattle.std.specs.Prelude.{ℕ, suc, ◌+◌, ◌≤◌, ◌<◌, ◌≡◌, Bool, false, cond, ◌&&◌, List, [], ◌∷◌, ◌++◌, ◌⊎◌, length, get_or, take, eqb}
use Rattle.circuit.specs.Accept.{most_gates}
use Rattle.forms.specs.Form.{Form, opening, closing, print_rows, Sheet}

-- "at most 16 deep"
abbrev pub deepest : ℕ
deepest = 16

-- how often a byte stands in a text
unfoldable pub count : ℕ → List ℕ → ℕ
count b [] = 0
count b (x ∷ xs) = cond (eqb x b) 1 0 + count b xs

-- the letter l, with which no word but line begins
abbrev pub line_letter : ℕ
line_letter = 108

-- how many forms (line J) are begun in a text: the places of "(l"
unfoldable pub count_names : Bool → List ℕ → ℕ
count_names opened [] = 0
count_names opened (x ∷ xs) = cond (opened && eqb x line_letter) 1 0 + count_names (eqb x opening) xs

-- the text as far as byte i
abbrev pub up_to : ℕ → List ℕ → List ℕ
up_to i text = take (suc i) text

-- "a bracket opening depth 17": so many more are opened than closed
pub record OpensDeep (text : List ℕ) (i : ℕ) : Type 0 where
  pub inside : i < length text
  pub opens : get_or text i 0 ≡ opening
  pub deep : count opening (up_to i text) ≡ count closing (up_to i text) + suc deepest

-- "the bracket closing the 257th circuit line": every bracket that closes closes one, but that of a (line J)
pub record ClosesMany (text : List ℕ) (i : ℕ) : Type 0 where
  pub inside : i < length text
  pub closes : get_or text i 0 ≡ closing
  pub many : count closing (up_to i text) ≡ count_names false (up_to i text) + suc most_gates

-- top is the largest number that a sheet may have
module _ (top : ℕ) where
  -- some sheet begins with the text
  unfoldable pub Lives : List ℕ → Type 0
  Lives text = (rows : List Form) × Sheet top rows × ((rest : List ℕ) × (text ++ rest ≡ print_rows rows))

  unfoldable pub IsSheet : List ℕ → Type 0
  IsSheet text = (rows : List Form) × Sheet top rows × (text ≡ print_rows rows)

  -- "judged at the first byte after which no text could mend it, depth and count aside, or at the text's length if it ends within a line"
  pub record Breaks (text : List ℕ) (i : ℕ) : Type 0 where
    pub lives : Lives (take i text)
    pub ends : (i ≡ length text) ⊎ (Lives (up_to i text) → ⊥)
    pub broken : IsSheet text → ⊥

  -- a refusal's number falls on a byte
  pub data Falls (text : List ℕ) : ℕ → ℕ → Type 0 where
    breaks : {i : ℕ} → Breaks text i → Falls text 22 i
    opens_deep : {i : ℕ} → OpensDeep text i → Falls text 23 i
    closes_many : {i : ℕ} → ClosesMany text i → Falls text 24 i

  -- "The earliest byte decides and is the index, 22 first where two fall on one byte"
  pub record Decides (text : List ℕ) (number index : ℕ) : Type 0 where
    pub falls : Falls text number index
    pub earliest : (m i : ℕ) → Falls text m i → index ≤ i
    pub first : (m : ℕ) → Falls text m index → number ≤ m
