-- The words of a text, and the one of a number.
-- Assumes nothing.
use Rattle.std.specs.Prelude.{ℕ, zero, suc, ◌+◌, ◌-◌, true, false, List, take, drop}
use Rattle.text.specs.Text.{run}

-- where the first word at or after a place starts and ends
unfoldable pub start_from : List ℕ → ℕ → ℕ
start_from line from = from + run true (drop from line)

unfoldable pub end_from : List ℕ → ℕ → ℕ
end_from line from = start_from line from + run false (drop (start_from line from) line)

-- that word; there is none where it starts at its end
unfoldable pub word_from : List ℕ → ℕ → List ℕ
word_from line from = take (end_from line from - start_from line from) (drop (start_from line from) line)

-- where so many words end
unfoldable pub ends : ℕ → List ℕ → ℕ
ends zero text = 0
ends (suc n) text = end_from text (ends n text)

-- the word of a number, from 0; it is empty where there are not so many
unfoldable pub nth : ℕ → List ℕ → List ℕ
nth k text = word_from text (ends k text)
