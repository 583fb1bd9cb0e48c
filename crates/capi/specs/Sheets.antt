-- The calls that read and write sheets: the answer as numbers, and the verdict.
-- Assumes nothing.
use Rattle.std.specs.Prelude.{ℕ, List, [], ◌∷◌, length}
use Rattle.field.specs.Words.{size, largest}
use Rattle.circuit.specs.Verdict.{Verdict, Accepted, Refused}
use Rattle.forms.specs.Entry.{Answer, Refusal, Done, ask_read, ask_write}
use Rattle.capi.specs.Calls.{called}

-- what an answer begins with: of a sheet that was read, and of one that was written
abbrev pub sheet_read : ℕ
sheet_read = 4

abbrev pub sheet_written : ℕ
sheet_written = 5

-- that, and the gates read or the bytes written
unfoldable pub sheet_numbers : ℕ → Answer → List ℕ
sheet_numbers kind (Refusal number index) = []
sheet_numbers kind (Done count) = kind ∷ count ∷ 0 ∷ 0 ∷ 0 ∷ 0 ∷ []

-- whether an answer is a refusal
unfoldable pub sheet_verdict : Answer → Verdict
sheet_verdict (Refusal number index) = Refused number index
sheet_verdict (Done count) = Accepted

abbrev pub read_call : ℕ → List ℕ → List ℕ → List ℕ → Verdict
read_call parties text circuit answer = called (ask_read parties size largest text (length circuit)) answer

abbrev pub write_call : ℕ → List ℕ → List ℕ → List ℕ → Verdict
write_call parties c text answer = called (ask_write parties size c (length text)) answer
