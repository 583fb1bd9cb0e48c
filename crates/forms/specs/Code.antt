-- What the code's answer stands for.
-- Assumes nothing.
use Rattle.std.specs.Prelude.{ℕ, Result, Ok, Err}
use Rattle.circuit.specs.Question.{number_of}
use Rattle.circuit.specs.declared.questions.Refusal.{Refusal}
use Rattle.forms.specs.Entry as E

-- so many gates were read, so many bytes written; or a question was answered with no
abbrev pub answer_of : Result ℕ Refusal → E.Answer
answer_of (Ok count) = E.Done count
answer_of (Err r) = E.Refusal (number_of r.question) r.index
