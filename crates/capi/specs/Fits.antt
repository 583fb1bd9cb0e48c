-- The call that asks whether a circuit fits: the change that three numbers name, the answer as numbers, and the verdict.
-- Assumes nothing.
use Rattle.std.specs.Prelude.{ℕ, cond, List, [], ◌∷◌, length, eqb}
use Rattle.field.specs.Words.{size}
use Rattle.circuit.specs.Verdict.{Verdict, Accepted, Refused}
use Rattle.ranges.specs.Move.{Change, Nothing, Of}
use Rattle.ranges.specs.Entry.{Query, Answer, Refusal, Leaves, Fits, ask_fit}
use Rattle.capi.specs.Calls.{called}

-- the number that says that no change is given, whatever gate and amount stand beside it; every other says that one is
abbrev pub no_change : ℕ
no_change = 0

unfoldable pub change_at : ℕ → ℕ → ℕ → Change
change_at changes gate amount = cond (eqb changes no_change) Nothing (Of gate amount)

-- what an answer begins with: where every gate fits, and where one leaves
abbrev pub every_fits : ℕ
every_fits = 6

abbrev pub one_leaves : ℕ
one_leaves = 7

-- that, and the gate that leaves
unfoldable pub fit_numbers : Answer → List ℕ
fit_numbers (Refusal number index) = []
fit_numbers (Leaves gate) = one_leaves ∷ gate ∷ 0 ∷ 0 ∷ 0 ∷ 0 ∷ []
fit_numbers Fits = every_fits ∷ 0 ∷ 0 ∷ 0 ∷ 0 ∷ 0 ∷ []

-- whether an answer is a refusal: a gate that leaves is none
unfoldable pub fit_verdict : Answer → Verdict
fit_verdict (Refusal number index) = Refused number index
fit_verdict (Leaves gate) = Accepted
fit_verdict Fits = Accepted

abbrev pub fit_call : Query → List ℕ → List ℕ → List ℕ → Verdict
fit_call Q intervals moves answer = called (ask_fit size Q (length intervals) (length moves)) answer
