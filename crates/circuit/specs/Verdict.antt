-- Questions that are asked in order, of which the first no decides.
-- Assumes nothing.
use Rattle.std.specs.Prelude.{ℕ, zero, suc, Bool, true, false, List, length, get_or, ltb}

-- "A refusal gives its number and an index."
pub data Verdict : Type 0 where
  Accepted : Verdict
  Refused : ℕ → ℕ → Verdict

infixr 20 ◌then◌
-- one question with its number and index: yes goes on, no refuses
unfoldable pub ask : ℕ → ℕ → Bool → Verdict
ask number index true = Accepted
ask number index false = Refused number index

-- "The first no decides."
unfoldable pub ◌then◌ : Verdict → Verdict → Verdict
Accepted then v = v
Refused number index then v = Refused number index

-- the questions f 0, .., f (n - 1), in that order
unfoldable pub each : ℕ → (ℕ → Verdict) → Verdict
each zero f = Accepted
each (suc n) f = each n f then f n

-- Are the numbers of a list below q? "the first offending number's index"
unfoldable pub elements : ℕ → ℕ → List ℕ → Verdict
elements number q xs = each (length xs) (λ k. ask number k (ltb (get_or xs k 0) q))
