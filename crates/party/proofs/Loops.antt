-- Loops that ask one thing after another, each by a call that accepts or refuses.
-- Assumes nothing.
use Prim.Native.Nat.{ℕ, ◌+◌, ◌<◌, ◌≤◌}
use mathlib.Core.Path.{◌≡◌, sym, ap, ◌∙◌}
use Rattle.std.specs.Prelude.{Result, Ok, Err}
use Rattle.circuit.specs.Verdict.{Verdict, Accepted, Refused, each}
use Rattle.circuit.specs.Question.{number_of, verdict_of}
use Rattle.circuit.specs.declared.questions.Refusal.{Refusal}
use Rattle.circuit.proofs.Loops.{Asking, asking_starts, asking_goes_on, asking_refuses, asking_ends}

module _ (f : ℕ → Verdict) (n : ℕ) where
  pub each_start : Asking f n 0
  each_start = asking_starts f n

  module _ (k : ℕ) where
    pub each_on : {A : Type 0} {r : Result A Refusal} {a : A} → Asking f n k → k < n → verdict_of r ≡ f k → r ≡ Ok a → Asking f n (k + 1)
    each_on a l h q = asking_goes_on f n k a l (sym h ∙ ap verdict_of q)

    pub each_no : {A : Type 0} {r : Result A Refusal} {e : Refusal} {u : Verdict} → Asking f n k → k < n → verdict_of r ≡ f k → r ≡ Err e → u ≡ Refused (number_of e.question) e.index → u ≡ each n f
    each_no a l h q e = e ∙ asking_refuses f n k a l (sym h ∙ ap verdict_of q)

    pub each_end : Asking f n k → n ≤ k → Accepted ≡ each n f
    each_end a l = asking_ends f n k a l

pub ruleset asked_each = (each_start, each_on, each_no, each_end)
