-- Loops that ask the same question of one thing after another.
-- Assumes nothing.
use Prim.Native.Nat.{ℕ, ◌+◌, ◌<◌, ◌≤◌}
use mathlib.Core.Path.{◌≡◌, refl, sym}
use mathlib.Core.Logic.{◌↔◌}
use mathlib.Core.Bool.{Bool, true, false}
use mathlib.Core.List.{List}
use native.Mathlib.Omega.{arith}
use lib.ListN.{length, get_or}
use borrow.Author.Count.{below_more}
use Rattle.circuit.specs.Verdict.{Verdict, Accepted, Refused, ◌then◌, each}
use Rattle.circuit.proofs.Verdicts.{each_none, each_more, each_refused, each_done}

-- of the n questions the first k are asked and passed
pub record Asking (f : ℕ → Verdict) (n k : ℕ) : Type 0 where
  pub upto : k ≤ n
  pub passed : each k f ≡ Accepted

module _ (f : ℕ → Verdict) (n : ℕ) where
  pub asking_starts : Asking f n 0
  asking_starts = record { upto = omega arith; passed = each_none f }

  module _ (k : ℕ) (a : Asking f n k) where
    pub asking_goes_on : k < n → f k ≡ Accepted → Asking f n (k + 1)
    asking_goes_on l e = record { upto = omega arith; passed = each_more f k a.passed e }

    pub asking_refuses : {number index : ℕ} → k < n → f k ≡ Refused number index → Refused number index ≡ each n f
    asking_refuses l e = sym (each_refused f k n l a.passed e)

    pub asking_ends : n ≤ k → Accepted ≡ each n f
    asking_ends l = sym (each_done f k n a.upto l a.passed)

-- of the numbers of a list the first k are asked, and all says whether each of them is below q
pub record Sifted (q : ℕ) (xs : List ℕ) (k : ℕ) (all : Bool) : Type 0 where
  pub upto : k ≤ length xs
  pub says : (all ≡ true) ↔ ((i : ℕ) → i < k → get_or xs i 0 < q)

module _ (q : ℕ) (xs : List ℕ) where
  pub sifted_starts : Sifted q xs 0 true
  sifted_starts = record { upto = omega arith; says = (λ e i l. omega arith, λ h. refl) }

  module _ (k : ℕ) (all : Bool) (s : Sifted q xs k all) where
    pub sifted_yes : k < length xs → get_or xs k 0 < q → Sifted q xs (k + 1) all
    sifted_yes l h = record { upto = omega arith; says = (λ e. below_more _ _ (s.says.0 e) h, λ b. s.says.1 (λ i m. b i (omega arith))) }

    pub sifted_no : k < length xs → q ≤ get_or xs k 0 → Sifted q xs (k + 1) false
    sifted_no l h = record { upto = omega arith; says = (λ e. let z : ◌≡◌ {A = ℕ} 0 1 = cc in absurd (omega arith), λ b. absurd (omega (arith, b k (omega arith)))) }

    pub sifted_ends : length xs ≤ k → (all ≡ true) ↔ ((i : ℕ) → i < length xs → get_or xs i 0 < q)
    sifted_ends l = let e : length xs ≡ k = omega arith in rw e s.says

-- grouping of questions does not matter
pub then_assoc : (a b c : Verdict) → ((a then b) then c) ≡ (a then b then c)
unfolding ◌then◌
then_assoc Accepted b c = refl
then_assoc (Refused number index) b c = refl
