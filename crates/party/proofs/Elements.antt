-- The first number of a list that is no element is the one that is refused.
-- Assumes nothing.
use Prim.Native.Nat.{ℕ, ◌<◌}
use mathlib.Core.Path.{◌≡◌, sym}
use mathlib.Core.Bool.{false}
use mathlib.Core.List.{List}
use native.Mathlib.Omega.{arith}
use lib.ListN.{length, get_or}
use lib.Dec.{ltb, leb}
use borrow.Author.Tests.{lt-ltb, le-ltb, leb-true, leb-false, ltb-false}
use Rattle.std.specs.Prelude.{Some, None}
use Rattle.std.specs.List.{position, position_or_len}
use Rattle.std.proofs.lemmas.List.Quantifiers.{position-Some}
use Rattle.std.proofs.lemmas.List.Sums.{fails_before_first}
use Rattle.field.specs.Words.{size}
use Rattle.circuit.specs.Verdict.{Accepted, Refused, ask, elements}
use Rattle.circuit.proofs.Verdicts.{ask_yes, ask_no, each_all, each_refused}
use Rattle.circuit.proofs.Tests.{by_cases}

module _ (number : ℕ) (xs : List ℕ) where
  passes : (n : ℕ) → ((k : ℕ) → k < n → leb size (get_or xs k 0) ≡ false) → (k : ℕ) → k < n → ask number k (ltb (get_or xs k 0) size) ≡ Accepted
  passes n h k l = ask_yes number k (lt-ltb _ _ (leb-false _ _ (h k l)))

  pub first_refused : {i : ℕ} → position (leb size) xs ≡ Some i → Refused number i ≡ elements number size xs
  unfolding elements
  first_refused {i} e =
      let p = position-Some (leb size) xs i 0 e in
      sym (each_refused _ i (length xs) p.0 (each_all _ i (passes i p.2)) (ask_no number i (le-ltb _ _ (leb-true _ _ p.1))))

  pub none_refused : position (leb size) xs ≡ None → Accepted ≡ elements number size xs
  unfolding elements
  none_refused e =
      by_cases (ltb (position_or_len (leb size) xs) (length xs)) (λ b. let q = rw b at e in cc)
      (λ b. sym (each_all _ (length xs) (passes (length xs) (λ k l. fails_before_first (leb size) xs k 0 (omega (arith, ltb-false _ _ b))))))
