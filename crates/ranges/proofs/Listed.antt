-- A list with a number for each output of a circuit, in order.
-- Assumes nothing.
use Prim.Native.Nat.{ℕ, zero, suc, ◌<◌}
use mathlib.Core.Path.{◌≡◌, sym, ap, ◌∙◌}
use mathlib.Core.Logic.{⊎_elim}
use mathlib.Core.Bool.{true, false, cond}
use mathlib.Core.List.{List, [], ◌∷◌, ◌++◌, append-nil}
use native.Mathlib.Nat.{le_of_suc-le-suc, eq-or-lt_of_le}
use native.Mathlib.Omega.{arith}
use lib.ListN.{length, get_or}
use Rattle.circuit.specs.Gate.{gate}
use Rattle.circuit.specs.Kind.{is_out}
use Rattle.circuit.specs.Count.{total, count}
use Rattle.circuit.proofs.Tests.{by_cases}
use Rattle.ranges.specs.Whole.{Near}
use Rattle.ranges.proofs.Growing.{one_length, one_earlier, one_last}

-- l j has f i for each output i before j
pub record Listed (c : List ℕ) (f : ℕ → ℕ) (l : ℕ → List ℕ) : Type 0 where
  pub none : l 0 ≡ []
  pub more : (j : ℕ) → l (suc j) ≡ l j ++ cond (is_out (gate c j)) (f j ∷ []) []

-- an output counts one, and no other gate
module _ (c : List ℕ) (j : ℕ) where
  pub count_out : is_out (gate c j) ≡ true → count is_out c (suc j) ≡ suc (count is_out c j)
  unfolding count total
  count_out e = rw e (omega arith)

  pub count_other : is_out (gate c j) ≡ false → count is_out c (suc j) ≡ count is_out c j
  unfolding count total
  count_other e = rw e (omega arith)

module _ {c : List ℕ} {f : ℕ → ℕ} {l : ℕ → List ℕ} (t : Listed c f l) where
  pub listed_out : (j : ℕ) → is_out (gate c j) ≡ true → l (suc j) ≡ l j ++ (f j ∷ [])
  listed_out j e = t.more j ∙ rw e

  pub listed_other : (j : ℕ) → is_out (gate c j) ≡ false → l (suc j) ≡ l j
  listed_other j e = t.more j ∙ rw e (append-nil (l j))

  pub listed_length : (j : ℕ) → length (l j) ≡ count is_out c j
  unfolding count total
  listed_length zero = ap length t.none
  listed_length (suc j) =
      by_cases (is_out (gate c j)) (λ e. ap length (listed_out j e) ∙ one_length (l j) (f j) (listed_length j) ∙ sym (count_out c j e))
      (λ e. ap length (listed_other j e) ∙ listed_length j ∙ sym (count_other c j e))

  module _ (j : ℕ) (e : is_out (gate c j) ≡ true) where
    pub listed_last : get_or (l (suc j)) (count is_out c j) 0 ≡ f j
    listed_last = rw (listed_out j e) (one_last (l j) (f j) (listed_length j))

    pub listed_earlier : (s : ℕ) → s < count is_out c j → get_or (l (suc j)) s 0 ≡ get_or (l j) s 0
    listed_earlier s h = rw (listed_out j e) (one_earlier (l j) (f j) (listed_length j) s h)

-- numbers that are near each other at each output stand in lists whose numbers are
pub listed_near : {c : List ℕ} {f g h : ℕ → ℕ} {m u v : ℕ → List ℕ} → Listed c f m → Listed c g u → Listed c h v → (j : ℕ)
    → ((i : ℕ) → i < j → is_out (gate c i) ≡ true → Near (f i) (g i) (h i))
    → (s : ℕ) → s < count is_out c j → Near (get_or (m j) s 0) (get_or (u j) s 0) (get_or (v j) s 0)
unfolding count total
listed_near {c} tm tu tv zero near s l = absurd (omega arith)
listed_near {c} tm tu tv (suc j) near s l =
    let before = listed_near tm tu tv j (λ i k. near i (omega arith)) s in
    by_cases (is_out (gate c j))
    (λ e. ⊎_elim
    (λ p. rw p (rw (listed_last tm j e, listed_last tu j e, listed_last tv j e) (near j (omega arith) e)))
    (λ k. rw (listed_earlier tm j e s k, listed_earlier tu j e s k, listed_earlier tv j e s k) (before k))
    (eq-or-lt_of_le (le_of_suc-le-suc (rw (count_out c j e) at l))))
    (λ e. rw (listed_other tm j e, listed_other tu j e, listed_other tv j e) (before (rw (count_other c j e) at l)))
