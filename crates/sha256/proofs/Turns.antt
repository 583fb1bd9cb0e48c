-- Rounds taken apart: into their sums, one by one for a turn of eight, and turn by turn.
-- Assumes nothing.
use Rattle.std.proofs.Common.{◌≡◌, ℕ, zero, suc, ◌+◌, ◌<◌, ◌≤◌, List, [], ◌∷◌, length, get_or, take, drop, sym, refl, ap, ◌∙◌, ap₂, le_of_suc-le-suc, not-suc-le-zero, arith}
use Rattle.std.proofs.lemmas.List.{drop_more, drop_all}
use Rattle.sha256.specs.Sha256.{◌⊞◌, T₁, T₂, round, rounds}

-- a round by its sums
pub round_is : (v : List ℕ) (k w : ℕ) {t₁ t₂ a e : ℕ}
    → t₁ ≡ T₁ (get_or v 4 0) (get_or v 5 0) (get_or v 6 0) (get_or v 7 0) k w → t₂ ≡ T₂ (get_or v 0 0) (get_or v 1 0) (get_or v 2 0)
    → a ≡ t₁ ⊞ t₂ → e ≡ get_or v 3 0 ⊞ t₁
    → a ∷ get_or v 0 0 ∷ get_or v 1 0 ∷ get_or v 2 0 ∷ e ∷ get_or v 4 0 ∷ get_or v 5 0 ∷ get_or v 6 0 ∷ [] ≡ round v k w
unfolding round
round_is v k w e₁ e₂ ea ee =
    let new : List ℕ → List ℕ = λ l. get_or v 0 0 ∷ get_or v 1 0 ∷ get_or v 2 0 ∷ l in
    let old : List ℕ = get_or v 4 0 ∷ get_or v 5 0 ∷ get_or v 6 0 ∷ [] in
    λ i. (ea ∙ ap₂ ◌⊞◌ e₁ e₂) i ∷ new ((ee ∙ ap (λ (x : ℕ). get_or v 3 0 ⊞ x) e₁) i ∷ old)

-- n rounds, and then the others
pub rounds_split : (n : ℕ) (ks ws v : List ℕ) → n ≤ length ks → n ≤ length ws
    → rounds ks ws v ≡ rounds (drop n ks) (drop n ws) (rounds (take n ks) (take n ws) v)
unfolding rounds
rounds_split zero ks ws v hk hw = refl
rounds_split (suc n) [] ws v hk hw = absurd (not-suc-le-zero hk)
rounds_split (suc n) (k ∷ ks) [] v hk hw = absurd (not-suc-le-zero hw)
rounds_split (suc n) (k ∷ ks) (w ∷ ws) v hk hw = rounds_split n ks ws (round v k w) (le_of_suc-le-suc hk) (le_of_suc-le-suc hw)

module _ (ks ws : List ℕ) (lk : length ks ≡ 8) (lw : length ws ≡ 8) where
  cons : (k w : ℕ) (ks' ws' v : List ℕ) → rounds (k ∷ ks') (w ∷ ws') v ≡ rounds ks' ws' (round v k w)
  unfolding rounds
  cons k w ks' ws' v = refl

  -- a round with the constant and the word at i
  pub turn_more : {r u : List ℕ} (v : List ℕ) (i : ℕ) → i < 8 → r ≡ rounds (drop i ks) (drop i ws) v → u ≡ round v (get_or ks i 0) (get_or ws i 0)
      → r ≡ rounds (drop (i + 1) ks) (drop (i + 1) ws) u
  turn_more v i h e f =
      e
      ∙ (λ j. rounds (drop_more ks i 0 (omega arith) j) (drop_more ws i 0 (omega arith) j) v)
      ∙ cons _ _ (drop (i + 1) ks) (drop (i + 1) ws) v
      ∙ ap (rounds (drop (i + 1) ks) (drop (i + 1) ws)) (sym f)

  pub turn_done : {r : List ℕ} (v : List ℕ) (i : ℕ) → 8 ≤ i → r ≡ rounds (drop i ks) (drop i ws) v → v ≡ r
  unfolding rounds
  turn_done v i h e = sym (e ∙ ap (λ (l : List ℕ). rounds l (drop i ws) v) (drop_all i ks (omega arith)))
