-- Recursion and induction on all earlier numbers.
-- Assumes nothing.
use Prim.Native.Nat.{ℕ, zero, suc, ◌<◌}
use mathlib.Core.Path.{◌≡◌, refl, ◌∙◌}
use mathlib.Core.List.{List, [], ◌∷◌, ◌++◌}
use native.Mathlib.Decide.{ℕ_discrete}
use native.Mathlib.Omega.{arith}
use lib.ListN.{length, get_or, length-append, get_or-append}
use lib.Seq.{get_or_at}

-- step makes entry j of the entries before it; d stands where there is none
module _ {A : Type 0} (d : A) (step : ℕ → (ℕ → A) → A) where
  -- the entries before j
  unfoldable pub before : ℕ → List A
  before zero = []
  before (suc j) = let l = before j in l ++ (step j (λ x. get_or l x d) ∷ [])

  -- entry j
  unfoldable pub course : ℕ → A
  course j = step j (λ x. get_or (before j) x d)

  -- As many entries stand before j.
  length_before : (j : ℕ) → length (before j) ≡ j
  unfolding before
  length_before zero = refl
  length_before (suc j) = length-append (before j) _ ∙ omega (arith, length_before j)

  -- Among the entries before m, number j is entry j.
  pub before_at : (m j : ℕ) → j < m → get_or (before m) j d ≡ course j
  unfolding before course
  before_at zero j h = absurd (omega arith)
  before_at (suc m) j h = go (ℕ_discrete j m) (before_at m j)
    where
      go : Dec (j ≡ m) → (j < m → get_or (before m) j d ≡ course j) → get_or (before (suc m)) j d ≡ course j
      go (yes p) earlier = rw p (get_or_at (before m) _ [] d m (length_before m))
      go (no q) earlier = get_or-append (before m) _ d j (omega (arith, length_before m)) ∙ earlier (omega arith)

  -- Where a step looks at earlier entries alone, entry j is made of the entries.
  pub course_is : (j : ℕ) → ((f g : ℕ → A) → ((x : ℕ) → x < j → f x ≡ g x) → step j f ≡ step j g) → course j ≡ step j course
  course_is j local = unfold course in local (λ x. get_or (before j) x d) course (before_at j)

-- What follows from itself for all earlier numbers holds of every number.
pub strong : (P : ℕ → Type 0) → ((j : ℕ) → ((x : ℕ) → x < j → P x) → P j) → (j : ℕ) → P j
strong P f j = up_to (suc j) j (omega arith)
  where
    up_to : (m x : ℕ) → x < m → P x
    up_to zero x h = absurd (omega arith)
    up_to (suc m) x h = f x (λ y l. up_to m y (omega arith))
