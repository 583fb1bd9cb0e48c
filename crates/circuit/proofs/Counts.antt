-- Laws of what is counted along a circuit: one gate more, that a part is within the whole, and bounds.
-- Assumes nothing.
use Prim.Native.Nat.{ℕ, zero, suc, ◌+◌, ◌*◌, ◌<◌, ◌≤◌}
use mathlib.Core.Path.{◌≡◌, refl}
use mathlib.Core.Logic.{⊎_elim}
use mathlib.Core.Bool.{Bool, true, false, cond}
use mathlib.Core.List.{List}
use native.Mathlib.Nat.{le_of_suc-le-suc, eq-or-lt_of_le, mul-suc}
use native.Mathlib.Numerals.{add-one}
use native.Mathlib.Omega.{arith}
use borrow.Author.Tests.{eq-eqb}
use Rattle.circuit.specs.Gate.{Gate, gate, gates}
use Rattle.circuit.specs.Kind.{Output, Shape, shape, is_class, is_in, owned_by}
use Rattle.circuit.specs.Count.{total, count, prep_at, prep_size, capacity, input_at, input_count, in_count, unchecked_after, unchecked}
use Rattle.circuit.proofs.Tests.{by_cases, both_true}
use Rattle.circuit.proofs.KindLaws.{shape_low}

module _ (f : Gate → ℕ) (c : List ℕ) where
  pub total_suc : (j : ℕ) → total f c (suc j) ≡ total f c j + f (gate c j)
  unfolding total
  total_suc j = refl

  pub total_more : (j : ℕ) → total f c (j + 1) ≡ total f c j + f (gate c j)
  total_more j = rw add-one (total_suc j)

  pub total_mono : (i j : ℕ) → i ≤ j → total f c i ≤ total f c j
  total_mono i zero h = let e : i ≡ 0 = omega arith in rw e (omega arith)
  total_mono i (suc j) h =
      ⊎_elim (λ e. rw e (omega arith))
      (λ l. omega (arith, total_mono i j (le_of_suc-le-suc l), total_suc j)) (eq-or-lt_of_le h)

  -- what a gate adds is within the sum over more gates
  pub total_within : (j n : ℕ) → j < n → total f c j + f (gate c j) ≤ total f c n
  total_within j n h = omega (arith, total_mono (suc j) n h, total_suc j)

  pub total_le : (k : ℕ) → ((g : Gate) → f g ≤ k) → (j : ℕ) → total f c j ≤ k * j
  unfolding total
  total_le k h zero = omega arith
  total_le k h (suc j) = omega (arith, total_le k h j, h (gate c j), mul-suc k j)

-- what is unchecked after a gate: what was, with what it opens, and nothing after an output
module _ (s : Shape) (u : ℕ) where
  pub unchecked_valued : is_class Output s.class ≡ false → unchecked_after s u ≡ u + s.openings
  unfolding unchecked_after
  unchecked_valued e = rw e

  pub unchecked_out : is_class Output s.class ≡ true → unchecked_after s u ≡ 0
  unfolding unchecked_after
  unchecked_out e = rw e

  pub unchecked_after_le : unchecked_after s u ≤ u + s.openings
  unchecked_after_le = by_cases (is_class Output s.class) (λ e. omega (arith, unchecked_out e)) (λ e. omega (arith, unchecked_valued e))

pub bit_le : (b : Bool) {r : ℕ} → r ≡ cond b 1 0 → r ≤ 1
bit_le true e = omega arith
bit_le false e = omega arith

module _ (has : Gate → Bool) (c : List ℕ) where
  pub count_more : (j : ℕ) → count has c (j + 1) ≡ count has c j + cond (has (gate c j)) 1 0
  unfolding count
  count_more j = total_more (λ g. cond (has g) 1 0) c j

  pub count_within : (j n : ℕ) → has (gate c j) ≡ true → j < n → count has c j < count has c n
  unfolding count
  count_within j n e h =
      let one : ◌≡◌ {A = ℕ} (cond (has (gate c j)) 1 0) 1 = rw e in
      omega (arith, total_within (λ g. cond (has g) 1 0) c j n h)

  pub count_le : (j : ℕ) → count has c j ≤ j
  unfolding count
  count_le j = omega (arith, total_le (λ g. cond (has g) 1 0) c 1 (λ g. bit_le (has g) refl) j)

module _ (c : List ℕ) where
  -- the preprocessing
  pub prep_more : (j : ℕ) → prep_at c (j + 1) ≡ prep_at c j + (shape (gate c j)).prep
  unfolding prep_at
  prep_more j = omega (arith, total_more (λ g. (shape g).prep) c j)

  pub prep_positive : (j : ℕ) → 1 ≤ prep_at c j
  unfolding prep_at
  prep_positive j = omega arith

  pub prep_within : (j : ℕ) → j < gates c → prep_at c j + (shape (gate c j)).prep ≤ prep_size c
  unfolding prep_at prep_size
  prep_within j h = omega (arith, total_within (λ g. (shape g).prep) c j (gates c) h)

  pub prep_le : (j : ℕ) → prep_at c j ≤ 1 + 6 * j
  unfolding prep_at
  prep_le j = omega (arith, total_le (λ g. (shape g).prep) c 6 (λ g. (shape_low g).prep) j)

  pub prep_size_le : prep_size c ≤ 1 + 6 * gates c
  unfolding prep_size
  prep_size_le = prep_le (gates c)

  -- openings, and those that are unchecked
  pub openings_more : (j : ℕ) → total (λ g. (shape g).openings) c (j + 1) ≡ total (λ g. (shape g).openings) c j + (shape (gate c j)).openings
  openings_more = total_more (λ g. (shape g).openings) c

  pub openings_le : (j : ℕ) → total (λ g. (shape g).openings) c j ≤ 2 * j
  openings_le = total_le (λ g. (shape g).openings) c 2 (λ g. (shape_low g).openings)

  pub capacity_le : capacity c ≤ 1 + 2 * gates c
  unfolding capacity
  capacity_le = omega (arith, openings_le (gates c))

  pub unchecked_more : (j : ℕ) → unchecked c (j + 1) ≡ unchecked_after (shape (gate c j)) (unchecked c j)
  unfolding unchecked
  unchecked_more j = rw add-one

  pub unchecked_le : (j : ℕ) → unchecked c j ≤ total (λ g. (shape g).openings) c j
  unfolding unchecked total
  unchecked_le zero = omega arith
  unchecked_le (suc j) = omega (arith, unchecked_le j, unchecked_after_le (shape (gate c j)) (unchecked c j))

  pub unchecked_few : (j : ℕ) → unchecked c j ≤ 2 * j
  unchecked_few j = omega (arith, unchecked_le j, openings_le j)

  pub unchecked_within : (j : ℕ) → j < gates c → unchecked c j + (shape (gate c j)).openings < capacity c
  unfolding capacity
  unchecked_within j h = omega (arith, unchecked_le j, total_within (λ g. (shape g).openings) c j (gates c) h)

  pub unchecked_fits : (j : ℕ) → j ≤ gates c → unchecked c j < capacity c
  unfolding capacity
  unchecked_fits j h = omega (arith, unchecked_le j, total_mono (λ g. (shape g).openings) c j (gates c) h)

  -- inputs
  pub input_more : (i j : ℕ) → input_at c i (j + 1) ≡ input_at c i j + cond (owned_by i (gate c j)) 1 0
  unfolding input_at
  input_more i j = count_more (owned_by i) c j

  pub input_within : (i j : ℕ) → is_in (gate c j) ≡ true → (gate c j).first ≡ i → j < gates c → input_at c i j < input_count c i
  unfolding input_at input_count owned_by
  input_within i j own e h = count_within (owned_by i) c j (gates c) (both_true own (eq-eqb (gate c j).first i e)) h

  pub input_le : (i j : ℕ) → input_at c i j ≤ j
  unfolding input_at
  input_le i j = count_le (owned_by i) c j

  pub in_count_le : in_count c ≤ gates c
  unfolding in_count
  in_count_le = count_le is_in c (gates c)
