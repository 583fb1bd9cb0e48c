-- How sums of products of coefficients and numbers go on, pass by pass, and what they are of parts of lists.
-- Assumes nothing.
use Prim.Native.Nat.{ℕ, zero, suc, ◌+◌, ◌-◌, ◌<◌, ◌≤◌}
use mathlib.Core.Path.{◌≡◌, sym, ap, ap₂, ◌∙◌}
use mathlib.Core.List.{List}
use native.Mathlib.Omega.{arith}
use mathlib.Core.Logic.{inl, inr}
use lib.ListN.{length, get_or, take, drop, get_or-eq_default}
use Rattle.std.proofs.lemmas.List.{get_or-drop, get_or-take, length-take-le, length-drop}
use Rattle.std.proofs.lemmas.Bool.{cases_lt}
use Rattle.algebra.specs.Sum.{sum}
use native.Mathlib.Numerals.{add-one}
use Rattle.algebra.proofs.Ring.{norm_norm}
use Rattle.algebra.proofs.Sums.{sum_zero, sum_one, sum_suc, norm_sum, sum_ext}
use Rattle.field.specs.Words.{size, ops}
use Rattle.field.proofs.Laws.{laws}
use Rattle.protocol.specs.Holding.{Below}
use Rattle.steps.specs.Code.{weighed}

-- a sum goes on by the sum of the terms behind it
sum_on : (m n : ℕ) (f : ℕ → ℕ) → ops.add (sum ops m f) (sum ops n (λ i. f (m + i))) ≡ sum ops (m + n) f
sum_on m zero f = let z : m + 0 ≡ m = omega arith in rw (sum_zero laws, z) (laws.add-zero _ ∙ norm_sum laws m f)
sum_on m (suc n) f =
    let z : m + suc n ≡ suc (m + n) = omega arith in
    rw (sum_suc laws n, z, sum_suc laws (m + n)) (sym (laws.add_assoc _ _ _) ∙ ap (λ (s : ℕ). ops.add s (f (m + n))) (sum_on m n f))

-- one product more; s is the sum that the pass began with
pub weighed_none : (s : ℕ) (values coefficients : List ℕ) → ops.norm s ≡ ops.add (ops.norm s) (weighed values coefficients 0)
weighed_none s values coefficients = rw (sum_zero laws) (sym (laws.add-zero (ops.norm s) ∙ norm_norm laws s))

pub weighed_more : (s n acc r : ℕ) (values coefficients : List ℕ) {x y : ℕ} → x ≡ get_or coefficients n 0 → y ≡ get_or values n 0
    → ops.norm acc ≡ ops.add (ops.norm s) (weighed values coefficients n)
    → ops.norm r ≡ ops.add (ops.norm acc) (ops.mul x y)
    → ops.norm r ≡ ops.add (ops.norm s) (weighed values coefficients (n + 1))
weighed_more s n acc r values coefficients e f g h =
    rw (add-one n, sum_suc laws n) (h ∙ rw (g, e, f) (laws.add_assoc _ _ _))

-- one product is its own sum
pub weighed_one : (values coefficients : List ℕ) → length coefficients ≡ 1
    → ops.mul (get_or coefficients 0 0) (get_or values 0 0) ≡ weighed values coefficients (length coefficients)
weighed_one values coefficients e = rw e (sym (sum_one laws _ ∙ laws.norm_mul _ _))

-- the products of k numbers from at on
pub weighed_part : (l coefficients : List ℕ) (at k : ℕ) → at + k ≤ length l → k ≤ length coefficients
    → weighed (take (at + k - at) (drop at l)) (take k coefficients) (length (take k coefficients))
    ≡ sum ops k (λ t. ops.mul (get_or coefficients t 0) (get_or l (at + t) 0))
weighed_part l coefficients at k h few =
    let n : length (take k coefficients) ≡ k = length-take-le k coefficients few in
    let z : at + k - at ≡ k = omega arith in
    rw (n, z) (sum_ext laws k _ _ (λ t less. ap₂ ops.mul (get_or-take k coefficients t 0 less) (get_or-take k (drop at l) t 0 less ∙ get_or-drop at l t 0)))

-- elements that stand side by side in a list are elements as a part of it, and behind its end stands 0
pub below_take : (k : ℕ) (xs : List ℕ) → k ≤ length xs → ((t : ℕ) → t < k → get_or xs t 0 < size) → Below size (take k xs)
below_take k xs fits h i =
    elim (cases_lt i k) [
      | inl less ↦ rw (get_or-take k xs i 0 less) (h i less)
      | inr more ↦ rw (get_or-eq_default (take k xs) 0 {n = i} (omega (arith, length-take-le k xs fits))) (omega arith)
    ]

pub below_drop : (at : ℕ) (xs : List ℕ) → Below size xs → Below size (drop at xs)
below_drop at xs h i = rw (get_or-drop at xs i 0) (h (at + i))

-- what is asked of k opened entries from at on, and of their coefficients
pub parts_asked : (l coefficients : List ℕ) (at k : ℕ) → at + k ≤ length l → ((t : ℕ) → t < k → get_or l (at + t) 0 < size)
    → k ≤ length coefficients
    → Below size coefficients
    → (length (take (at + k - at) (drop at l)) ≡ length (take k coefficients)) × Below size (take (at + k - at) (drop at l)) × Below size (take k coefficients)
parts_asked l coefficients at k h low few low' =
    let z : at + k - at ≡ k = omega arith in
    let m : k ≤ length (drop at l) = omega (arith, length-drop at l) in
    rw z (
      length-take-le k (drop at l) m ∙ sym (length-take-le k coefficients few),
      below_take k (drop at l) m (λ t less. rw (get_or-drop at l t 0) (low t less)),
      below_take k coefficients few (λ t less. low' t),
    )

-- what is asked of a pass
pub pass_asked : (values coefficients : List ℕ) (t to : ℕ) → t ≤ to → length values ≡ length coefficients → to ≤ length coefficients
    → Below size values
    → Below size coefficients
    → (length (take (to - t) (drop t values)) ≡ length (take (to - t) (drop t coefficients)))
    × (length (take (to - t) (drop t coefficients)) ≡ to - t)
    × Below size (take (to - t) (drop t values))
    × Below size (take (to - t) (drop t coefficients))
pass_asked values coefficients t to h long fits low low' =
    let m : to - t ≤ length (drop t values) = omega (arith, length-drop t values) in
    let n : to - t ≤ length (drop t coefficients) = omega (arith, length-drop t coefficients) in (
      length-take-le (to - t) (drop t values) m ∙ sym (length-take-le (to - t) (drop t coefficients) n),
      length-take-le (to - t) (drop t coefficients) n,
      below_take (to - t) (drop t values) m (λ i less. below_drop t values low i),
      below_take (to - t) (drop t coefficients) n (λ i less. below_drop t coefficients low' i),
    )

-- the products before t, and those from t on before to
pub weighed_on : (values coefficients : List ℕ) (t to : ℕ) → t ≤ to → length values ≡ length coefficients → to ≤ length coefficients
    → ops.add (weighed values coefficients t)
    (weighed (take (to - t) (drop t values)) (take (to - t) (drop t coefficients)) (length (take (to - t) (drop t coefficients))))
    ≡ weighed values coefficients to
weighed_on values coefficients t to h long fits =
    let n : length (take (to - t) (drop t coefficients)) ≡ to - t = length-take-le (to - t) (drop t coefficients) (omega (arith, length-drop t coefficients)) in
    let z : t + (to - t) ≡ to = omega arith in
    rw n
    (ap (ops.add (weighed values coefficients t)) (sum_ext laws (to - t) _ _ (λ i less.
    ap₂ ops.mul (get_or-take (to - t) (drop t coefficients) i 0 less ∙ get_or-drop t coefficients i 0)
    (get_or-take (to - t) (drop t values) i 0 less ∙ get_or-drop t values i 0)))
    ∙ sum_on t (to - t) _
    ∙ ap (weighed values coefficients) z)
