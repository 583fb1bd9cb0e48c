-- A list written over the front of another from the left, one element a turn: what such a loop keeps.
-- Assumes nothing.
use Rattle.std.proofs.Common.{◌≡◌, ℕ, suc, ◌+◌, ◌<◌, ◌≤◌, List, ◌∷◌, ◌++◌, length, get_or, take, drop, set, refl, ap, ◌∙◌, add-one, arith, length-append, length-drop, length-take-le, drop-cons, take-suc}
use lib.Seq.{take-length, set_at, append_snoc}

-- the first i elements are those of s, and the others those of x₀
pub record Written (s x₀ x : List ℕ) (i : ℕ) : Type 0 where
  pub within : i ≤ length s
  pub room : length s ≤ length x₀
  pub is : x ≡ take i s ++ drop i x₀

pub written_start : (s x₀ : List ℕ) → length s ≤ length x₀ → Written s x₀ x₀ 0
written_start s x₀ h = record { within = omega arith; room = h; is = refl }

pub written_long : {s x₀ x : List ℕ} {i : ℕ} → Written s x₀ x i → length x ≡ length x₀
written_long {s} {x₀} {x} {i} r =
    let l : length (take i s) ≡ i = length-take-le i s r.within in
    ap length r.is ∙ simp (length-append, l, length-drop) (omega arith)

pub written_again : {s x₀ x : List ℕ} {i a : ℕ} → i < length s → a ≡ get_or s i 0 → Written s x₀ x i → Written s x₀ (set x i a) (i + 1)
written_again {s} {x₀} {x} {i} {a} h e r =
    let h₀ : i < length x₀ = omega arith in
    let p : x ≡ take i s ++ get_or x₀ i 0 ∷ drop (suc i) x₀ = r.is ∙ rw (drop-cons x₀ i 0) in
    let q : set x i a ≡ take i s ++ a ∷ drop (suc i) x₀ =
    ap (λ (l : List ℕ). set l i a) p ∙ set_at (take i s) (get_or x₀ i 0) (drop (suc i) x₀) a i (length-take-le i s r.within) in
    record { within = omega arith; room = r.room; is = q ∙ rw (add-one, take-suc s i 0, append_snoc, e) }

pub written_done : {s x₀ x : List ℕ} {i : ℕ} → length s ≤ i → Written s x₀ x i → x ≡ s ++ drop (length s) x₀
written_done {s} {x₀} {x} {i} h r =
    let e : i ≡ length s = omega arith in
    r.is ∙ ap (λ (k : ℕ). take k s ++ drop k x₀) e ∙ rw take-length
