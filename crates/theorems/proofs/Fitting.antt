-- Which reveals fit their marks: `misfit` finds the lowest party whose reveal does not, and nobody where all do.
-- Assumes nothing.
use Prim.Native.Nat.{ℕ, zero, suc, ◌<◌}
use mathlib.Core.Path.{◌≡◌, refl, sym, ap, ◌∙◌}
use mathlib.Core.Bool.{Bool, true, false, cond}
use mathlib.Core.List.{List}
use native.Mathlib.Decide.{ℕ_discrete}
use native.Mathlib.Omega.{arith}
use Rattle.algebra.specs.Ops.{Ops}
use Rattle.sha256.specs.Digest.{same}
use Rattle.sha256.proofs.Alike.{same_refl, same_true}
use Rattle.circuit.specs.Round.{commit_words}
use Rattle.circuit.proofs.Tests.{by_cases, false_no}
use Rattle.protocol.specs.Scratch.{band}
use Rattle.protocol.specs.Receive.{Blame, Nobody, Blames, fits, first_blame, misfit}
use Rattle.protocol.proofs.Marks.{all_fit as fitting, fit_all}
use Rattle.theorems.specs.Binding.{Fits, Lowest, AllFit}

-- A party is somebody.
blames_no : {A : Type 0} {k : ℕ} → Blames k ≡ Nobody → A
blames_no e = let z : ◌≡◌ {A = ℕ} 0 1 = cc in absurd (omega arith)

module _ (O : Ops) (marks heard : List ℕ) where
  -- What the test means.
  fits_true : (n i : ℕ) → fits marks heard i ≡ true → Fits O n marks heard i
  unfolding fits
  fits_true n i e = same_true _ _ e

  fits_of : (n i : ℕ) → Fits O n marks heard i → fits marks heard i ≡ true
  unfolding fits
  fits_of n i e = ap (λ (x : List ℕ). same x (band commit_words marks i)) e ∙ same_refl (band commit_words marks i)

  fits_not : (n i : ℕ) → (Fits O n marks heard i → ⊥) → fits marks heard i ≡ false
  fits_not n i e = by_cases (fits marks heard i) (λ h. absurd (e (fits_true n i h))) (λ h. h)

  -- Who is found does not fit, and all before fit ..
  found_misfits : (n i : ℕ) → misfit n marks heard ≡ Blames i → (i < n) × (fits marks heard i ≡ false) × ((k : ℕ) → k < i → fits marks heard k ≡ true)
  unfolding misfit
  found_misfits zero i e = blames_no (sym e)
  found_misfits (suc n) i e = go (misfit n marks heard) refl (fits marks heard n) refl e (found_misfits n i)
    where
      go : (m : Blame) → misfit n marks heard ≡ m → (b : Bool) → fits marks heard n ≡ b → first_blame m (cond b Nobody (Blames n)) ≡ Blames i
          → (misfit n marks heard ≡ Blames i → (i < n) × (fits marks heard i ≡ false) × ((k : ℕ) → k < i → fits marks heard k ≡ true))
          → (i < suc n) × (fits marks heard i ≡ false) × ((k : ℕ) → k < i → fits marks heard k ≡ true)
      go (Blames k) p b q z earlier = let f = earlier (p ∙ z) in (omega (arith, f.0), f.1, f.2)
      go Nobody p true q z earlier = blames_no (sym z)
      go Nobody p false q z earlier =
          let same : n ≡ i = cc in
          (omega arith, ap (fits marks heard) (sym same) ∙ q, λ k l. fit_all n marks heard p k (omega arith))

  -- .. and the other way round.
  misfits_found : (n i : ℕ) → i < n → fits marks heard i ≡ false → ((k : ℕ) → k < i → fits marks heard k ≡ true) → misfit n marks heard ≡ Blames i
  unfolding misfit
  misfits_found zero i l e h = absurd (omega arith)
  misfits_found (suc n) i l e h = go (ℕ_discrete i n) (λ q. misfits_found n i q e h)
    where
      go : Dec (i ≡ n) → (i < n → misfit n marks heard ≡ Blames i) → first_blame (misfit n marks heard) (cond (fits marks heard n) Nobody (Blames n)) ≡ Blames i
      go (yes here) earlier =
          let no : fits marks heard n ≡ false = ap (fits marks heard) (sym here) ∙ e in
          rw (fitting n marks heard (λ k q. h k (omega arith)), no) (ap Blames (sym here))
      go (no there) earlier = rw (earlier (omega arith))

  module _ (n : ℕ) where
    -- In the words of the statements: nobody is found exactly where all fit ..
    pub none_found : AllFit O n marks heard → misfit n marks heard ≡ Nobody
    none_found all = fitting n marks heard (λ i l. fits_of n i (all i l))

    pub all_fit : misfit n marks heard ≡ Nobody → AllFit O n marks heard
    all_fit e i l = fits_true n i (fit_all n marks heard e i l)

    -- .. and party i exactly where it is the lowest that does not.
    pub lowest_found : (i : ℕ) → Lowest O n marks heard i → misfit n marks heard ≡ Blames i
    lowest_found i h = misfits_found n i h.within (fits_not n i h.misfits) (λ k l. fits_of n k (h.earlier k l))

    pub found_lowest : (i : ℕ) → misfit n marks heard ≡ Blames i → Lowest O n marks heard i
    found_lowest i e =
        let f = found_misfits n i e in
        record {
          within = f.0;
          misfits = λ q. false_no (sym f.1 ∙ fits_of n i q);
          earlier = λ k l. fits_true n k (f.2 k l);
        }
