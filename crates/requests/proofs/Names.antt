-- A word is read as a stage just where it is that stage's name.
-- Assumes nothing.
use Rattle.std.specs.Prelude.{ℕ, List, [], ◌∷◌, Some}
use Rattle.std.specs.List.{find}
use mathlib.Core.Path.{◌≡◌, refl}
use mathlib.Core.Bool.{Bool, true, false, cond}
use native.Mathlib.Omega.{arith}
use Rattle.std.proofs.lemmas.Slice.Eq.{bytes_eq-Decides}
use Rattle.text.specs.Text.{alike}
use Rattle.circuit.specs.declared.Round.{Round}
use Rattle.circuit.specs.declared.Round.TheVariants.{Own, Open, Commit, Reveal}
use Rattle.circuit.specs.declared.Check.TheVariants.{First, Second}
use Rattle.protocol.specs.declared.Stage.{Stage}
use Rattle.protocol.specs.declared.Stage.TheVariants.{Send, Receive, Finished, Aborted}
use Rattle.requests.specs.Names.{bytes, round_name, stage_name, stages, stage_named}

-- a stage is found again by its name
abbrev Found : Stage → Type 0
Found stage = stage_named (stage_name stage) ≡ Some stage

both_found : (r : Round) → Found (Send r) × Found (Receive r)
unfolding bytes round_name stage_name stages stage_named
both_found Own = (refl, refl)
both_found Open = (refl, refl)
both_found (Commit First) = (refl, refl)
both_found (Reveal First) = (refl, refl)
both_found (Commit Second) = (refl, refl)
both_found (Reveal Second) = (refl, refl)

pub stage_found : (stage : Stage) → Found stage
unfolding bytes round_name stage_name stages stage_named
stage_found (Send r) = (both_found r).0
stage_found (Receive r) = (both_found r).1
stage_found Finished = refl
stage_found Aborted = refl

-- a word that is read as a stage is its name
module _ (word : List ℕ) (stage : Stage) where
  tried : (all : List Stage) → find (λ s. alike word (stage_name s)) all ≡ Some stage → word ≡ stage_name stage
  tried [] e = let z : ◌≡◌ {A = ℕ} 0 1 = cc in absurd (omega arith)
  tried (s ∷ all) e = found (alike word (stage_name s)) ((bytes_eq-Decides word (stage_name s)).0) (tried all) e
    where
      found : (b : Bool) → (b ≡ true → word ≡ stage_name s) → (find (λ s. alike word (stage_name s)) all ≡ Some stage → word ≡ stage_name stage)
          → cond b (Some s) (find (λ s. alike word (stage_name s)) all) ≡ Some stage → word ≡ stage_name stage
      found true g f e = let same : s ≡ stage = cc in rw (← same) (g refl)
      found false g f e = f e

  pub only_its_name : stage_named word ≡ Some stage → word ≡ stage_name stage
  unfolding stage_named
  only_its_name e = tried stages e
