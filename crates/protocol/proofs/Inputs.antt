-- Each in gate is one party's, so the parties' inputs make up the inputs of all.
-- Assumes nothing.
use Prim.Native.Nat.{ℕ, zero, suc, ◌+◌, ◌<◌, ◌≤◌}
use mathlib.Core.Path.{◌≡◌, refl, ap, ◌∙◌}
use mathlib.Core.Logic.{⊎_elim}
use mathlib.Core.Bool.{Bool, true, false, cond}
use mathlib.Core.List.{List}
use native.Mathlib.Decide.{ℕ_discrete}
use native.Mathlib.Nat.{le_of_suc-le-suc, eq-or-lt_of_le}
use native.Mathlib.Omega.{arith}
use lib.Dec.{ltb, eqb}
use borrow.Author.Tests.{eq-eqb, ne_eqb, lt-ltb, le-ltb, ltb-true, ltb-false}
use Rattle.circuit.specs.Gate.{Gate, gate, gates}
use Rattle.circuit.specs.Kind.{Owned, is_in, owned_by}
use Rattle.circuit.specs.Count.{total, count, input_at, input_count, in_count}
use Rattle.circuit.specs.Valid.{Valid}
use Rattle.circuit.proofs.Tests.{by_cases}
use Rattle.circuit.proofs.KindLaws.{is_class_lem}
use Rattle.circuit.proofs.Gates.{owner_named}
use Rattle.protocol.specs.Joint.{inputs_at}

-- how many of the first n parties own the gate
owners : ℕ → Gate → ℕ
owners zero g = 0
owners (suc n) g = owners n g + cond (owned_by n g) 1 0

-- how many in gates of the first n parties stand before gate j
inputs_to : List ℕ → ℕ → ℕ → ℕ
inputs_to c j zero = 0
inputs_to c j (suc n) = inputs_to c j n + input_at c n j

-- A gate that is no in gate is nobody's ..
unowned : (n : ℕ) (g : Gate) → is_in g ≡ false → owners n g ≡ 0
unfolding owners owned_by
unowned zero g e = refl
unowned (suc n) g e = rw e (omega (arith, unowned n g e))

-- .. and an in gate is its owner's alone.
owned : (n : ℕ) (g : Gate) → is_in g ≡ true → owners n g ≡ cond (ltb g.first n) 1 0
unfolding owners owned_by
owned zero g e = rw (le-ltb g.first 0 (omega arith))
owned (suc n) g e = rw e (go (ℕ_discrete g.first n) (owned n g e))
  where
    s : ℕ
    s = g.first

    same : (s ≡ n → ⊥) → ltb s n ≡ ltb s (suc n)
    same e = by_cases (ltb s n) (λ t. rw (t, lt-ltb s (suc n) (omega (arith, ltb-true s n t)))) (λ t. rw (t, le-ltb s (suc n) (omega (arith, ltb-false s n t))))

    go : Dec (s ≡ n) → owners n g ≡ cond (ltb s n) 1 0 → owners n g + cond (eqb s n) 1 0 ≡ cond (ltb s (suc n)) 1 0
    go (yes e) h = rw (eq-eqb s n e, lt-ltb s (suc n) (omega arith)) (omega (arith, h ∙ ap (λ (b : Bool). cond {A = ℕ} b 1 0) (le-ltb s n (omega arith))))
    go (no e) h = rw (ne_eqb s n e) (omega (arith, h ∙ ap (λ (b : Bool). cond {A = ℕ} b 1 0) (same e)))

module _ {n q : ℕ} {c : List ℕ} (v : Valid n q c) where
  owners_in : (j : ℕ) → j < gates c → owners n (gate c j) ≡ cond (is_in (gate c j)) 1 0
  owners_in j h =
      by_cases (is_in (gate c j))
      (λ e. owned n (gate c j) e ∙ rw (e, lt-ltb (gate c j).first n (owner_named v j h (is_class_lem Owned e))))
      (λ e. unowned n (gate c j) e ∙ rw e)

  none_before : (m : ℕ) → inputs_to c 0 m ≡ 0
  unfolding inputs_to input_at count total
  none_before zero = refl
  none_before (suc m) = omega (arith, none_before m)

  one_more : (m j : ℕ) → inputs_to c (suc j) m ≡ inputs_to c j m + owners m (gate c j)
  unfolding inputs_to owners input_at count total
  one_more zero j = refl
  one_more (suc m) j = omega (arith, one_more m j)

  inputs_in : (j : ℕ) → j ≤ gates c → inputs_to c j n ≡ count is_in c j
  unfolding count total
  inputs_in zero h = none_before n
  inputs_in (suc j) h =
      omega (arith, one_more n j, inputs_in j (omega arith), owners_in j h)

  starts_to : (m : ℕ) → inputs_at c m ≡ inputs_to c (gates c) m
  unfolding inputs_at inputs_to input_count
  starts_to zero = refl
  starts_to (suc m) = omega (arith, starts_to m)

  -- The inputs of all parties are as many as there are in gates.
  pub inputs_all : inputs_at c n ≡ in_count c
  unfolding in_count
  inputs_all = starts_to n ∙ inputs_in (gates c) (omega arith)

-- A party's inputs start after those of the parties before it.
pub starts_suc : (c : List ℕ) (i : ℕ) → inputs_at c (suc i) ≡ inputs_at c i + input_count c i
unfolding inputs_at
starts_suc c i = refl

pub starts_mono : (c : List ℕ) (i m : ℕ) → i ≤ m → inputs_at c i ≤ inputs_at c m
starts_mono c i zero h = let e : i ≡ 0 = omega arith in rw e (omega arith)
starts_mono c i (suc m) h =
    ⊎_elim (λ e. rw e (omega arith)) (λ l. omega (arith, starts_mono c i m (le_of_suc-le-suc l), starts_suc c m)) (eq-or-lt_of_le h)
