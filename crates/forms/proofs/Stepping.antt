-- Several steps: the first and the others, those over one text and then over another.
-- Assumes nothing.
use Prim.Native.Nat.{ℕ}
use mathlib.Core.Path.{◌≡◌, refl, ap, ◌∙◌}
use mathlib.Core.List.{List, [], ◌∷◌, ◌++◌}
use mathlib.Core.Option.{Option, some, none}
use Rattle.forms.specs.Machine.{State, step, steps}
use Rattle.forms.proofs.Choices.{some_is, none_no}

module _ (top : ℕ) where
  pub steps_cons : (s : State) (b : ℕ) (bs : List ℕ) {t : State} → step top s b ≡ some t → steps top s (b ∷ bs) ≡ steps top t bs
  unfolding steps
  steps_cons s b bs e = rw (e, steps)

  pub steps_one : (s : State) (b : ℕ) {t : State} → step top s b ≡ some t → steps top s (b ∷ []) ≡ some t
  unfolding steps
  steps_one s b e = steps_cons s b [] e

  -- steps over a text that begins with a byte are a step and others
  pub record Onward (s : State) (b : ℕ) (bs : List ℕ) (u : State) : Type 0 where
    pub next : State
    pub one : step top s b ≡ some next
    pub others : steps top next bs ≡ some u

  pub steps_split : (s : State) (b : ℕ) (bs : List ℕ) (u : State) → steps top s (b ∷ bs) ≡ some u → Onward s b bs u
  unfolding steps
  steps_split s b bs u e = go (step top s b) refl e
    where
      go : (r : Option State) → step top s b ≡ r → elim r [ none ↦ none | some t ↦ steps top t bs ] ≡ some u → Onward s b bs u
      go none p q = none_no q
      go (some t) p q = record { next = t; one = p; others = q }

  pub steps_append : (a b : List ℕ) (s : State) {t : State} → steps top s a ≡ some t → steps top s (a ++ b) ≡ steps top t b
  unfolding steps
  steps_append [] b s e = ap (λ (x : State). steps top x b) (some_is e)
  steps_append (x ∷ a) b s {t} e =
      let o = steps_split s x a t e in
      steps_cons s x (a ++ b) o.one ∙ steps_append a b o.next o.others

  pub steps_then : (a b : List ℕ) (s : State) {t u : State} → steps top s a ≡ some t → steps top t b ≡ some u → steps top s (a ++ b) ≡ some u
  steps_then a b s e q = steps_append a b s e ∙ q

  -- a text that steps, steps as far as its beginning, and on
  pub record Between (a b : List ℕ) (s u : State) : Type 0 where
    pub middle : State
    pub before : steps top s a ≡ some middle
    pub beyond : steps top middle b ≡ some u

  pub steps_prefix : (a b : List ℕ) (s u : State) → steps top s (a ++ b) ≡ some u → Between a b s u
  unfolding steps
  steps_prefix [] b s u e = record { middle = s; before = refl; beyond = e }
  steps_prefix (x ∷ a) b s u e =
      let o = steps_split s x (a ++ b) u e in
      let r = steps_prefix a b o.next u o.others in
      record { middle = r.middle; before = steps_cons s x a o.one ∙ r.before; beyond = r.beyond }
