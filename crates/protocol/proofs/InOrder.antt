-- The rounds of a gate, in order.
-- Assumes nothing.
use Prim.Native.Nat.{ℕ, zero, suc, ◌+◌}
use mathlib.Core.Path.{◌≡◌, refl, sym, ap, ◌∙◌}
use mathlib.Core.Bool.{Bool, true, false, cond}
use mathlib.Core.List.{List, [], ◌∷◌}
use native.Mathlib.Omega.{arith}
use lib.Dec.{eqb}
use borrow.Author.Tests.{eqb-true, eq-eqb}
use Rattle.circuit.specs.Kind.{Class, Local, Owned, Opens, Output, is_class}
use Rattle.circuit.specs.Round.{First, Second, Round, Own, Open, Commit, Reveal, round_number, check_rounds, class_rounds, among, following, over_rounds}
use Rattle.circuit.proofs.Tests.{false_no, by_cases}

-- No test both holds and does not.
pub differ : {A : Type 0} {b : Bool} → b ≡ true → b ≡ false → A
differ e h = false_no (sym h ∙ e)

-- the round that has a number
numbered : ℕ → Round
numbered zero = Own
numbered (suc zero) = Open
numbered (suc (suc zero)) = Commit First
numbered (suc (suc (suc zero))) = Reveal First
numbered (suc (suc (suc (suc zero)))) = Commit Second
numbered (suc (suc (suc (suc (suc k))))) = Reveal Second

-- Each round has its own number.
numbered_is : (r : Round) → numbered (round_number r) ≡ r
unfolding numbered round_number
numbered_is Own = refl
numbered_is Open = refl
numbered_is (Commit First) = refl
numbered_is (Reveal First) = refl
numbered_is (Commit Second) = refl
numbered_is (Reveal Second) = refl

-- Rounds of one number are the same.
pub same_round : (r s : Round) → eqb (round_number r) (round_number s) ≡ true → r ≡ s
same_round r s e = sym (numbered_is r) ∙ ap numbered (eqb-true (round_number r) (round_number s) e) ∙ numbered_is s

-- the rounds that come before r
unfoldable pub preceding : Round → List Round → List Round
preceding r [] = []
preceding r (s ∷ rs) = cond (eqb (round_number r) (round_number s)) [] (s ∷ preceding r rs)

-- no round comes twice
abbrev pub Distinct : List Round → Type 0
Distinct [] = Unit {0}
Distinct (s ∷ rs) = (among s rs ≡ false) × Distinct rs

-- No round of a gate comes twice.
pub distinct_rounds : (u : ℕ) (k : Class) → Distinct (class_rounds u k)
unfolding class_rounds check_rounds among round_number
distinct_rounds u Local = tt
distinct_rounds u Owned = (refl, tt)
distinct_rounds u Opens = (refl, tt)
distinct_rounds u Output =
    by_cases (eqb u 0) (λ e. rw e (refl, (refl, (refl, tt)))) (λ e. rw e (refl, (refl, (refl, (refl, (refl, tt))))))

-- A sum over rounds is that of those before r, of r, and of those after it.
pub over_rounds_split : (f : Round → ℕ) (r : Round) (rs : List Round) → among r rs ≡ true
    → over_rounds f rs ≡ over_rounds f (preceding r rs) + (f r + over_rounds f (following r rs))
unfolding over_rounds preceding following among
over_rounds_split f r [] h = differ h refl
over_rounds_split f r (s ∷ rs) h = go (eqb (round_number r) (round_number s)) refl (over_rounds_split f r rs) h
  where
    go : (b : Bool) → eqb (round_number r) (round_number s) ≡ b
        → (among r rs ≡ true → over_rounds f rs ≡ over_rounds f (preceding r rs) + (f r + over_rounds f (following r rs)))
        → cond b true (among r rs) ≡ true
        → f s + over_rounds f rs ≡ over_rounds f (cond b [] (s ∷ preceding r rs)) + (f r + over_rounds f (cond b rs (following r rs)))
    go true e later h = let q : f r ≡ f s = ap f (same_round r s e) in omega arith
    go false e later h = omega (arith, later h)

-- The first of some rounds is among them.
pub among_first : (r : Round) (rs : List Round) → among r (r ∷ rs) ≡ true
unfolding among
among_first r rs = rw (eq-eqb (round_number r) (round_number r) refl)

-- the round r' that follows r is one of the rounds, and before it come those before r, and r
pub record Follows (f : Round → ℕ) (r r' : Round) (rs : List Round) : Type 0 where
  pub is_round : among r' rs ≡ true
  pub before : over_rounds f (preceding r' rs) ≡ over_rounds f (preceding r rs) + f r

-- It is so of the round that follows.
pub follows : (f : Round → ℕ) (r r' : Round) (rest rs : List Round) → Distinct rs → among r rs ≡ true → following r rs ≡ r' ∷ rest → Follows f r r' rs
unfolding over_rounds preceding following among
follows f r r' rest [] d h e = differ h refl
follows f r r' rest (s ∷ rs) d h e =
    go (eqb (round_number r) (round_number s)) refl (follows f r r' rest rs d.1) h e (eqb (round_number r') (round_number s)) refl
  where
    after : among r' rs ≡ true → (b : Bool) → eqb (round_number r') (round_number s) ≡ b → b ≡ false
    after h true q = differ (ap (λ (t : Round). among t rs) (sym (same_round r' s q)) ∙ h) d.0
    after h false q = refl

    there : rs ≡ r' ∷ rest → among r' rs ≡ true
    there e = rw e (among_first r' rest)

    alone : rs ≡ r' ∷ rest → over_rounds f (preceding r' rs) ≡ 0
    alone e = rw (e, eq-eqb (round_number r') (round_number r') refl)

    go : (b : Bool) → eqb (round_number r) (round_number s) ≡ b
        → (among r rs ≡ true → following r rs ≡ r' ∷ rest → Follows f r r' rs)
        → cond b true (among r rs) ≡ true
        → cond b rs (following r rs) ≡ r' ∷ rest
        → (b' : Bool)
        → eqb (round_number r') (round_number s) ≡ b'
        → Follows f r r' (s ∷ rs)
    go true q later h e b' q' =
        record {
          is_round = rw (q', after (there e) b' q') (there e);
          before =
              rw (q', after (there e) b' q', q)
              (let z : f r ≡ f s = ap f (same_round r s q) in omega (arith, alone e));
        }
    go false q later h e b' q' =
        let n = later h e in
        record {
          is_round = rw (q', after n.is_round b' q') n.is_round;
          before = rw (q', after n.is_round b' q', q) (omega (arith, n.before));
        }

-- a round that a gate may begin with
unfoldable pub begins : Round → Bool
begins Own = true
begins Open = true
begins (Commit First) = true
begins (Commit Second) = false
begins (Reveal k) = false

-- the first round of a gate and those after it
pub record Rounds (rs : List Round) : Type 0 where
  pub first : Round
  pub rest : List Round
  pub are : rs ≡ first ∷ rest
  pub first_begins : begins first ≡ true

-- A gate that is not linear has a round.
pub has_round : (u : ℕ) (k : Class) → is_class Local k ≡ false → Rounds (class_rounds u k)
unfolding class_rounds check_rounds is_class begins
has_round u Local e = differ refl e
has_round u Owned e = record { first = Own; rest = []; are = refl; first_begins = refl }
has_round u Opens e = record { first = Own; rest = []; are = refl; first_begins = refl }
has_round u Output e =
    by_cases (eqb u 0) (λ z. rw z (record { first = Open; rest = _; are = refl; first_begins = refl }))
    (λ z. rw z (record { first = Commit First; rest = _; are = refl; first_begins = refl }))
