-- Lists that hold others, number by number: one number more, and what is held at the end.
-- Assumes nothing.
use Prim.Native.Nat.{ℕ, ◌+◌, ◌*◌, ◌<◌, ◌≤◌}
use mathlib.Core.Path.{◌≡◌, sym, ap₂, ◌∙◌}
use mathlib.Core.List.{List, [], ◌∷◌, ◌++◌, append_assoc}
use native.Mathlib.Omega.{arith}
use lib.Dec.{ltb, eqb}
use lib.ListN.{length, get_or, set, take, replicate, length-set, length-append, length-replicate, get_or-replicate, get_or-append, get_or-eq_default}
use lib.Seq.{get_or_at, get_or-set_same, get_or-set_other, get_or-take, length-take-le, ext_get_or}
use borrow.Author.Tests.{ltb-true, ltb-false, eqb-true, eqb-false}
use Rattle.circuit.proofs.Tests.{by_cases}
use Rattle.ranges.specs.Interval.{interval, interval_size, interval_at}
use Rattle.fit.specs.Code.{Held}

-- a list of zeros holds nothing
pub held_blank : (room : ℕ) → Held room (replicate room 0) []
held_blank room =
    record {
      long = length-replicate room 0;
      at = λ i. by_cases (ltb i room) (λ h. get_or-replicate room i 0 0 (ltb-true i room h))
          (λ h. get_or-eq_default (replicate room 0) 0 (rw (length-replicate {A = ℕ} room 0) (ltb-false i room h)));
    }

module _ {room : ℕ} {list l : List ℕ} (t : Held room list l) where
  -- one number more
  pub held_push : (n v : ℕ) → length l ≡ n → n < room → Held room (set list n v) (l ++ (v ∷ []))
  held_push n v e h =
      record {
        long = length-set list n v ∙ t.long;
        at = λ i. by_cases (eqb i n)
            (λ p. rw (eqb-true i n p) (rw (get_or-set_same list n v 0 (rw t.long h), get_or_at l v [] 0 n e)))
            (λ p. get_or-set_other list n i v 0 (eqb-false i n p) ∙ t.at i ∙ other i (eqb-false i n p));
      }
    where
      other : (i : ℕ) → (i ≡ n → ⊥) → get_or l i 0 ≡ get_or (l ++ (v ∷ [])) i 0
      other i d =
          by_cases (ltb i n) (λ p. sym (get_or-append l (v ∷ []) 0 i (omega (arith, ltb-true i n p))))
          (λ p.
          let far : n < i = omega (arith, ltb-false i n p, d) in
          get_or-eq_default l 0 (omega arith) ∙ sym (get_or-eq_default (l ++ (v ∷ [])) 0 (omega (arith, length-append l (v ∷ [])))))

  -- an interval that is held
  pub held_interval : (x : ℕ) → interval_at list x ≡ interval_at l x
  unfolding interval_at
  held_interval x = ap₂ interval (t.at (interval_size * x)) (t.at (interval_size * x + 1))

  -- the front of the list
  pub held_front : (k : ℕ) → length l ≡ k → k ≤ room → take k list ≡ l
  held_front k e h =
      ext_get_or 0 (take k list) l (length-take-le k list (rw t.long h) ∙ sym e)
      (λ i g. get_or-take k list i 0 (omega (arith, length-take-le k list (rw t.long h))) ∙ t.at i)

-- two numbers more
pub held_pair : {room : ℕ} {list l : List ℕ} (a b n : ℕ) → Held room list l → length l ≡ n → n + 1 < room → Held room (set (set list n a) (n + 1) b) (l ++ (a ∷ b ∷ []))
held_pair {room} {list} {l} a b n t e h =
    let one : Held room (set list n a) (l ++ (a ∷ [])) = held_push t n a e (omega arith) in
    rw (sym (append_assoc l (a ∷ []) (b ∷ []))) (held_push one (n + 1) b (omega (arith, length-append l (a ∷ []))) h)
