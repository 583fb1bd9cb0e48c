-- The numbers of a part that is known, and the first and the last word of a gate that opens values.
-- Assumes nothing.
use Prim.Native.Nat.{ℕ, ◌-◌, ◌≤◌}
use mathlib.Core.Path.{◌≡◌, ap}
use mathlib.Core.List.{List}
use native.Mathlib.Omega.{arith}
use borrow.Author.Tests.{eq-eqb, ne_eqb}
use Rattle.algebra.specs.Element.{Is}
use Rattle.field.specs.Words.{size, ops}
use Rattle.protocol.specs.Part as A
use Rattle.protocol.specs.Scratch.{Layout}
use Rattle.protocol.specs.Party.{a_at, b_at}
use Rattle.protocol.specs.Send.{masked, words_of_opening}
use Rattle.steps.specs.declared.parts.Part.{Part}
use Rattle.steps.specs.Code.{part_of, IsPart, AreEnds}

pub share_is : {v : A.Part} {x : Part} → IsPart v x → x.share ≡ v.share
unfolding part_of
share_is e = ap (λ (z : A.Part). z.share) e.is

pub mac_is : {v : A.Part} {x : Part} → IsPart v x → x.mac ≡ v.mac
unfolding part_of
mac_is e = ap (λ (z : A.Part). z.mac) e.is

pub share_of : {v : A.Part} {x : Part} → IsPart v x → Is size v.share x.share
share_of e = record { is = share_is e; below = e.low.share }

module _ (y : Layout) (l : List ℕ) (x z : ℕ) (m : List ℕ) (k : ℕ) {e : Part} (ee : IsPart (masked ops y l x m a_at) e) where
  pub ends_one : (k ≡ 2 → ⊥) → 1 ≤ k → k ≤ 2 → AreEnds (words_of_opening ops y l x z m k) k (record { first = e.share; last = e.share })
  ends_one ek some few = let one : k ≡ 1 = omega arith in rw (ne_eqb k 2 ek, one) (record { first = share_of ee; last = share_of ee })

  pub ends_two : {d : Part} → k ≡ 2 → IsPart (masked ops y l z m (b_at k)) d → AreEnds (words_of_opening ops y l x z m k) k (record { first = e.share; last = d.share })
  ends_two ek ed = let q : k - 1 ≡ 1 = omega arith in record { first = rw (eq-eqb k 2 ek) (share_of ee); last = rw (eq-eqb k 2 ek, q) (share_of ed) }
