-- The digits of a number, from the last to the first.
-- Assumes nothing.
use Prim.Native.Nat.{ℕ, suc, ◌+◌, ◌-◌, ◌/◌, ◌%◌, ◌≤◌, ◌<◌}
use mathlib.Core.Path.{◌≡◌, refl, ◌∙◌}
use mathlib.Core.List.{List}
use native.Mathlib.Omega.{arith}
use lib.ListN.{length, set, length-set}
use Rattle.forms.specs.Form.{naught, ten, decimal}
use Rattle.forms.proofs.Decimal.{decimal_last, decimal_tens}
use Rattle.forms.proofs.Lengths.{length_last, length_tens, length_some}
use Rattle.writer.specs.Code.{over, Put}
use Rattle.writer.proofs.Putting.{over_byte, over_last}

-- with the digits of rest, which go as far as place i, the number is put
pub record Left (before : List ℕ) (at n : ℕ) (text : List ℕ) (i rest : ℕ) : Type 0 where
  pub place : suc i ≡ at + length (decimal rest)
  pub shorter : length (decimal rest) ≤ length (decimal n)
  pub long : length text ≡ length before
  pub holds : over text at (decimal rest) ≡ over before at (decimal n)

module _ (before : List ℕ) (at n : ℕ) where
  pub left_all : {i : ℕ} → i ≡ at + length (decimal n) - 1 → Left before at n before i n
  left_all {i} e = record { place = omega (arith, e, length_some n); shorter = omega arith; long = refl; holds = refl }

  module _ (fits : at + length (decimal n) ≤ length before) {text : List ℕ} {i rest : ℕ} (s : Left before at n text i rest) where
    pub left_inside : i < length text
    left_inside = omega (arith, s.place, s.shorter, s.long)

    -- there is a place before that of a last digit of more
    pub left_before : ten ≤ rest → 1 ≤ i
    left_before h = omega (arith, s.place, length_tens rest h, length_some (rest / ten))

    pub left_more : ten ≤ rest → Left before at n (set text i (naught + rest % ten)) (i - 1) (rest / ten)
    left_more h = record {
      place = omega (arith, s.place, length_tens rest h, length_some (rest / ten));
      shorter = omega (arith, s.shorter, length_tens rest h);
      long = length-set text i (naught + rest % ten) ∙ s.long;
      holds =
          let e : i ≡ at + length (decimal (rest / ten)) = omega (arith, s.place, length_tens rest h) in
          rw e (over_last text at (decimal (rest / ten)) (naught + rest % ten) (omega (arith, left_inside, e)))
          ∙ rw (decimal_tens rest h) at s.holds;
    }

    pub left_done : {to : ℕ} → to ≡ at + length (decimal n) → rest < ten → Put before (set text i (naught + rest)) at to (decimal n)
    left_done t h =
        let e : i ≡ at = omega (arith, s.place, length_last rest h) in
        record { ends = t; holds = rw e (over_byte text at (naught + rest) (omega (arith, left_inside, e))) ∙ rw (decimal_last rest h) at s.holds }

-- counting digits: k are counted, rest has those that are left and one that is counted
pub record Counting (n k rest : ℕ) : Type 0 where
  pub counting : k + length (decimal rest) ≡ length (decimal n) + 1

pub counting_none : (n : ℕ) → Counting n 1 n
counting_none n = record { counting = omega arith }

pub counting_more : {n k rest : ℕ} → Counting n k rest → ten ≤ rest → Counting n (k + 1) (rest / ten)
counting_more {n} {k} {rest} s h = record { counting = omega (arith, s.counting, length_tens rest h) }

pub counting_done : {n k rest : ℕ} → Counting n k rest → rest < ten → k ≡ length (decimal n)
counting_done {n} {k} {rest} s h = omega (arith, s.counting, length_last rest h)

pub counting_few : {n k rest : ℕ} → Counting n k rest → k ≤ length (decimal n)
counting_few {n} {k} {rest} s = omega (arith, s.counting, length_some rest)
