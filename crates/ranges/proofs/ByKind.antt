-- One gate by its kind: of numbers within the intervals that it names, it makes a number within its own, the same with whole numbers as in the field; and
-- of numbers that are near each other, numbers as near as its move says. The kinds are gone through here alone.
-- Assumes nothing.
use Prim.Native.Nat.{ℕ, ◌+◌, ◌*◌, ◌-◌, ◌<◌, ◌≤◌}
use mathlib.Core.Path.{◌≡◌, refl}
use mathlib.Core.Bool.{true, false}
use native.Mathlib.Nat.{mul-le-mul}
use native.Mathlib.Omega.{arith}
use lib.Dec.{ltb}
use borrow.Author.Tests.{ltb-false}
use Rattle.algebra.specs.Ops.{Ops}
use Rattle.circuit.specs.Gate.{Kind, In, Add, Sub, Plus, Times, Mul, Out, Sq, Give, Over}
use Rattle.circuit.specs.Kind.{Owned, Wire, kind_shape}
use Rattle.circuit.proofs.Tests.{by_cases, false_no}
use Rattle.protocol.specs.Receive.{operand}
use Rattle.protocol.specs.Plain.{kind_value}
use Rattle.ranges.specs.Interval.{Interval, stays, up_to, kind_reach}
use Rattle.ranges.specs.Move.{kind_move, capped}
use Rattle.ranges.specs.Whole.{whole_numbers, Counting, Within, Near}
use Rattle.ranges.proofs.Reaching.{told, up_is, up_low}

-- the whole number of a gate of kind k
abbrev pub whole_of : Kind → ℕ → ℕ → ℕ → ℕ → ℕ
whole_of k input u v a = kind_value whole_numbers k input u v (operand whole_numbers (kind_shape k).constant a)

-- what is known of the numbers that a gate of kind k is worked out of: an input is in its range, a number named in its interval
pub record Sound (k : Kind) (r x z : Interval) (input u v : ℕ) : Type 0 where
  pub own : (kind_shape k).class ≡ Owned → Within r input
  pub first : (kind_shape k).first ≡ Wire → Within x u
  pub second : (kind_shape k).second ≡ Wire → Within z v

-- the number that it makes
pub record Fine (O : Ops) (k : Kind) (i : Interval) (input u v a : ℕ) : Type 0 where
  pub same : kind_value O k input u v (operand O (kind_shape k).constant a) ≡ whole_of k input u v a
  pub within : Within i (whole_of k input u v a)
  pub low : i.highest < O.size

-- a difference that stays is of a lowest end that is not below the other's highest
module _ (q : ℕ) (r x z : Interval) (a : ℕ) (e : stays (kind_reach q Sub r x z a) ≡ true) where
  above : ltb x.lowest z.highest ≡ false
  unfolding kind_reach
  above = by_cases (ltb x.lowest z.highest) (λ h. false_no (rw h at e)) (λ h. h)

  pub sub_exact : z.highest ≤ x.lowest
  sub_exact = ltb-false x.lowest z.highest above

  sub_up : kind_reach q Sub r x z a ≡ up_to q (x.lowest - z.highest) (x.highest - z.lowest)
  unfolding kind_reach
  sub_up = rw above

  sub_stays : stays (up_to q (x.lowest - z.highest) (x.highest - z.lowest)) ≡ true
  sub_stays = rw sub_up at e

-- an over never stays
pub no_over : {A : Type 0} (q : ℕ) (r x z : Interval) (a : ℕ) → stays (kind_reach q Over r x z a) ≡ true → A
unfolding kind_reach
no_over q r x z a e = false_no e

module _ {O : Ops} (W : Counting O) where
  open O use {size}

  -- ends that stay
  fine : (k : Kind) (lowest highest input u v a : ℕ) → stays (up_to size lowest highest) ≡ true
      → (highest < size → kind_value O k input u v (operand O (kind_shape k).constant a) ≡ whole_of k input u v a)
      → lowest ≤ whole_of k input u v a → whole_of k input u v a ≤ highest
      → Fine O k (told (up_to size lowest highest)) input u v a
  fine k lowest highest input u v a e same l h =
      rw (up_is size lowest highest e)
      (record { same = same (up_low size lowest highest e); within = record { low = l; high = h }; low = up_low size lowest highest e })

  pub kind_fine : (k : Kind) (r x z : Interval) (a input u v : ℕ) → stays (kind_reach size k r x z a) ≡ true → Sound k r x z input u v
      → Fine O k (told (kind_reach size k r x z a)) input u v a
  unfolding kind_reach kind_value operand kind_shape
  kind_fine In r x z a input u v e s = let i = s.own refl in fine In _ _ input u v a e (λ h. refl) i.low i.high
  kind_fine Add r x z a input u v e s =
      let m = s.first refl in let n = s.second refl in
      fine Add _ _ input u v a e (λ h. W.sums u v (omega (arith, m.high, n.high))) (omega (arith, m.low, n.low)) (omega (arith, m.high, n.high))
  kind_fine Sub r x z a input u v e s =
      let m = s.first refl in let n = s.second refl in
      let exact = sub_exact size r x z a e in
      rw (sub_up size r x z a e)
      (fine Sub _ _ input u v a (sub_stays size r x z a e)
      (λ h. W.differences u v (omega (arith, m.low, n.high, exact)) (omega (arith, m.high, n.low)))
      (omega (arith, m.low, n.high, exact)) (omega (arith, m.high, n.low)))
  kind_fine Plus r x z a input u v e s =
      let m = s.first refl in
      fine Plus _ _ input u v a e (λ h. W.sums u a (omega (arith, m.high))) (omega (arith, m.low)) (omega (arith, m.high))
  kind_fine Times r x z a input u v e s =
      let m = s.first refl in
      let high : u * a ≤ x.highest * a = mul-le-mul m.high (omega arith) in
      fine Times _ _ input u v a e (λ h. W.products u a (omega arith)) (mul-le-mul m.low (omega arith)) high
  kind_fine Mul r x z a input u v e s =
      let m = s.first refl in let n = s.second refl in
      let high : u * v ≤ x.highest * z.highest = mul-le-mul m.high n.high in
      fine Mul _ _ input u v a e (λ h. W.products u v (omega arith)) (mul-le-mul m.low n.low) high
  kind_fine Out r x z a input u v e s = fine Out _ _ input u v a e (λ h. refl) (omega arith) (omega arith)
  kind_fine Sq r x z a input u v e s =
      let m = s.first refl in
      let high : u * u ≤ x.highest * x.highest = mul-le-mul m.high m.high in
      fine Sq _ _ input u v a e (λ h. W.products u u (omega arith)) (mul-le-mul m.low m.low) high
  kind_fine Give r x z a input u v e s = fine Give _ _ input u v a e (λ h. refl) (omega arith) (omega arith)
  kind_fine Over r x z a input u v e s = no_over size r x z a e

-- moves -----------------------------------------------------------------------------------------------------------------

pub near_same : {x y : ℕ} (m : ℕ) → x ≡ y → Near m x y
near_same m e = record { up = omega arith; down = omega arith }

pub near_swap : {m x y : ℕ} → Near m x y → Near m y x
near_swap n = record { up = n.down; down = n.up }

-- numbers below q differ by at most q - 1
pub near_capped : (q m : ℕ) {x y : ℕ} → x < q → y < q → Near m x y → Near (capped q m) x y
unfolding capped
near_capped q m {x} {y} hx hy n =
    by_cases (ltb m q) (λ e. rw e n) (λ e. rw e (record { up = omega arith; down = omega arith }))

-- a product moves by the highest first times the move of the second, and the highest second times the move of the first
product_near : {u v t h g : ℕ} (w mx mz : ℕ) → u ≤ h → t ≤ g → u ≤ w + mx → v ≤ t + mz → u * v ≤ w * t + (h * mz + g * mx)
product_near {u} {v} {t} {h} {g} w mx mz hu ht a b =
    let one : u * v ≤ u * (t + mz) = mul-le-mul {n₁ = u} (omega arith) b in
    let two : u * mz ≤ h * mz = mul-le-mul hu (omega arith) in
    let three : u * t ≤ (w + mx) * t = mul-le-mul a (omega arith) in
    let four : mx * t ≤ mx * g = mul-le-mul (omega arith) ht in
    omega arith

-- what is known of the numbers of two runs, input and u and v in one, input' and w and t in the other
pub record Close (k : Kind) (m mx mz input input' u w v t : ℕ) : Type 0 where
  pub own : (kind_shape k).class ≡ Owned → Near m input input'
  pub first : (kind_shape k).first ≡ Wire → Near mx u w
  pub second : (kind_shape k).second ≡ Wire → Near mz v t

close_swap : {k : Kind} {m mx mz input input' u w v t : ℕ} → Close k m mx mz input input' u w v t → Close k m mx mz input' input w u t v
close_swap n = record { own = λ e. near_swap (n.own e); first = λ e. near_swap (n.first e); second = λ e. near_swap (n.second e) }

kind_up : (q : ℕ) (k : Kind) (r x z : Interval) (a m mx mz input input' u w v t : ℕ) → stays (kind_reach q k r x z a) ≡ true → Sound k r x z input u v
    → Sound k r x z input' w t → Close k m mx mz input input' u w v t
    → whole_of k input u v a ≤ whole_of k input' w t a + kind_move k m x z mx mz a
unfolding kind_value operand kind_shape kind_move
kind_up q In r x z a m mx mz input input' u w v t e s s' n = (n.own refl).up
kind_up q Add r x z a m mx mz input input' u w v t e s s' n = omega (arith, (n.first refl).up, (n.second refl).up)
kind_up q Sub r x z a m mx mz input input' u w v t e s s' n =
    omega (arith, (n.first refl).up, (n.second refl).down, (s'.first refl).low, (s'.second refl).high, sub_exact q r x z a e)
kind_up q Plus r x z a m mx mz input input' u w v t e s s' n = omega (arith, (n.first refl).up)
kind_up q Times r x z a m mx mz input input' u w v t e s s' n =
    let one : u * a ≤ (w + mx) * a = mul-le-mul (n.first refl).up (omega arith) in
    omega arith
kind_up q Mul r x z a m mx mz input input' u w v t e s s' n =
    product_near w mx mz (s.first refl).high (s'.second refl).high (n.first refl).up (n.second refl).up
kind_up q Out r x z a m mx mz input input' u w v t e s s' n = omega arith
kind_up q Sq r x z a m mx mz input input' u w v t e s s' n =
    product_near w mx mx (s.first refl).high (s'.first refl).high (n.first refl).up (n.first refl).up
kind_up q Give r x z a m mx mz input input' u w v t e s s' n = omega arith
kind_up q Over r x z a m mx mz input input' u w v t e s s' n = no_over q r x z a e

pub kind_near : (q : ℕ) (k : Kind) (r x z : Interval) (a m mx mz input input' u w v t : ℕ) → stays (kind_reach q k r x z a) ≡ true → Sound k r x z input u v
    → Sound k r x z input' w t → Close k m mx mz input input' u w v t
    → Near (kind_move k m x z mx mz a) (whole_of k input u v a) (whole_of k input' w t a)
kind_near q k r x z a m mx mz input input' u w v t e s s' n =
    record {
      up = kind_up q k r x z a m mx mz input input' u w v t e s s' n;
      down = kind_up q k r x z a m mx mz input' input w u t v e s' s (close_swap n);
    }
