-- Arrays with a number for each party, filled one after another.
-- Assumes nothing.
use Prim.Native.Nat.{ℕ, suc, ◌+◌, ◌<◌, ◌≤◌}
use mathlib.Core.Path.{◌≡◌, refl, sym, ap, ◌∙◌}
use mathlib.Core.Bool.{true, false, cond}
use mathlib.Core.List.{List}
use native.Mathlib.Decide.{ℕ_discrete}
use native.Mathlib.Numerals.{add-one}
use native.Mathlib.Omega.{arith}
use lib.ListN.{length, get_or, set, replicate, length-set}
use lib.Seq.{get_or-set_same, get_or-set_other}
use lib.Dec.{eqb}
use borrow.Author.Tests.{eq-eqb, ne_eqb}
use Rattle.field.specs.Words.{size}
use Rattle.circuit.specs.Gate.{gate, gates}
use Rattle.circuit.specs.Kind.{is_in, owned_by}
use Rattle.circuit.specs.Count.{total, count, input_at, input_count}
use Rattle.circuit.specs.Accept.{most_gates}
use Rattle.circuit.specs.Valid.{Valid}
use Rattle.circuit.proofs.Counts.{total_mono, input_more, input_le, in_count_le}
use Rattle.protocol.specs.Ask.{most_parties}
use Rattle.protocol.proofs.HeardWords.{owner_low}
use Rattle.protocol.specs.Joint.{inputs_at}
use Rattle.joint.specs.Code.{Small, Counted, CountedOn, Placed}
use Rattle.protocol.proofs.Gathering.{each_set, zeros}
use Rattle.protocol.proofs.Inputs.{inputs_all, starts_suc, starts_mono}

-- no party had an input before the first gate
none_yet : (c : List ℕ) (i : ℕ) → input_at c i 0 ≡ 0
unfolding input_at count total
none_yet c i = refl

-- what gate j adds to the numbers of parties
module _ {n : ℕ} {c : List ℕ} {j : ℕ} {before : List ℕ} (k : Small n before) where
  pub counted_other : is_in (gate c j) ≡ false → CountedOn n c j before before
  unfolding owned_by
  counted_other e =
      record { eight = k.eight; each = λ i h. let z : input_at c i (j + 1) ≡ input_at c i j + 0 = rw e at (input_more c i j) in omega (arith, z) }

  module _ (v : Valid n size c) (few : n ≤ most_parties) (h : j < gates c) (e : is_in (gate c j) ≡ true) {s : ℕ} (es : s ≡ (gate c j).first) where
    owner_party : s < n
    owner_party = rw es (owner_low v h e)

    pub owner_there : s < length before
    owner_there = omega (arith, k.eight, owner_party)

    pub owner_few : get_or before s 0 ≤ most_gates
    owner_few = k.each s owner_party

    pub counted_in : CountedOn n c j before (set before s (get_or before s 0 + 1))
    unfolding owned_by
    counted_in =
        record {
          eight = length-set before s (get_or before s 0 + 1) ∙ k.eight;
          each = λ i l. go i l (ℕ_discrete i s);
        }
      where
        adds : (i : ℕ) → input_at c i (j + 1) ≡ input_at c i j + cond (eqb s i) 1 0
        adds i = rw es (rw e at (input_more c i j))

        go : (i : ℕ) → i < n → Dec (i ≡ s) → get_or (set before s (get_or before s 0 + 1)) i 0 + input_at c i j ≡ get_or before i 0 + input_at c i (j + 1)
        go i l (yes d) =
            let z : input_at c i (j + 1) ≡ input_at c i j + 1 = rw (eq-eqb s i (sym d)) at (adds i) in
            let w : get_or (set before s (get_or before s 0 + 1)) i 0 ≡ get_or before i 0 + 1 = rw d (get_or-set_same before s (get_or before s 0 + 1) 0 owner_there) in
            omega (arith, z, w)
        go i l (no d) =
            let z : input_at c i (j + 1) ≡ input_at c i j + 0 = rw (ne_eqb s i (λ q. d (sym q))) at (adds i) in
            omega (arith, z, get_or-set_other before s i (get_or before s 0 + 1) 0 d)

-- the inputs of parties, counted gate by gate
pub counted_none : (n : ℕ) (c : List ℕ) → Counted n c 0 (replicate most_parties 0)
counted_none n c = record { eight = refl; each = λ i h. zeros most_parties i ∙ sym (none_yet c i) }

module _ {n : ℕ} {c : List ℕ} {j : ℕ} {counts : List ℕ} (k : Counted n c j counts) where
  pub counted_small : j ≤ most_gates → Small n counts
  counted_small h = record { eight = k.eight; each = λ i l. omega (arith, k.each i l, input_le c i j) }

  pub counted_on : {later : List ℕ} → CountedOn n c j counts later → Counted n c (j + 1) later
  counted_on d = record { eight = d.eight; each = λ i l. omega (arith, d.each i l, k.each i l) }

  pub counted_upto : {to : ℕ} → j ≤ to → to ≤ j → Counted n c to counts
  counted_upto {to} h g = let e : j ≡ to = omega arith in rw e at k

-- where the inputs of parties start
module _ (n : ℕ) (c : List ℕ) where
  pub record Starting (starts : List ℕ) (at i : ℕ) : Type 0 where
    pub upto : i ≤ n
    pub eight : length starts ≡ most_parties
    pub place : at ≡ inputs_at c i
    pub are : (k : ℕ) → k < i → get_or starts k 0 ≡ inputs_at c k

  pub starting : {starts : List ℕ} → length starts ≡ most_parties → Starting starts 0 0
  unfolding inputs_at
  starting h = record { upto = omega arith; eight = h; place = refl; are = λ k l. absurd (omega arith) }

  module _ (v : Valid n size c) {to : ℕ} (whole : to ≡ gates c) {counts : List ℕ} (d : Counted n c to counts)
      {starts : List ℕ} {at i : ℕ} (inv : Starting starts at i) (h : i < n) where
    next_start : at + get_or counts i 0 ≡ inputs_at c (i + 1)
    unfolding input_count
    next_start =
        omega (arith, inv.place, d.each i h, ap (input_at c i) whole, starts_suc c i, ap (inputs_at c) (add-one i))

    pub starting_small : at + get_or counts i 0 ≤ most_gates
    starting_small = omega (arith, next_start, starts_mono c (i + 1) n (omega arith), inputs_all v, in_count_le c, v.few)

    pub starting_again : n ≤ most_parties → Starting (set starts i at) (at + get_or counts i 0) (i + 1)
    starting_again few =
        record {
          upto = omega arith;
          eight = length-set starts i at ∙ inv.eight;
          place = next_start;
          are = each_set 0 (λ k x. x ≡ inputs_at c k) starts i at (omega (arith, inv.eight)) inv.are inv.place;
        }

  pub starting_done : {starts : List ℕ} {at i : ℕ} → Starting starts at i → n ≤ i → Placed n c 0 starts
  starting_done inv h = record { eight = inv.eight; each = λ k l. omega (arith, inv.are k (omega arith), none_yet c k) }

-- where parties stand in the joined inputs
module _ {n : ℕ} {c : List ℕ} {j : ℕ} {places : List ℕ} (k : Placed n c j places) where
  pub placed_small : Valid n size c → j ≤ gates c → Small n places
  unfolding input_at input_count count
  placed_small v h =
      record {
        eight = k.eight;
        each = λ i l.
            omega (
              arith,
              k.each i l,
              total_mono (λ g. cond (owned_by i g) 1 0) c j (gates c) h,
              starts_suc c i,
              starts_mono c (suc i) n l,
              inputs_all v,
              in_count_le c,
              v.few,
            );
      }

  pub placed_on : {later : List ℕ} → CountedOn n c j places later → Placed n c (j + 1) later
  placed_on d = record { eight = d.eight; each = λ i l. omega (arith, d.each i l, k.each i l) }
