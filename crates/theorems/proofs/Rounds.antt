-- How many rounds a run takes: document 01's formula is the number of rounds of the circuit, it is at most 766, and 766 is reached. Likewise
-- the numbers of words and of coefficients, and the lengths of preprocessing and scratch, by the circuit's in, mul, sq, out and give gates.
-- Assumes nothing.
use Prim.Native.Nat.{ℕ, zero, suc, ◌+◌, ◌-◌, ◌*◌, ◌≤◌}
use mathlib.Core.Path.{◌≡◌, refl, ◌∙◌}
use mathlib.Core.Bool.{Bool, true, false, cond, not, ◌&&◌}
use mathlib.Core.List.{List, [], ◌∷◌, ◌++◌}
use native.Mathlib.Omega.{arith}
use lib.Dec.{eqb}
use borrow.Author.Tests.{eqb-true}
use Rattle.field.specs.Words.{size}
use Rattle.circuit.specs.Verdict.{Accepted}
use Rattle.circuit.specs.Gate.{kind_mul, kind_out, kind_sq, kind_give, Gate, gate, gates}
use Rattle.circuit.specs.Kind.{Class, Local, Owned, Opens, Output, shape, is_class, is_in, opens, is_out, is_give}
use Rattle.circuit.specs.Count.{total, count, prep_at, prep_size, capacity, in_count, out_count, unchecked, unchecked_after}
use Rattle.circuit.specs.Round.{Round, check_rounds, class_rounds, rounds, shape_words, words, coefficients_in, over_rounds, over_run, round_count, word_count, coefficient_count, commits_in, check_count, commit_words, reveal_words}
use Rattle.circuit.specs.Accept.{fewest_gates, most_gates, ask_circuit}
use Rattle.circuit.specs.Valid.{Valid}
use Rattle.circuit.proofs.Tests.{by_cases}
use Rattle.circuit.proofs.Counts.{unchecked_valued, unchecked_out}
use Rattle.circuit.proofs.KindLaws.{class_is, shape_low, local_no_out, owned_no_out, opens_no_out, local_facts, owned_facts, opens_facts, output_facts, give_prep, bare_prep, no_give}
use Rattle.circuit.proofs.RoundLaws.{words_local, words_owned, words_opens, words_first, words_later, coefficients_local, coefficients_owned, coefficients_opens, coefficients_all, checks_first, checks_later, checks_valued}
use Rattle.circuit.proofs.Gates.{gate_zero}
use Rattle.protocol.specs.Scratch.{layout, slots_size, nonce_at, marks_at, scratch_size}
use Rattle.protocol.specs.Formula.{opens_just, mul_count, square_count, give_count, bare_outs, round_formula, most_rounds_of_all}
use Rattle.protocol.proofs.Computing.{computing}

-- one for each round
abbrev pub ones : ℕ → Round → ℕ
ones j r = 1

-- The rounds of a gate, with 2 for the check that an output with nothing unchecked does without.
rounds_of : (u : ℕ) (k : Class)
    → over_rounds (λ r. 1) (class_rounds u k) + 2 * cond (is_class Output k && eqb u 0) 1 0
    ≡ cond (is_class Owned k) 1 0 + cond (is_class Opens k) 1 0 + 5 * cond (is_class Output k) 1 0
unfolding class_rounds check_rounds over_rounds is_class
rounds_of u Local = refl
rounds_of u Owned = refl
rounds_of u Opens = refl
rounds_of u Output = by_cases (eqb u 0) (λ e. rw e) (λ e. rw e)

-- The rounds of the gates before j, by their classes.
rounds_before : (c : List ℕ) (j : ℕ)
    → over_run ones c j + 2 * bare_outs c j ≡ count is_in c j + count opens c j + 5 * count is_out c j
unfolding over_run bare_outs count total rounds
rounds_before c zero = refl
rounds_before c (suc j) = omega (arith, rounds_before c j, rounds_of (unchecked c j) (shape (gate c j)).class)

-- A gate opens two values, or one, or none.
two_or_one : (k : ℕ) → k ≤ 2 → k ≡ 2 * cond (eqb k 2) 1 0 + cond (eqb k 1) 1 0
two_or_one zero h = refl
two_or_one (suc zero) h = refl
two_or_one (suc (suc zero)) h = refl
two_or_one (suc (suc (suc k))) h = absurd (omega (arith, h))

some_two_or_one : (k : ℕ) → 1 ≤ k → k ≤ 2 → 1 ≡ cond (eqb k 2) 1 0 + cond (eqb k 1) 1 0
some_two_or_one zero l h = absurd (omega (arith, l))
some_two_or_one (suc zero) l h = refl
some_two_or_one (suc (suc zero)) l h = refl
some_two_or_one (suc (suc (suc k))) l h = absurd (omega (arith, h))

-- Those that open values open two or one.
opens_of : (g : Gate) (k : Class) → (shape g).class ≡ k → cond (is_class Opens k) 1 0 ≡ cond (opens_just 2 g) 1 0 + cond (opens_just 1 g) 1 0
unfolding is_class
opens_of g Local e = rw (local_facts g e).openings
opens_of g Owned e = rw (owned_facts g e).openings
opens_of g Opens e = let f = opens_facts g e in some_two_or_one (shape g).openings f.some f.few
opens_of g Output e = rw (output_facts g e).openings

opens_before : (c : List ℕ) (j : ℕ) → count opens c j ≡ count (opens_just 2) c j + count (opens_just 1) c j
unfolding count total
opens_before c zero = refl
opens_before c (suc j) = omega (arith, opens_before c j, opens_of (gate c j) (shape (gate c j)).class refl)

-- The formula is the number of rounds.
pub formula_is : (c : List ℕ) → round_formula c ≡ round_count c
unfolding round_formula round_count in_count mul_count square_count out_count
formula_is c = omega (arith, rounds_before c (gates c), opens_before c (gates c))

-- what is yet to come for what is unchecked: its check takes two rounds
abbrev owed : ℕ → ℕ
owed u = cond (eqb u 0) 0 2

-- That is at most two.
owed_le : (b : Bool) → cond b 0 2 ≤ 2
owed_le true = omega arith
owed_le false = omega arith

-- A gate that opens nothing and is no output leaves unchecked what was.
unchanged : (g : Gate) (u : ℕ) → is_out g ≡ false → (shape g).openings ≡ 0 → unchecked_after (shape g) u ≡ u
unchanged g u e h = unchecked_valued (shape g) u e ∙ omega arith

-- A gate adds at most 3 to rounds and what is owed together.
three_a_gate : (u : ℕ) (g : Gate) (k : Class) → (shape g).class ≡ k
    → over_rounds (λ r. 1) (class_rounds u k) + owed (unchecked_after (shape g) u) ≤ 3 + owed u
unfolding class_rounds check_rounds over_rounds
three_a_gate u g Local e = rw (unchanged g u (local_no_out e) (local_facts g e).openings) (omega arith)
three_a_gate u g Owned e = rw (unchanged g u (owned_no_out e) (owned_facts g e).openings) (omega arith)
three_a_gate u g Opens e = omega (arith, owed_le (eqb (unchecked_after (shape g) u) 0))
three_a_gate u g Output e =
    rw (unchecked_out (shape g) u (class_is e)) (by_cases (eqb u 0) (λ z. rw z (omega arith)) (λ z. rw z (omega arith)))

-- Rounds and what is owed after gate j are at most 3 a gate, less 2 for gate 0: it is an in gate, which takes one round and opens nothing.
rounds_owed : {n q : ℕ} {c : List ℕ} → Valid n q c → (j : ℕ) → over_run ones c (suc j) + owed (unchecked c (suc j)) + 2 ≤ 3 * suc j
unfolding over_run unchecked rounds
rounds_owed {n} {q} {c} ok zero =
    let e = gate_zero ok in
    let one : over_rounds (λ r. 1) (class_rounds 0 (shape (gate c 0)).class) ≡ 1 = (unfold class_rounds over_rounds in rw e) in
    let none : unchecked_after (shape (gate c 0)) 0 ≡ 0 = unchanged (gate c 0) 0 (owned_no_out e) (owned_facts (gate c 0) e).openings in
    rw none (omega arith)
rounds_owed {n} {q} {c} ok (suc j) =
    omega (arith, rounds_owed ok j, three_a_gate (unchecked c (suc j)) (gate c (suc j)) (shape (gate c (suc j))).class refl)

-- No accepted circuit takes more than 766 rounds.
pub at_most_766 : {n q : ℕ} {c : List ℕ} → Valid n q c → round_formula c ≤ most_rounds_of_all
unfolding round_count
at_most_766 {n} {q} {c} ok = rw formula_is (go (gates c) ok.two ok.few)
  where
    go : (m : ℕ) → fewest_gates ≤ m → m ≤ most_gates → over_run ones c m ≤ most_rounds_of_all
    go zero l h = absurd (omega arith)
    go (suc m) l h = omega (arith, rounds_owed ok m)

-- the outputs before j, out and give gates, with something unchecked
unfoldable pub checked_outs : List ℕ → ℕ → ℕ
checked_outs c zero = 0
checked_outs c (suc j) = checked_outs c j + cond (is_out (gate c j) && not (eqb (unchecked c j) 0)) 1 0

-- how many values the gates before j open
abbrev opened : List ℕ → ℕ → ℕ
opened c j = total (λ g. (shape g).openings) c j

-- The words of a gate.
words_of : (u : ℕ) (g : Gate) (k : Class) → (shape g).class ≡ k
    → over_rounds (shape_words (shape g)) (class_rounds u k)
    ≡ cond (is_class Owned k) 1 0 + (shape g).openings + 18 * cond (is_class Output k) 1 0 + 17 * cond (is_class Output k && not (eqb u 0)) 1 0
unfolding is_class
words_of u g Local e = let f = local_facts g e in omega (arith, words_local u (shape g), f.openings)
words_of u g Owned e = let f = owned_facts g e in omega (arith, words_owned u (shape g), f.openings, f.words)
words_of u g Opens e = omega (arith, words_opens u (shape g), (opens_facts g e).words)
words_of u g Output e =
    let f = output_facts g e in
    by_cases (eqb u 0) (λ z. rw z (omega (arith, words_first u (shape g) (eqb-true u 0 z), f.openings, f.words)))
    (λ z. rw z (omega (arith, words_later u (shape g) z, f.openings, f.words)))

-- The words of the gates before j, by their classes.
words_before : (c : List ℕ) (j : ℕ)
    → over_run (λ j r. words (gate c j) r) c j ≡ count is_in c j + opened c j + 18 * count is_out c j + 17 * checked_outs c j
unfolding over_run checked_outs count total rounds
words_before c zero = refl
words_before c (suc j) = omega (arith, words_before c j, words_of (unchecked c j) (gate c j) (shape (gate c j)).class refl)

-- The coefficients of a gate: an output takes one for each unchecked value, and one for its own.
coefficients_of : (u : ℕ) (g : Gate) (k : Class) → (shape g).class ≡ k
    → over_rounds (coefficients_in u) (class_rounds u k) + unchecked_after (shape g) u ≡ u + (shape g).openings + cond (is_class Output k) 1 0
unfolding is_class
coefficients_of u g Local e = omega (arith, coefficients_local u, unchecked_valued (shape g) u (local_no_out e))
coefficients_of u g Owned e = omega (arith, coefficients_owned u, unchecked_valued (shape g) u (owned_no_out e))
coefficients_of u g Opens e = omega (arith, coefficients_opens u, unchecked_valued (shape g) u (opens_no_out e))
coefficients_of u g Output e = omega (arith, coefficients_all u, unchecked_out (shape g) u (class_is e), (output_facts g e).openings)

-- The coefficients of the gates before j, with those that unchecked values will take.
coefficients_before : (c : List ℕ) (j : ℕ)
    → over_run (λ j r. coefficients_in (unchecked c j) r) c j + unchecked c j ≡ opened c j + count is_out c j
unfolding over_run unchecked count total rounds
coefficients_before c zero = refl
coefficients_before c (suc j) = omega (arith, coefficients_before c j, coefficients_of (unchecked c j) (gate c j) (shape (gate c j)).class refl)

-- An accepted circuit ends with an output, after which nothing is unchecked.
coefficients_opened : {n q : ℕ} {c : List ℕ} → Valid n q c → coefficient_count c ≡ opened c (gates c) + out_count c
unfolding coefficient_count out_count unchecked
coefficients_opened {n} {q} {c} ok = go (gates c) ok.two ok.last
  where
    none : (m : ℕ) → is_out (gate c (suc m - 1)) ≡ true → unchecked c (suc m) ≡ 0
    none m h = let before : suc m - 1 ≡ m = omega arith in unchecked_out (shape (gate c m)) (unchecked c m) (rw before at h)

    go : (m : ℕ) → fewest_gates ≤ m → is_out (gate c (m - 1)) ≡ true
        → over_run (λ j r. coefficients_in (unchecked c j) r) c m ≡ opened c m + count is_out c m
    go zero l h = absurd (omega arith)
    go (suc m) l h = omega (arith, coefficients_before c (suc m), none m h)

-- What a gate takes of the preprocessing: 3 numbers of an input and of a give, and of a gate that opens values 2 for each and 2 more.
prep_of : (g : Gate) (k : Class) → (shape g).class ≡ k
    → (shape g).prep ≡ 3 * cond (is_class Owned k) 1 0 + 2 * (shape g).openings + 2 * cond (is_class Opens k) 1 0 + 3 * cond (is_give g) 1 0
unfolding is_class
prep_of g Local e = let f = local_facts g e in rw (no_give g (local_no_out e)) (omega (arith, f.prep, f.openings))
prep_of g Owned e = let f = owned_facts g e in rw (no_give g (owned_no_out e)) (omega (arith, f.prep, f.openings))
prep_of g Opens e = rw (no_give g (opens_no_out e)) (omega (arith, (opens_facts g e).prep))
prep_of g Output e =
    let f = output_facts g e in
    by_cases (is_give g) (λ z. rw z (omega (arith, give_prep g z, f.openings))) (λ z. rw z (omega (arith, bare_prep g e z, f.openings)))

-- The same of the gates before j.
prep_before : (c : List ℕ) (j : ℕ)
    → total (λ g. (shape g).prep) c j ≡ 3 * count is_in c j + 2 * opened c j + 2 * count opens c j + 3 * count is_give c j
unfolding count total
prep_before c zero = refl
prep_before c (suc j) = omega (arith, prep_before c j, prep_of (gate c j) (shape (gate c j)).class refl)

-- The values that are opened: two of each mul gate, one of each sq gate.
opened_before : (c : List ℕ) (j : ℕ) → opened c j ≡ 2 * count (opens_just 2) c j + count (opens_just 1) c j
unfolding count total
opened_before c zero = refl
opened_before c (suc j) = omega (arith, opened_before c j, two_or_one (shape (gate c j)).openings (shape_low (gate c j)).openings)

-- The checks of a gate: an output has one, and another where anything is unchecked.
checks_of_lem : (u : ℕ) (k : Class) → over_rounds commits_in (class_rounds u k) ≡ cond (is_class Output k) 1 0 + cond (is_class Output k && not (eqb u 0)) 1 0
unfolding is_class
checks_of_lem u Local = checks_valued u Local (unfold is_class in refl)
checks_of_lem u Owned = checks_valued u Owned (unfold is_class in refl)
checks_of_lem u Opens = checks_valued u Opens (unfold is_class in refl)
checks_of_lem u Output =
    by_cases (eqb u 0) (λ z. rw z (omega (arith, checks_first u (eqb-true u 0 z)))) (λ z. rw z (omega (arith, checks_later u z)))

checks_before : (c : List ℕ) (j : ℕ) → over_run (λ j r. commits_in r) c j ≡ count is_out c j + checked_outs c j
unfolding over_run checked_outs count total rounds
checks_before c zero = refl
checks_before c (suc j) = omega (arith, checks_before c j, checks_of_lem (unchecked c j) (shape (gate c j)).class)

-- The checks of a run: one for each output, and one more for each with something unchecked.
pub checks_are : (c : List ℕ) → check_count c ≡ out_count c + checked_outs c (gates c)
unfolding check_count out_count
checks_are c = checks_before c (gates c)

-- The words that a party sends in a run: one for each in gate, two for each mul gate, one for each sq gate, one for each output, and for each
-- check the eight of a mark and the nine of a reveal.
pub words_are : (c : List ℕ) → word_count c ≡ in_count c + 2 * mul_count c + square_count c + out_count c + (commit_words + reveal_words) * check_count c
unfolding word_count in_count mul_count square_count out_count
words_are c = omega (arith, words_before c (gates c), opened_before c (gates c), checks_are c)

-- "all draws in order of use, 2M + outs of them", and one more for each sq gate; a give counts as an out
pub coefficients_are : {n q : ℕ} {c : List ℕ} → Valid n q c → coefficient_count c ≡ 2 * mul_count c + square_count c + out_count c
unfolding mul_count square_count
coefficients_are {n} {q} {c} ok = omega (arith, coefficients_opened ok, opened_before c (gates c))

-- "With I in lines and M mul lines, material has 1 + 3 × I + 6 × M numbers", and 4 more for each sq gate and 3 for each give
pub prep_is : (c : List ℕ) → prep_size c ≡ 1 + 3 * in_count c + 6 * mul_count c + 4 * square_count c + 3 * give_count c
unfolding prep_size prep_at in_count mul_count square_count give_count
prep_is c = omega (arith, prep_before c (gates c), opened_before c (gates c), opens_before c (gates c))

-- "Scratch is one list, L being the number of lines: L shares, L MAC shares, 2M + 1 opened values, 2M + 1 MAC shares of those", and one more of
-- each for each sq gate; "The scratch's end gains eight numbers for the seat's nonce .. then eight for each seat's mark"
pub scratch_is : (n : ℕ) (c : List ℕ) → scratch_size n c ≡ 2 * gates c + 2 * (2 * mul_count c + square_count c + 1) + 8 + n * 8
unfolding scratch_size marks_at nonce_at slots_size layout capacity mul_count square_count
scratch_is n c = omega (arith, opened_before c (gates c))

-- k times a gate of one kind, of gate 0 and perhaps gate 0 again, and a gate of another, of gate 0 and perhaps for party 0
kind_pairs : ℕ → ℕ → ℕ → List ℕ
kind_pairs opening output zero = []
kind_pairs opening output (suc k) = opening ∷ 0 ∷ 0 ∷ 0 ∷ output ∷ 0 ∷ 0 ∷ 0 ∷ kind_pairs opening output k

-- 766 is reached: an in gate, 127 times a gate that opens values and an output, and an output, 256 gates in all
pub longest : ℕ → ℕ → List ℕ
longest opening output = 1 ∷ 0 ∷ 0 ∷ 0 ∷ (kind_pairs opening output 127 ++ (output ∷ 0 ∷ 0 ∷ 0 ∷ []))

-- It is accepted, and it takes 766 rounds.
pub record Longest (opening output : ℕ) : Type 0 where
  pub accepted : ask_circuit 2 size (longest opening output) ≡ Accepted
  pub rounds : round_formula (longest opening output) ≡ most_rounds_of_all

-- With mul gates and with sq gates, by out gates and by gives.
pub longest_rounds : Longest kind_mul kind_out × Longest kind_sq kind_out × Longest kind_mul kind_give × Longest kind_sq kind_give
unfolding computing kind_pairs longest
longest_rounds = (
  record { accepted = refl; rounds = refl },
  record { accepted = refl; rounds = refl },
  record { accepted = refl; rounds = refl },
  record { accepted = refl; rounds = refl },
)
