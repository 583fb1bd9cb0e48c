-- The example of demand 3, computed; and the words of its two runs are equal by secrecy too.
-- Assumes nothing.
use Prim.Native.Nat.{ℕ, zero, suc, ◌<◌}
use mathlib.Core.Path.{◌≡◌, refl, sym, ap, subst, ◌∙◌}
use mathlib.Core.Logic.{◌≢◌}
use mathlib.Core.Bool.{true, false}
use mathlib.Core.List.{List}
use native.Mathlib.Omega.{arith}
use lib.Dec.{eqb}
use lib.ListN.{get_or}
use borrow.Author.Tests.{leb-true, eqb-false}
use Rattle.algebra.specs.Ops.{Ops}
use Rattle.field.specs.Words.{ops}
use Rattle.field.specs.Prime.{modular}
use Rattle.field.specs.Prime.Laws.{prime_is_modular}
use Rattle.circuit.proofs.Tests.{false_no}
use Rattle.circuit.specs.Gate.{gates}
use Rattle.circuit.specs.Round.{commits_in, check_count}
use Rattle.protocol.specs.Joint.{party}
use Rattle.protocol.specs.Run.{Run, begun}
use Rattle.protocol.specs.Plain.{scores_seen}
use Rattle.protocol.specs.Good.{Good}
use Rattle.protocol.specs.Docket.{circuit, docket, rooms}
use Rattle.protocol.proofs.Computing.{computing}
use Rattle.theorems.proofs.Known.{hashed}
use Rattle.theorems.proofs.Hashed.{runs, whole_is, answer_is, left_alike, hashing}
use Rattle.theorems.proofs.Docket.{accepts, docket_table}
use Rattle.theorems.specs.Premises.{Accepts, InputsPass, Enough}
use Rattle.theorems.specs.Matching.{left_out, add_lists, only, plainly, input_move, value_move, moved, product_move, mask_move, mask_record_move, record_move, prep_move, match, rule}
use Rattle.theorems.specs.Secrecy.{band_of, Compared, Alike}
use Rattle.theorems.specs.Example.{A, inputs₁, inputs₂, preps, matched, blank, unwritten, example_run, words_on, Example}
use Rattle.theorems.proofs.Secrecy.{secrecy_here}

-- Lists with different numbers at one place are different.
differ_at : (k : ℕ) (l m : List ℕ) → eqb (get_or l k 0) (get_or m k 0) ≡ false → l ≢ m
differ_at k l m h e = eqb-false _ _ h (ap (λ (l : List ℕ). get_or l k 0) e)

-- Two sets of inputs that agree at party 1 agree at A's party.
agree : (c x x' : List ℕ)
    → (party (plainly 2 c x') 1).inputs ≡ (party (plainly 2 c x) 1).inputs
    → (i : ℕ) → i < 2 → A i ≡ true → (party (plainly 2 c x') i).inputs ≡ (party (plainly 2 c x) i).inputs
agree c x x' e zero l a = false_no a
agree c x x' e (suc zero) l a = e
agree c x x' e (suc (suc i)) l a = absurd (omega arith)

-- Such inputs, which give scores that A's party sees alike, can be compared.
pub comparing : (c x x' : List ℕ) → Accepts modular 2 c → InputsPass modular c x → InputsPass modular c x'
    → (party (plainly 2 c x') 1).inputs ≡ (party (plainly 2 c x) 1).inputs
    → scores_seen modular (plainly 2 c x') A (gates c) ≡ scores_seen modular (plainly 2 c x) A (gates c)
    → Compared modular 2 c A x x'
comparing c x x' accepts first second same scores =
    record {
      accepts = accepts;
      outside = (0, omega arith, refl);
      first = first;
      second = second;
      agree = agree c x x' same;
      equal_scores = scores;
    }

-- The docket's preprocessing is good.
is_good : Good modular 2 circuit preps
is_good = subst (λ (O : Ops). Good O 2 circuit preps) prime_is_modular docket_table.good

-- On the first inputs party 0's first word is 3, and on the second, with the same preprocessing, 7.
differs : words_on modular preps inputs₂ ≢ words_on modular preps inputs₁
unfolding computing modular
differs = differ_at 0 (words_on modular preps inputs₂) (words_on modular preps inputs₁) refl

-- The runs have nonces and scratch enough.
enough : (m x : List ℕ) → Enough (example_run modular m x) rooms
unfolding computing check_count commits_in
enough m x = record { nonces = leb-true _ _ refl; room = leb-true _ _ refl }

words : (m x : List ℕ) → words_on modular m x ≡ (runs hashed modular (example_run modular m x) 20 (begun modular (example_run modular m x) rooms)).transcript
unfolding computing
words m x = ap (λ (R : Run). R.transcript) (whole_is modular (example_run modular m x) rooms accepts (enough m x))

computed : Example modular
unfolding hashing modular left_out add_lists only plainly input_move value_move moved product_move mask_move mask_record_move record_move prep_move match rule
computed =
    record {
      compared = comparing circuit inputs₁ inputs₂ accepts refl refl refl refl;
      good = is_good;
      member = refl;
      inputs_differ = differ_at 0 inputs₂ inputs₁ refl;
      match_is = refl;
      match_differs = differ_at 1 matched preps refl;
      match_keeps = refl;
      first_answer = answer_is modular (example_run modular preps inputs₁) rooms blank unwritten accepts (enough preps inputs₁);
      second_answer = answer_is modular (example_run modular matched inputs₂) rooms blank unwritten accepts (enough matched inputs₂);
      first_words = words preps inputs₁;
      second_words = words matched inputs₂;
      same_bands =
          left_alike modular (example_run modular matched inputs₂) (example_run modular preps inputs₁) rooms blank unwritten accepts (enough matched inputs₂) accepts
          (enough preps inputs₁) (λ l. band_of modular 2 circuit A l 1) refl;
      first_accepted = refl;
      unmatched_accepted = refl;
      unmatched_word = refl;
      unmatched_differs = differs;
      no_identity = λ s. differs ((s.alike preps is_good docket.coefficients docket.nonces rooms blank unwritten blank unwritten).words refl refl);
    }

-- The example, at the operations that the contracts cite.
pub example : Example ops
example = subst Example (sym prime_is_modular) computed

-- That the runs send the same words is an instance of demand 3.
pub same_words : words_on ops matched inputs₂ ≡ words_on ops preps inputs₁
same_words =
    ap (λ (m : List ℕ). words_on ops m inputs₂) (sym example.match_is)
    ∙ both.words example.first_accepted (both.refusals refl refl ∙ example.first_accepted)
  where
    both : Alike ops 2 circuit A
        (example_run ops preps inputs₁) (example_run ops (rule ops 2 circuit A inputs₁ inputs₂ preps) inputs₂)
        rooms blank unwritten blank unwritten
    both =
        (secrecy_here 2 circuit A inputs₁ inputs₂ example.compared).alike preps example.good docket.coefficients docket.nonces rooms
        blank unwritten blank unwritten
