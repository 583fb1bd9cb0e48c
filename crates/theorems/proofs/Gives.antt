-- The examples with a give, computed.
-- Assumes nothing.
use Prim.Native.Nat.{ℕ, zero, suc, ◌<◌}
use mathlib.Core.Path.{◌≡◌, refl, sym, ap, subst, ◌∙◌}
use mathlib.Core.Bool.{true}
use mathlib.Core.List.{List, ◌++◌}
use native.Mathlib.Omega.{arith}
use lib.ListN.{get_or}
use borrow.Author.Tests.{leb-true}
use Rattle.field.specs.Words.{ops}
use Rattle.field.specs.Prime.{modular}
use Rattle.field.specs.Prime.Laws.{prime_is_modular}
use Rattle.circuit.specs.Gate.{gate, gates}
use Rattle.circuit.specs.Kind.{shape}
use Rattle.circuit.specs.Round.{Second, commits_in, check_count}
use Rattle.circuit.proofs.Tests.{false_no}
use Rattle.protocol.specs.Joint.{party}
use Rattle.protocol.specs.Run.{State, Run, begun, whole}
use Rattle.protocol.specs.Entry.{receive_answer}
use Rattle.protocol.specs.Docket.{shows}
use Rattle.protocol.specs.Good.{GoodRecord}
use Rattle.protocol.proofs.Computing.{computing}
use Rattle.theorems.specs.Premises.{Accepts, Enough, after}
use Rattle.theorems.specs.Matching.{left_out, add_lists, only, plainly, input_move, value_move, moved, product_move, mask_move, mask_record_move, record_move, prep_move, match, rule}
use Rattle.theorems.specs.Secrecy.{band_of}
use Rattle.theorems.specs.Gives.{A, circuit₁, preps₁, circuit, preps, matched, inputs₁, inputs₂, rooms₁, rooms, blank, unwritten, hearing, given₁, answered, giving, Gives}
use Rattle.theorems.proofs.Known.{hashed}
use Rattle.theorems.proofs.Hashed.{runs, state_is, whole_is, answer_is, left_alike, outputs_are, reveal_is, hashing}
use Rattle.theorems.proofs.Docket.{all_below, below}

good_records₁ : (j : ℕ) → j < gates circuit₁ → GoodRecord modular 2 circuit₁ preps₁ j (gate circuit₁ j) (shape (gate circuit₁ j)).class
unfolding computing modular
good_records₁ zero l = record { mask = refl; whole = refl }
good_records₁ (suc zero) l = λ e. record { mask = refl; whole = refl }
good_records₁ (suc (suc j)) l = absurd (omega arith)

good_records : (j : ℕ) → j < gates circuit → GoodRecord modular 2 circuit preps j (gate circuit j) (shape (gate circuit j)).class
unfolding computing modular
good_records zero l = record { mask = refl; whole = refl }
good_records (suc zero) l = record { mask = refl; whole = refl }
good_records (suc (suc zero)) l = tt
good_records (suc (suc (suc zero))) l = λ e. record { mask = refl; whole = refl }
good_records (suc (suc (suc (suc j)))) l = absurd (omega arith)

-- Both circuits are accepted, and the runs have nonces and scratch enough.
accepts₁ : Accepts modular 2 circuit₁
unfolding computing modular
accepts₁ = record { parties = refl; circuit = refl }

accepts : Accepts modular 2 circuit
unfolding computing modular
accepts = record { parties = refl; circuit = refl }

enough₁ : Enough (given₁ modular) rooms₁
unfolding computing check_count commits_in
enough₁ = record { nonces = leb-true _ _ refl; room = leb-true _ _ refl }

enough : (m x : List ℕ) → Enough (giving modular m x) rooms
unfolding computing check_count commits_in
enough m x = record { nonces = leb-true _ _ refl; room = leb-true _ _ refl }

words₁ : (whole modular (given₁ modular) rooms₁).transcript ≡ (runs hashed modular (given₁ modular) 10 (begun modular (given₁ modular) rooms₁)).transcript
unfolding computing
words₁ = ap (λ (R : Run). R.transcript) (whole_is modular (given₁ modular) rooms₁ accepts₁ enough₁)

words : (m x : List ℕ)
    → (whole modular (giving modular m x) rooms).transcript ≡ (runs hashed modular (giving modular m x) 20 (begun modular (giving modular m x) rooms)).transcript
unfolding computing
words m x = ap (λ (R : Run). R.transcript) (whole_is modular (giving modular m x) rooms accepts (enough m x))

-- party i's scratch before the last hearing of the first run, computed
abbrev before : ℕ → List ℕ
before i = (runs hashed modular (given₁ modular) 3 (begun modular (given₁ modular) rooms₁)).last.scratch i

-- What it is answered there.
answered_is : (i : ℕ) → answered modular i ≡ receive_answer modular (party (given₁ modular) i) (before i) hearing (shows 4 ++ shows 2147483643)
answered_is i =
    ap (λ (s : State). receive_answer modular (party (given₁ modular) i) (s.scratch i) hearing (shows 4 ++ shows 2147483643))
    (state_is modular (given₁ modular) rooms₁ accepts₁ enough₁ 3)

-- Both inputs of party 0 are 5.
agree : (i : ℕ) → i < 2 → A i ≡ true → (party (plainly 2 circuit inputs₂) i).inputs ≡ (party (plainly 2 circuit inputs₁) i).inputs
unfolding computing plainly
agree zero l a = refl
agree (suc zero) l a = false_no a
agree (suc (suc i)) l a = absurd (omega arith)

computed : Gives modular
unfolding hashing modular all_below after left_out add_lists only plainly input_move value_move moved product_move mask_move mask_record_move record_move prep_move match rule
computed =
    record {
      good₁ = record { long = refl; elements = below 2147483647 preps₁ tt; records = good_records₁ };
      shown₁ = (refl, refl);
      macs₁ = (refl, refl);
      words₁ = words₁;
      rounds₁ = answer_is modular (given₁ modular) rooms₁ blank unwritten accepts₁ enough₁;
      formula₁ = refl;
      output₁ = outputs_are modular (given₁ modular) rooms₁ blank unwritten accepts₁ enough₁;
      receiver₁ = answered_is 1 ∙ reveal_is modular (party (given₁ modular) 1) (before 1) 1 0 Second (shows 4 ++ shows 2147483643) refl;
      other₁ = answered_is 0 ∙ reveal_is modular (party (given₁ modular) 0) (before 0) 1 0 Second (shows 4 ++ shows 2147483643) refl;
      good = record { long = refl; elements = below 2147483647 preps tt; records = good_records };
      rounds = answer_is modular (giving modular preps inputs₁) rooms blank unwritten accepts (enough preps inputs₁);
      output = outputs_are modular (giving modular preps inputs₁) rooms blank unwritten accepts (enough preps inputs₁);
      words = words preps inputs₁;
      first_score = refl;
      second_score = refl;
      unseen = refl;
      compared =
          record {
            accepts = accepts;
            outside = (1, omega arith, refl);
            first = refl;
            second = refl;
            agree = agree;
            equal_scores = refl;
          };
      match_is = refl;
      other_output = outputs_are modular (giving modular matched inputs₂) rooms blank unwritten accepts (enough matched inputs₂);
      same_words = words matched inputs₂;
      same_bands =
          left_alike modular (giving modular matched inputs₂) (giving modular preps inputs₁) rooms blank unwritten accepts (enough matched inputs₂) accepts
          (enough preps inputs₁) (λ l. band_of modular 2 circuit A l 0) refl;
      not_to_receiver = λ is. let e : ◌≡◌ {A = ℕ} 14 11 = ap (λ (l : List ℕ). get_or l 0 0) is.equal_scores in absurd (omega (arith, e));
    }

-- at the operations that the contracts cite
pub gives : Gives ops
gives = subst Gives (sym prime_is_modular) computed
