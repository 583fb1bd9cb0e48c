-- The examples with over gates, computed.
-- Assumes nothing.
use Prim.Native.Nat.{ℕ, zero, suc, ◌<◌}
use mathlib.Core.Path.{◌≡◌, refl, sym, ap, subst}
use mathlib.Core.List.{List}
use native.Mathlib.Omega.{arith}
use borrow.Author.Tests.{leb-true}
use Rattle.field.specs.Words.{ops}
use Rattle.field.specs.Prime.{euclid, modular}
use Rattle.field.specs.Prime.Laws.{prime_is_modular}
use Rattle.circuit.specs.Gate.{gate, gates}
use Rattle.circuit.specs.Kind.{shape}
use Rattle.circuit.specs.Round.{commits_in, check_count}
use Rattle.circuit.proofs.Tests.{false_no}
use Rattle.protocol.specs.Run.{Run, begun, whole}
use Rattle.protocol.specs.Good.{GoodRecord}
use Rattle.protocol.proofs.Computing.{computing}
use Rattle.theorems.specs.Premises.{Accepts, Enough, after}
use Rattle.theorems.specs.Matching.{left_out, add_lists, only, plainly, input_move, value_move, moved, product_move, mask_move, mask_record_move, record_move, prep_move, match, rule}
use Rattle.theorems.specs.Secrecy.{band_of}
use Rattle.theorems.specs.Example.{A}
use Rattle.theorems.specs.Gives.{blank, unwritten}
use Rattle.theorems.specs.Overs.{circuit₁, preps₁, circuit, preps, matched, inputs₁, inputs₂, rooms₁, rooms, halving, dividing, Overs}
use Rattle.theorems.proofs.Known.{hashed}
use Rattle.theorems.proofs.Hashed.{runs, whole_is, answer_is, left_alike, outputs_are, hashing}
use Rattle.theorems.proofs.Docket.{all_below, below}
use Rattle.theorems.proofs.Example.{comparing}

good_records₁ : (j : ℕ) → j < gates circuit₁ → GoodRecord modular 2 circuit₁ preps₁ j (gate circuit₁ j) (shape (gate circuit₁ j)).class
unfolding computing modular
good_records₁ zero l = record { mask = refl; whole = refl }
good_records₁ (suc zero) l = tt
good_records₁ (suc (suc zero)) l = λ e. false_no e
good_records₁ (suc (suc (suc j))) l = absurd (omega arith)

good_records : (j : ℕ) → j < gates circuit → GoodRecord modular 2 circuit preps j (gate circuit j) (shape (gate circuit j)).class
unfolding computing modular
good_records zero l = record { mask = refl; whole = refl }
good_records (suc zero) l = record { mask = refl; whole = refl }
good_records (suc (suc zero)) l = tt
good_records (suc (suc (suc zero))) l = tt
good_records (suc (suc (suc (suc zero)))) l = tt
good_records (suc (suc (suc (suc (suc zero))))) l = tt
good_records (suc (suc (suc (suc (suc (suc zero)))))) l = tt
good_records (suc (suc (suc (suc (suc (suc (suc zero))))))) l = tt
good_records (suc (suc (suc (suc (suc (suc (suc (suc zero)))))))) l = λ e. false_no e
good_records (suc (suc (suc (suc (suc (suc (suc (suc (suc j))))))))) l = absurd (omega arith)

-- Both circuits are accepted, and the runs have nonces and scratch enough.
accepts₁ : Accepts modular 2 circuit₁
unfolding computing modular
accepts₁ = record { parties = refl; circuit = refl }

accepts : Accepts modular 2 circuit
unfolding computing modular
accepts = record { parties = refl; circuit = refl }

enough₁ : Enough (halving modular) rooms₁
unfolding computing check_count commits_in
enough₁ = record { nonces = leb-true _ _ refl; room = leb-true _ _ refl }

enough : (m x : List ℕ) → Enough (dividing modular m x) rooms
unfolding computing check_count commits_in
enough m x = record { nonces = leb-true _ _ refl; room = leb-true _ _ refl }

words₁ : (whole modular (halving modular) rooms₁).transcript ≡ (runs hashed modular (halving modular) 15 (begun modular (halving modular) rooms₁)).transcript
unfolding computing
words₁ = ap (λ (R : Run). R.transcript) (whole_is modular (halving modular) rooms₁ accepts₁ enough₁)

words : (m x : List ℕ)
    → (whole modular (dividing modular m x) rooms).transcript ≡ (runs hashed modular (dividing modular m x) 45 (begun modular (dividing modular m x) rooms)).transcript
unfolding computing
words m x = ap (λ (R : Run). R.transcript) (whole_is modular (dividing modular m x) rooms accepts (enough m x))

computed : Overs modular
unfolding hashing modular euclid all_below after left_out add_lists only plainly input_move value_move moved product_move mask_move mask_record_move record_move prep_move match rule
computed =
    record {
      good₁ = record { long = refl; elements = below 2147483647 preps₁ tt; records = good_records₁ };
      input₁ = (refl, refl);
      half₁ = (refl, refl);
      words₁ = words₁;
      rounds₁ = answer_is modular (halving modular) rooms₁ blank unwritten accepts₁ enough₁;
      formula₁ = refl;
      output₁ = outputs_are modular (halving modular) rooms₁ blank unwritten accepts₁ enough₁;
      good = record { long = refl; elements = below 2147483647 preps tt; records = good_records };
      first_input = (refl, refl);
      tripled = (refl, refl);
      times_then_over = (refl, refl);
      second_input = (refl, refl);
      third = (refl, refl);
      over_then_times = (refl, refl);
      half = (refl, refl);
      rounds = answer_is modular (dividing modular preps inputs₁) rooms blank unwritten accepts (enough preps inputs₁);
      output = outputs_are modular (dividing modular preps inputs₁) rooms blank unwritten accepts (enough preps inputs₁);
      words = words preps inputs₁;
      compared = comparing circuit inputs₁ inputs₂ accepts refl refl refl refl;
      match_is = refl;
      same_words = words matched inputs₂;
      same_bands =
          left_alike modular (dividing modular matched inputs₂) (dividing modular preps inputs₁) rooms blank unwritten accepts (enough matched inputs₂) accepts
          (enough preps inputs₁) (λ l. band_of modular 2 circuit A l 1) refl;
    }

-- at the operations that the contracts cite
pub overs : Overs ops
overs = subst Overs (sym prime_is_modular) computed
