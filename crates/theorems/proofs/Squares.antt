-- The example with an sq gate, computed.
-- Assumes nothing.
use Prim.Native.Nat.{ℕ, zero, suc, ◌<◌}
use mathlib.Core.Path.{◌≡◌, refl, sym, ap, subst}
use mathlib.Core.List.{List}
use native.Mathlib.Omega.{arith}
use borrow.Author.Tests.{leb-true}
use Rattle.field.specs.Words.{ops}
use Rattle.field.specs.Prime.{modular}
use Rattle.field.specs.Prime.Laws.{prime_is_modular}
use Rattle.circuit.specs.Gate.{gate, gates}
use Rattle.circuit.specs.Kind.{shape}
use Rattle.circuit.specs.Round.{commits_in, check_count}
use Rattle.circuit.proofs.Tests.{false_no}
use Rattle.protocol.specs.Run.{Run, begun, whole}
use Rattle.protocol.specs.Good.{GoodRecord}
use Rattle.protocol.proofs.Computing.{computing}
use Rattle.theorems.specs.Premises.{Accepts, Enough, after}
use Rattle.theorems.specs.Matching.{left_out, add_lists, only, plainly, input_move, value_move, moved, product_move, mask_move, mask_record_move, record_move, prep_move, match, rule}
use Rattle.theorems.specs.Secrecy.{band_of}
use Rattle.theorems.specs.Example.{A, blank, unwritten}
use Rattle.theorems.specs.Squares.{circuit, preps, matched, inputs₁, inputs₂, rooms, squaring, Squares}
use Rattle.theorems.proofs.Known.{hashed}
use Rattle.theorems.proofs.Hashed.{runs, whole_is, answer_is, left_alike, outputs_are, hashing}
use Rattle.theorems.proofs.Docket.{all_below, below}
use Rattle.theorems.proofs.Example.{comparing}

good_records : (j : ℕ) → j < gates circuit → GoodRecord modular 2 circuit preps j (gate circuit j) (shape (gate circuit j)).class
unfolding computing modular
good_records zero l = record { mask = refl; whole = refl }
good_records (suc zero) l = record { mac_a = refl; mac_b = refl; mac_c = refl; product = refl }
good_records (suc (suc zero)) l = λ e. false_no e
good_records (suc (suc (suc j))) l = absurd (omega arith)

accepts : Accepts modular 2 circuit
unfolding computing modular
accepts = record { parties = refl; circuit = refl }

-- The runs have nonces and scratch enough.
enough : (m x : List ℕ) → Enough (squaring modular m x) rooms
unfolding computing check_count commits_in
enough m x = record { nonces = leb-true _ _ refl; room = leb-true _ _ refl }

words : (m x : List ℕ)
    → (whole modular (squaring modular m x) rooms).transcript ≡ (runs hashed modular (squaring modular m x) 15 (begun modular (squaring modular m x) rooms)).transcript
unfolding computing
words m x = ap (λ (R : Run). R.transcript) (whole_is modular (squaring modular m x) rooms accepts (enough m x))

computed : Squares modular
unfolding hashing modular all_below after left_out add_lists only plainly input_move value_move moved product_move mask_move mask_record_move record_move prep_move match rule
computed =
    record {
      good = record { long = refl; elements = below 2147483647 preps tt; records = good_records };
      opened_E = (refl, refl);
      macs_of_E = (refl, refl);
      square = (refl, refl);
      rounds = answer_is modular (squaring modular preps inputs₁) rooms blank unwritten accepts (enough preps inputs₁);
      formula = refl;
      output = outputs_are modular (squaring modular preps inputs₁) rooms blank unwritten accepts (enough preps inputs₁);
      words = words preps inputs₁;
      compared = comparing circuit inputs₁ inputs₂ accepts refl refl refl refl;
      match_is = refl;
      same_words = words matched inputs₂;
      same_bands =
          left_alike modular (squaring modular matched inputs₂) (squaring modular preps inputs₁) rooms blank unwritten accepts (enough matched inputs₂) accepts
          (enough preps inputs₁) (λ l. band_of modular 2 circuit A l 1) refl;
    }

-- at the operations that the contracts cite
pub squares : Squares ops
squares = subst Squares (sym prime_is_modular) computed
