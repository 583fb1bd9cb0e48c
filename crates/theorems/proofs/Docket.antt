-- The definitions give every line of document 01's docket and each of its starred cases: one table, computed. Where marks are made the hash is opened
-- first, as it is shut.
-- Assumes nothing.
use Prim.Native.Nat.{ℕ, zero, suc, ◌<◌}
use mathlib.Core.Path.{◌≡◌, refl, sym, ap, ap₂, subst, ◌∙◌}
use mathlib.Core.Bool.{Bool, true, false, ◌&&◌}
use mathlib.Core.List.{List, [], ◌∷◌, ◌++◌}
use native.Mathlib.Omega.{arith}
use lib.Dec.{T, ltb, eqb, ltb→lt}
use lib.ListN.{length, get_or, set, replicate}
use borrow.Author.Tests.{leb-true}
use Rattle.algebra.specs.Ops.{Ops}
use Rattle.sha256.specs.Sha256.{words_of}
use Rattle.field.specs.Words.{ops}
use Rattle.field.specs.Prime.{modular}
use Rattle.field.specs.Prime.Laws.{prime_is_modular}
use Rattle.circuit.specs.Verdict.{Accepted}
use Rattle.circuit.specs.Gate.{gate, gates}
use Rattle.circuit.specs.Kind.{shape}
use Rattle.circuit.proofs.Tests.{false_no}
use Rattle.circuit.specs.Round.{First, Second, Open, Commit, Reveal, reveal_words, commits_in, check_count}
use Rattle.protocol.specs.Scratch.{layout, band, marks_of}
use Rattle.protocol.specs.Position.{when_sending}
use Rattle.protocol.specs.Party.{Party}
use Rattle.protocol.specs.Send.{revealed, mark, overwrite, sent, holds}
use Rattle.protocol.specs.Receive.{Nobody, weighs, heard_sum, scored}
use Rattle.protocol.specs.Ask.{ask_send, ask_receive}
use Rattle.protocol.specs.Entry.{Abort, leave, send_answer, send_out, concludes, receive_answer, receive_scratch}
use Rattle.protocol.specs.Run.{State, begun}
use Rattle.protocol.specs.Good.{GoodRecord}
use Rattle.protocol.specs.Docket.{Table, circuit, prep₀, prep₁, docket, rooms, nonce, shows, mark₁₀, marks₁, party₀, party₁, sending, receiving, stopped, after₃, after₅, misheard, sealed, misheard_marks, first_reveal}
use Rattle.protocol.proofs.Computing.{computing}
use Rattle.theorems.specs.Premises.{Accepts, Enough, after}
use Rattle.theorems.proofs.Known.{hashed, hash_of}
use Rattle.theorems.proofs.Hashed.{runs, state_is, answer_is, scratch_is, transcript_is, outputs_are, misfits, reveal_is, hashing}

both : (a b : Bool) → T (a && b) → T a × T b
both true b h = (tt, h)
both false b h = absurd h

-- a test of all numbers of a list at once
unfoldable pub all_below : ℕ → List ℕ → Bool
all_below q [] = true
all_below q (x ∷ xs) = ltb x q && all_below q xs

pub below : (q : ℕ) (xs : List ℕ) → T (all_below q xs) → (k : ℕ) → k < length xs → get_or xs k 0 < q
unfolding all_below
below q [] t k l = absurd (omega arith)
below q (x ∷ xs) t zero l = ltb→lt x q (both (ltb x q) (all_below q xs) t).0
below q (x ∷ xs) t (suc k) l = below q xs (both (ltb x q) (all_below q xs) t).1 k (omega arith)

good_records : (j : ℕ) → j < gates circuit → GoodRecord modular 2 circuit (prep₀ ++ prep₁) j (gate circuit j) (shape (gate circuit j)).class
unfolding computing modular
good_records zero l = record { mask = refl; whole = refl }
good_records (suc zero) l = record { mask = refl; whole = refl }
good_records (suc (suc zero)) l = record { mac_a = refl; mac_b = refl; mac_c = refl; product = refl }
good_records (suc (suc (suc zero))) l = λ e. false_no e
good_records (suc (suc (suc (suc j)))) l = absurd (omega arith)

-- The docket is accepted, and has nonces and scratch enough.
pub accepts : Accepts modular 2 circuit
unfolding computing modular
accepts = record { parties = refl; circuit = refl }

pub enough : (x : ℕ) → Enough docket (replicate 76 x)
unfolding computing check_count commits_in
enough x = record { nonces = leb-true _ _ refl; room = leb-true _ _ refl }

-- the lists that a call writes to
abbrev blank : List ℕ
blank = replicate 78 0

abbrev unwritten : List ℕ
unwritten = 0 ∷ []

-- the state after the first check
abbrev checked : State
checked = (runs hashed modular docket 5 (begun modular docket rooms)).last

checked_is : after₅ modular ≡ checked
unfolding computing modular commits_in after
checked_is = state_is modular docket rooms accepts (enough 9) 5

-- a seat's scratch once it heard the show word 14
abbrev heard_14 : Party → ℕ → List ℕ
heard_14 P i = receive_scratch modular P (checked.scratch i) (receiving Open 0) (17 ∷ 14 ∷ [])

misheard_is : (P : Party) (i : ℕ) → misheard modular P i ≡ heard_14 P i
unfolding misheard
misheard_is P i = ap (λ (s : State). receive_scratch modular P (s.scratch i) (receiving Open 0) (17 ∷ 14 ∷ [])) checked_is

-- The words of a commitment that is not refused.
commit_out : (O : Ops) (P : Party) (l co out : List ℕ) → ask_send O.size P l (sending (Commit Second) 0) co nonce (length out) ≡ Accepted
    → send_out O P l (sending (Commit Second) 0) co nonce out ≡ overwrite (hashed (revealed (holds O P l 3 (Commit Second) co) (words_of nonce))) out
unfolding send_out leave when_sending sent mark
commit_out O P l co out ok = rw ok (ap (λ (ws : List ℕ). overwrite ws out) (hash_of _))

sent_5 : send_out modular party₀ (misheard modular party₀ 0) (sending (Commit Second) 0) (5 ∷ []) nonce (replicate 8 0) ≡ hashed (shows 5)
unfolding hashing modular
sent_5 =
    ap (λ (l : List ℕ). send_out modular party₀ l (sending (Commit Second) 0) (5 ∷ []) nonce (replicate 8 0)) (misheard_is party₀ 0)
    ∙ commit_out modular party₀ (heard_14 party₀ 0) (5 ∷ []) (replicate 8 0) refl

sent_40 : send_out modular party₁ (misheard modular party₁ 1) (sending (Commit Second) 0) (5 ∷ []) nonce (replicate 8 0) ≡ hashed (shows 2147483607)
unfolding hashing modular
sent_40 =
    ap (λ (l : List ℕ). send_out modular party₁ l (sending (Commit Second) 0) (5 ∷ []) nonce (replicate 8 0)) (misheard_is party₁ 1)
    ∙ commit_out modular party₁ (heard_14 party₁ 1) (5 ∷ []) (replicate 8 0) refl

misheard_marks_lem : misheard_marks modular ≡ hashed (shows 5) ++ hashed (shows 2147483607)
unfolding misheard_marks
misheard_marks_lem = ap₂ {C = List ℕ} (λ (x y : List ℕ). x ++ y) sent_5 sent_40

-- What seat 0 is answered at the second reveal then, and seat 1.
stops₀ : receive_answer modular party₀ (sealed modular party₀ (misheard modular party₀ 0) Second (5 ∷ []) 5 (misheard_marks modular)) (receiving (Reveal Second) 0)
    (shows 5 ++ shows 2147483607)
    ≡ Abort Nobody stopped
unfolding hashing modular sealed
stops₀ =
    ap₂
    (λ (l ms : List ℕ). receive_answer modular party₀ (sealed modular party₀ l Second (5 ∷ []) 5 ms) (receiving (Reveal Second) 0) (shows 5 ++ shows 2147483607))
    (misheard_is party₀ 0) misheard_marks_lem
    ∙ reveal_is modular party₀ (sealed modular party₀ (heard_14 party₀ 0) Second (5 ∷ []) 5 (hashed (shows 5) ++ hashed (shows 2147483607))) 3 0 Second
    (shows 5 ++ shows 2147483607) refl

stops₁ : receive_answer modular party₁ (sealed modular party₁ (misheard modular party₁ 1) Second (5 ∷ []) 2147483607 (misheard_marks modular)) (receiving (Reveal Second) 0)
    (shows 5 ++ shows 2147483607)
    ≡ Abort Nobody stopped
unfolding hashing modular sealed
stops₁ =
    ap₂
    (λ (l ms : List ℕ). receive_answer modular party₁ (sealed modular party₁ l Second (5 ∷ []) 2147483607 ms) (receiving (Reveal Second) 0) (shows 5 ++ shows 2147483607))
    (misheard_is party₁ 1) misheard_marks_lem
    ∙ reveal_is modular party₁ (sealed modular party₁ (heard_14 party₁ 1) Second (5 ∷ []) 2147483607 (hashed (shows 5) ++ hashed (shows 2147483607))) 3 0 Second
    (shows 5 ++ shows 2147483607) refl

-- What seat 0 is answered at the first reveal, where no question refuses.
first_reveal_lem : (marks heard : List ℕ)
    → ask_receive modular.size party₀ (sealed modular party₀ ((after₃ modular).scratch 0) First (1 ∷ 2 ∷ []) 10 marks) (receiving (Reveal First) 0) heard ≡ Accepted
    → first_reveal modular marks heard
    ≡ concludes modular party₀ (scored modular party₀ (sealed modular party₀ ((after₃ modular).scratch 0) First (1 ∷ 2 ∷ []) 10 marks) 3) 3 0 (Reveal First)
    (weighs (misfits hashed 2 (marks_of 2 (layout circuit) (sealed modular party₀ ((after₃ modular).scratch 0) First (1 ∷ 2 ∷ []) 10 marks)) heard)
    (eqb (heard_sum modular 2 reveal_words 0 heard) 0))
unfolding first_reveal
first_reveal_lem marks heard ok = reveal_is modular party₀ _ 3 0 First heard ok

-- Seat 1's mark of 77.
with_77 : (heard : List ℕ) → first_reveal modular (mark₁₀ ++ mark (shows 77)) heard ≡ first_reveal modular (mark₁₀ ++ hashed (shows 77)) heard
unfolding mark
with_77 heard = ap (λ (m : List ℕ). first_reveal modular (mark₁₀ ++ m) heard) (hash_of (shows 77))

computed : Table modular
unfolding hashing modular all_below sealed
computed =
    record {
      transcript = transcript_is modular docket rooms blank unwritten accepts (enough 9);
      output = outputs_are modular docket rooms blank unwritten accepts (enough 9);
      rounds = answer_is modular docket rooms blank unwritten accepts (enough 9);
      formula = refl;
      band_after = ap (λ (l : List ℕ). band 38 l 0) (scratch_is modular docket (replicate 76 0) blank unwritten accepts (enough 0));
      plain = refl;
      key_is = refl;
      good =
          record {
            long = refl;
            elements = below 2147483647 (prep₀ ++ prep₁) tt;
            records = good_records;
          };
      value_0 = (refl, refl);
      value_1 = (refl, refl);
      opened_E = (refl, refl, refl, refl);
      opened_D = (refl, refl, refl, refl);
      value_2 = (refl, refl);
      check_words = (refl, refl);
      misheard_check = (
        ap (λ (l : List ℕ). send_answer modular party₀ l (sending (Commit Second) 0) (5 ∷ []) nonce 8) (misheard_is party₀ 0),
        ap (λ (l : List ℕ). send_answer modular party₁ l (sending (Commit Second) 0) (5 ∷ []) nonce 8) (misheard_is party₁ 1),
      );
      misheard_stops = (stops₀, stops₁);
      unaltered = first_reveal_lem marks₁ (shows 10 ++ shows 2147483637) refl;
      other_mark = first_reveal_lem (set marks₁ 0 272533301) (shows 10 ++ shows 2147483637) refl;
      other_nonce = first_reveal_lem marks₁ (shows 10 ++ set (shows 2147483637) 1 1) refl;
      cancels = with_77 (shows 10 ++ shows 2147483637) ∙ first_reveal_lem (mark₁₀ ++ hashed (shows 77)) (shows 10 ++ shows 2147483637) refl;
      keeps_to_it = with_77 (shows 10 ++ shows 77) ∙ first_reveal_lem (mark₁₀ ++ hashed (shows 77)) (shows 10 ++ shows 77) refl;
      two_coefficients = refl;
      one_coefficient = refl;
      three_coefficients = refl;
      short_nonce = refl;
      idle_nonce = refl;
      eight = refl;
      nine = refl;
      largest = refl;
      too_large = refl;
      names_itself = refl;
      names_earlier = refl;
      longest = refl;
      too_long = refl;
    }

-- the starred cases, at the operations that the contracts cite
pub docket_table : Table ops
docket_table = subst Table (sym prime_is_modular) computed
