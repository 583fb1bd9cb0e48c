-- The entry: a refusal leaves the list as it was, and a circuit that was read is asked the rest and handed over.
-- Assumes nothing.
use Prim.Native.Nat.{ℕ, ◌*◌, ◌/◌}
use mathlib.Core.Path.{◌≡◌}
use mathlib.Core.List.{List}
use lib.ListN.{length, take}
use lib.Dec.{leb}
use Rattle.std.specs.Prelude.{Result, Ok, Err}
use Rattle.std.specs.Result.{IsErrAnd}
use Rattle.circuit.specs.Question.{number_of}
use Rattle.circuit.specs.declared.questions.Refusal.{Refusal}
use Rattle.circuit.specs.Verdict.{Accepted, Refused, ask, ◌then◌}
use Rattle.circuit.specs.Gate.{gate_size, gates}
use Rattle.circuit.specs.Accept.{ask_circuit}
use Rattle.protocol.specs.Send.{overwrite}
use Rattle.protocol.specs.Ask.{ask_parties}
use Rattle.protocol.specs.Entry.{leave}
use Rattle.field.specs.Words.{size, largest}
use Rattle.forms.specs.Machine.{reading, No}
use Rattle.forms.specs.Entry.{answer, ask_shape, rows_in, circuit_in, ask_read, read_answer, read_circuit}
use Rattle.forms.specs.Code.{answer_of}
use Rattle.reader.specs.Code.{RowsRead, ask_settled, Settled}

-- the rest of the questions ---------------------------------------------------------------------------------------------

module _ (n : ℕ) (c before : List ℕ) where
  pub settled_refused : (r : Result ℕ Refusal) (e : Refusal) → IsErrAnd r (λ y. y ≡ e) → Refused (number_of e.question) e.index ≡ ask_circuit n size c
      → Settled n c before before r
  unfolding ask_settled ◌then◌ answer leave
  settled_refused (Ok count) e d h = absurd d
  settled_refused (Err y) e d h = rw d (record { answers = rw (← h); leaves = rw (← h) })

  module _ (a : Accepted ≡ ask_circuit n size c) where
    pub settled_full : (r : Result ℕ Refusal) (e : Refusal) → IsErrAnd r (λ y. y ≡ e)
        → Refused (number_of e.question) e.index ≡ ask 18 0 (leb (length c) (length before)) → Settled n c before before r
    unfolding ask_settled ◌then◌ answer leave
    settled_full (Ok count) e d h = absurd d
    settled_full (Err y) e d h = rw d (record { answers = rw (← a, ← h); leaves = rw (← a, ← h) })

    pub settled_done : {later : List ℕ} → Accepted ≡ ask 18 0 (leb (length c) (length before)) → later ≡ overwrite c before
        → Settled n c before later (Ok (length c / gate_size))
    unfolding ask_settled ◌then◌ answer leave gates
    settled_done h o = record { answers = rw (← a, ← h); leaves = rw (← a, ← h) o }

-- all questions ---------------------------------------------------------------------------------------------------------

module _ (n : ℕ) (text before : List ℕ) where
  -- what the entry promises
  abbrev pub Entered : List ℕ → Result ℕ Refusal → Type 0
  Entered later r =
      (answer_of r ≡ read_answer n size largest text (length before)) × (later ≡ read_circuit n size largest text before)

  pub entered_refused : (r : Result ℕ Refusal) (e : Refusal) → IsErrAnd r (λ y. y ≡ e) → Refused (number_of e.question) e.index ≡ ask_parties n
      → Entered before r
  unfolding read_answer read_circuit ask_read ◌then◌ answer leave
  entered_refused (Ok count) e d h = absurd d
  entered_refused (Err y) e d h = rw d (rw (← h), rw (← h))

  module _ (a : Accepted ≡ ask_parties n) where
    pub entered_no : (r : Result ℕ Refusal) (e : Refusal) → IsErrAnd r (λ y. y ≡ e) → reading largest text ≡ No (number_of e.question) e.index
        → Entered before r
    unfolding read_answer read_circuit ask_read ask_shape ◌then◌ answer leave
    entered_no (Ok count) e d h = absurd d
    entered_no (Err y) e d h = rw d (rw (← a, h), rw (← a, h))

    pub entered_settled : {lines later : List ℕ} {count : ℕ} (r : Result ℕ Refusal) → RowsRead text lines count
        → Settled n (take (gate_size * count) lines) before later r → Entered later r
    unfolding read_answer read_circuit ask_read ask_shape circuit_in rows_in ask_settled ◌then◌
    entered_settled r d s = (rw (← a, d.reads, ← d.written) s.answers, rw (← a, d.reads, ← d.written) s.leaves)
