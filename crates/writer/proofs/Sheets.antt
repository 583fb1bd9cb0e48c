-- The rows of a circuit one after another: that they are put, and handed over; what the writer answers.
-- Assumes nothing.
use Prim.Native.Nat.{ℕ, ◌+◌, ◌*◌, ◌/◌, ◌≤◌, ◌<◌}
use mathlib.Core.Path.{◌≡◌, refl, sym, ◌∙◌}
use mathlib.Core.List.{List, ◌++◌}
use native.Mathlib.Numerals.{add-one}
use native.Mathlib.Omega.{arith}
use lib.Dec.{leb}
use lib.ListN.{length, take, length-append}
use borrow.Author.Tests.{le-leb}
use Rattle.field.specs.Words.{size}
use Rattle.circuit.specs.Gate.{gate_size, gates}
use Rattle.circuit.specs.Accept.{most_gates, ask_circuit}
use Rattle.circuit.specs.Verdict.{Accepted, Refused, ask, ◌then◌}
use Rattle.circuit.specs.Valid.{Valid}
use Rattle.circuit.proofs.Valid.{valid}
use Rattle.circuit.proofs.Verdicts.{ask_yes, then_right, then_refused, then_passed, asked_last}
use Rattle.circuit.proofs.Loops.{then_assoc}
use Rattle.protocol.specs.Ask.{ask_parties}
use Rattle.protocol.specs.Send.{overwrite}
use Rattle.protocol.specs.Entry.{leave}
use Rattle.forms.specs.Form.{Form, print_rows}
use Rattle.forms.specs.Entry as E
use Rattle.forms.specs.Entry.{answer, row_of, rows_up_to, rows_of, sheet_of, ask_write, write_answer, write_text}
use Rattle.forms.proofs.Lengths.{print_more}
use Rattle.forms.specs.Code.{answer_of}
use Rattle.std.specs.Prelude.{Result, Ok, Err}
use Rattle.circuit.specs.Question.{number_of, verdict_of}
use Rattle.circuit.specs.declared.questions.Refusal.{Refusal}
use Rattle.writer.specs.Code.{Put, row_text, row_room, ask_room, Handed}
use Rattle.writer.proofs.Putting.{over_nothing, put_next, put_front, over_start}

-- the sheet of the first k gates
abbrev pub up_to : List ℕ → ℕ → List ℕ
up_to c k = print_rows (rows_up_to c k)

row_more : (c : List ℕ) (j : ℕ) → up_to c (j + 1) ≡ up_to c j ++ row_text (row_of c j)
unfolding row_text
row_more c j = rw add-one (print_more c j)

-- put -------------------------------------------------------------------------------------------------------------------

-- the first j gates are put over a text, as far as place at
pub record Rowed (c : List ℕ) (count : ℕ) (before text : List ℕ) (j at : ℕ) : Type 0 where
  pub upto : j ≤ count
  pub few : at ≤ row_room * j
  pub long : length text ≡ length before
  pub put : Put before text 0 at (up_to c j)

module _ (c : List ℕ) (count : ℕ) (before : List ℕ) where
  pub rowed_none : Rowed c count before before 0 0
  unfolding print_rows rows_up_to
  rowed_none = record {
    upto = omega arith;
    few = omega arith;
    long = refl;
    put = record { ends = refl; holds = sym (over_nothing before 0) };
  }

  module _ (fits : row_room * count ≤ length before) {text : List ℕ} {j at : ℕ} (s : Rowed c count before text j at) (h : j < count) (f : Form)
      (e : f ≡ row_of c j) (l : length (row_text f) ≤ row_room) where
    pub rowed_fits : at + length (row_text f) ≤ length text
    rowed_fits = omega (arith, s.few, s.long)

    all_fits : 0 + length (up_to c j ++ row_text f) ≤ length before
    all_fits = omega (arith, length-append (up_to c j) (row_text f), s.put.ends, s.few)

    pub rowed_more : {later : List ℕ} {to : ℕ} → length later ≡ length text → Put text later at to (row_text f)
        → Rowed c count before later (j + 1) to
    rowed_more {later} {to} m q = record {
      upto = omega arith;
      few = omega (arith, s.few, q.ends);
      long = m ∙ s.long;
      put = rw (row_more c j, sym e) (put_next (up_to c j) (row_text f) all_fits s.put q);
    }

  pub rowed_all : {text : List ℕ} {j at : ℕ} → Rowed c count before text j at → count ≤ j → Put before text 0 at (up_to c count) ×
      (at ≤ row_room * count)
  rowed_all {text} {j} s h = let e : j ≡ count = omega (arith, s.upto) in rw (sym e) (s.put, s.few)

-- handed over -----------------------------------------------------------------------------------------------------------

module _ (c : List ℕ) (k : ℕ) (text : List ℕ) where
  whole : {later : List ℕ} {count : ℕ} → count ≡ length (up_to c k) → count ≤ length text → later ≡ overwrite (up_to c k) text
      → Handed c k text later (Ok count)
  unfolding ask_room answer leave
  whole e h w =
      let r = ask_yes 18 0 (le-leb (length (up_to c k)) (length text) (omega (arith, e))) in
      record { answers = rw (r, e); leaves = rw r w }

  -- the rows were put over a list
  module _ {own sheet : List ℕ} {count : ℕ} (s : Put own sheet 0 count (up_to c k)) where
    rows_size : count ≡ length (up_to c k)
    rows_size = omega (arith, s.ends)

    pub short_handed : {A : Type 0} {v : Result A Refusal} {e : Refusal} {r : Result ℕ Refusal} → verdict_of v ≡ ask 18 0 (leb count (length text)) → v ≡ Err e
        → r ≡ Err e → Handed c k text text r
    unfolding ask_room answer leave
    short_handed {A} {v} {e} a h q =
        let s : Refused (number_of e.question) e.index ≡ ask 18 0 (leb (length (up_to c k)) (length text)) = rw (← rows_size) (rw (← a) (rw h)) in
        record { answers = rw (q, ← s); leaves = rw (← s) }

    pub rows_handed : count ≤ length text → {later : List ℕ} {to : ℕ} → Put text later 0 to (take count sheet)
        → Handed c k text later (Ok count)
    rows_handed h p = whole rows_size h (p.holds ∙ rw (put_front s) (over_start text (up_to c k)))

  -- or over the text itself
  pub rows_put : {later : List ℕ} {count : ℕ} → Put text later 0 count (up_to c k) → count ≤ length text → Handed c k text later (Ok count)
  rows_put s h = whole (rows_size s) h (s.holds ∙ over_start text (up_to c k))

-- answered --------------------------------------------------------------------------------------------------------------

-- what the writer answers, and what the list for the text holds then
abbrev pub Written : ℕ → List ℕ → List ℕ → E.Answer → List ℕ → Type 0
Written n c text a later = (a ≡ write_answer n size c (length text)) × (later ≡ write_text n size c text)

-- questions 1 and 3 to 7, and then 18
asks : (n : ℕ) (c : List ℕ) (room : ℕ) → ask_write n size c room ≡ ((ask_parties n then ask_circuit n size c) then ask 18 0 (leb (length (sheet_of c)) room))
unfolding ask_write
asks n c room = sym (then_assoc (ask_parties n) (ask_circuit n size c) (ask 18 0 (leb (length (sheet_of c)) room)))

module _ (n : ℕ) (c text : List ℕ) {A : Type 0} {v : Result A Refusal} where
  pub setting_refused : {e : Refusal} {r : Result ℕ Refusal} → verdict_of v ≡ (ask_parties n then ask_circuit n size c) → v ≡ Err e → r ≡ Err e
      → Written n c text (answer_of r) text
  unfolding write_answer write_text answer leave
  setting_refused {e} a h q =
      let s : (ask_parties n then ask_circuit n size c) ≡ Refused (number_of e.question) e.index = sym a ∙ rw h in
      let r = asks n c (length text) ∙ then_refused (ask 18 0 (leb (length (sheet_of c)) (length text))) s in
      (rw (q, r), rw r)

  module _ {a : A} (told : verdict_of v ≡ (ask_parties n then ask_circuit n size c)) (h : v ≡ Ok a) where
    e : Accepted ≡ (ask_parties n then ask_circuit n size c)
    e = asked_last told h

    accepted : Valid n size c
    accepted = valid n size c (then_right (ask_parties n) (ask_circuit n size c) (sym e))

    pub gates_fit : gate_size * (length c / gate_size) ≤ length c
    gates_fit = omega arith

    pub gates_few : length c / gate_size ≤ most_gates
    unfolding gates
    gates_few = accepted.few

    asked : ask_write n size c (length text) ≡ ask_room c (length c / gate_size) (length text)
    unfolding ask_room sheet_of rows_of gates
    asked = asks n c (length text) ∙ then_passed (ask 18 0 (leb (length (sheet_of c)) (length text))) (sym e)

    pub handed_written : (r : Result ℕ Refusal) {later : List ℕ} → Handed c (length c / gate_size) text later r → Written n c text (answer_of r) later
    unfolding write_answer write_text sheet_of rows_of gates
    handed_written r h = (rw asked h.answers, rw asked h.leaves)
