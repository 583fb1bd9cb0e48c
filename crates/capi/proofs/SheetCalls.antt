-- The calls that read and write sheets: one whose answer has room does what its entry does. Lent no list, the reader and the writer are refused last,
-- as a call whose answer has no room.
-- Assumes nothing.
use Prim.Native.Nat.{ℕ, suc, ◌-◌, ◌<◌}
use mathlib.Core.Path.{◌≡◌, refl, ◌∙◌}
use mathlib.Core.List.{List, []}
use native.Mathlib.Omega.{arith}
use lib.ListN.{length, length-append}
use lib.Dec.{leb}
use borrow.Author.Tests.{lt-leb}
use Rattle.std.specs.Prelude.{Result, Ok, Err}
use Rattle.field.specs.Words.{size, largest}
use Rattle.circuit.specs.Verdict.{Verdict, Accepted, Refused, ◌then◌}
use Rattle.circuit.specs.Gate.{gates}
use Rattle.circuit.specs.Accept.{ask_circuit}
use Rattle.circuit.specs.Question.{verdict_of}
use Rattle.circuit.specs.declared.questions.Refusal as code
use Rattle.circuit.proofs.Valid.{valid}
use Rattle.circuit.proofs.Verdicts.{then_right}
use Rattle.circuit.proofs.Loops.{then_assoc}
use Rattle.protocol.specs.Ask.{ask_parties}
use Rattle.protocol.specs.Send.{overwrite}
use Rattle.protocol.specs.Entry.{leave}
use Rattle.forms.specs.Form.{print_rows, print}
use Rattle.forms.specs.Machine.{reading}
use Rattle.forms.specs.Entry.{
  Answer,
  Refusal,
  Done,
  answer,
  ask_shape,
  circuit_in,
  ask_read,
  read_answer,
  read_circuit,
  rows_up_to,
  row_of,
  rows_of,
  sheet_of,
  ask_write,
  write_answer,
  write_text,
}
use Rattle.forms.specs.Code.{answer_of}
use Rattle.forms.proofs.Lengths.{print_more}
use Rattle.capi.specs.Calls.{room_question}
use Rattle.capi.specs.Sheets.{sheet_read, sheet_written, sheet_numbers, sheet_verdict}
use Rattle.capi.proofs.Calling.{leave_again, kept, last_refused}

-- a refusal writes no answer
sheet_left : (kind : ℕ) (a : Answer) (xs : List ℕ)
    → leave (sheet_verdict a) (overwrite (sheet_numbers kind a) xs) xs ≡ overwrite (sheet_numbers kind a) xs
unfolding leave sheet_verdict sheet_numbers overwrite
sheet_left kind (Refusal number index) xs = refl
sheet_left kind (Done count) xs = refl

-- what is asked of the code's answer is asked of what it stands for
sheet_said : (a : Result ℕ code.Refusal) → verdict_of a ≡ sheet_verdict (answer_of a)
unfolding sheet_verdict
sheet_said (Ok count) = refl
sheet_said (Err r) = refl

pub sheet_told : (a : Result ℕ code.Refusal) {b : Answer} {v : Verdict} → answer_of a ≡ b → sheet_verdict b ≡ v → verdict_of a ≡ v
sheet_told a e h = sheet_said a ∙ rw e h

-- the verdict of an answer is that of its entry's questions
told : (v : Verdict) (count : ℕ) → sheet_verdict (answer v count) ≡ v
unfolding answer sheet_verdict
told Accepted count = refl
told (Refused number index) count = refl

-- a circuit that is accepted has gates, and so has its sheet bytes
some_gates : (n : ℕ) (c : List ℕ) → ask_circuit n size c ≡ Accepted → 0 < length c
some_gates n c e = let v = valid n size c e in omega (arith, v.whole, v.two)

some_bytes : (n : ℕ) (c : List ℕ) → ask_circuit n size c ≡ Accepted → 0 < length (sheet_of c)
unfolding sheet_of rows_of
some_bytes n c e =
    let v = valid n size c e in
    let last : suc (gates c - 1) ≡ gates c = omega (arith, v.two) in
    rw (← last, print_more c (gates c - 1), length-append (print_rows (rows_up_to c (gates c - 1))), length-append (print (row_of c (gates c - 1)))) (omega arith)

module _ (n : ℕ) (text : List ℕ) where
  pub read_verdict : (room : ℕ) → sheet_verdict (read_answer n size largest text room) ≡ ask_read n size largest text room
  unfolding read_answer
  read_verdict room = told (ask_read n size largest text room) _

  pub read_left : (room : ℕ) (xs : List ℕ)
      → leave (ask_read n size largest text room) (overwrite (sheet_numbers sheet_read (read_answer n size largest text room)) xs) xs
      ≡ overwrite (sheet_numbers sheet_read (read_answer n size largest text room)) xs
  read_left room xs = rw (← read_verdict room) (sheet_left sheet_read (read_answer n size largest text room) xs)

  pub circuit_left : (circuit : List ℕ)
      → leave (ask_read n size largest text (length circuit)) (read_circuit n size largest text circuit) circuit ≡ read_circuit n size largest text circuit
  unfolding read_circuit
  circuit_left circuit = leave_again (ask_read n size largest text (length circuit)) _ circuit

  pub no_circuit : (room : ℕ) → ask_read n size largest text 0 ≡ (ask_read n size largest text room then Refused room_question 0)
  unfolding ask_read
  no_circuit room =
      let c = circuit_in largest text in
      last_refused (ask_parties n then ask_shape (reading largest text) then ask_circuit n size c) (leb (length c) 0) (leb (length c) room)
      (λ e. lt-leb (length c) 0 (some_gates n c (then_right _ _ (then_right _ _ e)))) (simp then_assoc) (simp then_assoc)

  pub circuit_kept : read_circuit n size largest text [] ≡ []
  unfolding read_circuit
  circuit_kept = rw (no_circuit 0) (kept (ask_read n size largest text 0) room_question 0 _ [])

module _ (n : ℕ) (c : List ℕ) where
  pub write_verdict : (room : ℕ) → sheet_verdict (write_answer n size c room) ≡ ask_write n size c room
  unfolding write_answer
  write_verdict room = told (ask_write n size c room) _

  pub write_left : (room : ℕ) (xs : List ℕ)
      → leave (ask_write n size c room) (overwrite (sheet_numbers sheet_written (write_answer n size c room)) xs) xs
      ≡ overwrite (sheet_numbers sheet_written (write_answer n size c room)) xs
  write_left room xs = rw (← write_verdict room) (sheet_left sheet_written (write_answer n size c room) xs)

  pub text_left : (text : List ℕ) → leave (ask_write n size c (length text)) (write_text n size c text) text ≡ write_text n size c text
  unfolding write_text
  text_left text = leave_again (ask_write n size c (length text)) _ text

  pub no_text : (room : ℕ) → ask_write n size c 0 ≡ (ask_write n size c room then Refused room_question 0)
  unfolding ask_write
  no_text room =
      let bytes = length (sheet_of c) in
      last_refused (ask_parties n then ask_circuit n size c) (leb bytes 0) (leb bytes room)
      (λ e. lt-leb bytes 0 (some_bytes n c (then_right _ _ e))) (simp then_assoc) (simp then_assoc)

  pub text_kept : write_text n size c [] ≡ []
  unfolding write_text
  text_kept = rw (no_text 0) (kept (ask_write n size c 0) room_question 0 _ [])
