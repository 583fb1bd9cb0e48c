-- "The writer uses only (line J) for operands, and its sheet reads back as the same circuit."
-- Assumes nothing.
use Prim.Native.Nat.{ℕ, suc, ◌≤◌}
use mathlib.Core.Path.{◌≡◌, refl, ap, ◌∙◌}
use mathlib.Core.Logic.{◌↔◌}
use mathlib.Core.List.{List}
use native.Mathlib.Omega.{arith}
use lib.ListN.{length, take, drop}
use lib.Seq.{take_at}
use lib.Dec.{leb}
use borrow.Author.Tests.{leb-true, le-leb}
use Rattle.circuit.specs.Verdict.{Verdict, Accepted, Refused, ask}
use Rattle.circuit.specs.Gate.{gates}
use Rattle.circuit.specs.Accept.{ask_circuit}
use Rattle.circuit.specs.Valid.{Valid}
use Rattle.circuit.proofs.Tests.{both_right}
use Rattle.circuit.proofs.Verdicts.{ask_true, ask_yes, then_left, then_right, then_both}
use Rattle.circuit.proofs.Valid.{valid}
use Rattle.protocol.specs.Ask.{fewest_parties, most_parties, ask_parties}
use Rattle.protocol.specs.Send.{overwrite}
use Rattle.protocol.specs.Entry.{leave}
use Rattle.forms.specs.Form.{print_rows, circuit_of}
use Rattle.forms.specs.Machine.{Reading, Rows, reading}
use Rattle.forms.specs.Entry.{
  Done,
  answer,
  ask_shape,
  rows_in,
  circuit_in,
  ask_read,
  read_answer,
  read_circuit,
  rows_of,
  sheet_of,
  ask_write,
  write_answer,
  write_text,
}
use Rattle.forms.proofs.Exactly.{accepted_exactly}
use Rattle.forms.proofs.Written.{rows_sheet, rows_low, rows_few, circuit_back}

-- an entry that is done was accepted
pub answer_done : (v : Verdict) (m k : ℕ) → answer v m ≡ Done k → (v ≡ Accepted) × (m ≡ k)
unfolding answer
answer_done Accepted m k e = (refl, cc)
answer_done (Refused number index) m k e = let z : ◌≡◌ {A = ℕ} 0 1 = cc in absurd (omega arith)

written_is : (v : Verdict) (ws text : List ℕ) (k : ℕ) → v ≡ Accepted → length ws ≡ k → take k (leave v (overwrite ws text) text) ≡ ws
unfolding leave overwrite
written_is v ws text k e l = rw e (take_at ws (drop (length ws) text) k l)

module _ (n q top : ℕ) (c : List ℕ) (v : Valid n q c) (parties-fit : n ≤ suc top) (elements-fit : q ≤ suc top) where
  pub reads_back : reading top (sheet_of c) ≡ Rows (rows_of c)
  unfolding sheet_of
  reads_back =
      (accepted_exactly top (print_rows (rows_of c)) (rows_of c)).1 (
        rows_sheet n q top c v parties-fit elements-fit,
        refl,
        rows_low n q top c v parties-fit elements-fit,
        rows_few n q top c v parties-fit elements-fit,
      )

  pub circuit_in_lem : circuit_in top (sheet_of c) ≡ c
  unfolding circuit_in rows_in
  circuit_in_lem =
      ap (λ (r : Reading). circuit_of (rows_in r)) reads_back ∙ circuit_back n q top c v parties-fit elements-fit

-- the sheet of a circuit ------------------------------------------------------------------------------------------------

-- every number of parties, and every element, is a number that a sheet may have
module _ (n q top : ℕ) (c : List ℕ) (parties-fit : most_parties ≤ suc top) (elements-fit : q ≤ suc top) where
  fitting : ask_parties n ≡ Accepted → n ≤ suc top
  unfolding ask_parties
  fitting e =
      omega (arith, parties-fit, leb-true n most_parties (both_right (leb fewest_parties n) (leb n most_parties) (ask_true 1 0 _ e)))

  module _ (parties : ask_parties n ≡ Accepted) (circuit : ask_circuit n q c ≡ Accepted) where
    same_rows : reading top (sheet_of c) ≡ Rows (rows_of c)
    same_rows = reads_back n q top c (valid n q c circuit) (fitting parties) elements-fit

    same_circuit : circuit_in top (sheet_of c) ≡ c
    same_circuit = circuit_in_lem n q top c (valid n q c circuit) (fitting parties) elements-fit

    -- it is accepted just where the list has room for the circuit
    pub accepted_back : (room : ℕ) → (ask_read n q top (sheet_of c) room ≡ Accepted) ↔ (length c ≤ room)
    unfolding ask_read
    accepted_back room =
        let text = sheet_of c in
        let read = circuit_in top text in
        let last = ask 18 0 (leb (length read) room) in (
          λ e. rw same_circuit at (leb-true (length read) room (ask_true 18 0 _
              (then_right (ask_circuit n q read) last (then_right (ask_shape (reading top text)) _ (then_right (ask_parties n) _ e))))),
          λ l. then_both parties
              (then_both (unfold ask_shape in rw same_rows)
              (then_both (rw same_circuit circuit) (ask_yes 18 0 (le-leb (length read) room (rw same_circuit l))))),
        )

    pub answered_back : (room : ℕ) → length c ≤ room → read_answer n q top (sheet_of c) room ≡ Done (gates c)
    unfolding read_answer answer
    answered_back room l = rw ((accepted_back room).1 l, same_circuit)

    pub round_trip : (list : List ℕ) → length c ≤ length list → read_circuit n q top (sheet_of c) list ≡ overwrite c list
    unfolding read_circuit leave
    round_trip list l = rw ((accepted_back (length list)).1 l, same_circuit)

  -- the two entries one after the other: what is written is read
  pub writer_then_reader : (text list : List ℕ) (k : ℕ) → write_answer n q c (length text) ≡ Done k → length c ≤ length list
      → (read_answer n q top (take k (write_text n q c text)) (length list) ≡ Done (gates c))
      × (read_circuit n q top (take k (write_text n q c text)) list ≡ overwrite c list)
  unfolding write_answer write_text ask_write
  writer_then_reader text list k e l =
      let asked = answer_done (ask_write n q c (length text)) (length (sheet_of c)) k e in
      let accepted = asked.0 in
      let parties : ask_parties n ≡ Accepted = then_left (ask_parties n) _ accepted in
      let circuit : ask_circuit n q c ≡ Accepted = then_left (ask_circuit n q c) _ (then_right (ask_parties n) _ accepted) in
      let written : take k (write_text n q c text) ≡ sheet_of c = written_is (ask_write n q c (length text)) (sheet_of c) text k accepted asked.1 in (
        rw written (answered_back parties circuit (length list) l),
        rw written (round_trip parties circuit list l),
      )
