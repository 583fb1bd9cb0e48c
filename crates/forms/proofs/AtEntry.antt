-- What the reader's entry answers, by the definitions of sheets and refusals: a text that is refused, and a sheet that is read as its circuit.
-- Assumes nothing.
use Prim.Native.Nat.{ℕ, ◌≤◌}
use mathlib.Core.Path.{◌≡◌, refl, sym, ap, ◌∙◌}
use mathlib.Core.List.{List}
use native.Mathlib.Omega.{arith}
use lib.ListN.{length}
use lib.Dec.{leb}
use borrow.Author.Tests.{le-leb}
use Rattle.circuit.specs.Verdict.{Verdict, Accepted, Refused, ask, ◌then◌}
use Rattle.circuit.specs.Gate.{gates}
use Rattle.circuit.specs.Accept.{most_gates, ask_circuit}
use Rattle.circuit.proofs.Verdicts.{ask_yes, then_left, then_right, then_both}
use Rattle.protocol.specs.Ask.{ask_parties}
use Rattle.protocol.specs.Send.{overwrite}
use Rattle.protocol.specs.Entry.{leave}
use Rattle.forms.specs.Form.{Form, print_rows, depth_of_all, gates_in_all, Sheet, circuit_of}
use Rattle.forms.specs.Refusals.{deepest, Decides}
use Rattle.forms.specs.Machine.{Reading, Rows, No, reading}
use Rattle.forms.specs.Entry.{Refusal, Done, answer, ask_shape, rows_in, circuit_in, ask_read, read_answer, read_circuit}
use Rattle.forms.proofs.Exactly.{refused_exactly, accepted_exactly}
use Rattle.forms.proofs.RoundTrip.{answer_done}

module _ (n q top : ℕ) (text : List ℕ) where
  refused_then : (m i : ℕ) (v : Verdict) → ask_parties n ≡ Accepted → reading top text ≡ No m i
      → (ask_parties n then ask_shape (reading top text) then v) ≡ Refused m i
  unfolding ◌then◌ ask_shape
  refused_then m i v p e = rw (p, e)

  -- "Text that breaks the shape .. is 22 .. 23 .. 24. The earliest byte decides and is the index": that is the answer, and nothing is written
  pub text_refused : (m i : ℕ) (circuit : List ℕ) → ask_parties n ≡ Accepted → Decides top text m i
      → (read_answer n q top text (length circuit) ≡ Refusal m i) × (read_circuit n q top text circuit ≡ circuit)
  unfolding read_answer read_circuit ask_read answer leave
  text_refused m i circuit p d =
      let e = refused_then m i (ask_circuit n q (circuit_in top text) then ask 18 0 (leb (length (circuit_in top text)) (length circuit))) p
      ((refused_exactly top text m i).1 d) in
      (rw e, rw e)

  module _ (rows : List Form) (printed : text ≡ print_rows rows) (sheet : Sheet top rows) (low : depth_of_all rows ≤ deepest)
      (few : gates_in_all rows ≤ most_gates) where
    rows_read : reading top text ≡ Rows rows
    rows_read = (accepted_exactly top text rows).1 (sheet, printed, low, few)

    its_circuit : circuit_in top text ≡ circuit_of rows
    unfolding circuit_in rows_in
    its_circuit = ap (λ (r : Reading). circuit_of (rows_in r)) rows_read

    -- "3 to 7 follow on the circuit, then 18": a sheet within depth and count is read as its circuit, where that is accepted and has room
    pub sheet_read_lem : (list : List ℕ) → ask_parties n ≡ Accepted → ask_circuit n q (circuit_of rows) ≡ Accepted → length (circuit_of rows) ≤ length list
        → (read_answer n q top text (length list) ≡ Done (gates (circuit_of rows))) × (read_circuit n q top text list ≡ overwrite (circuit_of rows) list)
    unfolding read_answer read_circuit ask_read answer leave
    sheet_read_lem list p c l =
        let read = circuit_in top text in
        let asked : ask_read n q top text (length list) ≡ Accepted = then_both p (then_both (unfold ask_shape in rw rows_read)
        (then_both (rw its_circuit c) (ask_yes 18 0 (le-leb (length read) (length list) (rw its_circuit l))))) in
        (rw (asked, its_circuit), rw (asked, its_circuit))

  -- what is read is a sheet within depth and count, and its circuit
  pub record ReadSheet (k : ℕ) (list : List ℕ) : Type 0 where
    pub rows : List Form
    pub sheet : Sheet top rows
    pub printed : text ≡ print_rows rows
    pub shallow : depth_of_all rows ≤ deepest
    pub few : gates_in_all rows ≤ most_gates
    pub counted : gates (circuit_of rows) ≡ k
    pub written : read_circuit n q top text list ≡ overwrite (circuit_of rows) list

  pub read_is_sheet : (k : ℕ) (list : List ℕ) → read_answer n q top text (length list) ≡ Done k → ReadSheet k list
  unfolding read_answer read_circuit ask_read leave circuit_in rows_in ask_shape
  read_is_sheet k list e =
      let done = answer_done (ask_read n q top text (length list)) (gates (circuit_in top text)) k e in
      go (reading top text) refl (then_left (ask_shape (reading top text)) _ (then_right (ask_parties n) _ done.0)) done.0 done.1
    where
      go : (r : Reading) → reading top text ≡ r → ask_shape (reading top text) ≡ Accepted → ask_read n q top text (length list) ≡ Accepted
          → gates (circuit_of (rows_in (reading top text))) ≡ k → ReadSheet k list
      go (Rows rows) s a v c =
          let A = (accepted_exactly top text rows).0 s in
          let same : circuit_of (rows_in (reading top text)) ≡ circuit_of rows = ap (λ (r : Reading). circuit_of (rows_in r)) s in
          record {
            rows = rows;
            sheet = A.0;
            printed = A.1;
            shallow = A.2;
            few = A.3;
            counted = ap gates (sym same) ∙ c;
            written = rw v (ap (λ (c : List ℕ). overwrite c list) same);
          }
      go (No m i) s a v c = absurd (refused_not (ap ask_shape (sym s) ∙ a))
        where
          refused_not : ask_shape (No m i) ≡ Accepted → ⊥
          refused_not z = let w : ◌≡◌ {A = ℕ} 0 1 = cc in omega arith
