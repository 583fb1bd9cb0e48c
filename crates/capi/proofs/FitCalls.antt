-- The call that asks whether a circuit fits: one whose answer has room does what its entry does. Lent no list for the intervals, the entry is refused last,
-- as a call whose answer has no room.
-- Assumes nothing.
use Prim.Native.Nat.{ℕ, zero, suc, ◌*◌, ◌<◌}
use mathlib.Core.Path.{◌≡◌, refl, ◌∙◌}
use mathlib.Core.Bool.{Bool, true, false, cond, ◌&&◌}
use mathlib.Core.List.{List, []}
use native.Mathlib.Omega.{arith}
use lib.ListN.{length}
use lib.Dec.{leb}
use borrow.Author.Tests.{lt-leb}
use Rattle.std.specs.Prelude.{Option, None, Some, Result, Ok, Err}
use Rattle.field.specs.Words.{size}
use Rattle.circuit.specs.Verdict.{Verdict, Accepted, Refused, ◌then◌}
use Rattle.circuit.specs.Gate.{gates}
use Rattle.circuit.specs.Count.{out_count}
use Rattle.circuit.specs.Accept.{ask_circuit}
use Rattle.circuit.specs.Question.{verdict_of}
use Rattle.circuit.specs.declared.questions.Refusal as code
use Rattle.circuit.proofs.Valid.{valid}
use Rattle.circuit.proofs.Verdicts.{then_left, then_right}
use Rattle.circuit.proofs.Loops.{then_assoc}
use Rattle.protocol.specs.Ask.{ask_parties}
use Rattle.protocol.specs.Send.{overwrite}
use Rattle.protocol.specs.Entry.{leave}
use Rattle.ranges.specs.Interval.{interval_size, gate_stays}
use Rattle.ranges.specs.Entry.{
  Query,
  Answer,
  Refusal,
  Leaves,
  Fits,
  answer,
  onward,
  where_fits,
  ask_change,
  move_room_ok,
  ask_rooms,
  finding,
  ask_ranges,
  ask_fit,
  fit_answer,
  fit_intervals,
  fit_moves,
}
use Rattle.fit.specs.Code.{answer_of}
use Rattle.capi.specs.Calls.{room_question}
use Rattle.capi.specs.Fits.{fit_numbers, fit_verdict}
use Rattle.capi.proofs.Calling.{last_refused}

-- a refusal writes no answer
answer_left : (a : Answer) (xs : List ℕ) → leave (fit_verdict a) (overwrite (fit_numbers a) xs) xs ≡ overwrite (fit_numbers a) xs
unfolding leave fit_verdict fit_numbers overwrite
answer_left (Refusal number index) xs = refl
answer_left (Leaves gate) xs = refl
answer_left Fits xs = refl

-- what is asked of the code's answer is asked of what it stands for
fit_said : (a : Result (Option ℕ) code.Refusal) → verdict_of a ≡ fit_verdict (answer_of a)
unfolding answer_of fit_verdict
fit_said (Ok None) = refl
fit_said (Ok (Some gate)) = refl
fit_said (Err r) = refl

pub fit_told : (a : Result (Option ℕ) code.Refusal) {b : Answer} {v : Verdict} → answer_of a ≡ b → fit_verdict b ≡ v → verdict_of a ≡ v
fit_told a e h = fit_said a ∙ rw e h

-- the verdict of an answer is that of its entry's questions
told : (v : Verdict) (a : Answer) → fit_verdict a ≡ Accepted → fit_verdict (answer v a) ≡ v
unfolding answer fit_verdict
told Accepted a e = e
told (Refused number index) a e = refl

-- since nothing that is found is a refusal
onward_accepted : (a : Answer) (stays : Bool) (j : ℕ) → fit_verdict a ≡ Accepted → fit_verdict (onward a (cond stays Fits (Leaves j))) ≡ Accepted
unfolding fit_verdict
onward_accepted (Refusal number index) stays j e = e
onward_accepted (Leaves gate) stays j e = refl
onward_accepted Fits true j e = refl
onward_accepted Fits false j e = refl

found : (c ranges : List ℕ) (j : ℕ) → fit_verdict (finding size c ranges j) ≡ Accepted
unfolding finding fit_verdict
found c ranges zero = refl
found c ranges (suc j) = onward_accepted (finding size c ranges j) (gate_stays size c ranges j) j (found c ranges j)

-- a refusal writes into no list, also where a room that is missing refuses
list_left : (v : Verdict) (a : Answer) (x before : List ℕ) → leave v (where_fits (answer v a) x before) before ≡ where_fits (answer v a) x before
unfolding leave answer
list_left Accepted a x before = refl
list_left (Refused number index) a x before = refl

list_kept : (v : Verdict) (number index : ℕ) (a : Answer) (x before : List ℕ) → where_fits (answer (v then Refused number index) a) x before ≡ before
unfolding ◌then◌ answer
list_kept Accepted number index a x before = refl
list_kept (Refused m i) number index a x before = refl

-- a circuit that is accepted has intervals
some_intervals : (n : ℕ) (c : List ℕ) → ask_circuit n size c ≡ Accepted → 0 < interval_size * gates c
some_intervals n c e = omega (arith, (valid n size c e).two)

module _ (Q : Query) where
  pub fit_verdict_lem : (room move_room : ℕ) → fit_verdict (fit_answer size Q room move_room) ≡ ask_fit size Q room move_room
  unfolding fit_answer
  fit_verdict_lem room move_room = told (ask_fit size Q room move_room) _ (found Q.circuit Q.ranges (gates Q.circuit))

  pub fit_left : (room move_room : ℕ) (xs : List ℕ)
      → leave (ask_fit size Q room move_room) (overwrite (fit_numbers (fit_answer size Q room move_room)) xs) xs
      ≡ overwrite (fit_numbers (fit_answer size Q room move_room)) xs
  fit_left room move_room xs = rw (← fit_verdict_lem room move_room) (answer_left (fit_answer size Q room move_room) xs)

  pub intervals_left : (list : List ℕ) (move_room : ℕ)
      → leave (ask_fit size Q (length list) move_room) (fit_intervals size Q list move_room) list ≡ fit_intervals size Q list move_room
  unfolding fit_intervals fit_answer
  intervals_left list move_room = list_left (ask_fit size Q (length list) move_room) _ _ list

  pub moves_left : (room : ℕ) (list : List ℕ)
      → leave (ask_fit size Q room (length list)) (fit_moves size Q room list) list ≡ fit_moves size Q room list
  unfolding fit_moves fit_answer
  moves_left room list = list_left (ask_fit size Q room (length list)) _ _ list

  pub no_intervals : (room move_room : ℕ) → ask_fit size Q 0 move_room ≡ (ask_fit size Q room move_room then Refused room_question 0)
  unfolding ask_fit ask_rooms
  no_intervals room move_room =
      let n = Q.parties in
      let c = Q.circuit in
      let numbers = interval_size * gates c in
      let others = move_room_ok Q.change (out_count c) move_room in
      last_refused (ask_parties n then ask_circuit n size c then ask_ranges size c Q.ranges then ask_change c Q.change)
      (leb numbers 0 && others) (leb numbers room && others)
      (λ e. rw (lt-leb numbers 0 (some_intervals n c (then_left _ _ (then_right (ask_parties n) _ e))))) (simp then_assoc) (simp then_assoc)

  pub intervals_kept : (move_room : ℕ) → fit_intervals size Q [] move_room ≡ []
  unfolding fit_intervals fit_answer
  intervals_kept move_room = rw (no_intervals 0 move_room) (list_kept (ask_fit size Q 0 move_room) room_question 0 _ _ [])

  pub moves_kept : (list : List ℕ) → fit_moves size Q 0 list ≡ list
  unfolding fit_moves fit_answer
  moves_kept list = rw (no_intervals 0 (length list)) (list_kept (ask_fit size Q 0 (length list)) room_question 0 _ _ list)
