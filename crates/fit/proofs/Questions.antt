-- What the questions of the tool come to, as the code asks them.
-- Assumes nothing.
use Prim.Native.Nat.{ℕ, ◌+◌, ◌*◌, ◌<◌, ◌≤◌}
use mathlib.Core.Path.{◌≡◌, refl, sym, ◌∙◌}
use mathlib.Core.Bool.{Bool, true, cond, not}
use mathlib.Core.List.{List}
use lib.Dec.{eqb}
use lib.ListN.{length}
use Rattle.std.specs.Prelude.{Result, Ok, Err}
use Rattle.std.proofs.lemmas.Bool.Decides.{nat_tests}
use Rattle.field.specs.Words.{size}
use Rattle.circuit.specs.Verdict.{Verdict, Accepted, Refused, ask, ◌then◌, each}
use Rattle.circuit.specs.Question.{number_of, verdict_of}
use Rattle.circuit.specs.declared.questions.Refusal.{Refusal}
use Rattle.circuit.specs.Gate.{Gate, entry, gate, gates}
use Rattle.circuit.specs.Kind.{is_in, is_out, has_value}
use Rattle.circuit.specs.Count.{total, count, in_count}
use Rattle.circuit.proofs.Counts.{bit_le, count_more, count_le}
use Rattle.circuit.proofs.Verdicts.{each_more, each_refused, asked_on, asked_no, asked_last, then_right}
use Rattle.circuit.proofs.Loops.{then_assoc}
use Rattle.circuit.proofs.Valid.{valid, is_kind_lem, gate_accepted}
use Rattle.circuit.specs.Accept.{most_gates, is_kind, ask_circuit}
use Rattle.circuit.specs.Valid.{Valid}
use Rattle.protocol.specs.Ask.{ask_parties}
use Rattle.ranges.specs.Interval.{Interval, interval_size, interval_at}
use Rattle.ranges.specs.Entry.{range_ok, ask_ranges}
use Rattle.fit.proofs.Walks.{out_said, gates_there}

-- the in gates and the outputs before one are counted
pub tally_none : (has : Gate → Bool) (c : List ℕ) → count has c 0 ≡ 0
unfolding count total
tally_none has c = refl

pub out_counts : (c : List ℕ) (j : ℕ) {r : Bool} → r ≡ has_value (gate c j) → ◌≡◌ {A = ℕ} (cond (not r) 1 0) (cond (is_out (gate c j)) 1 0)
out_counts c j e = rw (out_said c j e refl)

pub ins_few : (c : List ℕ) → in_count c ≤ gates c
unfolding in_count
ins_few c = count_le is_in c (gates c)

pub ruleset tallies = (gates_there, tally_none, count_more, bit_le, count_le, out_counts)

pub ruleset lines = (gates_there, nat_tests)

-- the ranges before k are asked and passed
abbrev pub asks_range : List ℕ → ℕ → Verdict
asks_range ranges k = ask 26 0 (range_ok size (interval_at ranges k))

module _ {A : Type 0} (ranges : List ℕ) (k : ℕ) {i : Interval} {b : Bool} (said : b ≡ range_ok size i) (at : i ≡ interval_at ranges k) (r : Result A Refusal)
    (e : verdict_of r ≡ ask 26 0 b) (before : each k (asks_range ranges) ≡ Accepted) where
  here : verdict_of r ≡ asks_range ranges k
  here = e ∙ rw (said, at)

  pub range_passed : {a : A} → r ≡ Ok a → each (k + 1) (asks_range ranges) ≡ Accepted
  range_passed h = each_more (asks_range ranges) k before (sym here ∙ rw h)

  pub range_refused : {x : Refusal} {u : Verdict} (n : ℕ) → k < n → r ≡ Err x → u ≡ Refused (number_of x.question) x.index → u ≡ each n (asks_range ranges)
  range_refused n h q e = e ∙ sym (each_refused (asks_range ranges) k n h before (sym here ∙ rw q))

module _ (c ranges : List ℕ) {ins : ℕ} (counted : ins ≡ in_count c) where
  -- the ranges are counted, and then each is asked
  pub ranges_on : {A : Type 0} {r : Result A Refusal} {a : A} {u : Verdict} → verdict_of r ≡ ask 26 0 (eqb (length ranges) (interval_size * ins)) → r ≡ Ok a
      → u ≡ each ins (asks_range ranges) → u ≡ ask_ranges size c ranges
  unfolding ask_ranges
  ranges_on h q e = rw (← counted) (asked_on _ h q e)

pub ruleset ranges_asked = (ins_few, asked_on, asked_no, asked_last)

-- all questions in order
module _ (n : ℕ) (c : List ℕ) {A : Type 0} {r : Result A Refusal} where
  setting_valid : {a : A} → verdict_of r ≡ (ask_parties n then ask_circuit n size c) → r ≡ Ok a → Valid n size c
  setting_valid e t = valid n size c (then_right (ask_parties n) (ask_circuit n size c) (sym (asked_last e t)))

  pub setting_few : {a : A} → verdict_of r ≡ (ask_parties n then ask_circuit n size c) → r ≡ Ok a → gates c ≤ most_gates
  setting_few e t = (setting_valid e t).few

  pub setting_kinds : {a : A} → verdict_of r ≡ (ask_parties n then ask_circuit n size c) → r ≡ Ok a → (j : ℕ) → j < gates c → is_kind (entry c j 0) ≡ true
  setting_kinds e t j h = is_kind_lem n size c j (gate_accepted n size c j ((setting_valid e t).each j h))

  module _ {u : Verdict} (rest : Verdict) (e : verdict_of r ≡ (ask_parties n then ask_circuit n size c)) where
    pub setting_on : {a : A} → r ≡ Ok a → u ≡ rest → u ≡ (ask_parties n then ask_circuit n size c then rest)
    setting_on t h = asked_on rest e t h ∙ then_assoc (ask_parties n) (ask_circuit n size c) rest

    pub setting_no : {x : Refusal} → r ≡ Err x → u ≡ Refused (number_of x.question) x.index → u ≡ (ask_parties n then ask_circuit n size c then rest)
    setting_no t h = asked_no rest e t h ∙ then_assoc (ask_parties n) (ask_circuit n size c) rest

pub ruleset fit_asked = (setting_few, setting_kinds, setting_on, asked_on, asked_no)
