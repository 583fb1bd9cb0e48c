-- What the entry answers and writes: on a refusal, where a gate leaves, and where all fits.
-- Assumes nothing.
use Prim.Native.Nat.{ℕ, ◌*◌, ◌<◌, ◌≤◌}
use mathlib.Core.Path.{◌≡◌, sym, ◌∙◌}
use mathlib.Core.Bool.{true, ◌&&◌}
use mathlib.Core.List.{List, ◌++◌}
use native.Mathlib.Omega.{arith}
use lib.Dec.{ltb, leb, eqb}
use lib.ListN.{length, take, drop}
use lib.Seq.{length-take-le}
use borrow.Author.Tests.{ltb-true, ltb-false, leb-true, eqb-true}
use Rattle.field.specs.Words.{size}
use Rattle.circuit.specs.Verdict.{Accepted, Refused, ask, ◌then◌}
use Rattle.circuit.specs.Gate.{Kind, In, Add, Sub, Plus, Times, Mul, Out, Sq, Give, Over, gate, gates}
use Rattle.circuit.specs.Kind.{Output, kind_shape, is_out}
use Rattle.circuit.specs.Count.{count, in_count, out_count}
use Rattle.circuit.specs.Accept.{most_gates, ask_circuit}
use Rattle.circuit.specs.Valid.{Fits, Valid}
use Rattle.circuit.proofs.Tests.{by_cases, both_left, both_right}
use Rattle.circuit.proofs.KindLaws.{is_class_lem}
use Rattle.circuit.proofs.Counts.{count_le}
use Rattle.circuit.proofs.Gates.{output_named}
use Rattle.circuit.proofs.Valid.{valid, is_kind_lem, gate_accepted}
use Rattle.circuit.proofs.Verdicts.{ask_true, then_left, then_right, each_below}
use Rattle.protocol.specs.Ask.{ask_parties, fewest_parties, most_parties}
use Rattle.protocol.specs.Send.{overwrite}
use Rattle.ranges.specs.Interval.{Interval, interval_size, interval_at, intervals}
use Rattle.ranges.specs.Move as M
use Rattle.ranges.specs.Entry as E
use Rattle.ranges.specs.Entry.{query_of, answer, range_ok, ask_ranges, ask_change, move_room_ok, ask_rooms, ask_fit, finding, moves_told, fit_answer, fit_intervals, fit_moves}
use Rattle.ranges.proofs.Reaching.{intervals_length}
use Rattle.ranges.proofs.Listed.{listed_length}
use Rattle.ranges.proofs.Moves.{score_moves_listed}
use Rattle.fit.specs.Code.{Fair, Held, interval_room, move_room, Tame, Kept}
use Rattle.fit.specs.declared.working.Worked.{Worked}
use Rattle.fit.proofs.Holding.{held_front}
use Rattle.fit.proofs.Walks.{fair_none}

-- what the numbers of a gate of an accepted circuit are, by its kind: none that names a gate is large
module _ (n q : ℕ) (c : List ℕ) (j : ℕ) (some : n ≤ most_gates) (few : j < most_gates) where
  first_small : (k : Kind) {x : ℕ} → Fits n q c j (kind_shape k).first x → x < most_gates
  unfolding kind_shape
  first_small In f = omega arith
  first_small Add f = omega (arith, f.earlier)
  first_small Sub f = omega (arith, f.earlier)
  first_small Plus f = omega (arith, f.earlier)
  first_small Times f = omega (arith, f.earlier)
  first_small Mul f = omega (arith, f.earlier)
  first_small Out f = omega (arith, f.earlier)
  first_small Sq f = omega (arith, f.earlier)
  first_small Give f = omega (arith, f.earlier)
  first_small Over f = omega (arith, f.earlier)

  second_small : (k : Kind) {x : ℕ} → Fits n q c j (kind_shape k).second x → x < most_gates
  unfolding kind_shape
  second_small In f = omega arith
  second_small Add f = omega (arith, f.earlier)
  second_small Sub f = omega (arith, f.earlier)
  second_small Plus f = omega arith
  second_small Times f = omega arith
  second_small Mul f = omega (arith, f.earlier)
  second_small Out f = omega arith
  second_small Sq f = omega arith
  second_small Give f = omega arith
  second_small Over f = omega arith

-- a range that passes is fair
fair_range : (r : Interval) → range_ok size r ≡ true → Fair r
unfolding range_ok
fair_range r e =
    let order = leb r.lowest r.highest in
    record {
      ordered = leb-true r.lowest r.highest (both_left order (ltb r.lowest size && ltb r.highest size) e);
      low = ltb-true r.highest size (both_right (ltb r.lowest size) (ltb r.highest size) (both_right order (ltb r.lowest size && ltb r.highest size) e));
    }

-- the moves of the scores, as many as there are
module _ (c ranges : List ℕ) (w : Worked) (few : gates c ≤ most_gates) (long : length w.scores ≡ move_room) where
  kept_few : (change : M.Change) → Kept change c ranges w (gates c) → w.outs ≤ length w.scores
  kept_few M.Nothing e = omega arith
  kept_few (M.Of line amount) t =
      omega (arith, t.counted, listed_length (score_moves_listed size c ranges (M.Of line amount)) (gates c), count_le is_out c (gates c))

  kept_room : (change : M.Change) (places : ℕ) → Kept change c ranges w (gates c) → move_room_ok change (out_count c) places ≡ true → w.outs ≤ places
  unfolding out_count
  kept_room M.Nothing places e h = omega arith
  kept_room (M.Of line amount) places t h = rw t.counted (leb-true (count is_out c (gates c)) places h)

  kept_front : (change : M.Change) → Kept change c ranges w (gates c) → take w.outs w.scores ≡ moves_told size c ranges change
  unfolding moves_told
  kept_front M.Nothing e = rw e
  kept_front (M.Of line amount) t =
      held_front t.listed w.outs (listed_length (score_moves_listed size c ranges (M.Of line amount)) (gates c) ∙ sym t.counted) (omega (arith, kept_few (M.Of line amount) t))

-- what the entry answers, and the two lists afterwards
abbrev pub Told : ℕ → List ℕ → List ℕ → M.Change → List ℕ → List ℕ → E.Answer → List ℕ → List ℕ → Type 0
Told n c ranges change is ms a is' ms' =
    (a ≡ fit_answer size (query_of n c ranges change) (length is) (length ms))
    × ((is' ≡ fit_intervals size (query_of n c ranges change) is (length ms))
    × (ms' ≡ fit_moves size (query_of n c ranges change) (length is) ms))

module _ (n : ℕ) (c ranges : List ℕ) (change : M.Change) (is ms : List ℕ) where
  pub refused_told : {number index : ℕ} → Refused number index ≡ ask_fit size (query_of n c ranges change) (length is) (length ms)
      → Told n c ranges change is ms (E.Refusal number index) is ms
  unfolding fit_answer fit_intervals fit_moves answer
  refused_told e = (rw (sym e), (rw (sym e), rw (sym e)))

  module _ (e : Accepted ≡ ask_fit size (query_of n c ranges change) (length is) (length ms)) where
    -- each question passed
    after_setting : (ask_ranges size c ranges then ask_change c change then ask_rooms c change (length is) (length ms)) ≡ Accepted
    unfolding ask_fit
    after_setting = then_right (ask_circuit n size c) _ (then_right (ask_parties n) _ (sym e))

    accepted : Valid n size c
    unfolding ask_fit
    accepted = valid n size c (then_left (ask_circuit n size c) _ (then_right (ask_parties n) _ (sym e)))

    some_parties : n ≤ most_gates
    unfolding ask_fit ask_parties
    some_parties =
        omega (arith, leb-true n most_parties (both_right (leb fewest_parties n) (leb n most_parties) (ask_true 1 0 _ (then_left (ask_parties n) _ (sym e)))))

    pub told_few : gates c ≤ most_gates
    told_few = accepted.few

    pub told_tame : (j : ℕ) → j < gates c → Tame c j
    told_tame j h =
        let few : j < most_gates = omega (arith, accepted.few) in
        record {
          kind = is_kind_lem n size c j (gate_accepted n size c j (accepted.each j h));
          first = first_small n size c j some_parties few (gate c j).kind (accepted.each j h).first;
          second = second_small n size c j some_parties few (gate c j).kind (accepted.each j h).second;
          output = λ o. (output_named accepted j h (is_class_lem Output o)).earlier;
        }

    ranges_pass : ask_ranges size c ranges ≡ Accepted
    ranges_pass = then_left (ask_ranges size c ranges) _ after_setting

    pub told_long : length ranges ≡ interval_size * in_count c
    unfolding ask_ranges
    told_long = eqb-true (length ranges) (interval_size * in_count c) (ask_true 26 0 _ (then_left (ask 26 0 (eqb (length ranges) (interval_size * in_count c))) _ ranges_pass))

    pub told_fair : (x : ℕ) → Fair (interval_at ranges x)
    unfolding ask_ranges
    told_fair x =
        by_cases (ltb x (in_count c))
        (λ h. fair_range (interval_at ranges x) (ask_true 26 0 _ (each_below (λ k. ask 26 0 (range_ok size (interval_at ranges k))) (in_count c)
        (then_right (ask 26 0 (eqb (length ranges) (interval_size * in_count c))) _ ranges_pass) x (ltb-true x (in_count c) h))))
        (λ h. fair_none ranges x (omega (arith, ltb-false x (in_count c) h, told_long)))

    rooms_pass : (leb (interval_size * gates c) (length is) && move_room_ok change (out_count c) (length ms)) ≡ true
    unfolding ask_rooms
    rooms_pass = ask_true 18 0 _ (then_right (ask_change c change) _ (then_right (ask_ranges size c ranges) _ after_setting))

    told_room : interval_size * gates c ≤ length is
    told_room = leb-true (interval_size * gates c) (length is) (both_left _ (move_room_ok change (out_count c) (length ms)) rooms_pass)

    told_places : move_room_ok change (out_count c) (length ms) ≡ true
    told_places = both_right (leb (interval_size * gates c) (length is)) _ rooms_pass

    found_is : fit_answer size (query_of n c ranges change) (length is) (length ms) ≡ finding size c ranges (gates c)
    unfolding fit_answer answer
    found_is = rw (sym e)

    pub leaves_told : {j : ℕ} → E.Leaves j ≡ finding size c ranges (gates c) → Told n c ranges change is ms (E.Leaves j) is ms
    unfolding fit_intervals fit_moves
    leaves_told f = (rw (found_is, sym f), (rw (found_is, sym f), rw (found_is, sym f)))

    -- the fronts of the tool's own lists are written
    module _ (w : Worked) (own : ℕ) (counted : own ≡ gates c) (f : E.Fits ≡ finding size c ranges (gates c))
        (l : Held interval_room w.ends (intervals size c ranges (gates c)) × Kept change c ranges w (gates c) × (length w.scores ≡ move_room)) where
      ends_front : take (interval_size * own) w.ends ≡ intervals size c ranges (gates c)
      ends_front = rw counted (held_front l.0 (interval_size * gates c) (intervals_length size c ranges (gates c)) (omega (arith, told_few)))

      pub ends_long : interval_size * own ≤ length w.ends
      ends_long = omega (arith, told_few, l.0.long)

      pub front_fits : length (take (interval_size * own) w.ends) ≤ length is
      front_fits = rw ends_front (omega (arith, intervals_length size c ranges (gates c), told_room))

      pub scores_long : w.outs ≤ length w.scores
      scores_long = kept_few c ranges w told_few l.2 change l.1

      pub scores_fit : length (take w.outs w.scores) ≤ length ms
      scores_fit = rw (length-take-le w.outs w.scores scores_long) (kept_room c ranges w told_few l.2 change (length ms) l.1 told_places)

      pub fits_told : {is' ms' : List ℕ} → is' ≡ take (interval_size * own) w.ends ++ drop (length (take (interval_size * own) w.ends)) is
          → ms' ≡ take w.outs w.scores ++ drop (length (take w.outs w.scores)) ms
          → Told n c ranges change is ms E.Fits is' ms'
      unfolding fit_intervals fit_moves overwrite
      fits_told ei em =
          (rw (found_is, sym f), (rw (found_is, sym f) (ei ∙ rw ends_front), rw (found_is, sym f) (em ∙ rw (kept_front c ranges w told_few l.2 change l.1))))
