-- A run from gate to gate, at outputs: their checks and their opening lead to the next gate or stop the run. And its start and its end.
-- Assumes nothing.
use Prim.Native.Nat.{ℕ, suc, ◌+◌, ◌-◌, ◌*◌, ◌<◌, ◌≤◌}
use mathlib.Core.Path.{◌≡◌, refl, sym, ap, subst, ◌∙◌}
use mathlib.Core.Bool.{Bool, true}
use mathlib.Core.List.{List, ◌++◌}
use mathlib.Core.Logic.{inl, inr, ⊎_elim}
use native.Mathlib.Numerals.{add-one}
use native.Mathlib.Omega.{arith}
use lib.ListN.{length, set, drop}
use Rattle.field.specs.Words.{size, ops}
use Rattle.circuit.specs.Gate.{gate_size, gate, gates}
use Rattle.circuit.specs.Kind.{Local, Owned, Opens, Output, mask_size, shape, is_class, is_give, receiver}
use Rattle.circuit.specs.Count.{unchecked, unchecked_after}
use Rattle.circuit.specs.Round.{Own, First, Second, Open, Commit, commit_words, reveal_words}
use Rattle.circuit.proofs.KindLaws.{class_is, owned_no_out, opens_no_out, output_no_in, owned_facts}
use Rattle.circuit.proofs.Gates.{gate_zero}
use Rattle.protocol.specs.Position.{Point, Aborted, Finished, finished, reach, when_sending, resume}
use Rattle.protocol.specs.Receive.{Nobody, score}
use Rattle.protocol.specs.Scratch.{band, written_at}
use Rattle.protocol.specs.Holding.{Opened}
use Rattle.protocol.specs.Code.{layout_of}
use Rattle.protocol.specs.Joint.{party}
use Rattle.protocol.specs.Run.{most_rounds}
use Rattle.protocol.specs.JointEntry as E
use Rattle.protocol.proofs.Bands.{band_end, joined_bands}
use Rattle.protocol.proofs.Readiness.{settles_here}
use Rattle.protocol.proofs.Settling.{reach_here, settle_none}
use Rattle.protocol.proofs.Words.{joined_ext}
use Rattle.protocol.proofs.Runs.{Over}
use Rattle.joint.specs.declared.Ending.{Ending}
use Rattle.joint.specs.declared.Frame.{Frame}
use Rattle.joint.specs.declared.Stop.{Stop}
use Rattle.joint.specs.Code.{ending_of, course_of, due_at, due_in, came_to, Placed, site_of, prep_from, key_in, Prepared, Banded, EachBand, marks_in, reveals_in, Checks, Checked, checked_stop, none_held, SettlesAll, settled_all, Moving, Moved, Kept, Runnable, Ran, Common, Passed}
use Rattle.joint.proofs.Common.{input_common, opening_common, show_common}
use Rattle.joint.proofs.Parties.{lent_key, lent_banded, lent_keyed}
use Rattle.joint.proofs.Later.{waits_stop, placed_stop}
use Rattle.joint.proofs.Measures.{gates_are}
use Rattle.joint.proofs.SendTurns.{lent_all}
use Rattle.joint.proofs.Stops.{own_in, own_opens, came_in, came_own, came_open, came_commit, came_end, stop_within, stop_stands, resume_came}
use Rattle.joint.proofs.Running.{Running, running_moving, running_again, running_over, running_start}
use Rattle.joint.proofs.Passing.{turned_quietly, Standing, Before, next_stop, places_stay, own_waits, own_moving}
use Rattle.joint.proofs.Turns.{next_waits}
use Rattle.joint.proofs.CheckTurns.{check_asked, check_stopped, first_checked, output_room_lem, output_record, output_settles, score_asked, score_is, second_checked}

-- nothing is sent once a run is finished
over_finished : Over Finished
unfolding when_sending
over_finished A a g = refl

module _ {f : Frame} {c preps inputs coefficients nonces l₀ t₀ o₀ : List ℕ} (able : Runnable (lent_all f c preps inputs coefficients nonces) f l₀ t₀ o₀) where
  -- the gates of the frame are those of the circuit
  pub gates_same : f.layout.gates ≡ gates c
  gates_same = gates_are able.lent.valid able.lent.framed

  -- a party's preprocessing lies in that of all
  pub preps_long : f.prep ≤ length preps
  preps_long = omega (arith, band_end f.parties f.prep 0 (omega (arith, able.lent.some)), (lent_key able.lent).long)

  -- a gate that has rounds has no linear gates before it that are to be done
  module _ {s : Stop} {places l t o : List ℕ} (inv : Standing (lent_all f c preps inputs coefficients nonces) f l₀ t₀ o₀ s places l t o) (h : s.gate < gates c) where
    here_moving : Moving (lent_all f c preps inputs coefficients nonces) f (course_of (due_at s.gate (due_in (shape (gate c s.gate)).class s.waiting)) s) (due_in (shape (gate c s.gate)).class s.waiting) none_held l t
    here_moving =
        running_moving _ f l₀ t₀ o₀ able
        (subst (λ (x : Point). Running (lent_all f c preps inputs coefficients nonces) f l₀ t₀ o₀ (course_of x s) none_held l t o) (came_in c s.gate s.waiting h) inv.running)
        (due_in (shape (gate c s.gate)).class s.waiting) refl

    here : reach c (f.layout.gates - s.gate) s.gate ≡ s.gate
    here = reach_here c (f.layout.gates - s.gate) s.gate (inv.stands h)

    none_left : settled_all f c preps l s.gate ≡ l
    none_left =
        ap (λ (x : List ℕ). x ++ drop (f.parties * f.scratch) l)
        (joined_ext f.parties _ (band f.scratch l)
        (λ i k. settle_none ops c (layout_of f.layout) i (key_in f preps i) (f.layout.gates - s.gate) s.gate (band f.scratch l i) (omega (arith, here))))
        ∙ joined_bands f.parties f.scratch l here_moving.going.room

    pub standing_before : Before (lent_all f c preps inputs coefficients nonces) f l₀ t₀ o₀ s places l t o
    unfolding site_of party
    standing_before =
        record {
          settles = (
            lent_key able.lent,
            lent_banded able.lent here_moving.going.room,
            omega (arith, able.lent.some),
            λ i k. rw (lent_keyed able.lent i) (settles_here (party (lent_all f c preps inputs coefficients nonces) i) (band f.scratch l i) f.layout _ _ (here_moving.going.ready i k)),
          );
          standing = rw (here, none_left) inv;
        }

  -- own rounds leave opened values that are the same to all
  module _ {s : Stop} {places l t o : List ℕ} (inv : Standing (lent_all f c preps inputs coefficients nonces) f l₀ t₀ o₀ s places l t o) (h : s.gate < gates c)
      {s' : Stop} {l' t' : List ℕ}
      (d : Moved (lent_all f c preps inputs coefficients nonces) f (course_of (due_at s.gate Own) s) Own none_held l t (course_of (resume c (suc s.gate)) s') none_held l' t')
      (p : Passed c s s') where
    pub in_common : (shape (gate c s.gate)).class ≡ Owned → Common f l' s'.waiting
    in_common cl =
        let u = own_moving _ f l₀ t₀ o₀ able inv h cl (own_in s.waiting) (owned_no_out refl) in
        let w = own_waits _ f l₀ t₀ o₀ able inv h cl (own_in s.waiting) (owned_no_out refl) in
        let e : s.waiting ≡ s'.waiting = omega (arith, next_waits u (owned_no_out cl) w (sym (owned_facts (gate c s.gate) cl).openings), p.waiting) in
        subst (Common f l') e (input_common u.going d cl w inv.common)

    pub opens_common : (shape (gate c s.gate)).class ≡ Opens → Common f l' s'.waiting
    opens_common cl =
        let u = own_moving _ f l₀ t₀ o₀ able inv h cl (own_opens s.waiting) (opens_no_out refl) in
        let w = own_waits _ f l₀ t₀ o₀ able inv h cl (own_opens s.waiting) (opens_no_out refl) in
        let e : s.waiting + (shape (gate c s.gate)).openings ≡ s'.waiting = omega (arith, next_waits u (opens_no_out cl) w refl, p.waiting) in
        subst (Common f l') e (opening_common u.going d cl w refl inv.common)

  module _ {s : Stop} {places l t o : List ℕ} (inv : Standing (lent_all f c preps inputs coefficients nonces) f l₀ t₀ o₀ s places l t o)
      (h : s.gate < gates c) (cl : (shape (gate c s.gate)).class ≡ Output) where
    -- entries wait for a check
    module _ (z : s.waiting ≡ 0 → ⊥) where
      sealing : Running (lent_all f c preps inputs coefficients nonces) f l₀ t₀ o₀ (course_of (due_at s.gate (Commit First)) s) none_held l t o
      sealing = subst (λ (x : Point). Running (lent_all f c preps inputs coefficients nonces) f l₀ t₀ o₀ (course_of x s) none_held l t o) (came_commit c s.gate s.waiting h cl z) inv.running

      all_wait : s.waiting ≡ unchecked c s.gate
      all_wait = ⊎_elim (λ w. w) (λ w. absurd (z w.1)) inv.waits

      pub first_few : s.rounds < most_rounds ops (lent_all f c preps inputs coefficients nonces) * gates c
      first_few = (running_moving _ f l₀ t₀ o₀ able sealing (Commit First) refl).rounds_few

      pub first_asked : Checks f preps l s.waiting s.used coefficients s.checks nonces s.written t
      first_asked = check_asked able First sealing refl all_wait refl inv.common

      module _ {v : ℕ} {l₁ t₁ : List ℕ} (d : Checked f preps l s.waiting s.used coefficients s.checks nonces s.written t v l₁ t₁) where
        pub first_stopped : (v ≡ 0 → ⊥) → {a : Ending} → ending_of a ≡ E.ended Aborted s.gate Nobody (s.rounds + 2)
            → Ran (lent_all f c preps inputs coefficients nonces) l₀ t₀ o₀ a l₁ t₁ o
        first_stopped w e = rw d.transcript (check_stopped able First sealing refl all_wait d.scratch d.sum w e)

        -- where the run goes on
        first_standing : v ≡ 0 → Standing (lent_all f c preps inputs coefficients nonces) f l₀ t₀ o₀ (checked_stop f s.waiting s) places l₁ t₁ o
        first_standing w =
            record {
              within = inv.within;
              stands = inv.stands;
              waits = inr (cl, refl);
              placed = inv.placed;
              common = λ i q k w. absurd (omega arith);
              running =
                  rw d.transcript
                  (subst (λ (x : Point). Running (lent_all f c preps inputs coefficients nonces) f l₀ t₀ o₀ (course_of x (checked_stop f s.waiting s)) none_held l₁
                  (written_at (s.written + f.parties * commit_words) (reveals_in f preps l s.waiting s.used coefficients s.checks nonces) (written_at s.written (marks_in f preps l s.waiting s.used coefficients s.checks nonces) t)) o)
                  (sym (came_open c s.gate 0 h cl refl))
                  (first_checked able sealing refl all_wait d.scratch d.sum w));
            }

        pub first_passed : v ≡ 0 → Before (lent_all f c preps inputs coefficients nonces) f l₀ t₀ o₀ (checked_stop f s.waiting s) places l₁ t₁ o
        first_passed w = standing_before (first_standing w) h

    -- none waits: the output is opened
    module _ (z : s.waiting ≡ 0) where
      showing : Running (lent_all f c preps inputs coefficients nonces) f l₀ t₀ o₀ (course_of (due_at s.gate Open) s) none_held l t o
      showing = subst (λ (x : Point). Running (lent_all f c preps inputs coefficients nonces) f l₀ t₀ o₀ (course_of x s) none_held l t o) (came_open c s.gate s.waiting h cl z) inv.running

      pub show_moving : Moving (lent_all f c preps inputs coefficients nonces) f (course_of (due_at s.gate Open) s) Open none_held l t
      show_moving = running_moving _ f l₀ t₀ o₀ able showing Open refl

      -- and then checked
      module _ {s₁ : Stop} {l₁ t₁ : List ℕ}
          (d : Moved (lent_all f c preps inputs coefficients nonces) f (course_of (due_at s.gate Open) s) Open none_held l t (course_of (due_at s.gate (Commit Second)) s₁) none_held l₁ t₁)
          (k : Kept s s₁) where
        shown : Running (lent_all f c preps inputs coefficients nonces) f l₀ t₀ o₀ (course_of (due_at s.gate (Commit Second)) s₁) none_held l₁ t₁ o
        shown = running_again _ f l₀ t₀ o₀ able showing Open refl (turned_quietly _ f (course_of (due_at s.gate Open) s) none_held l Open refl d k.released)

        pub second_asked : Checks f preps l₁ 1 s₁.used coefficients s₁.checks nonces s₁.written t₁
        second_asked = check_asked able Second shown refl refl refl (show_common show_moving.going d)

        pub shown_long : length t₁ ≡ length t₀
        shown_long = shown.long_t

        pub shown_scratch : length l₁ ≡ length l₀
        shown_scratch = shown.long

        module _ {v : ℕ} {l₂ t₂ : List ℕ} (e : Checked f preps l₁ 1 s₁.used coefficients s₁.checks nonces s₁.written t₁ v l₂ t₂) where
          pub second_room : s₁.released < length o
          second_room = output_room_lem able shown refl e.scratch

          pub second_settles : SettlesAll f c preps l₂ (s.gate + 1)
          second_settles = output_settles able shown refl e.scratch

          pub second_score : {give : Bool} → give ≡ is_give (gate c s.gate)
              → (gate_size * s.gate + gate_size ≤ length c)
              × (receiver (gate c s.gate) < f.parties)
              × Banded f l₂
              × Prepared f preps s₁.prep 0
              × (give ≡ true → s₁.prep + mask_size ≤ f.prep)
              × EachBand f l₂ (λ i x. Opened size (layout_of f.layout) x 0)
          second_score = score_asked able shown refl e.scratch

          -- the record of the gate fits the preprocessing
          pub second_record : s₁.prep + (shape (gate c s.gate)).prep ≤ f.prep
          second_record = output_record able shown refl e.scratch

          pub second_stopped : (v ≡ 0 → ⊥) → {a : Ending} → ending_of a ≡ E.ended Aborted s.gate Nobody (s₁.rounds + 2)
              → Ran (lent_all f c preps inputs coefficients nonces) l₀ t₀ o₀ a l₂ t₂ o
          second_stopped w q = rw e.transcript (check_stopped able Second shown refl refl e.scratch e.sum w q)

          module _ (w : v ≡ 0) {give : Bool} (eg : give ≡ is_give (gate c s.gate)) {x : ℕ}
              (ex : x ≡ score ops (layout_of f.layout) (band f.scratch l₂ (receiver (gate c s.gate))) give (prep_from f preps s₁.prep (receiver (gate c s.gate))))
              {p : ℕ} (ep : p ≡ (shape (gate c s.gate)).prep) where
            stop_is : reach c (f.layout.gates - (s.gate + 1)) (s.gate + 1) ≡ reach c (gates c - (s.gate + 1)) (s.gate + 1)
            stop_is = next_stop _ f l₀ t₀ o₀ able s.gate

            -- nothing waits after an output
            none_waits : 0 ≡ unchecked c (reach c (f.layout.gates - (s.gate + 1)) (s.gate + 1))
            unfolding unchecked unchecked_after
            none_waits = rw (stop_is, waits_stop c s.gate h, add-one s.gate, class_is cl)

            abbrev second_after : Stop
            second_after =
                record {
                  gate = s.gate + 1;
                  prep = s₁.prep + (shape (gate c s.gate)).prep;
                  waiting = 0;
                  used = s₁.used + 1;
                  checks = s₁.checks + 1;
                  written = s₁.written + f.parties * commit_words + f.parties * reveal_words;
                  released = s₁.released + 1;
                  rounds = s₁.rounds + 2;
                }

            pub second_passed : Before (lent_all f c preps inputs coefficients nonces) f l₀ t₀ o₀
                (record { gate = s.gate + 1; prep = s₁.prep + p; waiting = 0; used = s₁.used + 1; checks = s₁.checks + 1; written = s₁.written + f.parties * commit_words + f.parties * reveal_words; released = s₁.released + 1; rounds = s₁.rounds + 2 })
                places l₂ t₂ (set o s₁.released x)
            second_passed =
                rw ep
                (record {
                  settles = second_settles;
                  standing =
                      record {
                        within = stop_within c s.gate h stop_is;
                        stands = stop_stands c s.gate h stop_is;
                        waits = inl none_waits;
                        placed = rw stop_is (placed_stop c s.gate h (places_stay _ f l₀ t₀ o₀ able inv h (output_no_in cl)));
                        common = λ i q k w. absurd (omega arith);
                        running =
                            rw e.transcript
                            (subst (λ (y : Point). Running (lent_all f c preps inputs coefficients nonces) f l₀ t₀ o₀ (course_of y second_after) none_held (settled_all f c preps l₂ (s.gate + 1))
                            (written_at (s₁.written + f.parties * commit_words) (reveals_in f preps l₁ 1 s₁.used coefficients s₁.checks nonces) (written_at s₁.written (marks_in f preps l₁ 1 s₁.used coefficients s₁.checks nonces) t₁)) (set o s₁.released x))
                            (resume_came c s.gate h stop_is none_waits)
                            (second_checked able shown refl e.scratch e.sum w refl (score_is able shown refl e.scratch eg ex)));
                      };
                })

  -- no gate is left
  pub standing_over : {s : Stop} {places l t o : List ℕ} → Standing (lent_all f c preps inputs coefficients nonces) f l₀ t₀ o₀ s places l t o → gates c ≤ s.gate
      → {a : Ending} → ending_of a ≡ E.Done s.rounds → Ran (lent_all f c preps inputs coefficients nonces) l₀ t₀ o₀ a l t o
  unfolding finished E.ended
  standing_over {s} {l = l} {t = t} {o = o} inv h e =
      running_over (lent_all f c preps inputs coefficients nonces) f l₀ t₀ o₀ able
      (subst (λ (x : Point). Running (lent_all f c preps inputs coefficients nonces) f l₀ t₀ o₀ (course_of x s) none_held l t o) (came_end c s.gate s.waiting h) inv.running)
      over_finished e

  -- before the first gate
  first_gate : 0 < gates c
  first_gate = omega (arith, able.lent.valid.two)

  start_standing : {places : List ℕ} → Placed f.parties c 0 places
      → Standing (lent_all f c preps inputs coefficients nonces) f l₀ t₀ o₀
      (record { gate = 0; prep = 1; waiting = 0; used = 0; checks = 0; written = 0; released = 0; rounds = 0 }) places l₀ t₀ o₀
  unfolding unchecked is_class due_in
  start_standing k =
      record {
        within = omega arith;
        stands = λ h. ap (is_class Local) (gate_zero able.lent.valid);
        waits = inl refl;
        placed = k;
        common = λ i q e w. absurd (omega arith);
        running =
            running_start (lent_all f c preps inputs coefficients nonces) f l₀ t₀ o₀ able
            (course_of (came_to c 0 0) (record { gate = 0; prep = 1; waiting = 0; used = 0; checks = 0; written = 0; released = 0; rounds = 0 }))
            (record { point = came_own c 0 0 first_gate (gate_zero able.lent.valid) refl; prep = refl; used = refl; checks = refl; written = refl; released = refl; rounds = refl });
      }

  pub standing_start : {places : List ℕ} → Placed f.parties c 0 places
      → Before (lent_all f c preps inputs coefficients nonces) f l₀ t₀ o₀
      (record { gate = 0; prep = 1; waiting = 0; used = 0; checks = 0; written = 0; released = 0; rounds = 0 }) places l₀ t₀ o₀
  standing_start k = standing_before (start_standing k) first_gate
