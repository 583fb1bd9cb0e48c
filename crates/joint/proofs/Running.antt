-- The run: round after round, what is written so far and the run that remains make up the whole run.
-- Assumes nothing.
use Prim.Native.Nat.{ℕ, suc, ◌+◌, ◌-◌, ◌*◌, ◌<◌, ◌≤◌}
use mathlib.Core.Path.{◌≡◌, refl, sym, ap, subst, ◌∙◌}
use mathlib.Core.Bool.{true, cond}
use mathlib.Core.List.{List, [], ◌++◌, append_assoc, append-nil}
use native.Mathlib.Nat.{mul-le-mul_left, mul-add}
use native.Mathlib.Omega.{arith}
use lib.ListN.{length, drop}
use Rattle.field.specs.Words.{size, ops}
use Rattle.circuit.specs.Gate.{gate, gates}
use Rattle.circuit.specs.Count.{total, prep_at, unchecked}
use Rattle.circuit.proofs.Gates.{receiver_named}
use Rattle.circuit.specs.Round.{Round, Own, words, opened_in, coefficients_in, commits_in, over_run, word_count, coefficient_count, check_count}
use Rattle.protocol.specs.Scratch.{band, written_at, scratch_size}
use Rattle.protocol.specs.Position.{Point, Stage, Send, Receive, Finished, Aborted, follow, start}
use Rattle.protocol.specs.Receive.{Nobody}
use Rattle.protocol.specs.Ready.{Ready}
use Rattle.protocol.specs.Ask.{most_parties}
use Rattle.protocol.specs.Entry.{releases}
use Rattle.protocol.proofs.Following.{start_is}
use Rattle.protocol.proofs.Points.{FitsStage, spent, sending, spent_follow, Goes, goes_start, spent_le}
use Rattle.protocol.specs.Send.{overwrite}
use Rattle.protocol.specs.Joint.{Joint, joined, party}
use Rattle.protocol.specs.Run.{State, Run, said, step, released, takes, begun, still, ahead, run, most_rounds, whole}
use Rattle.protocol.specs.JointEntry as E
use Rattle.joint.specs.declared.Ending.{Ending}
use Rattle.joint.specs.declared.Frame.{Frame}
use Rattle.joint.specs.Code.{Course, ending_of, site_of, state_of, due_at, none_held, Going, Moving, Alike, Turned, Runnable, Ran}
use Rattle.protocol.proofs.Words.{length_band, joined_ext}
use Rattle.joint.proofs.Written.{Written, written_more, written_le, written_done}
use Rattle.protocol.proofs.Tails.{length_written}
use Rattle.protocol.proofs.Bands.{joined_bands}
use Rattle.protocol.proofs.Gathering.{zeros}
use Rattle.protocol.proofs.Runs.{Over, run_goes, run_over, next_passed, next_goes, released_fits, released_one}
use Rattle.joint.proofs.Parties.{party_prep, party_prep_low, party_inputs, party_inputs_low}
use Rattle.protocol.proofs.Spending.{rounds_le, outputs_all}
use Rattle.joint.proofs.States.{said_alike, released_alike, step_alike, alike_then}
use Rattle.joint.proofs.Going.{ends_in, next_in, within, occurs, heard_long, point_is, next_fits, going_next}

-- what a round takes: one round, the words of a party, coefficients, checks, and outputs where it is not stopped
abbrev one : ℕ → Round → ℕ
one j r = 1

abbrev words_of : List ℕ → ℕ → Round → ℕ
words_of c j r = words (gate c j) r

abbrev draws_of : List ℕ → ℕ → Round → ℕ
draws_of c j r = coefficients_in (unchecked c j) r

abbrev checks_of : ℕ → Round → ℕ
checks_of j r = commits_in r

abbrev output_of : ℕ → Round → ℕ
output_of j r = cond (releases r) 1 0

module _ (J : Joint) (f : Frame) where
  -- round r is due: what it asks is there, and what lies behind it is used up. That many rounds may still be made
  pub record DueRound (s : Course) (held l : List ℕ) (left : ℕ) (r : Round) : Type 0 where
    pub going : Going J f s r held l
    pub fuel : s.rounds + left ≡ most_rounds ops J * gates J.circuit
    pub rounds : s.rounds ≡ spent J.circuit one (sending s.point.gate r)
    pub written : s.written ≡ J.parties * spent J.circuit (words_of J.circuit) (sending s.point.gate r)
    pub used : s.used ≡ spent J.circuit (draws_of J.circuit) (sending s.point.gate r)
    pub checks : s.checks ≡ spent J.circuit checks_of (sending s.point.gate r)
    pub given : s.released ≡ spent J.circuit output_of (sending s.point.gate r)

  abbrev pub Due : Course → List ℕ → List ℕ → ℕ → Stage → Type 0
  Due s held l left (Send r) = DueRound s held l left r
  Due s held l left (Receive r) = Unit {0}
  Due s held l left Finished = Unit {0}
  Due s held l left Aborted = Unit {0}

  module _ (l₀ t₀ o₀ : List ℕ) where
    -- between two rounds: the state is st, ws and vs are the words and outputs so far, and the run from st on makes up the whole
    pub record Running (s : Course) (held l t o : List ℕ) : Type 0 where
      pub st : State
      pub alike : Alike J.parties (state_of f s held l) st
      pub left : ℕ
      pub ws : List ℕ
      pub vs : List ℕ
      pub long : length l ≡ length l₀
      pub long_t : length t ≡ length t₀
      pub long_o : length o ≡ length o₀
      pub excess : drop (J.parties * f.scratch) l ≡ drop (J.parties * f.scratch) l₀
      pub words : Written t₀ t s.written ws
      pub outs : Written o₀ o s.released vs
      pub transcript : (whole ops J l₀).transcript ≡ ws ++ (run ops J left st).transcript
      pub outputs : (whole ops J l₀).outputs ≡ vs ++ (run ops J left st).outputs
      pub rounds : (whole ops J l₀).rounds ≡ s.rounds + (run ops J left st).rounds
      pub last : (whole ops J l₀).last ≡ (run ops J left st).last
      pub due : Due s held l left s.point.stage

    module _ (able : Runnable J f l₀ t₀ o₀) {s : Course} {held l t o : List ℕ} (inv : Running s held l t o) (r : Round) (e : s.point.stage ≡ Send r) where
      due_is : DueRound s held l inv.left r
      due_is = subst (Due s held l inv.left) e inv.due

      fits : FitsStage J.circuit s.point.gate (Send r)
      fits = (within J f s r held l due_is.going, occurs J f s r held l due_is.going)

      -- there are rounds left
      pub rounds_left : s.rounds < most_rounds ops J * gates J.circuit
      rounds_left = omega (arith, due_is.rounds, spent_le J.circuit one s.point.gate r fits, rounds_le J.circuit (gates J.circuit))

      words_left : s.written + J.parties * words (gate J.circuit s.point.gate) r ≤ length t
      unfolding word_count
      words_left =
          omega (
            arith,
            due_is.written,
            mul-add J.parties (spent J.circuit (words_of J.circuit) (sending s.point.gate r)) (words (gate J.circuit s.point.gate) r),
            mul-le-mul_left J.parties (spent_le J.circuit (words_of J.circuit) s.point.gate r fits),
            able.words_fit,
            inv.long_t,
          )

      pub outputs_left : releases r ≡ true → s.released < length o
      outputs_left h =
          let z : ◌≡◌ {A = ℕ} (cond (releases r) 1 0) 1 = rw h in
          omega (arith, due_is.given, spent_le J.circuit output_of s.point.gate r fits, outputs_all J.circuit, able.outputs_fit, inv.long_o)

      -- the round is asked what it may ask
      pub running_moving : Moving J f s r held l t
      running_moving = record { going = due_is.going; words_fit = words_left; rounds_few = rounds_left }

      module _ {s' : Course} {held' l' t' o' : List ℕ} (d : Turned J f s r held l t o s' held' l' t' o') where
        c : List ℕ
        c = J.circuit

        j : ℕ
        j = s.point.gate

        -- what is said and released, in the state of the run
        said_is : said ops J (state_of f s held l) r ≡ said ops J inv.st r
        said_is = said_alike ops J (state_of f s held l) inv.st r inv.alike

        released_is : released ops J (state_of f s held l) r ≡ released ops J inv.st r
        released_is =
            released_alike ops J (state_of f s held l) inv.st r inv.alike
            (unfold state_of in receiver_named able.lent.valid s.point.gate fits.0 (omega (arith, able.lent.some)))

        -- how many words were said, and where the round led
        said_many : length (said ops J (state_of f s held l) r) ≡ J.parties * words (gate J.circuit s.point.gate) r
        said_many = heard_long J f s r held l due_is.going

        -- there is room for them
        said_fits : s.written + length (said ops J (state_of f s held l) r) ≤ length t
        said_fits = omega (arith, words_left, said_many)

        released_room : s.released + length (released ops J (state_of f s held l) r) ≤ length o
        released_room = released_fits ops J (state_of f s held l) r s.released (length o) (written_le inv.outs inv.long_o) outputs_left

        outputs_length : length o' ≡ length o
        outputs_length =
            ap length d.outputs ∙ length_written s.released (released ops J (state_of f s held l) r) o

        transcript_length : length t' ≡ length t
        transcript_length =
            ap length d.moved.transcript ∙ length_written s.written (said ops J (state_of f s held l) r) t

        -- the run from here on is the round and the run after it
        rest : ℕ
        rest = inv.left - 1

        rest_is : inv.left ≡ suc rest
        unfolding rest
        rest_is = omega (arith, due_is.fuel, rounds_left)

        st_sends : inv.st.point.stage ≡ Send r
        unfolding state_of
        st_sends = ap (λ (x : Point). x.stage) (sym inv.alike.point) ∙ e

        run_is : run ops J inv.left inv.st ≡ ahead ops J inv.st r (run ops J rest (step ops J inv.st r))
        run_is = ap (λ (k : ℕ). run ops J k inv.st) rest_is ∙ run_goes ops J rest inv.st r st_sends

        -- what lies behind the next round
        module _ (r' : Round) (e' : (next_in J f s r held l due_is.going).stage ≡ Send r') where
          spent_next : (h : ℕ → Round → ℕ) → spent J.circuit h (sending s'.point.gate r') ≡ spent J.circuit h (sending s.point.gate r) + h s.point.gate r
          spent_next h =
              ap (λ (x : Point). spent J.circuit h x) there
              ∙ spent_follow J.circuit h s.point.gate r fits
            where
              there : ◌≡◌ {A = Point} (record { gate = s'.point.gate; stage = Send r' }) (follow J.circuit s.point.gate r)
              there =
                  ap (λ (x : Point). record { gate = x.gate; stage = Send r' }) (point_is J f s r held l due_is.going d.moved)
                  ∙ ap (λ (z : Stage). record { gate = (next_in J f s r held l due_is.going).gate; stage = z }) (sym e')
                  ∙ next_goes J.circuit s.point.gate r (ends_in J f s r held l due_is.going) r' e'

          fits_next : FitsStage J.circuit s'.point.gate (Send r')
          fits_next = next_fits J f s r held l due_is.going d.moved r' e'

          used_next : s'.used ≡ spent J.circuit (draws_of J.circuit) (sending s'.point.gate r')
          unfolding state_of step takes
          used_next = d.moved.alike.used ∙ omega (arith, due_is.used, spent_next (draws_of J.circuit))

          checks_next : s'.checks ≡ spent J.circuit checks_of (sending s'.point.gate r')
          unfolding state_of step
          checks_next = d.moved.alike.checks ∙ omega (arith, due_is.checks, spent_next checks_of)

          due_next : DueRound s' held' l' rest r'
          unfolding coefficient_count check_count
          due_next =
              record {
                going =
                    going_next J f s r held l due_is.going d.moved r' e'
                    (omega (arith, used_next, spent_le J.circuit (draws_of J.circuit) s'.point.gate r' fits_next, able.has_coefficient_count))
                    (rw checks_next (omega (arith, mul-le-mul_left J.parties (spent_le J.circuit checks_of s'.point.gate r' fits_next), able.nonce_count)));
                fuel = omega (arith, due_is.fuel, d.moved.rounds, rest_is);
                rounds = omega (arith, d.moved.rounds, due_is.rounds, spent_next one);
                written =
                    omega (
                      arith,
                      d.moved.written,
                      due_is.written,
                      said_many,
                      mul-add J.parties (spent J.circuit (words_of J.circuit) (sending s.point.gate r)) (words (gate J.circuit s.point.gate) r),
                      ap (λ (k : ℕ). J.parties * k) (spent_next (words_of J.circuit)),
                    );
                used = used_next;
                checks = checks_next;
                given =
                    omega (
                      arith,
                      d.given,
                      due_is.given,
                      spent_next output_of,
                      released_one ops J (state_of f s held l) r (next_passed J.circuit s.point.gate r (ends_in J f s r held l due_is.going) r' e'),
                    );
              }

        due_then : Due s' held' l' rest s'.point.stage
        due_then =
            subst (Due s' held' l' rest) (sym (ap (λ (x : Point). x.stage) (point_is J f s r held l due_is.going d.moved)))
            (go (next_in J f s r held l due_is.going).stage refl)
          where
            go : (x : Stage) → (next_in J f s r held l due_is.going).stage ≡ x → Due s' held' l' rest x
            go (Send r') e' = due_next r' e'
            go (Receive r') e' = tt
            go Finished e' = tt
            go Aborted e' = tt

        -- after the round
        pub running_again : Running s' held' l' t' o'
        unfolding ahead
        running_again =
            record {
              st = step ops J inv.st r;
              alike = alike_then J.parties _ _ _ d.moved.alike (step_alike ops J (state_of f s held l) inv.st r inv.alike);
              left = rest;
              ws = inv.ws ++ said ops J inv.st r;
              vs = inv.vs ++ released ops J inv.st r;
              long = d.moved.long ∙ inv.long;
              long_t = transcript_length ∙ inv.long_t;
              long_o = outputs_length ∙ inv.long_o;
              excess = d.moved.excess ∙ inv.excess;
              words = written_more inv.words (said ops J inv.st r) (rw (← said_is) said_fits) (d.moved.transcript ∙ ap (λ (w : List ℕ). written_at s.written w t) said_is) (d.moved.written ∙ ap (λ (w : List ℕ). s.written + length w) said_is);
              outs = written_more inv.outs (released ops J inv.st r) (rw (← released_is) released_room) (d.outputs ∙ ap (λ (w : List ℕ). written_at s.released w o) released_is) (d.given ∙ ap (λ (w : List ℕ). s.released + length w) released_is);
              transcript = inv.transcript ∙ ap (λ (x : Run). inv.ws ++ x.transcript) run_is ∙ sym (append_assoc inv.ws (said ops J inv.st r) _);
              outputs = inv.outputs ∙ ap (λ (x : Run). inv.vs ++ x.outputs) run_is ∙ sym (append_assoc inv.vs (released ops J inv.st r) _);
              rounds = inv.rounds ∙ ap (λ (x : Run). s.rounds + x.rounds) run_is ∙ omega (arith, d.moved.rounds);
              last = inv.last ∙ ap (λ (x : Run). x.last) run_is;
              due = due_then;
            }

    -- the run is over: the words and outputs so far are all
    module _ (able : Runnable J f l₀ t₀ o₀) {s : Course} {held l t o : List ℕ} (inv : Running s held l t o)
        (over : Over s.point.stage) where
      st_over : Over inv.st.point.stage
      unfolding state_of
      st_over = subst (λ (z : Point). Over z.stage) inv.alike.point over

      rest_none : run ops J inv.left inv.st ≡ still ops J inv.st
      rest_none = run_over ops J inv.left inv.st st_over

      last_is : (whole ops J l₀).last ≡ inv.st
      unfolding still
      last_is = inv.last ∙ ap (λ (x : Run). x.last) rest_none

      rounds_is : (whole ops J l₀).rounds ≡ s.rounds
      unfolding still
      rounds_is = inv.rounds ∙ ap (λ (x : Run). s.rounds + x.rounds) rest_none ∙ omega arith

      words_are : (whole ops J l₀).transcript ≡ inv.ws
      unfolding still
      words_are = inv.transcript ∙ ap (λ (x : Run). inv.ws ++ x.transcript) rest_none ∙ append-nil inv.ws

      outputs_are : (whole ops J l₀).outputs ≡ inv.vs
      unfolding still
      outputs_are = inv.outputs ∙ ap (λ (x : Run). inv.vs ++ x.outputs) rest_none ∙ append-nil inv.vs

      point_last : (whole ops J l₀).last.point ≡ s.point
      unfolding state_of
      point_last = ap (λ (x : State). x.point) last_is ∙ sym inv.alike.point

      blame_last : (whole ops J l₀).last.blame ≡ Nobody
      unfolding state_of
      blame_last = ap (λ (x : State). x.blame) last_is ∙ sym inv.alike.blame

      scratch_last : l ≡ joined J.parties (whole ops J l₀).last.scratch ++ drop (J.parties * scratch_size J.parties J.circuit) l₀
      unfolding state_of
      scratch_last =
          sym (joined_bands J.parties f.scratch l (omega (arith, inv.long, able.room)))
          ∙ ap (λ (x : List ℕ). joined J.parties (band f.scratch l) ++ x) inv.excess
          ∙ ap (λ (x : List ℕ). x ++ drop (J.parties * f.scratch) l₀) (joined_ext J.parties (band f.scratch l) (whole ops J l₀).last.scratch (λ i h. inv.alike.scratch i h ∙ ap (λ (x : State). x.scratch i) (sym last_is)))
          ∙ ap (λ (k : ℕ). joined J.parties (whole ops J l₀).last.scratch ++ drop (J.parties * k) l₀) able.lent.framed.scratch

      -- so the answer tells the end of the whole run, and the lists hold what it leaves
      pub running_over : {a : Ending} → ending_of a ≡ E.ended s.point.stage s.point.gate Nobody s.rounds → Ran J l₀ t₀ o₀ a l t o
      running_over e =
          record {
            answer = rw (point_last, blame_last, rounds_is) e;
            scratch = scratch_last;
            transcript = written_done inv.words ∙ ap (λ (x : List ℕ). overwrite x t₀) (sym words_are);
            outputs = written_done inv.outs ∙ ap (λ (x : List ℕ). overwrite x o₀) (sym outputs_are);
          }

-- before the first round, which is an in gate's own
pub record Started (s : Course) : Type 0 where
  pub point : s.point ≡ due_at 0 Own
  pub prep : s.prep ≡ 1
  pub used : s.used ≡ 0
  pub checks : s.checks ≡ 0
  pub written : s.written ≡ 0
  pub released : s.released ≡ 0
  pub rounds : s.rounds ≡ 0

module _ (J : Joint) (f : Frame) (l t o : List ℕ) (able : Runnable J f l t o) (s : Course) (b : Started s) where
  gate_zero : s.point.gate ≡ 0
  gate_zero = ap (λ (x : Point). x.gate) b.point

  stage_input : s.point.stage ≡ Send Own
  stage_input = ap (λ (x : Point). x.stage) b.point

  at_start_lem : s.point ≡ start J.circuit
  at_start_lem = b.point ∙ sym (start_is J.circuit J.parties size able.lent.valid)

  goes : Goes J.circuit 0 (record { gate = 0; stage = Send Own })
  goes = subst (Goes J.circuit 0) (start_is J.circuit J.parties size able.lent.valid) (goes_start J.circuit able.lent.valid)

  nothing_spent : (h : ℕ → Round → ℕ) → spent J.circuit h (sending s.point.gate Own) ≡ 0
  unfolding over_run
  nothing_spent h = rw gate_zero (goes.spent_is h)

  none_opened : opened_in (unchecked J.circuit 0) Own ≡ 0
  unfolding unchecked
  none_opened = refl

  first_record : s.prep ≡ prep_at J.circuit 0
  unfolding prep_at total
  first_record = b.prep

  ready_first : (i : ℕ) → i < J.parties → Ready size (party J i) (band f.scratch l i) f.layout (site_of J.circuit s i) Own
  unfolding site_of party
  ready_first i h =
      rw gate_zero
      (record {
        valid = able.lent.valid;
        prep_long = party_prep able.lent i h;
        prep_low = party_prep_low able.lent i h;
        inputs_long = party_inputs able.lent i h;
        inputs_low = party_inputs_low able.lent i h;
        lay = able.lent.framed.lay;
        room = omega (arith, able.lent.framed.scratch, length_band f.scratch J.parties l able.room i h);
        sited = record { within = goes.fits.0; prep = first_record; unchecked = refl; input = refl };
        occurs = goes.fits.1;
        worked = λ x z. absurd (omega arith);
        opened = λ x z. absurd (omega (arith, none_opened));
      })

  pub running_start : Running J f l t o s none_held l t o
  unfolding whole begun state_of
  running_start =
      record {
        st = begun ops J l;
        alike =
            record {
              point = at_start_lem;
              held = λ i h. zeros most_parties i;
              scratch = λ i h. ap (λ (k : ℕ). band k l i) able.lent.framed.scratch;
              used = b.used;
              checks = b.checks;
              blame = refl;
            };
        left = most_rounds ops J * gates J.circuit;
        ws = [];
        vs = [];
        long = refl;
        long_t = refl;
        long_o = refl;
        excess = refl;
        words = record { are = rw b.written; place = b.written };
        outs = record { are = rw b.released; place = b.released };
        transcript = refl;
        outputs = refl;
        rounds = omega (arith, b.rounds);
        last = refl;
        due =
            subst (Due J f s none_held l (most_rounds ops J * gates J.circuit)) (sym stage_input)
            (record {
              going =
                  record {
                    lent = able.lent;
                    room = able.room;
                    prep_is = rw gate_zero first_record;
                    eight = refl;
                    held_low = λ i h. rw (zeros most_parties i) (omega arith);
                    held_none = λ e i h. zeros most_parties i;
                    ready = ready_first;
                    has_coefficient_count = omega (arith, nothing_drawn, b.used);
                    coefficients_low = able.coefficients_low;
                    nonce_count = rw no_check (omega arith);
                  };
              fuel = omega (arith, b.rounds);
              rounds = omega (arith, b.rounds, nothing_spent one);
              written = omega (arith, b.written, ap (λ (k : ℕ). J.parties * k) (nothing_spent (words_of J.circuit)));
              used = omega (arith, b.used, nothing_spent (draws_of J.circuit));
              checks = omega (arith, b.checks, nothing_spent checks_of);
              given = omega (arith, b.released, nothing_spent output_of);
            });
      }
    where
      nothing_drawn : coefficients_in (unchecked J.circuit s.point.gate) Own ≡ 0
      nothing_drawn = unfold coefficients_in in refl

      no_check : s.checks + commits_in Own ≡ 0
      no_check = unfold commits_in in omega (arith, b.checks)
