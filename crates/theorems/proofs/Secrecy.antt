-- Demand 3: two whole runs, on two sets of inputs that agree at A's parties and give equal scores where A's parties see them, cannot be told apart by
-- A, whatever good preprocessing the first was given, since one rule matches it one for one with good preprocessing for the second.
-- Assumes nothing.
use Prim.Native.Nat.{ℕ, ◌<◌}
use mathlib.Core.Path.{◌≡◌, refl, sym, ap, ap₂, ◌∙◌}
use mathlib.Core.Bool.{Bool, true, false}
use mathlib.Core.Logic.{◌≢◌}
use mathlib.Core.List.{List}
use native.Mathlib.Omega.{arith}
use lib.ListN.{length}
use Rattle.algebra.specs.Ops.{Ops}
use Rattle.algebra.specs.Field.{Field}
use Rattle.algebra.proofs.Ring.{sub_self}
use Rattle.field.specs.Words.{ops}
use Rattle.field.proofs.Laws.{laws}
use Rattle.circuit.specs.Verdict.{Accepted}
use Rattle.circuit.specs.Gate.{gate, gates}
use Rattle.circuit.specs.Kind.{Output, shape, seen_by, everyone}
use Rattle.circuit.specs.Count.{prep_size}
use Rattle.circuit.specs.Valid.{Valid}
use Rattle.circuit.proofs.Valid.{valid}
use Rattle.circuit.proofs.KindLaws.{give_output}
use Rattle.protocol.specs.Scratch.{band}
use Rattle.protocol.specs.Joint.{Joint, party}
use Rattle.protocol.specs.Run.{State, begun, run, whole}
use Rattle.protocol.specs.JointEntry.{verdict, joint_answer, joint_scratch}
use Rattle.protocol.specs.Plain.{value, scores}
use Rattle.protocol.specs.Good.{Good}
use Rattle.theorems.specs.Premises.{Accepts, InputsPass, Enough, after}
use Rattle.theorems.specs.Matching.{left_out, plainly, value_move, match, rule}
use Rattle.theorems.specs.Secrecy.{run_of, band_of, Compared, Alike, Secret, Shows, Secrecy, Blindness, UnreadByOthers}
use Rattle.theorems.proofs.Given.{given}
use Rattle.theorems.proofs.Lengths.{band_left}
use Rattle.theorems.proofs.Matching.{matched_good, matched_kept, matched_back}
use Rattle.theorems.proofs.SideBySide.{plain_scores, Pair}
use Rattle.theorems.proofs.Runs.{last_first}
use Rattle.theorems.proofs.Twins.{Ends, twins_first, twins_whole}
use Rattle.theorems.proofs.Abort.{called_enough}
use Rattle.theorems.proofs.Accuracy.{accuracy}
use Rattle.theorems.proofs.Compared.{left_out_lem, equal_outputs, no_move, left, asked}

-- two runs after k rounds
pub record SameFirst (O : Ops) (J J' : Joint) (scratch : List ℕ) (k : ℕ) : Type 0 where
  pub transcript : (run O J' k (begun O J' scratch)).transcript ≡ (run O J k (begun O J scratch)).transcript
  pub point : (after O J' scratch k).point ≡ (after O J scratch k).point
  pub used : (after O J' scratch k).used ≡ (after O J scratch k).used
  pub checks : (after O J' scratch k).checks ≡ (after O J scratch k).checks

module _ {O : Ops} (F : Field O) (n : ℕ) (c : List ℕ) (A : ℕ → Bool) where
  open O use {size}

  -- What is compared may be exchanged.
  exchanged : (x x' : List ℕ) → Compared O n c A x x' → Compared O n c A x' x
  exchanged x x' is =
      record {
        accepts = is.accepts;
        outside = is.outside;
        first = is.second;
        second = is.first;
        agree = λ i l a. sym (is.agree i l a);
        equal_scores = sym is.equal_scores;
      }

  module _ (x x' : List ℕ) (is : Compared O n c A x x') where
    -- the party that carries the differences
    abbrev h : ℕ
    h = left_out A n

    -- It is a party, and outside A.
    h_out : (h < n) × (A h ≡ false)
    h_out = left_out_lem A n is.outside.0 is.outside.1 is.outside.2

    -- The circuit is accepted, and so valid gate by gate.
    ok : Valid n size c
    ok = valid n size c is.accepts.circuit

    -- No party of A carries the differences.
    inside : (i : ℕ) → A i ≡ true → i ≢ h
    inside i a e = let z : true ≡ false = sym a ∙ ap A e ∙ h_out.1 in let w : ◌≡◌ {A = ℕ} 0 1 = cc in omega arith

    -- The match of good preprocessing is good ..
    match_good : (m : List ℕ) → Good O n c m → Good O n c (match O n c h x x' m)
    match_good m g = matched_good F n c h x x' m g ok h_out.0

    -- .. and with the inputs exchanged the rule leads back.
    match_back : (m : List ℕ) → Good O n c m → match O n c h x' x (match O n c h x x' m) ≡ m
    match_back m g = matched_back F n c h x x' m g h_out.0

    -- The value of an output that a party of A sees does not differ.
    equal_value : (j : ℕ) → j < gates c → (shape (gate c j)).class ≡ Output → seen_by A (gate c j) ≡ true
        → value O (plainly n c x') (gate c j).first ≡ value O (plainly n c x) (gate c j).first
    equal_value = equal_outputs O n c A x x' (gates c) is.equal_scores

    unmoved : (j : ℕ) → j < gates c → (shape (gate c j)).class ≡ Output → seen_by A (gate c j) ≡ true → value_move O n c h x x' (gate c j).first ≡ 0
    unfolding value_move
    unmoved j l k s = ap (λ (v : ℕ). O.sub v (value O (plainly n c x) (gate c j).first)) (equal_value j l k s) ∙ sub_self F _

    -- A's parts of the preprocessing are kept.
    match_keeps : (m : List ℕ) → Good O n c m → (i : ℕ) → i < n → A i ≡ true → band (prep_size c) (match O n c h x x' m) i ≡ band (prep_size c) m i
    match_keeps m g i l a =
        matched_kept F n c h x x' m g i (inside i a) (λ j owned. no_move O n c x x' F h i (is.agree i l a) j)
        (λ j lj give to. unmoved j lj (give_output (gate c j) give) (unfold seen_by in rw (give, to, a))) l

    module _ (m : List ℕ) (g : Good O n c m) (co ns : List ℕ) where
      -- the two runs
      abbrev J : Joint
      J = run_of O n c A m x co ns

      abbrev J' : Joint
      J' = run_of O n c A (match O n c h x x' m) x' co ns

      -- the two runs as a pair
      abbrev pair : Pair F
      pair =
          record {
            n = n;
            c = c;
            h = h;
            x = x;
            x' = x';
            m = m;
            co = co;
            ns = ns;
            h_lt = h_out.0;
            good = g;
            has = given F J is.accepts g is.first;
            has' = given F J' is.accepts (match_good m g) is.second;
            outputs = λ j l k out. equal_value j l k (unfold seen_by in rw out);
          }

      -- A's parties are the same in both.
      known : (i : ℕ) → i < n → A i ≡ true → party J' i ≡ party J i
      unfolding party plainly
      known i l a =
          λ u. record { parties = n; me = i; circuit = c; prep = match_keeps m g i l a u; inputs = is.agree i l a u }

      -- After any number of rounds the two runs stand alike, and the same words are written.
      pub same_first : (scratch : List ℕ) → Enough J scratch → (k : ℕ) → SameFirst O J J' scratch k
      same_first scratch enough k =
          let ends = twins_first pair A known scratch enough k in
          record {
            transcript = ends.transcript;
            point = ap (λ (s : State). s.point) (sym (last_first O J' scratch k)) ∙ ends.last.point ∙ ap (λ (s : State). s.point) (last_first O J scratch k);
            used = ap (λ (s : State). s.used) (sym (last_first O J' scratch k)) ∙ ends.last.used ∙ ap (λ (s : State). s.used) (last_first O J scratch k);
            checks = ap (λ (s : State). s.checks) (sym (last_first O J' scratch k)) ∙ ends.last.checks ∙ ap (λ (s : State). s.checks) (last_first O J scratch k);
          }

    module _ (m : List ℕ) (g : Good O n c m) (co ns scratch t o t' o' : List ℕ) where
      -- the two runs
      abbrev R : Joint
      R = J m g co ns

      abbrev R' : Joint
      R' = J' m g co ns

      -- Each run is left with the questions about its scratch, coefficients, nonces and room, which are the same in both.
      asked_here : verdict O R scratch t o ≡ left size n c co ns scratch (length t) (length o)
      unfolding verdict
      asked_here = asked F n c A is.accepts m x g is.first co ns scratch (length t) (length o)

      asked_there : verdict O R' scratch t' o' ≡ left size n c co ns scratch (length t') (length o')
      unfolding verdict
      asked_there = asked F n c A is.accepts (match O n c h x x' m) x' (match_good m g) is.second co ns scratch (length t') (length o')

      -- A run that is not refused has nonces and room.
      enough : verdict O R scratch t o ≡ Accepted → Enough R scratch
      unfolding verdict
      enough e = called_enough O R scratch (length t) (length o) e

      module _ (e : verdict O R scratch t o ≡ Accepted) (e' : verdict O R' scratch t' o' ≡ Accepted) where
        -- Both runs end alike.
        ends : Ends (pair m g co ns) A (known m g co ns) (whole O R scratch) (whole O R' scratch)
        ends = twins_whole (pair m g co ns) A (known m g co ns) scratch (enough e)

        -- They give the same answer.
        same_answer : joint_answer O R' scratch t' o' ≡ joint_answer O R scratch t o
        unfolding joint_answer
        same_answer = rw (e, e', ends.rounds, ends.last.point, ends.last.blame)

        -- They leave the same numbers in the scratch of A's parties.
        same_bands : (i : ℕ) → i < n → A i ≡ true → band_of O n c A (joint_scratch O R' scratch t' o') i ≡ band_of O n c A (joint_scratch O R scratch t o) i
        same_bands i l a =
            band_left O R' scratch t' o' (enough e).room e' i l ∙ ends.last.bands i l a ∙ sym (band_left O R scratch t o (enough e).room e i l)

      -- The two runs are alike.
      alike : Alike O n c A R R' scratch t o t' o'
      alike =
          record {
            refusals = λ lt lo. asked_there ∙ ap₂ (left size n c co ns scratch) (sym lt) (sym lo) ∙ sym asked_here;
            answers = same_answer;
            rounds = λ e e'. (ends e e').rounds;
            words = λ e e'. (ends e e').transcript;
            bands = same_bands;
          }

-- Demand 3, over every field.
pub secrecy : {O : Ops} → Field O → Secrecy O
unfolding rule
secrecy {O} F n c A x x' is =
    record {
      there_good = match_good F n c A x x' is;
      back_good = match_good F n c A x' x (exchanged F n c A x x' is);
      back_there = match_back F n c A x x' is;
      there_back = match_back F n c A x' x (exchanged F n c A x x' is);
      keeps = match_keeps F n c A x x' is;
      alike = λ m g co ns scratch t o t' o'. alike F n c A x x' is m g co ns scratch t o t' o';
    }

module _ {O : Ops} (n : ℕ) (c : List ℕ) (A : ℕ → Bool) where
  -- What one run shows to A, the run on matched preprocessing shows too.
  shown : (x x' : List ℕ) (there back : List ℕ → List ℕ) → Secret O n c A x x' there back
      → (co ns scratch t o words : List ℕ) (preps bands : ℕ → List ℕ) (m : List ℕ)
      → Good O n c m
      → Shows O n c A (run_of O n c A m x co ns) scratch t o words preps bands
      → Good O n c (there m) × Shows O n c A (run_of O n c A (there m) x' co ns) scratch t o words preps bands
  shown x x' there back is co ns scratch t o words preps bands m g shows = (
    is.there_good m g,
    record {
      owns = λ i l a. is.keeps m g i l a ∙ shows.owns i l a;
      accepted = accepted;
      says = runs.words shows.accepted accepted ∙ shows.says;
      leaves = λ i l a. runs.bands shows.accepted accepted i l a ∙ shows.leaves i l a;
    },
  )
    where
      runs : Alike O n c A (run_of O n c A m x co ns) (run_of O n c A (there m) x' co ns) scratch t o t o
      runs = is.alike m g co ns scratch t o t o

      accepted : verdict O (run_of O n c A (there m) x' co ns) scratch t o ≡ Accepted
      accepted = runs.refusals refl refl ∙ shows.accepted

-- A view tells nothing of the inputs, over every field.
pub blindness : {O : Ops} → Field O → Blindness O
blindness {O} F n c A x x' is co ns scratch t o words preps bands =
    record {
      there_shows = shown n c A x x' _ _ here co ns scratch t o words preps bands;
      back_shows = shown n c A x' x _ _ (secrecy F n c A x' x (exchanged F n c A x x' is)) co ns scratch t o words preps bands;
      back_there = here.back_there;
      there_back = here.there_back;
    }
  where
    here : Secret O n c A x x' (rule O n c A x x') (rule O n c A x' x)
    here = secrecy F n c A x x' is

-- A run that is not refused gives the scores on its plain inputs.
plainly_scored : {O : Ops} (F : Field O) (n : ℕ) (c : List ℕ) (A : ℕ → Bool) (x : List ℕ) → Accepts O n c → InputsPass O c x
    → (co ns scratch t o m : List ℕ)
    → Good O n c m
    → verdict O (run_of O n c A m x co ns) scratch t o ≡ Accepted
    → (whole O (run_of O n c A m x co ns) scratch).outputs ≡ scores O (plainly n c x) (gates c)
unfolding verdict
plainly_scored {O} F n c A x accepts pass co ns scratch t o m g accepted =
    (accuracy F (run_of O n c A m x co ns) scratch
    (record { accepts = accepts; good = g; inputs = pass; enough = called_enough O (run_of O n c A m x co ns) scratch (length t) (length o) accepted })
    ).outputs
    ∙ plain_scores O n c m x co ns everyone (gates c)

-- A view tells nothing of the scores that A's parties do not see, over every field.
pub unread : {O : Ops} → Field O → UnreadByOthers O
unread F n c A x x' is co ns scratch t o words preps bands =
    record {
      blind = blindness F n c A x x' is co ns scratch t o words preps bands;
      first_scores = λ m g shows. plainly_scored F n c A x is.accepts is.first co ns scratch t o m g shows.accepted;
      second_scores = λ m g shows. plainly_scored F n c A x' is.accepts is.second co ns scratch t o m g shows.accepted;
    }

-- All three at the field that the code works with.
pub secrecy_here : Secrecy ops
secrecy_here = secrecy laws

pub blindness_here : Blindness ops
blindness_here = blindness laws

pub unread_here : UnreadByOthers ops
unread_here = unread laws
