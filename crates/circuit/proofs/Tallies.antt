-- A count goes on by one gate, and every count is small enough to fit.
-- Assumes nothing.
use Prim.Native.Nat.{ℕ, ◌+◌, ◌*◌, ◌≤◌}
use mathlib.Core.Path.{◌≡◌, ap, sym, ◌∙◌}
use mathlib.Core.Bool.{Bool, true, false, cond}
use mathlib.Core.List.{List}
use native.Mathlib.Omega.{arith}
use lib.Dec.{eqb}
use Rattle.circuit.specs.Gate.{gate}
use Rattle.circuit.specs.Kind.{Class, Local, Owned, Opens, Output, shape, is_class, is_in, is_out, owned_by}
use Rattle.circuit.specs.Count as N
use Rattle.circuit.specs.Round.{class_rounds, shape_words, coefficients_in, commits_in, over_rounds}
use Rattle.circuit.specs.Code.{class_of, shape_of, Tallied, Totalled}
use Rattle.circuit.specs.declared.Shape.{Shape}
use Rattle.circuit.specs.declared.Tally.{Tally}
use Rattle.circuit.specs.declared.Totals.{Totals}
use Rattle.circuit.proofs.KindLaws.{is_class_lem, class_is, local_no_in, local_no_out, owned_no_out, opens_no_in, opens_no_out, output_no_in, local_facts, owned_facts, output_facts, Idle, idle, shape_class, shape_prep, shape_openings}
use Rattle.circuit.proofs.Counts.{prep_more, prep_le, openings_more, openings_le, unchecked_valued, unchecked_out, unchecked_more, unchecked_few, input_more, input_le, count_more, count_le}
use Rattle.circuit.proofs.RoundLaws.{words_local, words_more, words_run_le, coefficients_local, coefficients_more, coefficients_run_le, checks_valued, checks_more, checks_run_le}

idle_shape : (c : List ℕ) (j : ℕ) (s : Shape) → shape_of s ≡ shape (gate c j) → is_class Local (class_of s.class) ≡ true → Idle (gate c j)
idle_shape c j s said e = idle (gate c j) (ap (is_class Local) (sym (shape_class s (gate c j).kind said)) ∙ e)

module _ {c : List ℕ} {i j : ℕ} {t : Tally} (was : Tallied c i j t) where
  pub tally_low : (t.prep ≤ 1 + 6 * j) × (t.openings ≤ 2 * j) × (t.unchecked ≤ 2 * j) × (t.inputs ≤ j)
  tally_low = (rw was.prep (prep_le c j), rw was.openings (openings_le c j), rw was.unchecked (unchecked_few c j), rw was.inputs (input_le c i j))

  -- what a gate of each class counts; the code found its shape to be s
  module _ (s : Shape) (said : shape_of s ≡ shape (gate c j)) where
    told : {k : Class} → class_of s.class ≡ k → (shape (gate c j)).class ≡ k
    told e = sym (shape_class s (gate c j).kind said) ∙ e

    nobody : is_in (gate c j) ≡ false → ◌≡◌ {A = ℕ} (cond (owned_by i (gate c j)) 1 0) 0
    unfolding owned_by
    nobody e = rw e

    -- a linear gate counts nothing
    pub tally_local : class_of s.class ≡ Local → Tallied c i (j + 1) t
    tally_local e =
        let h = told e in
        let none = local_facts (gate c j) h in
        record {
          prep = omega (arith, was.prep, shape_prep s (gate c j).kind said, prep_more c j);
          openings = omega (arith, was.openings, openings_more c j, none);
          unchecked = omega (arith, was.unchecked, unchecked_more c j, unchecked_valued (shape (gate c j)) (N.unchecked c j) (local_no_out h), none.openings);
          inputs = omega (arith, was.inputs, input_more c i j, nobody (local_no_in h));
        }

    pub tally_owned :
        class_of s.class ≡ Owned →
        {x k : ℕ} →
        x ≡ (gate c j).first →
        k ≡ cond (eqb x i) 1 0 →
        Tallied c i (j + 1) (record { prep = t.prep + s.prep; openings = t.openings; unchecked = t.unchecked; inputs = t.inputs + k })
    unfolding owned_by
    tally_owned e first one =
        let h = told e in
        let mine : ◌≡◌ {A = ℕ} (cond (owned_by i (gate c j)) 1 0) (cond (eqb (gate c j).first i) 1 0) = rw (class_is h) in
        let none = (owned_facts (gate c j) h).openings in
        record {
          prep = omega (arith, was.prep, shape_prep s (gate c j).kind said, prep_more c j);
          openings = omega (arith, was.openings, openings_more c j, none);
          unchecked = omega (arith, was.unchecked, unchecked_more c j, unchecked_valued (shape (gate c j)) (N.unchecked c j) (owned_no_out h), none);
          inputs = cc (was.inputs, input_more c i j, mine, one, first);
        }

    pub tally_opens :
        class_of s.class ≡ Opens →
        Tallied c i (j + 1) (record { prep = t.prep + s.prep; openings = t.openings + s.openings; unchecked = t.unchecked + s.openings; inputs = t.inputs })
    tally_opens e =
        let h = told e in
        let opened = shape_openings s (gate c j).kind said in
        record {
          prep = omega (arith, was.prep, shape_prep s (gate c j).kind said, prep_more c j);
          openings = omega (arith, was.openings, openings_more c j, opened);
          unchecked = omega (arith, was.unchecked, unchecked_more c j, unchecked_valued (shape (gate c j)) (N.unchecked c j) (opens_no_out h), opened);
          inputs = omega (arith, was.inputs, input_more c i j, nobody (opens_no_in h));
        }

    pub tally_output : class_of s.class ≡ Output → Tallied c i (j + 1) (record { prep = t.prep + s.prep; openings = t.openings; unchecked = 0; inputs = t.inputs })
    tally_output e =
        let h = told e in
        let none = (output_facts (gate c j) h).openings in
        record {
          prep = omega (arith, was.prep, shape_prep s (gate c j).kind said, prep_more c j);
          openings = omega (arith, was.openings, openings_more c j, none);
          unchecked = omega (arith, unchecked_more c j, unchecked_out (shape (gate c j)) (N.unchecked c j) (class_is h));
          inputs = omega (arith, was.inputs, input_more c i j, nobody (output_no_in h));
        }

module _ {c : List ℕ} {j : ℕ} {t : Totals} (was : Totalled c j t) where
  pub totals_low : (t.prep ≤ 1 + 6 * j) × (t.openings ≤ 2 * j) × (t.ins ≤ j) × (t.outs ≤ j) × (t.words ≤ 36 * j) × (t.coefficients + N.unchecked c j ≤ 2 * j) × (t.checks ≤ 2 * j)
  totals_low = (rw was.prep (prep_le c j), rw was.openings (openings_le c j), rw was.ins (count_le is_in c j), rw was.outs (count_le is_out c j), rw was.words (words_run_le c j), rw was.coefficients (coefficients_run_le c j), rw was.checks (checks_run_le c j))

  pub totals_more :
      (s : Shape) {u a o w k h : ℕ} {b d : Bool} →
      shape_of s ≡ shape (gate c j) →
      u ≡ N.unchecked c j →
      b ≡ is_class Owned (class_of s.class) →
      a ≡ cond b 1 0 →
      d ≡ is_class Output (class_of s.class) →
      o ≡ cond d 1 0 →
      w ≡ over_rounds (shape_words (shape_of s)) (class_rounds u (class_of s.class)) →
      k ≡ over_rounds (coefficients_in u) (class_rounds u (class_of s.class)) →
      h ≡ over_rounds commits_in (class_rounds u (class_of s.class)) →
      Totalled c (j + 1) (record { prep = t.prep + s.prep; openings = t.openings + s.openings; ins = t.ins + a; outs = t.outs + o; words = t.words + w; coefficients = t.coefficients + k; checks = t.checks + h })
  totals_more s said left isin one isout two sent taken made =
      let same : class_of s.class ≡ (shape (gate c j)).class = shape_class s (gate c j).kind said in
      record {
        prep = cc (was.prep, shape_prep s (gate c j).kind said, prep_more c j);
        openings = cc (was.openings, shape_openings s (gate c j).kind said, openings_more c j);
        ins = cc (was.ins, count_more is_in c j);
        outs = cc (was.outs, count_more is_out c j);
        words = cc (was.words, words_more c j);
        coefficients = cc (was.coefficients, coefficients_more c j);
        checks = cc (was.checks, checks_more c j);
      }

  pub totals_kept : (s : Shape) → shape_of s ≡ shape (gate c j) → is_class Local (class_of s.class) ≡ true → Totalled c (j + 1) t
  totals_kept s said e =
      let q = idle_shape c j s said e in
      let k : (shape (gate c j)).class ≡ Local = sym (shape_class s (gate c j).kind said) ∙ is_class_lem Local e in
      let no_in : ◌≡◌ {A = ℕ} (cond (is_in (gate c j)) 1 0) 0 = rw q.no_in in
      let no_out : ◌≡◌ {A = ℕ} (cond (is_out (gate c j)) 1 0) 0 = rw q.no_out in
      let no_words : over_rounds (shape_words (shape (gate c j))) (class_rounds (N.unchecked c j) (shape (gate c j)).class) ≡ 0 = rw k (words_local _ _) in
      let no_coefficients : over_rounds (coefficients_in (N.unchecked c j)) (class_rounds (N.unchecked c j) (shape (gate c j)).class) ≡ 0 = rw k (coefficients_local _) in
      let no-checks : over_rounds commits_in (class_rounds (N.unchecked c j) (shape (gate c j)).class) ≡ 0 = checks_valued _ _ q.no_out in
      record {
        prep = omega (arith, was.prep, prep_more c j, q.prep);
        openings = omega (arith, was.openings, openings_more c j, q.openings);
        ins = omega (arith, was.ins, count_more is_in c j, no_in);
        outs = omega (arith, was.outs, count_more is_out c j, no_out);
        words = omega (arith, was.words, words_more c j, no_words);
        coefficients = omega (arith, was.coefficients, coefficients_more c j, no_coefficients);
        checks = omega (arith, was.checks, checks_more c j, no-checks);
      }
