-- The questions in groups, and what their acceptance gives.
-- Assumes nothing.
use Prim.Native.Nat.{ℕ, ◌*◌, ◌≤◌}
use mathlib.Core.Path.{◌≡◌}
use mathlib.Core.Bool.{◌&&◌}
use mathlib.Core.List.{List}
use native.Mathlib.Omega.{arith}
use lib.ListN.{length}
use lib.Dec.{leb}
use borrow.Author.Tests.{leb-true, eqb-true}
use Rattle.field.specs.Words.{size}
use Rattle.circuit.specs.Verdict.{Verdict, Accepted, ◌then◌}
use Rattle.circuit.specs.Count.{prep_size, in_count, out_count}
use Rattle.circuit.specs.Round.{nonce_size, word_count, coefficient_count, check_count}
use Rattle.circuit.specs.Accept.{ask_circuit}
use Rattle.circuit.specs.Valid.{Valid}
use Rattle.circuit.proofs.Tests.{both_left, both_right}
use Rattle.circuit.proofs.Verdicts.{ask_true, then_left, then_right, elements_below}
use Rattle.circuit.proofs.Valid.{valid}
use Rattle.protocol.specs.Scratch.{scratch_size}
use Rattle.protocol.specs.Ask.{ask_parties, fewest_parties, most_parties}
use Rattle.circuit.proofs.Loops.{then_assoc}
use Rattle.protocol.specs.Joint.{Joint}
use Rattle.protocol.specs.JointAsk.{ask_joint}
use Rattle.joint.specs.declared.Frame.{Frame}
use Rattle.joint.specs.Code.{Framed, lists_of, rooms_of, Runnable}

-- 1 and 3 to 7
abbrev pub setting_of : ℕ → List ℕ → Verdict
setting_of n c = ask_parties n then ask_circuit n size c

-- and the others
abbrev pub lent_of : ℕ → List ℕ → List ℕ → List ℕ → ℕ → List ℕ → ℕ → ℕ → ℕ → Verdict
lent_of n c preps inputs room coefficients nonces transcript outputs =
    lists_of preps (n * prep_size c) inputs (in_count c) room (n * scratch_size n c)
    then rooms_of coefficients (coefficient_count c) nonces (nonce_size * (n * check_count c)) (n * word_count c) transcript (out_count c) outputs

-- The groups make up the questions of the joint run ..
pub asked : (J : Joint) (l : List ℕ) (transcript outputs : ℕ)
    → (setting_of J.parties J.circuit then lent_of J.parties J.circuit J.preps J.inputs (length l) J.coefficients (length J.nonces) transcript outputs)
    ≡ ask_joint size J l transcript outputs
unfolding ask_joint
asked J l transcript outputs = simp then_assoc

-- .. and are asked of the lengths that are counted.
pub lent_asked : (n : ℕ) (c preps inputs : List ℕ) (room : ℕ) (coefficients : List ℕ) (nonces transcript outputs : ℕ) {prep ins size has_coefficient_count checks words outs : ℕ}
    → prep ≡ prep_size c
    → ins ≡ in_count c
    → size ≡ scratch_size n c
    → has_coefficient_count ≡ coefficient_count c
    → checks ≡ check_count c
    → words ≡ word_count c
    → outs ≡ out_count c
    → (lists_of preps (n * prep) inputs ins room (n * size) then rooms_of coefficients has_coefficient_count nonces (nonce_size * (n * checks)) (n * words) transcript outs outputs)
    ≡ lent_of n c preps inputs room coefficients nonces transcript outputs
lent_asked n c preps inputs room coefficients nonces transcript outputs e₁ e₂ e₃ e₄ e₅ e₆ e₇ = rw (e₁, e₂, e₃, e₄, e₅, e₆, e₇)

-- what acceptance of the first group gives
pub record Settled (n : ℕ) (c : List ℕ) : Type 0 where
  pub some : fewest_parties ≤ n
  pub few : n ≤ most_parties
  pub valid : Valid n size c

pub settled : (n : ℕ) (c : List ℕ) → setting_of n c ≡ Accepted → Settled n c
unfolding ask_parties
settled n c e =
    let b = ask_true 1 0 (leb fewest_parties n && leb n most_parties) (then_left _ _ e) in
    record {
      some = leb-true fewest_parties n (both_left (leb fewest_parties n) (leb n most_parties) b);
      few = leb-true n most_parties (both_right (leb fewest_parties n) (leb n most_parties) b);
      valid = valid n size c (then_right _ _ e);
    }

module _ (J : Joint) (l : List ℕ) (transcript outputs : ℕ) (first : Settled J.parties J.circuit)
    (e : lent_of J.parties J.circuit J.preps J.inputs (length l) J.coefficients (length J.nonces) transcript outputs ≡ Accepted) where
  lists : lists_of J.preps (J.parties * prep_size J.circuit) J.inputs (in_count J.circuit) (length l) (J.parties * scratch_size J.parties J.circuit) ≡ Accepted
  lists = then_left _ _ e

  rooms : rooms_of J.coefficients (coefficient_count J.circuit) (length J.nonces) (nonce_size * (J.parties * check_count J.circuit)) (J.parties * word_count J.circuit) transcript (out_count J.circuit) outputs ≡ Accepted
  rooms = then_right _ _ e

  -- What acceptance gives.
  pub accepted_runnable : (f : Frame) (t o : List ℕ) → Framed J.parties J.circuit f → transcript ≡ length t → outputs ≡ length o → Runnable J f l t o
  accepted_runnable f t o framed et eo =
      let l₈ = lists in
      let l₉ = then_right _ _ l₈ in
      let l₁₀ = then_right _ _ l₉ in
      let l₁₁ = then_right _ _ l₁₀ in
      let r₁₇ = then_right _ _ rooms in
      let r₂₅ = then_right _ _ r₁₇ in
      let b = ask_true 18 0 (leb (J.parties * word_count J.circuit) transcript && leb (out_count J.circuit) outputs) (then_right _ _ r₂₅) in
      record {
        lent =
            record {
              framed = framed;
              some = first.some;
              few = first.few;
              valid = first.valid;
              preps_long = eqb-true _ _ (ask_true 8 0 _ (then_left _ _ l₈));
              preps_low = elements_below 9 size J.preps (omega arith) (then_left _ _ l₉);
              inputs_long = eqb-true _ _ (ask_true 10 0 _ (then_left _ _ l₁₀));
              inputs_low = elements_below 11 size J.inputs (omega arith) (then_left _ _ l₁₁);
            };
        room =
            rw framed.scratch
            (leb-true (J.parties * scratch_size J.parties J.circuit) (length l) (ask_true 12 0 (leb (J.parties * scratch_size J.parties J.circuit) (length l)) (then_right _ _ l₁₁)));
        has_coefficient_count = eqb-true _ _ (ask_true 16 0 _ (then_left _ _ rooms));
        coefficients_low = elements_below 17 size J.coefficients (omega arith) (then_left _ _ r₁₇);
        nonce_count = eqb-true _ _ (ask_true 25 0 _ (then_left _ _ r₂₅));
        words_fit = rw et at (leb-true (J.parties * word_count J.circuit) transcript (both_left (leb (J.parties * word_count J.circuit) transcript) (leb (out_count J.circuit) outputs) b));
        outputs_fit = rw eo at (leb-true (out_count J.circuit) outputs (both_right (leb (J.parties * word_count J.circuit) transcript) (leb (out_count J.circuit) outputs) b));
      }
