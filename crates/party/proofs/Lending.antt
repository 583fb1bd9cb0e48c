-- What questions 1 to 12 come to, and what their acceptance gives.
-- Assumes nothing.
use Prim.Native.Nat.{ℕ, ◌+◌, ◌*◌, ◌/◌, ◌<◌, ◌≤◌}
use mathlib.Core.Path.{◌≡◌, refl, sym, ap, ap₂, ◌∙◌}
use mathlib.Core.List.{List}
use native.Mathlib.Omega.{arith}
use lib.ListN.{length}
use lib.Dec.{leb, eqb}
use Rattle.std.specs.Prelude.{Result, Ok}
use Rattle.field.specs.Words.{size}
use Rattle.circuit.specs.Verdict.{Verdict, Accepted, ask, ◌then◌, elements}
use Rattle.circuit.specs.Gate.{gate_size, gates}
use Rattle.circuit.specs.Count.{prep_size, capacity, input_count}
use Rattle.circuit.specs.Round.{commit_words}
use Rattle.circuit.specs.Accept.{ask_circuit}
use Rattle.circuit.specs.Valid.{Valid}
use Rattle.circuit.specs.Question.{verdict_of}
use Rattle.circuit.specs.Code.{Tallied}
use Rattle.circuit.specs.declared.questions.Refusal.{Refusal}
use Rattle.circuit.specs.declared.Tally.{Tally}
use Rattle.circuit.proofs.Verdicts.{ask_true}
use Rattle.circuit.proofs.Tests.{both_right}
use borrow.Author.Tests.{leb-true}
use Rattle.circuit.proofs.Valid.{valid}
use Rattle.circuit.proofs.Tallies.{tally_low}
use Rattle.protocol.specs.Scratch as S
use Rattle.protocol.specs.Party.{Party}
use Rattle.protocol.specs.Code.{layout_of, Sited}
use Rattle.protocol.specs.declared.Layout.{Layout}
use Rattle.protocol.specs.declared.Site.{Site}
use Rattle.protocol.specs.Ask.{ask_parties, ask_lent}
use Rattle.party.specs.Code.{LentTo}

-- questions 8 to 12, of the lengths a, b and s
abbrev pub lists_asked : List ℕ → List ℕ → ℕ → ℕ → ℕ → ℕ → Verdict
lists_asked prep inputs room a b s =
    ask 8 0 (eqb (length prep) a)
    then elements 9 size prep
    then ask 10 0 (eqb (length inputs) b)
    then elements 11 size inputs
    then ask 12 0 (leb s room)

-- what 3 to 7 answered, in the field that stands below
module _ (n m : ℕ) (c : List ℕ) (is : m ≡ size) where
  pub survey_said : {v : Verdict} → v ≡ ask_circuit n m c → v ≡ ask_circuit n size c
  survey_said said = said ∙ ap (λ (q : ℕ). ask_circuit n q c) is

  pub survey_valid : {A : Type 0} {r : Result A Refusal} {a : A} → verdict_of r ≡ ask_circuit n m c → r ≡ Ok a → Valid n size c
  survey_valid said e = valid n size c (sym (survey_said said) ∙ ap verdict_of e)

-- the lengths as the code counts them
pub lists_are : (prep inputs : List ℕ) (room : ℕ) {a a' b b' s s' : ℕ} → a ≡ a' → b ≡ b' → s ≡ s'
    → lists_asked prep inputs room a b s ≡ lists_asked prep inputs room a' b' s'
lists_are prep inputs room e f g = rw (e, f, g)

pub gates_are : (c : List ℕ) → length c / gate_size ≡ gates c
unfolding gates
gates_are c = refl

-- the layout of a circuit, from what is counted along it
pub layout_is : (c : List ℕ) {i : ℕ} (t : Tally) (y : Layout) → Tallied c i (gates c) t → y.gates ≡ gates c → y.capacity ≡ t.openings + 1 → layout_of y ≡ S.layout c
unfolding layout_of S.layout capacity
layout_is c t y h e f =
    ap₂ {C = S.Layout} (λ (a b : ℕ). record { gates = a; capacity = b }) e (f ∙ ap (λ (k : ℕ). k + 1) h.openings)

pub capacity_low : (c : List ℕ) {i n : ℕ} (t : Tally) → Tallied c i (gates c) t → Valid n size c → t.openings ≤ 512
capacity_low c t h v = omega (arith, (tally_low h).1, v.few)

-- the site of gate j, from what is counted before it
pub site_is : (c : List ℕ) {i j : ℕ} (t : Tally) (at : Site) → Tallied c i j t → j < gates c
    → at.gate ≡ j → at.prep ≡ t.prep → at.unchecked ≡ t.unchecked → at.input ≡ t.inputs → Sited c i at
site_is c t at h l e f g k =
    record {
      within = rw e l;
      prep = rw e (f ∙ h.prep);
      unchecked = rw e (g ∙ h.unchecked);
      input = rw e (k ∙ h.inputs);
    }

module _ (c : List ℕ) (i : ℕ) (t : Tally) (h : Tallied c i (gates c) t) where
  pub prep_size_is : t.prep ≡ prep_size c
  unfolding prep_size
  prep_size_is = h.prep

  pub input_count_is : t.inputs ≡ input_count c i
  unfolding input_count
  input_count_is = h.inputs

  -- 8 to 12 ask for the lengths that are counted
  pub lists_counted : (prep inputs : List ℕ) (room n : ℕ) {s : ℕ} (y : Layout) → layout_of y ≡ S.layout c → s ≡ S.marks_at (layout_of y) + n * commit_words
      → lists_asked prep inputs room t.prep t.inputs s
      ≡ lists_asked prep inputs room (prep_size c) (input_count c i) (S.scratch_size n c)
  unfolding S.scratch_size
  lists_counted prep inputs room n y e f =
      lists_are prep inputs room prep_size_is input_count_is (f ∙ ap (λ (x : S.Layout). S.marks_at x + n * commit_words) e)

-- where 1 is answered by yes there are few parties
pub parties_low : (n : ℕ) {A : Type 0} {r : Result A Refusal} {a : A} → verdict_of r ≡ ask_parties n → r ≡ Ok a → n ≤ 8
unfolding ask_parties
parties_low n e a = leb-true n 8 (both_right (leb 2 n) (leb n 8) (ask_true 1 0 _ (sym e ∙ ap verdict_of a)))

-- what a call has once 1 to 12 accept
pub lent_to : (P : Party) (l : List ℕ) (y : Layout) (at : Site) (j : ℕ) → Accepted ≡ ask_lent size P l → layout_of y ≡ S.layout P.circuit → at.gate ≡ j
    → (j < gates P.circuit → Sited P.circuit P.me at)
    → (Accepted ≡ ask_lent size P l) × LentTo P l y at j
lent_to P l y at j e f g h = (e, record { accepted = sym e; lay = f; here = g; sited = h })
