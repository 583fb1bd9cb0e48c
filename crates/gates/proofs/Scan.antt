-- What the questions of a gate come to, asked of what the code found where the gate's numbers stand.
-- Assumes nothing.
use Prim.Native.Nat.{ℕ, suc, ◌+◌, ◌*◌, ◌<◌}
use mathlib.Core.Path.{◌≡◌, sym, ◌∙◌}
use mathlib.Core.Bool.{Bool}
use mathlib.Core.List.{List}
use native.Mathlib.Numerals.{add-one}
use lib.ListN.{get_or}
use Rattle.circuit.specs.Verdict.{Verdict, Accepted, Refused, ask, each}
use Rattle.circuit.specs.Gate.{gate_size, entry, gate}
use Rattle.circuit.specs.Kind.{Role, Shape, shape, role}
use Rattle.circuit.specs.Accept.{is_kind, name_ok, rest_ok, ask_name, ask_rest, ask_gate}
use Rattle.circuit.proofs.Asking.{kind_at, number_at}
use Rattle.circuit.proofs.Verdicts.{then_both, then_refused, then_passed, each_refused}

-- what is refused among the first n questions, where those before it are passed
pub refused_within : (f : ℕ → Verdict) (i n : ℕ) {number index : ℕ} {u : Verdict}
    → i < n → each i f ≡ Accepted → Refused number index ≡ f i → u ≡ Refused number index → u ≡ each n f
refused_within f i n l before here e = e ∙ sym (each_refused f i n l before (sym here))

pub kind_asked : (c : List ℕ) (j : ℕ) {x : ℕ} → x ≡ get_or c (gate_size * j) 0 → {r : Bool} → r ≡ is_kind x → {v : Verdict} → v ≡ ask 4 j r → v ≡ ask 4 j (is_kind (entry c j 0))
kind_asked c j here said e = rw (← kind_at c j, ← here, ← said) e

module _ (n q : ℕ) (c : List ℕ) (j : ℕ) where
  -- w is what the code found number k + 1 to be for, and s is the shape of gate j
  module _ (k : ℕ) {w : Role} {s : Shape} (at : s ≡ shape (gate c j)) (use₁ : w ≡ role s (k + 1)) {x : ℕ} (here : x ≡ get_or c (gate_size * j + 1 + k) 0) where
    found : w ≡ role (shape (gate c j)) (suc k)
    found = rw (← add-one k, ← at) use₁

    pub name_asked : {r : Bool} → r ≡ name_ok n c j x w → {v : Verdict} → v ≡ ask 5 j r → v ≡ ask_name n q c j k
    unfolding ask_name
    name_asked said e = rw (← number_at c j k, ← here, ← found, ← said) e

    pub rest_asked : {r : Bool} → r ≡ rest_ok q x w → {v : Verdict} → v ≡ ask 6 j r → v ≡ ask_rest n q c j k
    unfolding ask_rest
    rest_asked said e = rw (← number_at c j k, ← here, ← found, ← said) e

  -- the gate is refused at its kind, at a name or at the rest, or passes
  pub gate_kind : {number index : ℕ} → Refused number index ≡ ask 4 j (is_kind (entry c j 0)) → Refused number index ≡ ask_gate n q c j
  unfolding ask_gate
  gate_kind e = sym (then_refused _ (sym e))

  module _ (kind : Accepted ≡ ask 4 j (is_kind (entry c j 0))) where
    pub gate_name : {number index : ℕ} → Refused number index ≡ each 3 (ask_name n q c j) → Refused number index ≡ ask_gate n q c j
    unfolding ask_gate
    gate_name e = sym (then_passed _ (sym kind) ∙ then_refused _ (sym e))

    module _ (names : each 3 (ask_name n q c j) ≡ Accepted) where
      pub gate_rest : {number index : ℕ} → Refused number index ≡ each 3 (ask_rest n q c j) → Refused number index ≡ ask_gate n q c j
      unfolding ask_gate
      gate_rest e = sym (then_passed _ (sym kind) ∙ then_passed _ names ∙ sym e)

      pub gate_ok : each 3 (ask_rest n q c j) ≡ Accepted → ask_gate n q c j ≡ Accepted
      unfolding ask_gate
      gate_ok rests = then_both (sym kind) (then_both names rests)
