-- What an accepted circuit is, gate by gate. That it is just what questions 3 to 7 accept is proved (`proofs/Valid.antt`).
-- Assumes nothing.
use Rattle.std.specs.Prelude.{ℕ, ◌*◌, ◌-◌, ◌<◌, ◌≤◌, ◌≡◌, true, List, length}
use Rattle.circuit.specs.Gate.{gate_size, entry, gate, gates, first_kind, last_kind}
use Rattle.circuit.specs.Kind.{shape, has_value, is_out, Role, Unused, Party, Wire, Constant, Divisor}
use Rattle.circuit.specs.Accept.{fewest_gates, most_gates}

-- gate j may name gate x: it is earlier and has a value
pub record Ref (c : List ℕ) (j x : ℕ) : Type 0 where
  pub earlier : x < j
  pub valued : has_value (gate c x) ≡ true

-- a number x of gate j is what it is for: 0, a party, a gate that may be named, an element, or an element other than 0;
-- n parties, q elements
abbrev pub Fits : ℕ → ℕ → List ℕ → ℕ → Role → ℕ → Type 0
Fits n q c j Unused x = x ≡ 0
Fits n q c j Party x = x < n
Fits n q c j Wire x = Ref c j x
Fits n q c j Constant x = x < q
Fits n q c j Divisor x = (0 < x) × (x < q)

-- gate j is one of the kinds, and each of its numbers is what it is for
pub record ValidGate (n q : ℕ) (c : List ℕ) (j : ℕ) : Type 0 where
  pub low : first_kind ≤ entry c j 0
  pub high : entry c j 0 ≤ last_kind
  pub first : Fits n q c j (shape (gate c j)).first (gate c j).first
  pub second : Fits n q c j (shape (gate c j)).second (gate c j).second
  pub constant : Fits n q c j (shape (gate c j)).constant (gate c j).constant

pub record Valid (n q : ℕ) (c : List ℕ) : Type 0 where
  pub whole : length c ≡ gate_size * gates c
  pub two : fewest_gates ≤ gates c
  pub few : gates c ≤ most_gates
  pub each : (j : ℕ) → j < gates c → ValidGate n q c j
  pub last : is_out (gate c (gates c - 1)) ≡ true
