-- What the steps of a party ask, over a field of q elements: what the entries have asked, or an earlier step has left.
-- Assumes nothing.
use Rattle.std.specs.Prelude.{ℕ, ◌+◌, ◌-◌, ◌*◌, ◌<◌, ◌≤◌, ◌≡◌, true, cond, List, length, get_or}
use Rattle.algebra.specs.Ops.{Ops}
use Rattle.algebra.specs.Element.{Is}
use Rattle.circuit.specs.Gate.{gate_size, Gate, gate, gates}
use Rattle.circuit.specs.Kind.{shape, is_in, opens, factor}
use Rattle.circuit.specs.Count.{prep_size, input_count, unchecked}
use Rattle.circuit.specs.Round.{Round, Own, Open, Commit, Reveal, reveal_words, rounds, among, words, opened_in, coefficients_in, nonce_in}
use Rattle.circuit.specs.Accept.{most_gates}
use Rattle.circuit.specs.Valid.{Valid}
use Rattle.protocol.specs.Scratch as S
use Rattle.protocol.specs.Position as P
use Rattle.protocol.specs.Party.{Party}
use Rattle.protocol.specs.Receive.{heard_sum}
use Rattle.protocol.specs.Holding.{Below, Held, Worked, Opened}
use Rattle.protocol.specs.Code.{layout_of, Sited}
use Rattle.protocol.specs.declared.Layout.{Layout}
use Rattle.protocol.specs.declared.Site.{Site}

-- what writing a product of k openings asks: gate j names x and z, its record starts m, u entries are unchecked, and e and d are opened
pub record Opening (q key : ℕ) (y : S.Layout) (l : List ℕ) (j x z : ℕ) (m : List ℕ) (k u e d : ℕ) : Type 0 where
  pub some : 1 ≤ k
  pub few : k ≤ 2
  pub key_low : key < q
  pub e_low : e < q
  pub d_low : d < q
  pub prep_long : 2 * k + 1 < length m
  pub prep_low : Below q m
  pub room : S.slots_size y ≤ length l
  pub within : j < y.gates
  pub first_held : Held q y l x
  pub second_held : Held q y l z
  pub entries : u + k ≤ y.capacity

-- what the linear gates from gate j on ask, of a circuit that is valid for some number of parties
pub record Settles (q : ℕ) (c : List ℕ) (y : S.Layout) (key : ℕ) (l : List ℕ) (j : ℕ) : Type 0 where
  pub parties : ℕ
  pub valid : Valid parties q c
  pub count : y.gates ≡ gates c
  pub key_low : key < q
  pub room : S.slots_size y ≤ length l
  pub upto : j ≤ y.gates
  pub worked : Worked q c y l j

-- what finding the point after gate j asks: count gates, the stop that the linear gates after it reach, and that many entries that waited
-- for a check before it
pub record Stands (c : List ℕ) (count j stop waiting : ℕ) : Type 0 where
  pub all : count ≡ gates c
  pub whole : gate_size * count ≤ length c
  pub few : count ≤ most_gates
  pub within : j < count
  pub reached : stop ≡ P.reach c (count - (j + 1)) (j + 1)
  pub waits : waiting ≡ unchecked c j

-- what a step asks: what questions 1 to 15 make sure of. l is the scratch of party P
pub record Ready (q : ℕ) (P : Party) (l : List ℕ) (y : Layout) (at : Site) (r : Round) : Type 0 where
  pub valid : Valid P.parties q P.circuit
  pub prep_long : length P.prep ≡ prep_size P.circuit
  pub prep_low : Below q P.prep
  pub inputs_long : length P.inputs ≡ input_count P.circuit P.me
  pub inputs_low : Below q P.inputs
  pub lay : layout_of y ≡ S.layout P.circuit
  pub room : S.scratch_size P.parties P.circuit ≤ length l
  pub sited : Sited P.circuit P.me at
  pub occurs : among r (rounds P.circuit at.gate) ≡ true
  pub worked : Worked q P.circuit (S.layout P.circuit) l at.gate
  pub opened : (t : ℕ) → t < opened_in (unchecked P.circuit at.gate) r → Opened q (S.layout P.circuit) l t

-- and of sending, 16 to 18 and 25; room is the length of the outgoing list
pub record Sends (q : ℕ) (P : Party) (l : List ℕ) (y : Layout) (at : Site) (r : Round) (held : ℕ) (coefficients nonce : List ℕ) (room : ℕ) : Type 0 where
  pub ready : Ready q P l y at r
  pub has_coefficient_count : length coefficients ≡ coefficients_in (unchecked P.circuit at.gate) r
  pub coefficients_low : Below q coefficients
  pub nonce_long : length nonce ≡ nonce_in r
  pub space : words (gate P.circuit at.gate) r ≤ room

-- the words heard of n parties that are numbers below q: of a reveal the check shares, of a commitment none, and else all
abbrev pub HeardLow : ℕ → ℕ → Round → List ℕ → Type 0
HeardLow q n Own heard = Below q heard
HeardLow q n Open heard = Below q heard
HeardLow q n (Commit k) heard = Unit {0}
HeardLow q n (Reveal k) heard = (i : ℕ) → i < n → get_or heard (i * reveal_words) 0 < q

-- and of receiving, 19 and 20
pub record Receives (q : ℕ) (P : Party) (l : List ℕ) (y : Layout) (at : Site) (r : Round) (heard : List ℕ) : Type 0 where
  pub ready : Ready q P l y at r
  pub whole : length heard ≡ P.parties * words (gate P.circuit at.gate) r
  pub heard_low : HeardLow q P.parties r heard

-- gate g names x and z, and opens k values
pub record Named (g : Gate) (x z k : ℕ) : Type 0 where
  pub first : x ≡ g.first
  pub second : z ≡ factor g
  pub openings : k ≡ (shape g).openings

-- what summing the words of n parties in round r of gate j asks
pub record Hears (q n : ℕ) (c : List ℕ) (j : ℕ) (r : Round) (heard : List ℕ) : Type 0 where
  pub valid : Valid n q c
  pub within : j < gates c
  pub occurs : among r (rounds c j) ≡ true
  pub whole : length heard ≡ n * words (gate c j) r
  pub heard_low : Below q heard

-- what the words of n parties come to in round r of gate g: the owner's word of an in gate, else the sum of the first words
unfoldable pub heard_first : Ops → ℕ → Gate → Round → List ℕ → ℕ
heard_first O n g r heard = cond (is_in g) (get_or heard (g.first * words g r) 0) (heard_sum O n (words g r) 0 heard)

-- and the sum of the last words of a gate that opens values
unfoldable pub heard_second : Ops → ℕ → Gate → Round → List ℕ → ℕ
heard_second O n g r heard = cond (opens g) (heard_sum O n (words g r) ((shape g).openings - 1) heard) 0

pub record Summed (O : Ops) (n : ℕ) (g : Gate) (r : Round) (heard : List ℕ) (e d : ℕ) : Type 0 where
  pub first : Is O.size (heard_first O n g r heard) e
  pub second : Is O.size (heard_second O n g r heard) d
