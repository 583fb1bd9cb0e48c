-- Good preprocessing.
-- Assumes nothing.
use Rattle.std.specs.Prelude.{ℕ, ◌*◌, ◌<◌, ◌≡◌, true, List, length, get_or}
use Rattle.algebra.specs.Ops.{Ops}
use Rattle.algebra.specs.Sum.{sum}
use Rattle.circuit.specs.Gate.{Gate, gate, gates}
use Rattle.circuit.specs.Kind.{Class, Local, Owned, Opens, Output, shape, is_give}
use Rattle.circuit.specs.Count.{prep_size}
use Rattle.protocol.specs.Part.{part_at}
use Rattle.protocol.specs.Party.{record_in, mask_at, whole_mask_at, a_at, b_at, c_at}
use Rattle.protocol.specs.Scratch.{band}

-- the preprocessing of n parties for circuit c, joined in party order
module _ (O : Ops) (n : ℕ) (c preps : List ℕ) where
  open O use {size, mul}

  -- what starts at party i's record of gate j
  unfoldable pub record_at : ℕ → ℕ → List ℕ
  record_at i j = record_in c (band (prep_size c) preps i) j

  -- "the key is the sum of key shares"; "The key may be 0."
  unfoldable pub whole_key : ℕ
  whole_key = sum O n (λ i. get_or (band (prep_size c) preps i) 0 0)

  -- the sums of the shares and of the MAC shares that stand at k in the records of gate j
  unfoldable pub share_sum : ℕ → ℕ → ℕ
  share_sum j k = sum O n (λ i. (part_at (record_at i j) k).share)

  unfoldable pub mac_sum : ℕ → ℕ → ℕ
  mac_sum j k = sum O n (λ i. (part_at (record_at i j) k).mac)

  -- "for each mask, a, b and c the MAC shares sum to the key times the sum of shares"
  abbrev pub Authentic : ℕ → ℕ → Type 0
  Authentic j k = mac_sum j k ≡ mul whole_key (share_sum j k)

  -- "the owner's whole mask is the mask's sum"; of a give the receiver's: a "mask record whose whole mask the receiver knows"
  pub record GoodMask (j owner : ℕ) : Type 0 where
    pub mask : Authentic j mask_at
    pub whole : get_or (record_at owner j) whole_mask_at 0 ≡ share_sum j mask_at

  -- "c is a times b", in a record of k openings. Where one value is opened b is a: "when good, c is a times a"
  pub record GoodTriple (j k : ℕ) : Type 0 where
    pub mac_a : Authentic j a_at
    pub mac_b : Authentic j (b_at k)
    pub mac_c : Authentic j (c_at k)
    pub product : share_sum j (c_at k) ≡ mul (share_sum j a_at) (share_sum j (b_at k))

  abbrev pub GoodRecord : ℕ → Gate → Class → Type 0
  GoodRecord j g Local = Unit {0}
  GoodRecord j g Owned = GoodMask j g.first
  GoodRecord j g Opens = GoodTriple j (shape g).openings
  GoodRecord j g Output = is_give g ≡ true → GoodMask j g.second

  -- "Material over all seats is good when .."; "Good material passes 8 and 9"
  pub record Good : Type 0 where
    pub long : length preps ≡ n * prep_size c
    pub elements : (k : ℕ) → k < length preps → get_or preps k 0 < size
    pub records : (j : ℕ) → j < gates c → GoodRecord j (gate c j) (shape (gate c j)).class
