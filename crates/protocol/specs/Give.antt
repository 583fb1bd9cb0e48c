-- A give gate in document 02's own words. The definitions of a run go by whether an output has a mask; that they come to these where it is a
-- give gate is proved (`proofs/Gives.antt`).
-- Assumes nothing.
use Rattle.std.specs.Prelude.{ℕ, ◌≡◌, List, [], ◌∷◌, get_or}
use Rattle.algebra.specs.Ops.{Ops}
use Rattle.protocol.specs.Part.{part_at}
use Rattle.protocol.specs.Scratch.{Layout, Value, read, wire, put_opened}
use Rattle.protocol.specs.Party.{mask_at, whole_mask_at}
use Rattle.protocol.specs.Good.{Authentic, record_at, share_sum}

module _ (O : Ops) where
  open O use {add, sub}

  -- "shows .. the line less the mask": the party's share of it, at every party alike. The gate names x, and m starts at its record
  unfoldable pub give_words : Layout → List ℕ → ℕ → List ℕ → List ℕ
  give_words y l x m = sub (wire y l x).share (part_at m mask_at).share ∷ []

  -- "and checks" it, stopping "as out does": the sum is the only opened entry, at index 0, with the MAC share of the line less that of the mask
  unfoldable pub after_give : Layout → List ℕ → ℕ → List ℕ → ℕ → List ℕ
  after_give y l x m s = put_opened y l 0 s (sub (wire y l x).mac (part_at m mask_at).mac)

  -- "The receiver's answer is the shown sum plus the whole mask"
  unfoldable pub give_score : Layout → List ℕ → List ℕ → ℕ
  give_score y l m = add (read y l (Value 0)) (get_or m whole_mask_at 0)

  -- "a three-number mask record whose whole mask the receiver knows": when good, the mask is authentic, and the receiver's whole mask is the sum
  -- of the mask shares
  pub record GoodGive (n : ℕ) (c preps : List ℕ) (j receiver : ℕ) : Type 0 where
    pub mac : Authentic O n c preps j mask_at
    pub whole : get_or (record_at O n c preps receiver j) whole_mask_at 0 ≡ share_sum O n c preps j mask_at
