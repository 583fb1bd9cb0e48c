-- An sq gate in document 02's own words. The definitions of a run go by how many values a gate opens; that they come to these where it is an
-- sq gate is proved (`proofs/Squares.antt`).
-- Assumes nothing.
use Rattle.std.specs.Prelude.{ℕ, ◌≡◌, cond, List, [], ◌∷◌, eqb}
use Rattle.algebra.specs.Ops.{Ops}
use Rattle.protocol.specs.Part.{Part, part_at}
use Rattle.protocol.specs.Scratch.{Layout, put_wire, put_opened}
use Rattle.protocol.specs.Party.{a_at}
use Rattle.protocol.specs.Send.{masked}
use Rattle.protocol.specs.Good.{Authentic, share_sum}

-- "Its record is a, MAC of a, c, MAC of c": a is first, as in a triple, and c stands here
abbrev pub square_at : ℕ
square_at = 2

module _ (O : Ops) where
  open O use {add, mul}

  -- "One round of one word opens E = first − a": the party's share of it. The gate names x, and m starts at its record
  unfoldable pub square_words : Layout → List ℕ → ℕ → List ℕ → List ℕ
  square_words y l x m = (masked O y l x m a_at).share ∷ []

  -- "The share becomes c + E × a + E × a, with E × E more at seat 0; the MAC share follows likewise, with key share × E × E at every seat."
  unfoldable pub square : ℕ → ℕ → Part → Part → ℕ → Part
  square i key a c e =
      record {
        share = add (add (add c.share (mul e a.share)) (mul e a.share)) (cond (eqb i 0) (mul e e) 0);
        mac = add (add (add c.mac (mul e a.mac)) (mul e a.mac)) (mul key (mul e e));
      }

  -- "as one entry", behind the u that are unchecked; and the square, which gate j is
  unfoldable pub after_square : ℕ → ℕ → Layout → List ℕ → ℕ → ℕ → List ℕ → ℕ → ℕ → List ℕ
  after_square i key y l j x m u e =
      put_wire y (put_opened y l u e (masked O y l x m a_at).mac) j (square i key (part_at m a_at) (part_at m square_at) e)

  -- "when good, c is a times a", and both are authentic
  pub record GoodSquare (n : ℕ) (c preps : List ℕ) (j : ℕ) : Type 0 where
    pub mac_a : Authentic O n c preps j a_at
    pub mac_c : Authentic O n c preps j square_at
    pub product : share_sum O n c preps j square_at ≡ mul (share_sum O n c preps j a_at) (share_sum O n c preps j a_at)
