-- A party's part of a shared value: its share and its MAC share, and what is done to both alike.
-- Assumes nothing.
use Rattle.std.specs.Prelude.{ℕ, ◌+◌, cond, List, get_or, eqb}
use Rattle.algebra.specs.Ops.{Ops}

pub record Part : Type 0 where
  pub share : ℕ
  pub mac : ℕ

-- a share and its MAC share that stand side by side in a record of the preprocessing
unfoldable pub part_at : List ℕ → ℕ → Part
part_at m k = record { share = get_or m k 0; mac = get_or m (k + 1) 0 }

module _ (O : Ops) where
  open O use {add, sub, mul}

  -- "Add, sub and times act on share and MAC share alike."
  unfoldable pub plus : Part → Part → Part
  plus x y = record { share = add x.share y.share; mac = add x.mac y.mac }

  unfoldable pub minus : Part → Part → Part
  minus x y = record { share = sub x.share y.share; mac = sub x.mac y.mac }

  unfoldable pub scale : ℕ → Part → Part
  scale k x = record { share = mul k x.share; mac = mul k x.mac }

  -- party i's part of a number that all know: the share is the number at party 0 only, the MAC share is key share × number at every party
  unfoldable pub known : ℕ → ℕ → ℕ → Part
  known i key k = record { share = cond (eqb i 0) k 0; mac = mul key k }

  -- "Plus adds the constant at seat 0 only and key share × constant to every MAC share."
  unfoldable pub shift : ℕ → ℕ → Part → ℕ → Part
  shift i key x k = plus x (known i key k)

  -- "New share: c + E × b + D × a, and E × D more at seat 0 only. New MAC share: the same with MAC shares, and key share × E × D at every seat."
  -- Of a square b is a and D is E (`Square.antt`)
  unfoldable pub product : ℕ → ℕ → Part → Part → Part → ℕ → ℕ → Part
  product i key a b c e d = shift i key (plus (plus c (scale e b)) (scale d a)) (mul e d)
