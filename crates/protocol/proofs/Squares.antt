-- What the definitions of a run come to where a gate is an sq gate: document 02's words.
-- Assumes nothing.
use Prim.Native.Nat.{ℕ, ◌-◌}
use mathlib.Core.Path.{◌≡◌, refl, subst}
use mathlib.Core.Bool.{cond}
use mathlib.Core.List.{List}
use lib.Dec.{eqb}
use Rattle.algebra.specs.Ops.{Ops}
use Rattle.circuit.specs.Gate.{Kind, Sq, Gate, gate}
use Rattle.circuit.specs.Kind.{Opens, kind_shape, shape, factor}
use Rattle.circuit.specs.Count.{unchecked}
use Rattle.circuit.specs.Round.{Own, shape_words}
use Rattle.protocol.specs.Part.{plus, scale, known, shift, product}
use Rattle.protocol.specs.Scratch.{layout}
use Rattle.protocol.specs.Party.{Party, key, record_of}
use Rattle.protocol.specs.Send.{words_of_opening, opening, own_words, sent}
use Rattle.protocol.specs.Receive.{heard_sum, put_differences, after_opening, onward, own_received, received}
use Rattle.protocol.specs.Good.{GoodRecord, GoodTriple}
use Rattle.protocol.specs.Square.{square_words, square, after_square, GoodSquare}

module _ (O : Ops) (P : Party) (l : List ℕ) (j : ℕ) (e : (gate P.circuit j).kind ≡ Sq) where
  abbrev the_gate : Gate
  the_gate = gate P.circuit j

  -- the second factor of a gate of kind k
  abbrev factor_of : Kind → ℕ
  factor_of k = cond (eqb (kind_shape k).openings 2) the_gate.second the_gate.first

  -- what a party sends
  pub square_sent : (held : ℕ) (coefficients nonce : List ℕ) → sent O P l j held coefficients nonce Own ≡ square_words O (layout P.circuit) l the_gate.first (record_of P j)
  unfolding sent own_words opening factor kind_shape square_words
  square_sent held coefficients nonce =
      rw e
      (subst
      (λ (k : Kind).
      own_words O P l j Opens
      ≡ words_of_opening O (layout P.circuit) l the_gate.first (factor_of k) (record_of P j) (kind_shape k).openings) e refl)

  -- and what it works out of the words of all, one of each party
  pub square_received : (heard : List ℕ)
      → received O P l j Own heard
      ≡ onward O P j
      (after_square O P.me (key P) (layout P.circuit) l j the_gate.first (record_of P j) (unchecked P.circuit j)
      (heard_sum O P.parties 1 0 heard))
  unfolding received own_received after_opening put_differences product plus scale known shift factor kind_shape shape_words after_square square
  square_received heard =
      rw e
      (subst
      (λ (k : Kind).
      own_received O P l j heard Opens
      ≡ onward O P j
      (after_opening O P.me (key P) (layout P.circuit) l j the_gate.first (factor_of k) (record_of P j) (kind_shape k).openings
      (unchecked P.circuit j)
      (heard_sum O P.parties (shape_words (kind_shape k) Own) 0 heard)
      (heard_sum O P.parties (shape_words (kind_shape k) Own) ((kind_shape k).openings - 1) heard))) e refl)

-- which records are good
module _ (O : Ops) (n : ℕ) (c preps : List ℕ) (j : ℕ) (e : (gate c j).kind ≡ Sq) where
  pub square_good : GoodRecord O n c preps j (gate c j) (shape (gate c j)).class → GoodSquare O n c preps j
  unfolding kind_shape
  square_good g = go (rw e at g)
    where
      go : GoodTriple O n c preps j 1 → GoodSquare O n c preps j
      go t = record { mac_a = t.mac_a; mac_c = t.mac_c; product = t.product }

  pub good_square : GoodSquare O n c preps j → GoodRecord O n c preps j (gate c j) (shape (gate c j)).class
  unfolding kind_shape
  good_square s = rw e (record { mac_a = s.mac_a; mac_b = s.mac_a; mac_c = s.mac_c; product = s.product })
