-- What the definitions of a run come to where a gate is a give gate: document 02's words.
-- Assumes nothing.
use Prim.Native.Nat.{ℕ}
use mathlib.Core.Path.{◌≡◌, sym}
use mathlib.Core.Bool.{true}
use mathlib.Core.List.{List}
use borrow.Author.Tests.{eq-eqb, ne_eqb}
use Rattle.algebra.specs.Ops.{Ops}
use Rattle.circuit.specs.Gate.{Give, Gate, gate}
use Rattle.circuit.specs.Kind.{kind_shape, shape, is_class, is_give, seen_by}
use Rattle.circuit.specs.Round.{Second, Open, Reveal, shape_words}
use Rattle.circuit.proofs.KindLaws.{give_output}
use Rattle.protocol.specs.Part.{minus}
use Rattle.protocol.specs.Scratch.{layout}
use Rattle.protocol.specs.Position.{holding, follow, keep}
use Rattle.protocol.specs.Party.{Party, record_of}
use Rattle.protocol.specs.Send.{masked, shown, showing, sent}
use Rattle.protocol.specs.Receive.{Passed, heard_sum, after_open_output, score, next, received, scored, finds}
use Rattle.protocol.specs.Entry.{Next, Output, next_position, concludes, outcome}
use Rattle.protocol.specs.Good.{GoodRecord}
use Rattle.protocol.specs.Give.{give_words, after_give, give_score, GoodGive}

give_gives : (g : Gate) → g.kind ≡ Give → is_give g ≡ true
unfolding is_give is_class kind_shape
give_gives g e = rw e

module _ (O : Ops) (P : Party) (l : List ℕ) (j : ℕ) (e : (gate P.circuit j).kind ≡ Give) where
  abbrev the_gate : Gate
  the_gate = gate P.circuit j

  -- what a party sends
  pub give_sent : (held : ℕ) (coefficients nonce : List ℕ)
      → sent O P l j held coefficients nonce Open ≡ give_words O (layout P.circuit) l the_gate.first (record_of P j)
  unfolding sent showing shown masked minus give_words
  give_sent held coefficients nonce = rw (give_gives the_gate e)

  -- what it works out of the words of all, one of each party
  pub give_received : (heard : List ℕ)
      → received O P l j Open heard
      ≡ after_give O (layout P.circuit) l the_gate.first (record_of P j) (heard_sum O P.parties 1 0 heard)
  unfolding received after_open_output showing shown masked minus kind_shape shape_words after_give
  give_received heard = rw (give_gives the_gate e, e)

  -- and what a passing second check answers: the score to the receiver, and the next position alone to the others
  module _ (held : ℕ) (heard : List ℕ) (pass : finds O P l (Reveal Second) heard ≡ Passed) where
    pub give_told : P.me ≡ the_gate.second
        → outcome O P l j held heard (Reveal Second)
        ≡ Output (give_score O (layout P.circuit) l (record_of P j)) (holding (follow P.circuit j (Reveal Second)) 0)
    unfolding outcome concludes next_position next keep seen_by scored score give_score
    give_told i = rw (pass, give_gives the_gate e, eq-eqb the_gate.second P.me (sym i))

    pub give_untold : (P.me ≡ the_gate.second → ⊥)
        → outcome O P l j held heard (Reveal Second) ≡ Next (holding (follow P.circuit j (Reveal Second)) 0)
    unfolding outcome concludes next_position next keep seen_by
    give_untold i = rw (pass, give_gives the_gate e, ne_eqb the_gate.second P.me (λ h. i (sym h)))

-- which records are good
module _ (O : Ops) (n : ℕ) (c preps : List ℕ) (j : ℕ) (e : (gate c j).kind ≡ Give) where
  gives : is_give (gate c j) ≡ true
  gives = give_gives (gate c j) e

  pub give_good : GoodRecord O n c preps j (gate c j) (shape (gate c j)).class → GoodGive O n c preps j (gate c j).second
  give_good g =
      let m = (rw (give_output (gate c j) gives) at g) gives in
      record { mac = m.mask; whole = m.whole }

  pub good_give : GoodGive O n c preps j (gate c j).second → GoodRecord O n c preps j (gate c j) (shape (gate c j)).class
  good_give s = rw (give_output (gate c j) gives) (λ h. record { mask = s.mac; whole = s.whole })
