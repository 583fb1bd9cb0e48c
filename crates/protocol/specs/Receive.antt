-- What a party works out of the words of all, in party order.
-- Assumes nothing.
use Rattle.std.specs.Prelude.{ℕ, zero, suc, ◌+◌, ◌-◌, ◌*◌, Bool, true, false, cond, List, get_or, eqb}
use Rattle.algebra.specs.Ops.{Ops}
use Rattle.algebra.specs.Sum.{sum}
use Rattle.circuit.specs.Gate.{Kind, In, Add, Sub, Plus, Times, Mul, Out, Sq, Give, Over, Gate, gate, gates}
use Rattle.circuit.specs.Kind.{Class, Local, Owned, Opens, Output, Role, is_divisor, shape, is_linear, is_give, factor}
use Rattle.circuit.specs.Count.{unchecked}
use Rattle.circuit.specs.Round.{Check, First, Second, Round, Own, Open, Commit, Reveal, is_reveal, commit_words, reveal_words, words}
use Rattle.sha256.specs.Digest.{same}
use Rattle.protocol.specs.Part.{Part, part_at, plus, minus, scale, shift, product}
use Rattle.protocol.specs.Scratch.{Layout, layout, Value, read, wire, put_wire, put_opened, band, marks_of, put_marks}
use Rattle.protocol.specs.Position.{Point, aborted, follow}
use Rattle.protocol.specs.Party.{Party, key, record_of, mask_at, whole_mask_at, a_at, b_at, c_at}
use Rattle.protocol.specs.Send.{mark, masked, showing}

-- whom a stop names: the party whose reveal does not fit its mark, or nobody
pub data Blame : Type 0 where
  Nobody : Blame
  Blames : ℕ → Blame

-- how a round ends
pub data Ruling : Type 0 where
  Passed : Ruling
  Stopped : Blame → Ruling

abbrev pub passed : Ruling → Bool
passed Passed = true
passed (Stopped b) = false

-- does what party i reveals fit its mark? "A reveal whose hash is not the mark written for its seat"
unfoldable pub fits : List ℕ → List ℕ → ℕ → Bool
fits marks heard i = same (mark (band reveal_words heard i)) (band commit_words marks i)

abbrev pub first_blame : Blame → Blame → Blame
first_blame Nobody b = b
first_blame (Blames i) b = Blames i

-- "naming the lowest such seat": of the first n parties
unfoldable pub misfit : ℕ → List ℕ → List ℕ → Blame
misfit zero marks heard = Nobody
misfit (suc n) marks heard = first_blame (misfit n marks heard) (cond (fits marks heard n) Nobody (Blames n))

-- "stops the run before the sum is asked ..; else the sum alone decides"
abbrev pub weighs : Blame → Bool → Ruling
weighs (Blames i) zero_sum = Stopped (Blames i)
weighs Nobody true = Passed
weighs Nobody false = Stopped Nobody

-- the point after round r of gate j, which ends so
unfoldable pub next : List ℕ → ℕ → Round → Ruling → Point
next c j r v = cond (passed v) (follow c j r) (aborted j)

module _ (O : Ops) where
  open O use {add, inv}

  -- the sum over n parties of the word t of each, where each sent k
  unfoldable pub heard_sum : ℕ → ℕ → ℕ → List ℕ → ℕ
  heard_sum n k t heard = sum O n (λ i. get_or heard (i * k + t) 0)

  -- "With e the owner's word: seat 0 adds e to its mask share, each seat adds key share × e to its MAC share."
  unfoldable pub after_input : ℕ → ℕ → Layout → List ℕ → ℕ → List ℕ → ℕ → List ℕ
  after_input i key y l j m e = put_wire y l j (shift O i key (part_at m mask_at) e)

  -- "Hearing sums them, and appends E then D with the seat's MAC shares of them to the opened list." The gate names x and z, its record starts
  -- m, u entries are unchecked before it, and k values are opened, one or two
  unfoldable pub put_differences : Layout → List ℕ → ℕ → ℕ → List ℕ → ℕ → ℕ → ℕ → ℕ → List ℕ
  put_differences y l x z m k u e d =
      cond (eqb k 2)
      (put_opened y
      (put_opened y l u e (masked O y l x m a_at).mac)
      (u + 1) d (masked O y l z m (b_at k)).mac)
      (put_opened y l u e (masked O y l x m a_at).mac)

  -- and the product, which gate j is
  unfoldable pub after_opening : ℕ → ℕ → Layout → List ℕ → ℕ → ℕ → ℕ → List ℕ → ℕ → ℕ → ℕ → ℕ → List ℕ
  after_opening i key y l j x z m k u e d =
      put_wire y (put_differences y l x z m k u e d) j
      (product O i key (part_at m a_at) (part_at m (b_at k)) (part_at m (c_at k)) e d)

  -- "hearing makes the sum and its MAC share the only opened entry, at index 0": x is the party's part of what is shown
  unfoldable pub after_open_output : Layout → List ℕ → Part → ℕ → List ℕ
  after_open_output y l x s = put_opened y l 0 s x.mac

  -- "Passing the second check releases the sum as the score"; of a give, whose record starts m, "The receiver's answer is the shown sum plus the
  -- whole mask"
  unfoldable pub score : Layout → List ℕ → Bool → List ℕ → ℕ
  score y l give m = cond give (add (read y l (Value 0)) (get_or m whole_mask_at 0)) (read y l (Value 0))

  -- what a gate is worked out with, by what its constant is for: the constant; of over, "the constant's inverse"
  unfoldable pub operand : Role → ℕ → ℕ
  operand r k = cond (is_divisor r) (inv k) k

  abbrev pub operand_of : Gate → ℕ
  operand_of g = operand (shape g).constant g.constant

  -- a gate that needs no round, of gates x and z and an operand k. "add; sub: first and second name earlier lines"; "plus; times: .. the
  -- constant is added or multiplied"; over "multiplies share and MAC share alike by the constant's inverse"
  unfoldable pub linear : ℕ → ℕ → Kind → Part → Part → ℕ → Part
  linear i key In x z k = x
  linear i key Add x z k = plus O x z
  linear i key Sub x z k = minus O x z
  linear i key Plus x z k = shift O i key x k
  linear i key Times x z k = scale O k x
  linear i key Mul x z k = x
  linear i key Out x z k = x
  linear i key Sq x z k = x
  linear i key Give x z k = x
  linear i key Over x z k = scale O k x

  -- what is written for gate j, of such a kind
  unfoldable pub put_linear : ℕ → ℕ → Layout → List ℕ → ℕ → Kind → ℕ → ℕ → ℕ → List ℕ
  put_linear i key y l j kind x z k = put_wire y l j (linear i key kind (wire y l x) (wire y l z) k)

  -- and for gate j, which is g
  unfoldable pub after_linear : ℕ → ℕ → Layout → List ℕ → ℕ → Gate → List ℕ
  after_linear i key y l j g =
      put_linear i key y l j g.kind g.first g.second (operand_of g)

  -- "hearing does all such lines up to the next stop": from gate j on, where left gates are left
  unfoldable pub settle : ℕ → ℕ → List ℕ → Layout → ℕ → ℕ → List ℕ → List ℕ
  settle i key c y zero j l = l
  settle i key c y (suc left) j l =
      cond (is_linear (gate c j)) (settle i key c y left (suc j) (after_linear i key y l j (gate c j))) l

  -- how the hearing of round r by one of n parties ends, in whose scratch these marks stand. Only a reveal stops a run
  unfoldable pub ruling : ℕ → Round → List ℕ → List ℕ → Ruling
  ruling n r marks heard =
      cond (is_reveal r) (weighs (misfit n marks heard) (eqb (heard_sum n reveal_words 0 heard) 0)) Passed

  module _ (P : Party) where
    -- the scratch once the gates after j are done up to the next stop
    unfoldable pub onward : ℕ → List ℕ → List ℕ
    onward j l =
        settle P.me (key P) P.circuit (layout P.circuit) (gates P.circuit - suc j) (suc j) l

    -- the scratch after gate j's own round, by its class. "With e the owner's word"; "Hearing sums them"
    unfoldable pub own_received : List ℕ → ℕ → List ℕ → Class → List ℕ
    own_received l j heard Local = l
    own_received l j heard Owned =
        onward j
        (after_input P.me (key P) (layout P.circuit) l j (record_of P j)
        (get_or heard ((gate P.circuit j).first * words (gate P.circuit j) Own) 0))
    own_received l j heard Opens =
        let g = gate P.circuit j in
        let k = (shape g).openings in
        onward j
        (after_opening P.me (key P) (layout P.circuit) l j g.first (factor g) (record_of P j) k
        (unchecked P.circuit j)
        (heard_sum P.parties (words g Own) 0 heard)
        (heard_sum P.parties (words g Own) (k - 1) heard))
    own_received l j heard Output = l

    -- the scratch after a check that passes
    unfoldable pub check_passed : List ℕ → ℕ → Check → List ℕ
    check_passed l j First = l
    check_passed l j Second = onward j l

    -- the scratch after round r of gate j, where it stops no run. A commitment's marks are "written at hearing"
    unfoldable pub received : List ℕ → ℕ → Round → List ℕ → List ℕ
    received l j Own heard = own_received l j heard (shape (gate P.circuit j)).class
    received l j Open heard =
        after_open_output (layout P.circuit) l (showing O P l j)
        (heard_sum P.parties (words (gate P.circuit j) Open) 0 heard)
    received l j (Commit k) heard = put_marks (layout P.circuit) l heard
    received l j (Reveal k) heard = check_passed l j k

    -- the score of gate j, an output
    unfoldable pub scored : List ℕ → ℕ → ℕ
    scored l j = score (layout P.circuit) l (is_give (gate P.circuit j)) (record_of P j)

    -- how this party's hearing ends, and the scratch by that. "A hearing that stops a run .. writes nothing in the scratch"
    unfoldable pub finds : List ℕ → Round → List ℕ → Ruling
    finds l r heard = ruling P.parties r (marks_of P.parties (layout P.circuit) l) heard

    unfoldable pub left : Ruling → List ℕ → ℕ → Round → List ℕ → List ℕ
    left v l j r heard = cond (passed v) (received l j r heard) l
