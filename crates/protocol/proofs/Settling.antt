-- The linear gates after a gate: what they ask, what they keep, and how the loop over them goes on.
-- Assumes nothing.
use Prim.Native.Nat.{ℕ, zero, suc, ◌+◌, ◌*◌, ◌-◌, ◌<◌, ◌≤◌}
use mathlib.Core.Path.{◌≡◌, refl, sym, ap, ◌∙◌}
use mathlib.Core.Bool.{Bool, true, false, cond}
use mathlib.Core.List.{List}
use native.Mathlib.Omega.{arith}
use native.Mathlib.Numerals.{add-one}
use lib.ListN.{length}
use Rattle.std.specs.Prelude.{Option, None, Some, MatchOption, unwrap_or}
use Rattle.algebra.specs.Ops.{Ops}
use Rattle.algebra.specs.Field.{Field}
use Rattle.algebra.proofs.Ring.{inv_lt}
use Rattle.circuit.specs.Gate.{gate_size, Kind, In, Add, Sub, Plus, Times, Mul, Out, Sq, Give, Over, Gate, gate_of, gate}
use Rattle.circuit.specs.Kind.{Local, Role, Unused, Party, Wire, Constant, Divisor, kind_shape, shape, is_class, is_linear, is_divisor}
use Rattle.circuit.specs.Valid.{Fits, ValidGate}
use Rattle.circuit.proofs.Tests.{false_no}
use Rattle.protocol.specs.Part.{Part, plus, minus}
use Rattle.protocol.specs.Scratch.{Layout, slots_size, put_wire}
use Rattle.protocol.specs.Position.{reach}
use Rattle.protocol.specs.Receive.{operand, operand_of, linear, put_linear, after_linear, settle}
use Rattle.protocol.specs.Holding.{Worked, Read, Reads}
use Rattle.protocol.specs.Ready.{Settles}
use Rattle.protocol.proofs.Slots.{length_put}
use Rattle.protocol.proofs.Writing.{Elements, OpenedTo, worked_put, opened_put, plus_elements, minus_elements, scale_elements, shift_elements}

-- a wire of numbers below q is written at gate j
pub record Written (q : ℕ) (y : Layout) (l : List ℕ) (j : ℕ) (l' : List ℕ) : Type 0 where
  pub part : Part
  pub low : Elements q part
  pub is : l' ≡ put_wire y l j part

-- what a linear gate works out is of elements
pub linear_elements : {O : Ops} (F : Field O) (i key : ℕ) (k : Kind) (x z : Part) (a : ℕ)
    → is_class Local (kind_shape k).class ≡ true
    → Elements O.size (linear O i key k x z a)
unfolding linear kind_shape is_class
linear_elements F i key In x z a e = false_no e
linear_elements F i key Add x z a e = plus_elements F x z
linear_elements F i key Sub x z a e = minus_elements F x z
linear_elements F i key Plus x z a e = shift_elements F i key x a
linear_elements F i key Times x z a e = scale_elements F a x
linear_elements F i key Mul x z a e = false_no e
linear_elements F i key Out x z a e = false_no e
linear_elements F i key Sq x z a e = false_no e
linear_elements F i key Give x z a e = false_no e
linear_elements F i key Over x z a e = scale_elements F a x

-- and it looks at its second number only where that names a gate
pub linear_second : (O : Ops) (i key : ℕ) (k : Kind) (x z z' : Part) (a : ℕ)
    → ((kind_shape k).second ≡ Wire → z ≡ z')
    → linear O i key k x z a ≡ linear O i key k x z' a
unfolding linear kind_shape
linear_second O i key In x z z' a h = refl
linear_second O i key Add x z z' a h = ap (plus O x) (h refl)
linear_second O i key Sub x z z' a h = ap (minus O x) (h refl)
linear_second O i key Plus x z z' a h = refl
linear_second O i key Times x z z' a h = refl
linear_second O i key Mul x z z' a h = refl
linear_second O i key Out x z z' a h = refl
linear_second O i key Sq x z z' a h = refl
linear_second O i key Give x z z' a h = refl
linear_second O i key Over x z z' a h = refl

-- a gate with what it is worked out with in the place of its constant
abbrev pub operated : Ops → Gate → Gate
operated O g = gate_of g.kind g.first g.second (operand_of O g)

-- what is written of its numbers is what a gate leaves
pub put_operated : (O : Ops) (i key : ℕ) (y : Layout) (l : List ℕ) (j : ℕ) (g : Gate) {h : Gate} → h ≡ operated O g
    → put_linear O i key y l j h.kind h.first h.second h.constant ≡ after_linear O i key y l j g
unfolding after_linear
put_operated O i key y l j g e = rw e

-- what a linear gate leaves
pub linear_written : {O : Ops} (F : Field O) (i key : ℕ) (y : Layout) (l : List ℕ) (j : ℕ) (g : Gate)
    → is_linear g ≡ true
    → Written O.size y l j (after_linear O i key y l j g)
unfolding after_linear put_linear
linear_written F i key y l j g e = record { part = _; low = linear_elements F i key g.kind _ _ _ e; is = refl }

module _ (n q : ℕ) (c : List ℕ) (j : ℕ) (y : Layout) (l : List ℕ) where
  -- what a gate's number is for can be read
  read_of : (r : Role) (x : ℕ) → Fits n q c j r x → Worked q c y l j → Read q y l r x
  read_of Unused x f w = tt
  read_of Party x f w = tt
  read_of Wire x f w = w x f.earlier f.valued
  read_of Constant x f w = f
  read_of Divisor x f w = f.1

  -- what a gate names can be read
  pub reads : ValidGate n q c j → Worked q c y l j → Reads q y l (gate c j)
  reads v w =
      let g = gate c j in
      record {
        first = read_of (shape g).first g.first v.first w;
        second = read_of (shape g).second g.second v.second w;
        constant = read_of (shape g).constant g.constant v.constant w;
      }

module _ {O : Ops} (F : Field O) (y : Layout) (l : List ℕ) where
  -- what a gate is worked out with can be read where its constant can
  read_operand : (r : Role) (k : ℕ) → Read O.size y l r k → Read O.size y l r (operand O r k)
  unfolding operand
  read_operand Unused k h = h
  read_operand Party k h = h
  read_operand Wire k h = h
  read_operand Constant k h = h
  read_operand Divisor k h = inv_lt F k

  pub reads_operand : (g : Gate) → Reads O.size y l g → Reads O.size y l (operated O g)
  reads_operand g h =
      record { first = h.first; second = h.second; constant = read_operand (shape g).constant g.constant h.constant }

-- a divisor is an element
pub divisor_low : {n q : ℕ} {c : List ℕ} {j : ℕ} → ValidGate n q c j → is_divisor (shape (gate c j)).constant ≡ true → (gate c j).constant < q
divisor_low {n} {q} {c} {j} v = go (shape (gate c j)).constant v.constant
  where
    go : (r : Role) → Fits n q c j r (gate c j).constant → is_divisor r ≡ true → (gate c j).constant < q
    go Unused f e = false_no e
    go Party f e = false_no e
    go Wire f e = false_no e
    go Constant f e = false_no e
    go Divisor f e = f.1

-- what a gate or several leave: as many numbers, what was worked out and the first u opened entries, all below q
pub record Keeps (q : ℕ) (c : List ℕ) (y : Layout) (u : ℕ) (l₀ : List ℕ) (j : ℕ) (l : List ℕ) : Type 0 where
  pub len : length l ≡ length l₀
  pub worked : Worked q c y l j
  pub opened : OpenedTo q y l u

module _ {q : ℕ} (c : List ℕ) (y : Layout) where
  pub written_keeps : (u : ℕ) (l : List ℕ) (j : ℕ) (l' : List ℕ)
      → Written q y l j l'
      → slots_size y ≤ length l
      → j < y.gates
      → Worked q c y l j
      → OpenedTo q y l u
      → Keeps q c y u l (suc j) l'
  written_keeps u l j l' w room h k o =
      rw w.is
      (record {
        len = length_put y l j w.part;
        worked = worked_put y l j w.part room h w.low c k;
        opened = opened_put y l j w.part h u o;
      })

-- a stop is no earlier gate, and what lies before it is linear
at_stop : (c : List ℕ) (left j : ℕ) → j ≤ reach c left j
unfolding reach
at_stop c zero j = omega arith
at_stop c (suc left) j = go (is_linear (gate c j)) (at_stop c left (suc j))
  where
    go : (b : Bool) → suc j ≤ reach c left (suc j) → j ≤ cond b (reach c left (suc j)) j
    go true h = omega arith
    go false h = omega arith

before_stop : (c : List ℕ) (left j : ℕ) → j < reach c left j → (0 < left) × (is_linear (gate c j) ≡ true)
unfolding reach
before_stop c zero j h = absurd (omega arith)
before_stop c (suc left) j h = (omega arith, go (is_linear (gate c j)) refl h)
  where
    go : (b : Bool) → is_linear (gate c j) ≡ b → j < cond b (reach c left (suc j)) j → is_linear (gate c j) ≡ true
    go true e l = e
    go false e l = absurd (omega arith)

-- the linear gates began at gate b of the first n, and gate j is next
pub record Reaching (c : List ℕ) (n b j : ℕ) : Type 0 where
  pub upto : j ≤ n
  pub place : reach c (n - b) b ≡ reach c (n - j) j

module _ (c : List ℕ) (n b : ℕ) where
  pub reaching_start : b ≤ n → Reaching c n b b
  reaching_start h = record { upto = h; place = refl }

  module _ (j : ℕ) (inv : Reaching c n b j) where
    remain : j < n → n - j ≡ suc (n - (j + 1))
    remain h = omega arith

    pub reaching_again : j < n → is_linear (gate c j) ≡ true → Reaching c n b (j + 1)
    unfolding reach
    reaching_again h e = record { upto = omega arith; place = inv.place ∙ rw (remain h, e, add-one) }

    pub reaching_stop : j < n → is_linear (gate c j) ≡ false → j ≡ reach c (n - b) b
    unfolding reach
    reaching_stop h e = rw (inv.place, remain h, e)

    pub reaching_done : n ≤ j → j ≡ reach c (n - b) b
    unfolding reach
    reaching_done h = let z : n - j ≡ 0 = omega arith in rw (inv.place, z)

    -- the gates before the stop are linear
    pub reaching_linear : j < reach c (n - b) b → (j < n) × (is_linear (gate c j) ≡ true)
    reaching_linear h = let k = before_stop c (n - j) j (omega (arith, h, inv.place)) in (omega (arith, k.0), k.1)

  reached : (k : ℕ) → b + k ≤ n → ((i : ℕ) → b ≤ i → i < b + k → is_linear (gate c i) ≡ true) → Reaching c n b (b + k)
  reached zero h e = let z : b + 0 ≡ b = omega arith in rw z (reaching_start (omega arith))
  reached (suc k) h e =
      let z : b + suc k ≡ b + k + 1 = omega arith in
      rw z (reaching_again (b + k) (reached k (omega arith) (λ i l m. e i l (omega arith))) (omega arith) (e (b + k) (omega arith) (omega arith)))

  reached_at : (j : ℕ) → b ≤ j → j ≤ n → ((i : ℕ) → b ≤ i → i < j → is_linear (gate c i) ≡ true) → Reaching c n b j
  reached_at j l h e = let z : b + (j - b) ≡ j = omega arith in rw z at (reached (j - b) (omega arith) (λ i m k. e i m (omega arith)))

  -- the first gate that is not linear, or none
  pub first_stop : b ≤ n → (r : Option ℕ)
      → MatchOption r ((k : ℕ) → b ≤ k → k < n → is_linear (gate c k) ≡ true)
      (λ i. (b ≤ i) × (i < n) × (is_linear (gate c i) ≡ false) × ((k : ℕ) → b ≤ k → k < i → is_linear (gate c k) ≡ true))
      → unwrap_or r n ≡ reach c (n - b) b
  first_stop h None f = reaching_done n (reached_at n h (omega arith) f) (omega arith)
  first_stop h (Some i) f = reaching_stop i (reached_at i f.0 (omega (arith, f.1)) f.3) f.1 f.2

-- the linear gates keep what was worked out and opened
pub settle_keeps : {O : Ops} (F : Field O) (c : List ℕ) (y : Layout) (i key u left j : ℕ) (l : List ℕ)
    → j + left ≤ y.gates
    → slots_size y ≤ length l
    → Worked O.size c y l j
    → OpenedTo O.size y l u
    → Keeps O.size c y u l (reach c left j) (settle O i key c y left j l)
unfolding settle reach
settle_keeps F c y i key u zero j l e room w o = record { len = refl; worked = w; opened = o }
settle_keeps {O} F c y i key u (suc left) j l e room w o =
    go (is_linear (gate c j)) refl (settle_keeps F c y i key u left (suc j) (after_linear O i key y l j (gate c j)))
  where
    l' : List ℕ
    l' = after_linear O i key y l j (gate c j)

    go : (b : Bool)
        → is_linear (gate c j) ≡ b
        → (suc j + left ≤ y.gates
        → slots_size y ≤ length l'
        → Worked O.size c y l' (suc j)
        → OpenedTo O.size y l' u
        → Keeps O.size c y u l' (reach c left (suc j)) (settle O i key c y left (suc j) l'))
        → Keeps O.size c y u l (cond b (reach c left (suc j)) j) (cond b (settle O i key c y left (suc j) l') l)
    go true q ih =
        let k = written_keeps c y u l j l' (linear_written F i key y l j (gate c j) q) room (omega arith) w o in
        let r = ih (omega arith) (rw k.len room) k.worked k.opened in
        record { len = r.len ∙ k.len; worked = r.worked; opened = r.opened }
    go false q ih = record { len = refl; worked = w; opened = o }

-- a gate that is not linear is a stop
pub reach_here : (c : List ℕ) (left j : ℕ) → is_linear (gate c j) ≡ false → reach c left j ≡ j
unfolding reach
reach_here c zero j e = refl
reach_here c (suc left) j e = rw e

-- at the stop nothing is left to do
pub settle_none : (O : Ops) (c : List ℕ) (y : Layout) (i key left j : ℕ) (l : List ℕ) → reach c left j ≤ j → settle O i key c y left j l ≡ l
unfolding settle reach
settle_none O c y i key zero j l h = refl
settle_none O c y i key (suc left) j l h = go (is_linear (gate c j)) h
  where
    go : (b : Bool) → cond b (reach c left (suc j)) j ≤ j → cond b (settle O i key c y left (suc j) (after_linear O i key y l j (gate c j))) l ≡ l
    go true h = absurd (omega (arith, h, at_stop c left (suc j)))
    go false h = refl

-- the linear gates began at gate b with the scratch l₀, and gate j is next with the scratch l
pub record Settling (O : Ops) (c : List ℕ) (y : Layout) (i key b : ℕ) (l₀ : List ℕ) (j : ℕ) (l : List ℕ) : Type 0 where
  pub upto : j ≤ y.gates
  pub len : length l ≡ length l₀
  pub worked : Worked O.size c y l j
  pub same : settle O i key c y (y.gates - b) b l₀ ≡ settle O i key c y (y.gates - j) j l

module _ {O : Ops} (c : List ℕ) (y : Layout) (i key b : ℕ) (l₀ : List ℕ) where
  pub settling_start : Settles O.size c y key l₀ b → Settling O c y i key b l₀ b l₀
  settling_start s = record { upto = s.upto; len = refl; worked = s.worked; same = refl }

  module _ (j : ℕ) (l : List ℕ) (inv : Settling O c y i key b l₀ j l) where
    left : j < y.gates → y.gates - j ≡ suc (y.gates - (j + 1))
    left h = omega arith

    -- before the stop gate j stands in the circuit, and is linear
    pub settling_there : Settles O.size c y key l₀ b → {stop : ℕ} → stop ≡ reach c (y.gates - b) b → Reaching c y.gates b j → j < stop
        → (gate_size * j + gate_size ≤ length c) × (j < y.gates) × (is_linear (gate c j) ≡ true)
    settling_there s e r h =
        let k = reaching_linear c y.gates b j r (omega (arith, h, e)) in
        (omega (arith, k.0, s.valid.whole, s.count), k.0, k.1)

    -- what it reads stands in the scratch
    pub settling_asks : Field O
        → Settles O.size c y key l₀ b
        → j < y.gates
        → {g : Gate}
        → g ≡ operated O (gate c j)
        → (slots_size y ≤ length l) × Reads O.size y l g
    settling_asks F s h e = (
      rw inv.len s.room,
      rw e (reads_operand F y l (gate c j) (reads s.parties O.size c j y l (s.valid.each j (omega (arith, s.count))) inv.worked)),
    )

    pub settling_again : Field O
        → slots_size y ≤ length l₀
        → j < y.gates
        → is_linear (gate c j) ≡ true
        → {l' : List ℕ}
        → l' ≡ after_linear O i key y l j (gate c j)
        → Settling O c y i key b l₀ (j + 1) l'
    unfolding settle
    settling_again F room h e f =
        let k = written_keeps c y 0 l j _ (linear_written F i key y l j (gate c j) e) (rw inv.len room) h inv.worked (λ t z. absurd (omega arith)) in
        record {
          upto = omega arith;
          len = rw f (k.len ∙ inv.len);
          worked = rw (add-one, f) k.worked;
          same = inv.same ∙ rw (left h, e, f, add-one);
        }

    pub settling_end : Reaching c y.gates b j → reach c (y.gates - b) b ≤ j → l ≡ settle O i key c y (y.gates - b) b l₀
    settling_end r h = rw inv.same (sym (settle_none O c y i key (y.gates - j) j l (omega (arith, h, r.place))))
