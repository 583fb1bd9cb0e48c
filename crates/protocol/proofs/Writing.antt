-- What can be read of a scratch stays readable where a wire or an opened entry of elements is written.
-- Assumes nothing.
use Prim.Native.Nat.{ℕ, suc, ◌<◌, ◌≤◌}
use mathlib.Core.Path.{◌≡◌, sym, ap, ◌∙◌}
use mathlib.Core.Bool.{false}
use mathlib.Core.List.{List}
use native.Mathlib.Omega.{arith}
use native.Mathlib.Decide.{ℕ_discrete}
use lib.ListN.{length}
use Rattle.algebra.specs.Ops.{Ops}
use Rattle.algebra.specs.Field.{Field}
use Rattle.algebra.proofs.Ring.{add_lt, sub_lt, mul_lt}
use Rattle.circuit.specs.Gate.{gate}
use Rattle.circuit.specs.Kind.{has_value}
use Rattle.circuit.proofs.Tests.{false_no}
use Rattle.protocol.specs.Part.{Part, plus, minus, scale, shift, product}
use Rattle.protocol.specs.Scratch.{Layout, slots_size, wire, put_wire, put_opened}
use Rattle.protocol.specs.Holding.{Held, Worked, Opened}
use Rattle.protocol.proofs.Slots.{wire_put_same, wire_put_other, wire_opened, value_put, value_mac_put, value_opened_same, value_mac_opened_same, value_opened_other, value_mac_opened_other}

-- both numbers of a part are below q
pub record Elements (q : ℕ) (x : Part) : Type 0 where
  pub share : x.share < q
  pub mac : x.mac < q

-- what the parties compute is of elements
module _ {O : Ops} (F : Field O) where
  open O use {size}

  pub plus_elements : (x z : Part) → Elements size (plus O x z)
  unfolding plus
  plus_elements x z = record { share = add_lt F _ _; mac = add_lt F _ _ }

  pub minus_elements : (x z : Part) → Elements size (minus O x z)
  unfolding minus
  minus_elements x z = record { share = sub_lt F _ _; mac = sub_lt F _ _ }

  pub scale_elements : (k : ℕ) (x : Part) → Elements size (scale O k x)
  unfolding scale
  scale_elements k x = record { share = mul_lt F _ _; mac = mul_lt F _ _ }

  pub shift_elements : (i key : ℕ) (x : Part) (k : ℕ) → Elements size (shift O i key x k)
  unfolding shift
  shift_elements i key x k = plus_elements x _

  pub product_elements : (i key : ℕ) (a b c : Part) (e d : ℕ) → Elements size (product O i key a b c e d)
  unfolding product
  product_elements i key a b c e d = shift_elements i key _ _

-- the first u opened entries are of numbers below q
abbrev pub OpenedTo : ℕ → Layout → List ℕ → ℕ → Type 0
OpenedTo q y l u = (t : ℕ) → t < u → Opened q y l t

module _ {q : ℕ} (y : Layout) (l : List ℕ) where
  -- a wire that reads alike can be read alike
  held_alike : (l' : List ℕ) (x : ℕ) → wire y l' x ≡ wire y l x → Held q y l x → Held q y l' x
  unfolding wire
  held_alike l' x e h =
      record {
        within = h.within;
        share = rw (ap (λ (r : Part). r.share) e) h.share;
        mac = rw (ap (λ (r : Part). r.mac) e) h.mac;
      }

  -- what a wire holds is of elements
  pub wire_elements : (x : ℕ) → Held q y l x → Elements q (wire y l x)
  unfolding wire
  wire_elements x h = record { share = h.share; mac = h.mac }

  module _ (j : ℕ) (r : Part) (room : slots_size y ≤ length l) (within : j < y.gates) (low : Elements q r) where
    held_put : Held q y (put_wire y l j r) j
    unfolding wire
    held_put =
        let e : wire y (put_wire y l j r) j ≡ r = wire_put_same y l j r room within in
        record {
          within = within;
          share = rw (ap (λ (z : Part). z.share) e) low.share;
          mac = rw (ap (λ (z : Part). z.mac) e) low.mac;
        }

    -- gate j is worked out once its wire is written
    pub worked_put : (c : List ℕ) → Worked q c y l j → Worked q c y (put_wire y l j r) (suc j)
    worked_put c w x lx v = go (ℕ_discrete x j)
      where
        go : Dec (x ≡ j) → Held q y (put_wire y l j r) x
        go (yes e) = rw e held_put
        go (no e) =
            let h = w x (omega arith) v in
            held_alike (put_wire y l j r) x (wire_put_other y l j x r within h.within e) h

  pub opened_put : (j : ℕ) (r : Part) → j < y.gates → (u : ℕ) → OpenedTo q y l u → OpenedTo q y (put_wire y l j r) u
  opened_put j r within u o t h =
      let e = o t h in
      record {
        within = e.within;
        value = rw (value_put y l j t r within e.within) e.value;
        mac = rw (value_mac_put y l j t r within e.within) e.mac;
      }

  module _ (u v m : ℕ) (within : u < y.capacity) where
    pub worked_opened : (c : List ℕ) (j : ℕ) → Worked q c y l j → Worked q c y (put_opened y l u v m) j
    worked_opened c j w x lx a =
        let h = w x lx a in held_alike (put_opened y l u v m) x (wire_opened y l x u v m h.within within) h

    -- one opened entry more
    pub opened_more : slots_size y ≤ length l → v < q → m < q → OpenedTo q y l u → OpenedTo q y (put_opened y l u v m) (suc u)
    opened_more room lv lm o t h = go (ℕ_discrete t u)
      where
        go : Dec (t ≡ u) → Opened q y (put_opened y l u v m) t
        go (yes e) =
            rw e
            (record {
              within = within;
              value = rw (value_opened_same y l u v m room within) lv;
              mac = rw (value_mac_opened_same y l u v m room within) lm;
            })
        go (no e) =
            let f = o t (omega arith) in
            record {
              within = f.within;
              value = rw (value_opened_other y l u t v m within f.within e) f.value;
              mac = rw (value_mac_opened_other y l u t v m within f.within e) f.mac;
            }

  -- a gate with no value needs no work
  pub worked_skip : (c : List ℕ) (j : ℕ) → has_value (gate c j) ≡ false → Worked q c y l j → Worked q c y l (suc j)
  worked_skip c j n w x lx v = go (ℕ_discrete x j)
    where
      go : Dec (x ≡ j) → Held q y l x
      go (yes e) = false_no (sym n ∙ sym (ap (λ (k : ℕ). has_value (gate c k)) e) ∙ v)
      go (no e) = w x (omega arith) v
