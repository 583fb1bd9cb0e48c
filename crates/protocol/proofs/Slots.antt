-- What is read of a scratch after it is written: a slot reads as it was written last, and every other slot as before.
-- Assumes nothing.
use Prim.Native.Nat.{ℕ, ◌<◌, ◌≤◌}
use mathlib.Core.Path.{◌≡◌, ap, ◌∙◌}
use mathlib.Core.Logic.{◌≢◌}
use mathlib.Core.List.{List}
use native.Mathlib.Omega.{arith}
use lib.ListN.{length, set, length-set}
use lib.Seq.{get_or-set_same, get_or-set_other, set-set, set_comm}
use Rattle.protocol.specs.Part.{Part}
use Rattle.protocol.specs.Scratch.{Layout, Slot, Share, Mac, Value, ValueMac, offset, slots_size, read, write, wire, put_wire, put_opened}
use Rattle.protocol.specs.Holding.{Within}

module _ (y : Layout) where
  offset_lt : (s : Slot) → Within y s → offset y s < slots_size y
  unfolding offset slots_size
  offset_lt (Share j) w = omega arith
  offset_lt (Mac j) w = omega arith
  offset_lt (Value j) w = omega arith
  offset_lt (ValueMac j) w = omega arith

  -- the slot's place is in a list of n numbers that holds the scratch
  pub slot_fits : (s : Slot) {n : ℕ} → slots_size y ≤ n → Within y s → offset y s < n
  slot_fits s h w = omega (arith, offset_lt s w)

  pub length_write : (l : List ℕ) (s : Slot) (x : ℕ) → length (write y l s x) ≡ length l
  unfolding write
  length_write l s x = simp length-set

  pub length_put : (l : List ℕ) (j : ℕ) (x : Part) → length (put_wire y l j x) ≡ length l
  unfolding put_wire
  length_put l j x = simp length_write

  pub length_opened : (l : List ℕ) (t v m : ℕ) → length (put_opened y l t v m) ≡ length l
  unfolding put_opened
  length_opened l t v m = simp length_write

  pub read_same : (l : List ℕ) (s : Slot) (x : ℕ) → slots_size y ≤ length l → Within y s → read y (write y l s x) s ≡ x
  unfolding read write
  read_same l s x h w = get_or-set_same l (offset y s) x 0 (slot_fits s h w)

  pub read_other : (l : List ℕ) (s t : Slot) (x : ℕ) → offset y s ≢ offset y t → read y (write y l t x) s ≡ read y l s
  unfolding read write
  read_other l s t x a = get_or-set_other l (offset y t) (offset y s) x 0 a

  -- a wire written is read back
  pub wire_put_same : (l : List ℕ) (j : ℕ) (x : Part) → slots_size y ≤ length l → j < y.gates → wire y (put_wire y l j x) j ≡ x
  unfolding wire put_wire offset
  wire_put_same l j x h w =
      λ i.
      record {
        share = (read_other (write y l (Share j) x.share) (Share j) (Mac j) x.mac (omega arith) ∙ read_same l (Share j) x.share h w) i;
        mac = read_same (write y l (Share j) x.share) (Mac j) x.mac (simp length_write h) w i;
      }

  -- the other wires stay
  pub wire_put_other : (l : List ℕ) (j k : ℕ) (x : Part) → j < y.gates → k < y.gates → k ≢ j → wire y (put_wire y l j x) k ≡ wire y l k
  unfolding wire put_wire offset
  wire_put_other l j k x w v a =
      λ i.
      record {
        share = (read_other (write y l (Share j) x.share) (Share k) (Mac j) x.mac (omega arith) ∙ read_other l (Share k) (Share j) x.share (omega arith)) i;
        mac = (read_other (write y l (Share j) x.share) (Mac k) (Mac j) x.mac (omega arith) ∙ read_other l (Mac k) (Share j) x.share (omega arith)) i;
      }

  -- opened entries stay where a wire is written
  pub value_put : (l : List ℕ) (j t : ℕ) (x : Part)
      → j < y.gates
      → t < y.capacity
      → read y (put_wire y l j x) (Value t) ≡ read y l (Value t)
  unfolding put_wire offset
  value_put l j t x w v = read_other _ (Value t) (Mac j) _ (omega arith) ∙ read_other l (Value t) (Share j) _ (omega arith)

  pub value_mac_put : (l : List ℕ) (j t : ℕ) (x : Part)
      → j < y.gates
      → t < y.capacity
      → read y (put_wire y l j x) (ValueMac t) ≡ read y l (ValueMac t)
  unfolding put_wire offset
  value_mac_put l j t x w v = read_other _ (ValueMac t) (Mac j) _ (omega arith) ∙ read_other l (ValueMac t) (Share j) _ (omega arith)

  -- wires stay where an opened entry is written
  pub wire_opened : (l : List ℕ) (j t v m : ℕ) → j < y.gates → t < y.capacity → wire y (put_opened y l t v m) j ≡ wire y l j
  unfolding wire put_opened offset
  wire_opened l j t v m w z =
      λ i.
      record {
        share = (read_other (write y l (Value t) v) (Share j) (ValueMac t) m (omega arith) ∙ read_other l (Share j) (Value t) v (omega arith)) i;
        mac = (read_other (write y l (Value t) v) (Mac j) (ValueMac t) m (omega arith) ∙ read_other l (Mac j) (Value t) v (omega arith)) i;
      }

  -- an opened entry written is read back, and the others stay
  pub value_opened_same : (l : List ℕ) (t v m : ℕ) → slots_size y ≤ length l → t < y.capacity → read y (put_opened y l t v m) (Value t) ≡ v
  unfolding put_opened offset
  value_opened_same l t v m h z = read_other _ (Value t) (ValueMac t) _ (omega arith) ∙ read_same l (Value t) v h z

  pub value_mac_opened_same : (l : List ℕ) (t v m : ℕ)
      → slots_size y ≤ length l
      → t < y.capacity
      → read y (put_opened y l t v m) (ValueMac t) ≡ m
  unfolding put_opened offset
  value_mac_opened_same l t v m h z = read_same _ (ValueMac t) m (simp length_write h) z

  pub value_opened_other : (l : List ℕ) (t k v m : ℕ)
      → t < y.capacity
      → k < y.capacity
      → k ≢ t
      → read y (put_opened y l t v m) (Value k) ≡ read y l (Value k)
  unfolding put_opened offset
  value_opened_other l t k v m z w a = read_other _ (Value k) (ValueMac t) _ (omega arith) ∙ read_other l (Value k) (Value t) v (omega arith)

  pub value_mac_opened_other : (l : List ℕ) (t k v m : ℕ)
      → t < y.capacity
      → k < y.capacity
      → k ≢ t
      → read y (put_opened y l t v m) (ValueMac k) ≡ read y l (ValueMac k)
  unfolding put_opened offset
  value_mac_opened_other l t k v m z w a = read_other _ (ValueMac k) (ValueMac t) _ (omega arith) ∙ read_other l (ValueMac k) (Value t) v (omega arith)

  -- an entry that is written twice is as it was written last
  pub opened_twice : (l : List ℕ) (t v m w n : ℕ) → t < y.capacity → put_opened y (put_opened y l t v m) t w n ≡ put_opened y l t w n
  unfolding put_opened write offset
  opened_twice l t v m w n h =
      let a = offset y (Value t) in
      let b = offset y (ValueMac t) in
      ap (λ (r : List ℕ). set r b n) (set_comm (set l a v) b a m w (omega arith))
      ∙ set-set (set (set l a v) a w) b m n
      ∙ ap (λ (r : List ℕ). set r b n) (set-set l a v w)

  -- two entries may be written in either order
  pub opened_either : (l : List ℕ) (s t v m w n : ℕ)
      → s < y.capacity
      → t < y.capacity
      → s ≢ t
      → put_opened y (put_opened y l s v m) t w n ≡ put_opened y (put_opened y l t w n) s v m
  unfolding put_opened write offset
  opened_either l s t v m w n f g h =
      let a = offset y (Value s) in
      let b = offset y (ValueMac s) in
      let c = offset y (Value t) in
      let d = offset y (ValueMac t) in
      ap (λ (r : List ℕ). set r d n) (set_comm (set l a v) b c m w (omega arith))
      ∙ ap (λ (r : List ℕ). set (set r b m) d n) (set_comm l a c v w (omega arith))
      ∙ set_comm (set (set l c w) a v) b d m n (omega arith)
      ∙ ap (λ (r : List ℕ). set r b m) (set_comm (set l c w) a d v n (omega arith))
