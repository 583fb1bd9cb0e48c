-- The slots of one sort stand side by side in the scratch, so that question 15 of many of them is one question of a part of it.
-- Assumes nothing.
use Prim.Native.Nat.{ℕ, ◌+◌, ◌-◌, ◌<◌, ◌≤◌}
use mathlib.Core.Path.{◌≡◌, sym}
use mathlib.Core.List.{List}
use native.Mathlib.Omega.{arith}
use lib.ListN.{length, get_or, take, drop, length-drop}
use lib.Seq.{length-take-le, get_or-take, get_or-drop}
use Rattle.circuit.specs.Verdict.{Accepted}
use Rattle.circuit.proofs.Verdicts.{each_all}
use Rattle.protocol.specs.Scratch.{Layout, layout, offset, slots_size, read}
use Rattle.protocol.specs.Holding.{Within}
use Rattle.protocol.specs.Ask.{ask_slots}
use Rattle.protocol.proofs.Slots.{slot_fits}
use Rattle.protocol.proofs.SlotQuestions.{fine}
use Rattle.party.specs.declared.Sort.{Sort}
use Rattle.party.specs.declared.Sort.TheVariants.{Shares, Macs, Values, ValueMacs}
use Rattle.party.specs.Code.{sort_of, wanted_of}

-- slot t of a sort stands t behind slot 0
pub slot_behind : (y : Layout) (sort : Sort) (t : ℕ) → offset y (sort_of sort t) ≡ offset y (sort_of sort 0) + t
unfolding offset sort_of
slot_behind y Shares t = omega arith
slot_behind y Macs t = omega arith
slot_behind y Values t = omega arith
slot_behind y ValueMacs t = omega arith

-- the first k slots of a sort are in a list that holds the scratch
pub slots_fit : (y : Layout) (sort : Sort) (k n : ℕ)
    → slots_size y ≤ n
    → (k ≡ 0 → ⊥)
    → ((t : ℕ) → t < k → Within y (sort_of sort t))
    → offset y (sort_of sort 0) + k ≤ n
slots_fit y sort k n room some within =
    omega (arith, slot_fits y (sort_of sort (k - 1)) room (within (k - 1) (omega (arith, some))), slot_behind y sort (k - 1), some)

-- where all numbers of that part are elements, question 15 accepts the slots
pub slots_fine : (q : ℕ) (c l : List ℕ) (sort : Sort) (k at : ℕ)
    → at ≡ offset (layout c) (sort_of sort 0)
    → at + k ≤ length l
    → ((t : ℕ) → t < length (take (at + k - at) (drop at l)) → get_or (take (at + k - at) (drop at l)) t 0 < q)
    → ask_slots q c l k (wanted_of c sort) (sort_of sort) ≡ Accepted
unfolding ask_slots read
slots_fine q c l sort k at e room below =
    each_all _ _ (λ t h. sym (fine q c l (wanted_of c sort t) (sort_of sort t) (rw (slot_behind (layout c) sort t, ← e) (there t h))))
  where
    there : (t : ℕ) → t < k → get_or l (at + t) 0 < q
    there t h =
        rw (← get_or-drop at l t 0, ← get_or-take (at + k - at) (drop at l) t 0 (omega arith))
        (below t (omega (arith, length-take-le (at + k - at) (drop at l) (omega (arith, length-drop at l)))))
