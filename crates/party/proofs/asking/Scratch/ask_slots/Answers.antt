-- `party::asking::Scratch::ask_slots` meets its contract: where all numbers of the part are elements no question is refused, and else the loop asks one slot
-- after the other and is left at the first that refuses.
-- Assumes nothing.
use Prim.Native.Nat.{ℕ, ◌+◌, ◌<◌, ◌≤◌}
use mathlib.Core.Path.{◌≡◌, sym}
use mathlib.Core.List.{List}
use lib.ListN.{length}
use native.Mathlib.Omega.{arith}
use Rattle.circuit.proofs.Verdicts.{each_none}
use Rattle.protocol.specs.declared.Layout.{Layout}
use Rattle.protocol.specs.Scratch.{layout, offset}
use Rattle.protocol.specs.Holding.{Within}
use Rattle.protocol.specs.Ask.{ask_slots}
use Rattle.party.specs.declared.Sort.{Sort}
use Rattle.party.specs.Code.{sort_of, Laid}
use Rattle.party.proofs.Slots.{slots_fit, slots_fine}
use borrow.Author.Rules.{rules}
use Rattle.party.proofs.Loops.{each_start, each_no}
use Rattle.party.proofs.asking.Scratch.ask_slots.Goals as goal

-- the part is there
fits : {c l : List ℕ} {y : Layout} (sort : Sort) {k at : ℕ} → Laid c l y → (k ≡ 0 → ⊥) → ((t : ℕ) → t < k → Within (layout c) (sort_of sort t))
    → at ≡ offset (layout c) (sort_of sort 0)
    → at + k ≤ length l
fits {c} {l} sort {k} laid some within place = rw place (slots_fit (layout c) sort k (length l) laid.room some within)

pub returns-then-k-eq0 : goal.returns-then-k-eq0
unfolding ask_slots
returns-then-k-eq0 c =
    rw c.if-k-eq0.true (sym (each_none _))

pub offset-from-requires : goal.offset-from-requires
offset-from-requires c =
    c.requires 0 (omega (arith, c.if-k-eq0.false))

pub overflow_add-to : goal.overflow_add-to
overflow_add-to c =
    omega (arith, fits c.args.sort c.args.self.now.laid c.if-k-eq0.false c.requires c.offset-from.ensures.0, c.well_formed)

pub slice_bounds-all_elements-end : goal.slice_bounds-all_elements-end
slice_bounds-all_elements-end c =
    fits c.args.sort c.args.self.now.laid c.if-k-eq0.false c.requires c.offset-from.ensures.0

pub returns-then-all_elements : goal.returns-then-all_elements
returns-then-all_elements c =
    sym (slots_fine _ _ _ c.args.sort _ _ c.offset-from.ensures.0 (fits c.args.sort c.args.self.now.laid c.if-k-eq0.false c.requires c.offset-from.ensures.0)
    (c.all_elements.ensures.0 c.if-all_elements.true))

pub ask_slot-requires : goal.ask_slot-requires
ask_slot-requires c =
    c.requires _ (omega arith)

pub loop-t-init : goal.loop-t-init
loop-t-init c =
    each_start _ _

pub returns-in_err-ask_slot : goal.returns-in_err-ask_slot
unfolding ask_slots
returns-in_err-ask_slot c =
    each_no _ _ _ c.loop-t.invariant (omega arith) c.ask_slot.ensures c.in_err-ask_slot.was (search rules)
