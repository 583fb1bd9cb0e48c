-- `joint::rounds::run` meets its contract. The loop's invariant: once the linear gates that come next are done, the run has come to a gate, and what is written so far and the run that remains make up the whole run. The measure is the number of rounds that may still be made.
-- Assumes nothing.
use mathlib.Core.Path.{refl, sym, ap, ◌∙◌}
use native.Mathlib.Omega.{arith}
use Rattle.circuit.specs.Kind.{Owned, Opens, is_class}
use Rattle.circuit.proofs.KindLaws.{is_class_lem, owned_no_out, opens_no_out, shape_class, shape_prep, shape_gives}
use Rattle.protocol.specs.Code.{blame_of}
use Rattle.protocol.specs.JointEntry.{ended}
use Rattle.joint.specs.Code.{ending_of}
use Rattle.joint.proofs.Stops.{own_in, own_opens, must_output}
use Rattle.joint.proofs.Passing.{stood, places_stay, own_waits, own_moving, own_passed}
use Rattle.joint.proofs.Ends.{gates_same, in_common, opens_common, first_few, first_asked, first_stopped, first_passed, show_moving, second_asked, second_room, second_score, second_record, preps_long, second_stopped, second_passed, standing_over, standing_start}
use Rattle.joint.proofs.rounds.run.Goals as goal

pub loop-f-init : goal.loop-f-init
loop-f-init c =
    standing_start c.requires.0 c.requires.1

pub returns-then-f-j : goal.returns-then-f-j
unfolding ending_of ended
returns-then-f-j c =
    standing_over c.requires.0 (stood _ _ _ _ _ c.loop-f.invariant c.settle-j.ensures.0 c.settle-j.ensures.1) (omega (arith, gates_same c.requires.0, c.if-f-j.true)) refl

pub shape_at-g-requires : goal.shape_at-g-requires
shape_at-g-requires c =
    omega (arith, gates_same c.requires.0, c.if-f-j.false, c.requires.0.lent.valid.whole)

pub input_round-s-requires : goal.input_round-s-requires
input_round-s-requires c =
    (own_moving _ _ _ _ _ c.requires.0 (stood _ _ _ _ _ c.loop-f.invariant c.settle-j.ensures.0 c.settle-j.ensures.1) (omega (arith, gates_same c.requires.0, c.if-f-j.false)) (sym (shape_class _ _ c.shape_at-g.ensures) ∙ is_class_lem Owned (sym c.is_in.ensures ∙ c.if-is_in.true)) (own_in _) (owned_no_out refl), c.shape_at-g.ensures, (sym (shape_class _ _ c.shape_at-g.ensures) ∙ is_class_lem Owned (sym c.is_in.ensures ∙ c.if-is_in.true)), own_waits _ _ _ _ _ c.requires.0 (stood _ _ _ _ _ c.loop-f.invariant c.settle-j.ensures.0 c.settle-j.ensures.1) (omega (arith, gates_same c.requires.0, c.if-f-j.false)) (sym (shape_class _ _ c.shape_at-g.ensures) ∙ is_class_lem Owned (sym c.is_in.ensures ∙ c.if-is_in.true)) (own_in _) (owned_no_out refl), (stood _ _ _ _ _ c.loop-f.invariant c.settle-j.ensures.0 c.settle-j.ensures.1).placed)

pub loop-f-smaller-then-is_in : goal.loop-f-smaller-then-is_in
loop-f-smaller-then-is_in c =
    omega (arith, c.input_round-s.ensures.0.rounds, (own_moving _ _ _ _ _ c.requires.0 (stood _ _ _ _ _ c.loop-f.invariant c.settle-j.ensures.0 c.settle-j.ensures.1) (omega (arith, gates_same c.requires.0, c.if-f-j.false)) (sym (shape_class _ _ c.shape_at-g.ensures) ∙ is_class_lem Owned (sym c.is_in.ensures ∙ c.if-is_in.true)) (own_in _) (owned_no_out refl)).rounds_few)

pub loop-f-preserved-then-is_in : goal.loop-f-preserved-then-is_in
loop-f-preserved-then-is_in c =
    own_passed _ _ _ _ _ c.requires.0 (stood _ _ _ _ _ c.loop-f.invariant c.settle-j.ensures.0 c.settle-j.ensures.1) (omega (arith, gates_same c.requires.0, c.if-f-j.false)) (sym (shape_class _ _ c.shape_at-g.ensures) ∙ is_class_lem Owned (sym c.is_in.ensures ∙ c.if-is_in.true)) (own_in _) (owned_no_out refl) c.input_round-s.ensures.0 c.input_round-s.ensures.1 c.input_round-s.ensures.2 c.input_round-s.ensures.3 c.input_round-s.ensures.4 (in_common c.requires.0 (stood _ _ _ _ _ c.loop-f.invariant c.settle-j.ensures.0 c.settle-j.ensures.1) (omega (arith, gates_same c.requires.0, c.if-f-j.false)) c.input_round-s.ensures.0 c.input_round-s.ensures.2 (sym (shape_class _ _ c.shape_at-g.ensures) ∙ is_class_lem Owned (sym c.is_in.ensures ∙ c.if-is_in.true)))

pub opening_round-s-requires : goal.opening_round-s-requires
opening_round-s-requires c =
    (own_moving _ _ _ _ _ c.requires.0 (stood _ _ _ _ _ c.loop-f.invariant c.settle-j.ensures.0 c.settle-j.ensures.1) (omega (arith, gates_same c.requires.0, c.if-f-j.false)) (sym (shape_class _ _ c.shape_at-g.ensures) ∙ is_class_lem Opens (sym c.opens.ensures ∙ c.if-opens.true)) (own_opens _) (opens_no_out refl), c.shape_at-g.ensures, (sym (shape_class _ _ c.shape_at-g.ensures) ∙ is_class_lem Opens (sym c.opens.ensures ∙ c.if-opens.true)), own_waits _ _ _ _ _ c.requires.0 (stood _ _ _ _ _ c.loop-f.invariant c.settle-j.ensures.0 c.settle-j.ensures.1) (omega (arith, gates_same c.requires.0, c.if-f-j.false)) (sym (shape_class _ _ c.shape_at-g.ensures) ∙ is_class_lem Opens (sym c.opens.ensures ∙ c.if-opens.true)) (own_opens _) (opens_no_out refl))

pub loop-f-smaller-then-opens : goal.loop-f-smaller-then-opens
loop-f-smaller-then-opens c =
    omega (arith, c.opening_round-s.ensures.0.rounds, (own_moving _ _ _ _ _ c.requires.0 (stood _ _ _ _ _ c.loop-f.invariant c.settle-j.ensures.0 c.settle-j.ensures.1) (omega (arith, gates_same c.requires.0, c.if-f-j.false)) (sym (shape_class _ _ c.shape_at-g.ensures) ∙ is_class_lem Opens (sym c.opens.ensures ∙ c.if-opens.true)) (own_opens _) (opens_no_out refl)).rounds_few)

pub loop-f-preserved-then-opens : goal.loop-f-preserved-then-opens
loop-f-preserved-then-opens c =
    own_passed _ _ _ _ _ c.requires.0 (stood _ _ _ _ _ c.loop-f.invariant c.settle-j.ensures.0 c.settle-j.ensures.1) (omega (arith, gates_same c.requires.0, c.if-f-j.false)) (sym (shape_class _ _ c.shape_at-g.ensures) ∙ is_class_lem Opens (sym c.opens.ensures ∙ c.if-opens.true)) (own_opens _) (opens_no_out refl) c.opening_round-s.ensures.0 c.opening_round-s.ensures.1 c.opening_round-s.ensures.2 c.opening_round-s.ensures.3 (places_stay _ _ _ _ _ c.requires.0 (stood _ _ _ _ _ c.loop-f.invariant c.settle-j.ensures.0 c.settle-j.ensures.1) (omega (arith, gates_same c.requires.0, c.if-f-j.false)) (ap (is_class Owned) (sym (shape_class _ _ c.shape_at-g.ensures)) ∙ sym c.is_in.ensures ∙ c.if-is_in.false)) (opens_common c.requires.0 (stood _ _ _ _ _ c.loop-f.invariant c.settle-j.ensures.0 c.settle-j.ensures.1) (omega (arith, gates_same c.requires.0, c.if-f-j.false)) c.opening_round-s.ensures.0 c.opening_round-s.ensures.2 (sym (shape_class _ _ c.shape_at-g.ensures) ∙ is_class_lem Opens (sym c.opens.ensures ∙ c.if-opens.true)))

pub check-first-requires : goal.check-first-requires
check-first-requires c =
    (first_asked c.requires.0 (stood _ _ _ _ _ c.loop-f.invariant c.settle-j.ensures.0 c.settle-j.ensures.1) (omega (arith, gates_same c.requires.0, c.if-f-j.false)) (must_output _ ((stood _ _ _ _ _ c.loop-f.invariant c.settle-j.ensures.0 c.settle-j.ensures.1).stands (omega (arith, gates_same c.requires.0, c.if-f-j.false))) (ap (is_class Owned) (sym (shape_class _ _ c.shape_at-g.ensures)) ∙ sym c.is_in.ensures ∙ c.if-is_in.false) (ap (is_class Opens) (sym (shape_class _ _ c.shape_at-g.ensures)) ∙ sym c.opens.ensures ∙ c.if-opens.false)) c.if-waiting-ne0.true, omega (arith, c.requires.0.lent.valid.few, first_few c.requires.0 (stood _ _ _ _ _ c.loop-f.invariant c.settle-j.ensures.0 c.settle-j.ensures.1) (omega (arith, gates_same c.requires.0, c.if-f-j.false)) (must_output _ ((stood _ _ _ _ _ c.loop-f.invariant c.settle-j.ensures.0 c.settle-j.ensures.1).stands (omega (arith, gates_same c.requires.0, c.if-f-j.false))) (ap (is_class Owned) (sym (shape_class _ _ c.shape_at-g.ensures)) ∙ sym c.is_in.ensures ∙ c.if-is_in.false) (ap (is_class Opens) (sym (shape_class _ _ c.shape_at-g.ensures)) ∙ sym c.opens.ensures ∙ c.if-opens.false)) c.if-waiting-ne0.true))

pub returns-then-first-ne0 : goal.returns-then-first-ne0
unfolding ending_of ended blame_of
returns-then-first-ne0 c =
    first_stopped c.requires.0 (stood _ _ _ _ _ c.loop-f.invariant c.settle-j.ensures.0 c.settle-j.ensures.1) (omega (arith, gates_same c.requires.0, c.if-f-j.false)) (must_output _ ((stood _ _ _ _ _ c.loop-f.invariant c.settle-j.ensures.0 c.settle-j.ensures.1).stands (omega (arith, gates_same c.requires.0, c.if-f-j.false))) (ap (is_class Owned) (sym (shape_class _ _ c.shape_at-g.ensures)) ∙ sym c.is_in.ensures ∙ c.if-is_in.false) (ap (is_class Opens) (sym (shape_class _ _ c.shape_at-g.ensures)) ∙ sym c.opens.ensures ∙ c.if-opens.false)) c.if-waiting-ne0.true c.check-first.ensures.0 c.if-first-ne0.true (rw c.check-first.ensures.1 refl)

pub loop-f-smaller-then-waiting-ne0 : goal.loop-f-smaller-then-waiting-ne0
loop-f-smaller-then-waiting-ne0 c =
    rw c.check-first.ensures.1 (omega (arith, first_few c.requires.0 (stood _ _ _ _ _ c.loop-f.invariant c.settle-j.ensures.0 c.settle-j.ensures.1) (omega (arith, gates_same c.requires.0, c.if-f-j.false)) (must_output _ ((stood _ _ _ _ _ c.loop-f.invariant c.settle-j.ensures.0 c.settle-j.ensures.1).stands (omega (arith, gates_same c.requires.0, c.if-f-j.false))) (ap (is_class Owned) (sym (shape_class _ _ c.shape_at-g.ensures)) ∙ sym c.is_in.ensures ∙ c.if-is_in.false) (ap (is_class Opens) (sym (shape_class _ _ c.shape_at-g.ensures)) ∙ sym c.opens.ensures ∙ c.if-opens.false)) c.if-waiting-ne0.true))

pub loop-f-preserved-then-waiting-ne0 : goal.loop-f-preserved-then-waiting-ne0
loop-f-preserved-then-waiting-ne0 c =
    rw c.check-first.ensures.1 (first_passed c.requires.0 (stood _ _ _ _ _ c.loop-f.invariant c.settle-j.ensures.0 c.settle-j.ensures.1) (omega (arith, gates_same c.requires.0, c.if-f-j.false)) (must_output _ ((stood _ _ _ _ _ c.loop-f.invariant c.settle-j.ensures.0 c.settle-j.ensures.1).stands (omega (arith, gates_same c.requires.0, c.if-f-j.false))) (ap (is_class Owned) (sym (shape_class _ _ c.shape_at-g.ensures)) ∙ sym c.is_in.ensures ∙ c.if-is_in.false) (ap (is_class Opens) (sym (shape_class _ _ c.shape_at-g.ensures)) ∙ sym c.opens.ensures ∙ c.if-opens.false)) c.if-waiting-ne0.true c.check-first.ensures.0 c.if-first-ne0.false)

pub show_round-s-requires : goal.show_round-s-requires
show_round-s-requires c =
    (show_moving c.requires.0 (stood _ _ _ _ _ c.loop-f.invariant c.settle-j.ensures.0 c.settle-j.ensures.1) (omega (arith, gates_same c.requires.0, c.if-f-j.false)) (must_output _ ((stood _ _ _ _ _ c.loop-f.invariant c.settle-j.ensures.0 c.settle-j.ensures.1).stands (omega (arith, gates_same c.requires.0, c.if-f-j.false))) (ap (is_class Owned) (sym (shape_class _ _ c.shape_at-g.ensures)) ∙ sym c.is_in.ensures ∙ c.if-is_in.false) (ap (is_class Opens) (sym (shape_class _ _ c.shape_at-g.ensures)) ∙ sym c.opens.ensures ∙ c.if-opens.false)) c.if-waiting-ne0.false, c.shape_at-g.ensures)

pub check-second-requires : goal.check-second-requires
check-second-requires c =
    (second_asked c.requires.0 (stood _ _ _ _ _ c.loop-f.invariant c.settle-j.ensures.0 c.settle-j.ensures.1) (omega (arith, gates_same c.requires.0, c.if-f-j.false)) (must_output _ ((stood _ _ _ _ _ c.loop-f.invariant c.settle-j.ensures.0 c.settle-j.ensures.1).stands (omega (arith, gates_same c.requires.0, c.if-f-j.false))) (ap (is_class Owned) (sym (shape_class _ _ c.shape_at-g.ensures)) ∙ sym c.is_in.ensures ∙ c.if-is_in.false) (ap (is_class Opens) (sym (shape_class _ _ c.shape_at-g.ensures)) ∙ sym c.opens.ensures ∙ c.if-opens.false)) c.if-waiting-ne0.false c.show_round-s.ensures.0 c.show_round-s.ensures.1, omega (arith, c.requires.0.lent.valid.few, (show_moving c.requires.0 (stood _ _ _ _ _ c.loop-f.invariant c.settle-j.ensures.0 c.settle-j.ensures.1) (omega (arith, gates_same c.requires.0, c.if-f-j.false)) (must_output _ ((stood _ _ _ _ _ c.loop-f.invariant c.settle-j.ensures.0 c.settle-j.ensures.1).stands (omega (arith, gates_same c.requires.0, c.if-f-j.false))) (ap (is_class Owned) (sym (shape_class _ _ c.shape_at-g.ensures)) ∙ sym c.is_in.ensures ∙ c.if-is_in.false) (ap (is_class Opens) (sym (shape_class _ _ c.shape_at-g.ensures)) ∙ sym c.opens.ensures ∙ c.if-opens.false)) c.if-waiting-ne0.false).rounds_few, c.show_round-s.ensures.0.rounds))

pub returns-then-second-ne0 : goal.returns-then-second-ne0
unfolding ending_of ended blame_of
returns-then-second-ne0 c =
    second_stopped c.requires.0 (stood _ _ _ _ _ c.loop-f.invariant c.settle-j.ensures.0 c.settle-j.ensures.1) (omega (arith, gates_same c.requires.0, c.if-f-j.false)) (must_output _ ((stood _ _ _ _ _ c.loop-f.invariant c.settle-j.ensures.0 c.settle-j.ensures.1).stands (omega (arith, gates_same c.requires.0, c.if-f-j.false))) (ap (is_class Owned) (sym (shape_class _ _ c.shape_at-g.ensures)) ∙ sym c.is_in.ensures ∙ c.if-is_in.false) (ap (is_class Opens) (sym (shape_class _ _ c.shape_at-g.ensures)) ∙ sym c.opens.ensures ∙ c.if-opens.false)) c.if-waiting-ne0.false c.show_round-s.ensures.0 c.show_round-s.ensures.1 c.check-second.ensures.0 c.if-second-ne0.true (rw c.check-second.ensures.1 refl)

pub listed_score-requires : goal.listed_score-requires
listed_score-requires c =
    rw c.check-second.ensures.1 (second_score c.requires.0 (stood _ _ _ _ _ c.loop-f.invariant c.settle-j.ensures.0 c.settle-j.ensures.1) (omega (arith, gates_same c.requires.0, c.if-f-j.false)) (must_output _ ((stood _ _ _ _ _ c.loop-f.invariant c.settle-j.ensures.0 c.settle-j.ensures.1).stands (omega (arith, gates_same c.requires.0, c.if-f-j.false))) (ap (is_class Owned) (sym (shape_class _ _ c.shape_at-g.ensures)) ∙ sym c.is_in.ensures ∙ c.if-is_in.false) (ap (is_class Opens) (sym (shape_class _ _ c.shape_at-g.ensures)) ∙ sym c.opens.ensures ∙ c.if-opens.false)) c.if-waiting-ne0.false c.show_round-s.ensures.0 c.show_round-s.ensures.1 c.check-second.ensures.0 (shape_gives _ _ c.shape_at-g.ensures c.is_give-give.ensures))

pub offset_bounds-outputs-at : goal.offset_bounds-outputs-at
offset_bounds-outputs-at c =
    rw c.check-second.ensures.1 (omega (arith, c.well_formed, second_room c.requires.0 (stood _ _ _ _ _ c.loop-f.invariant c.settle-j.ensures.0 c.settle-j.ensures.1) (omega (arith, gates_same c.requires.0, c.if-f-j.false)) (must_output _ ((stood _ _ _ _ _ c.loop-f.invariant c.settle-j.ensures.0 c.settle-j.ensures.1).stands (omega (arith, gates_same c.requires.0, c.if-f-j.false))) (ap (is_class Owned) (sym (shape_class _ _ c.shape_at-g.ensures)) ∙ sym c.is_in.ensures ∙ c.if-is_in.false) (ap (is_class Opens) (sym (shape_class _ _ c.shape_at-g.ensures)) ∙ sym c.opens.ensures ∙ c.if-opens.false)) c.if-waiting-ne0.false c.show_round-s.ensures.0 c.show_round-s.ensures.1 c.check-second.ensures.0, (stood _ _ _ _ _ c.loop-f.invariant c.settle-j.ensures.0 c.settle-j.ensures.1).running.long_o))

pub bounds-outputs-at : goal.bounds-outputs-at
bounds-outputs-at c =
    rw c.check-second.ensures.1 (second_room c.requires.0 (stood _ _ _ _ _ c.loop-f.invariant c.settle-j.ensures.0 c.settle-j.ensures.1) (omega (arith, gates_same c.requires.0, c.if-f-j.false)) (must_output _ ((stood _ _ _ _ _ c.loop-f.invariant c.settle-j.ensures.0 c.settle-j.ensures.1).stands (omega (arith, gates_same c.requires.0, c.if-f-j.false))) (ap (is_class Owned) (sym (shape_class _ _ c.shape_at-g.ensures)) ∙ sym c.is_in.ensures ∙ c.if-is_in.false) (ap (is_class Opens) (sym (shape_class _ _ c.shape_at-g.ensures)) ∙ sym c.opens.ensures ∙ c.if-opens.false)) c.if-waiting-ne0.false c.show_round-s.ensures.0 c.show_round-s.ensures.1 c.check-second.ensures.0)

pub overflow_add-s : goal.overflow_add-s
overflow_add-s c =
    omega (arith, gates_same c.requires.0, c.if-f-j.false, c.requires.0.lent.valid.few)

pub overflow_add-s-in-loop-f : goal.overflow_add-s-in-loop-f
overflow_add-s-in-loop-f c =
    rw c.check-second.ensures.1 (omega (arith, c.well_formed, second_record c.requires.0 (stood _ _ _ _ _ c.loop-f.invariant c.settle-j.ensures.0 c.settle-j.ensures.1) (omega (arith, gates_same c.requires.0, c.if-f-j.false)) (must_output _ ((stood _ _ _ _ _ c.loop-f.invariant c.settle-j.ensures.0 c.settle-j.ensures.1).stands (omega (arith, gates_same c.requires.0, c.if-f-j.false))) (ap (is_class Owned) (sym (shape_class _ _ c.shape_at-g.ensures)) ∙ sym c.is_in.ensures ∙ c.if-is_in.false) (ap (is_class Opens) (sym (shape_class _ _ c.shape_at-g.ensures)) ∙ sym c.opens.ensures ∙ c.if-opens.false)) c.if-waiting-ne0.false c.show_round-s.ensures.0 c.show_round-s.ensures.1 c.check-second.ensures.0, shape_prep _ _ c.shape_at-g.ensures, preps_long c.requires.0))

pub overflow_add-s-in-loop-f-2 : goal.overflow_add-s-in-loop-f-2
overflow_add-s-in-loop-f-2 c =
    rw c.check-second.ensures.1 (omega (arith, c.well_formed, second_room c.requires.0 (stood _ _ _ _ _ c.loop-f.invariant c.settle-j.ensures.0 c.settle-j.ensures.1) (omega (arith, gates_same c.requires.0, c.if-f-j.false)) (must_output _ ((stood _ _ _ _ _ c.loop-f.invariant c.settle-j.ensures.0 c.settle-j.ensures.1).stands (omega (arith, gates_same c.requires.0, c.if-f-j.false))) (ap (is_class Owned) (sym (shape_class _ _ c.shape_at-g.ensures)) ∙ sym c.is_in.ensures ∙ c.if-is_in.false) (ap (is_class Opens) (sym (shape_class _ _ c.shape_at-g.ensures)) ∙ sym c.opens.ensures ∙ c.if-opens.false)) c.if-waiting-ne0.false c.show_round-s.ensures.0 c.show_round-s.ensures.1 c.check-second.ensures.0, (stood _ _ _ _ _ c.loop-f.invariant c.settle-j.ensures.0 c.settle-j.ensures.1).running.long_o))

pub loop-f-smaller : goal.loop-f-smaller
loop-f-smaller c =
    rw c.check-second.ensures.1 (omega (arith, (show_moving c.requires.0 (stood _ _ _ _ _ c.loop-f.invariant c.settle-j.ensures.0 c.settle-j.ensures.1) (omega (arith, gates_same c.requires.0, c.if-f-j.false)) (must_output _ ((stood _ _ _ _ _ c.loop-f.invariant c.settle-j.ensures.0 c.settle-j.ensures.1).stands (omega (arith, gates_same c.requires.0, c.if-f-j.false))) (ap (is_class Owned) (sym (shape_class _ _ c.shape_at-g.ensures)) ∙ sym c.is_in.ensures ∙ c.if-is_in.false) (ap (is_class Opens) (sym (shape_class _ _ c.shape_at-g.ensures)) ∙ sym c.opens.ensures ∙ c.if-opens.false)) c.if-waiting-ne0.false).rounds_few, c.show_round-s.ensures.0.rounds))

pub loop-f-preserved : goal.loop-f-preserved
loop-f-preserved c =
    rw c.check-second.ensures.1 (second_passed c.requires.0 (stood _ _ _ _ _ c.loop-f.invariant c.settle-j.ensures.0 c.settle-j.ensures.1) (omega (arith, gates_same c.requires.0, c.if-f-j.false)) (must_output _ ((stood _ _ _ _ _ c.loop-f.invariant c.settle-j.ensures.0 c.settle-j.ensures.1).stands (omega (arith, gates_same c.requires.0, c.if-f-j.false))) (ap (is_class Owned) (sym (shape_class _ _ c.shape_at-g.ensures)) ∙ sym c.is_in.ensures ∙ c.if-is_in.false) (ap (is_class Opens) (sym (shape_class _ _ c.shape_at-g.ensures)) ∙ sym c.opens.ensures ∙ c.if-opens.false)) c.if-waiting-ne0.false c.show_round-s.ensures.0 c.show_round-s.ensures.1 c.check-second.ensures.0 c.if-second-ne0.false (shape_gives _ _ c.shape_at-g.ensures c.is_give-give.ensures) (rw c.check-second.ensures.1 at c.listed_score.ensures) (shape_prep _ _ c.shape_at-g.ensures))
