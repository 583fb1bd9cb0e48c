-- `fit::working::Worked::walk` meets its contract: the gates before j stay, and their intervals and moves stand in the lists.
-- Assumes nothing.
use Rattle.std.proofs.Common.{◌<◌, ◌≤◌, arith}
use Rattle.circuit.specs.Gate.{gates}
use Rattle.circuit.specs.Kind.{is_in}
use Rattle.circuit.proofs.Counts.{bit_le, count_le}
use Rattle.fit.specs.Code.{found_of}
use Rattle.fit.proofs.Walks.{gates_there, course_starts, course_gate, course_range, course_named, course_leaves, course_more, course_ends, course_lists}
use mathlib.Core.Path.{ap, ◌∙◌}
use mathlib.Core.Bool.{Bool, cond}
use Rattle.fit.proofs.working.Worked.walk.Goals as goal

pub loop-j-init : goal.loop-j-init
loop-j-init c =
    course_starts _ _ _ c.requires.4

pub reach_at-requires : goal.reach_at-requires
reach_at-requires c =
    let h : c.loop-j.j < gates c.args.c.now = omega arith in
    (course_gate _ _ _ c.loop-j.invariant h, c.loop-j.invariant.counted, course_range _ _ _ c.loop-j.invariant h c.requires.2, omega (arith, c.requires.2), c.requires.3, c.loop-j.invariant.fair, course_named _ _ _ c.loop-j.invariant h (c.requires.1 _ h))

pub returns-in_default : goal.returns-in_default
unfolding found_of
returns-in_default c =
    let h : c.loop-j.j < gates c.args.c.now = omega arith in
    record { found = course_leaves _ _ _ c.loop-j.invariant h (rw c.in_default.is at c.reach_at.ensures.0); lists = tt }

pub step-requires : goal.step-requires
step-requires c =
    let h : c.loop-j.j < gates c.args.c.now = omega arith in
    record { there = course_gate _ _ _ c.loop-j.invariant h; few = omega (arith, c.requires.0); tame = c.requires.1 _ h; ends_long = c.loop-j.invariant.held.long; fair = c.loop-j.invariant.fair; moves_long = c.loop-j.invariant.moves_long; scores_long = c.loop-j.invariant.scores_long; low = c.loop-j.invariant.low; scored = c.loop-j.invariant.few }

pub is_input_at-requires : goal.is_input_at-requires
is_input_at-requires c =
    omega (arith, gates_there c.args.c.now)

pub overflow_add-ins : goal.overflow_add-ins
overflow_add-ins c =
    omega (arith, bit_le c.is_input_at.result c.one_if-ins.ensures, c.loop-j.invariant.counted, c.loop-j.invariant.upto, count_le is_in c.args.c.now c.loop-j.j, c.requires.0)

pub loop-j-preserved : goal.loop-j-preserved
loop-j-preserved c =
    let h : c.loop-j.j < gates c.args.c.now = omega arith in
    course_more _ _ _ c.loop-j.invariant h (rw c.in-Some.is at c.reach_at.ensures.0) c.requires.0 (rw c.in-Some.is at c.reach_at.ensures.1) c.step.ensures (c.one_if-ins.ensures ∙ ap (λ (b : Bool). cond b 1 0) c.is_input_at.ensures) c.put_interval.ensures.ends c.put_interval.ensures.others

pub returns : goal.returns
unfolding found_of
returns c =
    let h : gates c.args.c.now ≤ c.loop-j.j = omega arith in
    record { found = course_ends _ _ _ c.loop-j.invariant h; lists = course_lists _ _ _ c.loop-j.invariant h }
