-- `steps::receiving::settle` meets its contract: what is left to do from gate j on is what was left from the first gate on, and the gates before the stop are linear.
-- Assumes nothing.
use mathlib.Core.Path.{ap, ◌∙◌}
use Rattle.field.specs.Words.{ops}
use Rattle.field.proofs.Laws.{laws}
use Rattle.circuit.specs.Kind.{Local, kind_shape, is_class}
use Rattle.protocol.specs.Code.{layout_of}
use Rattle.protocol.proofs.Settling.{put_operated, divisor_low, settling_start, settling_there, settling_asks, settling_again, settling_end, reaching_start, reaching_again}
use Rattle.circuit.proofs.KindLaws.{shape_constant}
use Rattle.circuit.proofs.Gates.{gate_from}
use native.Mathlib.Omega.{arith}
use Rattle.steps.proofs.receiving.settle.Goals as goal

pub loop-j-init : goal.loop-j-init
unfolding layout_of
loop-j-init c =
    (settling_start _ _ _ _ _ _ c.requires.0, reaching_start _ _ _ c.requires.0.upto)

pub kind_at-kind-requires : goal.kind_at-kind-requires
unfolding layout_of
kind_at-kind-requires c =
    (settling_there _ _ _ _ _ _ _ _ c.loop-j.invariant.0 c.requires.0 c.requires.1 c.loop-j.invariant.1 c.loop-j-test.true).0

pub first_at-x-requires : goal.first_at-x-requires
unfolding layout_of
first_at-x-requires c =
    (settling_there _ _ _ _ _ _ _ _ c.loop-j.invariant.0 c.requires.0 c.requires.1 c.loop-j.invariant.1 c.loop-j-test.true).0

pub second_at-z-requires : goal.second_at-z-requires
unfolding layout_of
second_at-z-requires c =
    (settling_there _ _ _ _ _ _ _ _ c.loop-j.invariant.0 c.requires.0 c.requires.1 c.loop-j.invariant.1 c.loop-j-test.true).0

pub operand_at-k-requires : goal.operand_at-k-requires
unfolding layout_of
operand_at-k-requires c =
    let s = c.requires.0 in
    let k = settling_there _ _ _ _ _ _ _ _ c.loop-j.invariant.0 s c.requires.1 c.loop-j.invariant.1 c.loop-j-test.true in (
      k.0,
      shape_constant _ _ c.shape_of.ensures ∙ ap (λ z. (kind_shape z).constant) c.kind_at-kind.ensures,
      divisor_low (s.valid.each _ (omega (arith, k.1, s.count))),
    )

pub after_linear-requires : goal.after_linear-requires
unfolding layout_of
after_linear-requires c =
    let s = c.requires.0 in
    let k = settling_there _ _ _ _ _ _ _ _ c.loop-j.invariant.0 s c.requires.1 c.loop-j.invariant.1 c.loop-j-test.true in
    let g = gate_from c.kind_at-kind.ensures c.first_at-x.ensures c.second_at-z.ensures c.operand_at-k.ensures in
    let a = settling_asks _ _ _ _ _ _ _ _ c.loop-j.invariant.0 laws s k.1 g in
    (s.key_low, a.0, k.1, ap (λ z. is_class Local (kind_shape z).class) c.kind_at-kind.ensures ∙ k.2, a.1)

pub loop-j-preserved : goal.loop-j-preserved
unfolding layout_of
loop-j-preserved c =
    let s = c.requires.0 in
    let k = settling_there _ _ _ _ _ _ _ _ c.loop-j.invariant.0 s c.requires.1 c.loop-j.invariant.1 c.loop-j-test.true in
    let g = gate_from c.kind_at-kind.ensures c.first_at-x.ensures c.second_at-z.ensures c.operand_at-k.ensures in (
      settling_again _ _ _ _ _ _ _ _ c.loop-j.invariant.0 laws s.room k.1 k.2 (c.after_linear.ensures ∙ put_operated ops _ _ _ _ _ _ g),
      reaching_again _ _ _ _ c.loop-j.invariant.1 k.1 k.2,
    )

pub returns : goal.returns
unfolding layout_of
returns c =
    settling_end _ _ _ _ _ _ _ _ c.loop-j.invariant.0 c.loop-j.invariant.1 (omega (arith, c.requires.1, c.loop-j-test.false))
