-- `joint::receiving::settle` meets its contract. The loop's invariant: what is left to do of each party's band from gate j on is what was left from the first gate on. The measure is the number of gates left.
-- Assumes nothing.
use Prim.Native.Nat.{ℕ}
use mathlib.Core.Path.{◌≡◌, sym, ap, ◌∙◌}
use mathlib.Core.Bool.{Bool}
use mathlib.Core.List.{List}
use Rattle.circuit.specs.Gate.{Kind, gate}
use Rattle.circuit.specs.Kind.{Local, kind_shape, is_class, is_linear}
use Rattle.circuit.specs.declared.Kind as code
use Rattle.circuit.specs.declared.Shape.{Shape}
use Rattle.circuit.specs.Code.{kind_of, class_of, shape_of}
use Rattle.circuit.proofs.KindLaws.{shape_class, shape_constant}
use Rattle.circuit.proofs.Gates.{gate_from}
use Rattle.joint.proofs.ReceiveTurns.{all_start, all_there, all_low, all_stop, all_reads, all_again, all_last, all_done, all_settled}
use Rattle.joint.proofs.receiving.settle.Goals as goal

-- whether the gate is linear, by the class of its kind's shape
linear : (c : List ℕ) (j : ℕ) (kind : code.Kind) (g : Shape) {b v : Bool} → kind_of kind ≡ (gate c j).kind → shape_of g ≡ kind_shape (kind_of kind) → b ≡ is_class Local (class_of g.class) → b ≡ v → is_linear (gate c j) ≡ v
linear c j kind g ek eg eb e =
    sym (eb ∙ ap (is_class Local) (shape_class _ _ eg) ∙ ap (λ (z : Kind). is_class Local (kind_shape z).class) ek) ∙ e

pub loop-j-init : goal.loop-j-init
loop-j-init c =
    all_start _ _ _ _ _ c.requires.1 c.requires.2 c.requires.3

pub kind_at-kind-requires : goal.kind_at-kind-requires
kind_at-kind-requires c =
    all_there _ _ _ _ _ c.requires.1 c.requires.2 c.requires.3 c.loop-j.invariant c.loop-j-test.true

pub returns-then-not-is_linear : goal.returns-then-not-is_linear
returns-then-not-is_linear c =
    let e = all_stop _ _ _ _ _ c.requires.1 c.requires.2 c.requires.3 c.loop-j.invariant c.loop-j-test.true (linear _ _ _ _ c.kind_at-kind.ensures c.shape_of-g.ensures c.is_linear.ensures c.if-not-is_linear.true) in (e, all_settled _ _ _ _ _ c.requires.1 c.requires.2 c.requires.3 c.loop-j.invariant e)

pub first_at-x-requires : goal.first_at-x-requires
first_at-x-requires c =
    all_there _ _ _ _ _ c.requires.1 c.requires.2 c.requires.3 c.loop-j.invariant c.loop-j-test.true

pub second_at-z-requires : goal.second_at-z-requires
second_at-z-requires c =
    all_there _ _ _ _ _ c.requires.1 c.requires.2 c.requires.3 c.loop-j.invariant c.loop-j-test.true

pub operand_at-k-requires : goal.operand_at-k-requires
operand_at-k-requires c =
    (all_there _ _ _ _ _ c.requires.1 c.requires.2 c.requires.3 c.loop-j.invariant c.loop-j-test.true, shape_constant _ _ c.shape_of-g.ensures ∙ ap (λ (z : Kind). (kind_shape z).constant) c.kind_at-kind.ensures, all_low _ _ _ _ _ c.requires.1 c.requires.2 c.requires.3 c.loop-j.invariant c.loop-j-test.true)

pub settle_gate-requires : goal.settle_gate-requires
settle_gate-requires c =
    (c.requires.0, c.loop-j.invariant.banded, c.loop-j-test.true, ap (λ (z : Kind). is_class Local (kind_shape z).class) c.kind_at-kind.ensures ∙ (linear _ _ _ _ c.kind_at-kind.ensures c.shape_of-g.ensures c.is_linear.ensures c.if-not-is_linear.false), all_reads _ _ _ _ _ c.requires.1 c.requires.2 c.requires.3 c.loop-j.invariant c.loop-j-test.true (linear _ _ _ _ c.kind_at-kind.ensures c.shape_of-g.ensures c.is_linear.ensures c.if-not-is_linear.false) (gate_from c.kind_at-kind.ensures c.first_at-x.ensures c.second_at-z.ensures c.operand_at-k.ensures))

pub loop-j-preserved : goal.loop-j-preserved
loop-j-preserved c =
    all_again _ _ _ _ _ c.requires.1 c.requires.2 c.requires.3 c.loop-j.invariant c.loop-j-test.true (linear _ _ _ _ c.kind_at-kind.ensures c.shape_of-g.ensures c.is_linear.ensures c.if-not-is_linear.false) (gate_from c.kind_at-kind.ensures c.first_at-x.ensures c.second_at-z.ensures c.operand_at-k.ensures) c.settle_gate.ensures

pub returns : goal.returns
returns c =
    let last = all_last _ _ _ _ _ c.requires.1 c.requires.2 c.requires.3 c.loop-j.invariant c.loop-j-test.false in
    let e = all_done _ _ _ _ _ c.requires.1 c.requires.2 c.requires.3 c.loop-j.invariant c.loop-j-test.false in (last ∙ e, all_settled _ _ _ _ _ c.requires.1 c.requires.2 c.requires.3 c.loop-j.invariant e)
