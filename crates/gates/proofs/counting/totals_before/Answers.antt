-- `gates::counting::totals_before` meets its contract: after each turn the totals are those of the gates before j, and so is what waits for a check.
-- Assumes nothing.
use mathlib.Core.Path.{refl, sym, ◌∙◌}
use native.Mathlib.Omega.{arith}
use Rattle.circuit.specs.Round.{over_run}
use Rattle.circuit.specs.Count.{total, count, prep_at, unchecked}
use Rattle.circuit.proofs.Counts.{unchecked_few, unchecked_more}
use Rattle.circuit.proofs.KindLaws.{shape_small}
use Rattle.gates.proofs.counting.totals_before.Goals as goal

pub loop-j-init : goal.loop-j-init
unfolding total count unchecked over_run prep_at
loop-j-init c =
    (refl, record { prep = refl; openings = refl; ins = refl; outs = refl; words = refl; coefficients = refl; checks = refl })

pub total_gate-t-requires : goal.total_gate-t-requires
total_gate-t-requires c =
    (c.shape_at-s.ensures, omega (arith, c.requires), c.loop-j.invariant.0, c.loop-j.invariant.1)

pub unchecked_after-waiting-requires : goal.unchecked_after-waiting-requires
unchecked_after-waiting-requires c =
    (omega (arith, c.loop-j.invariant.0, unchecked_few c.args.c.now c.loop-j.j), (shape_small _ _ c.shape_at-s.ensures).1)

pub loop-j-preserved : goal.loop-j-preserved
loop-j-preserved c =
    (c.unchecked_after-waiting.ensures ∙ rw (c.shape_at-s.ensures, c.loop-j.invariant.0) (sym (unchecked_more _ _)), c.total_gate-t.ensures)
