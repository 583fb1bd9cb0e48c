-- `steps::sending::weigh_on` meets its contract: each turn adds a term, and so few terms do not fill the room of the running sum.
-- Assumes nothing.
use Prim.Native.Nat.{◌+◌}
use mathlib.Core.List.{[], ◌∷◌, ◌++◌}
use mathlib.Core.Path.{◌≡◌}
use native.Mathlib.Omega.{arith}
use borrow.Author.Rules.{rules}
use lib.ListN.{length}
use Rattle.std.proofs.Common.{length-append}
use Rattle.std.proofs.lemmas.Slice.Zip.{zip_turn}
use Rattle.steps.proofs.Weighing.{weighed_none, weighed_more}
use Rattle.steps.proofs.sending.weigh_on.Goals as goal

pub loop-coefficient-init : goal.loop-coefficient-init
loop-coefficient-init c =
    record { below = omega arith; is = weighed_none _ _ _ }

pub loop-coefficient-preserved : goal.loop-coefficient-preserved
loop-coefficient-preserved c =
    let k = c.loop-coefficient in
    let turn = zip_turn c.args.coefficients.now c.args.values.now k.yielded c.into_iter-coefficient-iterator.result k.coefficient-iterator c.next.new.self c.next.result (search rules) (search rules) k.yielded_by _ c.in-Some.is c.next.ensures.steps in
    let n : length (k.yielded ++ (c.in-Some.coefficient, c.in-Some.value) ∷ []) ≡ length k.yielded + 1 = length-append k.yielded _ in
    rw n
    (record {
      below = omega (arith, c.add_product-acc.ensures.0, k.invariant.below);
      is = weighed_more _ (length k.yielded) _ _ _ _ (turn.2 0) (turn.3 0) k.invariant.is c.add_product-acc.ensures.1;
    })
