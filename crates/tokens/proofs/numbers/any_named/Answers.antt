-- `tokens::numbers::any_named` meets its contract: the library's `any` of the table is the machine's test.
-- Assumes nothing.
use Prim.Native.Nat.{◌%◌}
use mathlib.Core.Path.{◌∙◌}
use lib.Dec.{eqb}
use Rattle.std.proofs.Common.{rules, tests}
use Rattle.std.proofs.lemmas.Iterator.{YieldsList-from_slice}
use Rattle.std.proofs.lemmas.Iterator.Search.{any_from_yields_List}
use Rattle.tokens.proofs.Naming.{any_lem}
use Rattle.tokens.proofs.numbers.any_named.Goals as goal

pub returns : goal.returns
returns c =
    any_from_yields_List (λ entry. eqb (entry % 2) 1) _ _ _ c.any.ensures.ran (YieldsList-from_slice c.args.table.now cc) (λ x b q k. search (rules, tests))
    ∙ any_lem c.args.table.now
