-- `requests::request::following` meets its contract: the first that the entry has is found.
-- Assumes nothing.
use Rattle.std.proofs.Common.{◌+◌, ◌≡◌, ◌∙◌, drop, rules, tests}
use Rattle.std.proofs.lemmas.Iterator.{YieldsList-from_slice}
use Rattle.std.proofs.lemmas.Iterator.Search.{find_from_yields_List}
use Rattle.std.proofs.lemmas.List.{take_rest}
use Rattle.std.specs.Slice.Iter.{iter_rest}
use Rattle.requests.specs.Names.{fields, place, has}
use Rattle.requests.specs.Order.{following}
use Rattle.requests.proofs.request.following.Goals as goal

pub returns-in-Some : goal.returns-in-Some
unfolding fields following
returns-in-Some c =
    let after = drop (place c.args.field + 1) fields in
    let rest : iter_rest c.iter.result ≡ after = c.iter.ensures.rest ∙ rw c.place-after.ensures.same (take_rest fields (place c.args.field + 1)) in
    let found = find_from_yields_List (has c.args.entry) _ _ c.find.result c.find.ensures.ran (YieldsList-from_slice after rest) (λ x b q k. search (rules, tests)) in
    rw (← found, c.in-Some.is)

pub returns-in-None : goal.returns-in-None
unfolding fields following
returns-in-None c =
    let after = drop (place c.args.field + 1) fields in
    let rest : iter_rest c.iter.result ≡ after = c.iter.ensures.rest ∙ rw c.place-after.ensures.same (take_rest fields (place c.args.field + 1)) in
    let found = find_from_yields_List (has c.args.entry) _ _ c.find.result c.find.ensures.ran (YieldsList-from_slice after rest) (λ x b q k. search (rules, tests)) in
    rw (← found, c.in-None.is)
