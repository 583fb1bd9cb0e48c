-- `requests::naming::entry_named` meets its contract: the first whose name is the word is found.
-- Assumes nothing.
use Rattle.std.proofs.Common.{◌∙◌, rules, tests}
use Rattle.std.proofs.lemmas.Iterator.{YieldsList-from_slice}
use Rattle.std.proofs.lemmas.Iterator.Search.{find_from_yields_List}
use Rattle.text.specs.Text.{alike}
use Rattle.requests.specs.Names.{entry_name, entries, entry_named}
use Rattle.requests.proofs.naming.entry_named.Goals as goal

pub returns : goal.returns
unfolding entries entry_named
returns c =
    c.copied.ensures ∙ find_from_yields_List (λ x. alike c.args.word.now (entry_name x)) _ _ c.find.result c.find.ensures.ran (YieldsList-from_slice entries c.iter.ensures.rest) (λ x b q k. search (rules, tests))
