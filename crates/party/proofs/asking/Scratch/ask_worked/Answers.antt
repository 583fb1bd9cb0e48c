-- `party::asking::Scratch::ask_worked` meets its contract: it asks the four sorts of slots in their order.
-- Assumes nothing.
use Prim.Native.Nat.{ℕ}
use mathlib.Core.Path.{ap, ◌∙◌}
use native.Mathlib.Omega.{arith}
use borrow.Author.Rules.{rules}
use Rattle.circuit.specs.Round.{opened_in}
use Rattle.circuit.specs.Code.{round_of}
use Rattle.protocol.specs.Scratch.{layout}
use Rattle.protocol.specs.Ask.{ask_worked}
use Rattle.party.specs.Code.{sort_of, wanted_of}
use Rattle.circuit.proofs.Verdicts.{asked}
use Rattle.party.proofs.asking.Scratch.ask_worked.Goals as goal

pub ask_slots-requires : goal.ask_slots-requires
unfolding sort_of layout
ask_slots-requires c =
    λ t h. omega (arith, c.requires.within)

pub ask_slots-requires-2 : goal.ask_slots-requires-2
unfolding sort_of layout
ask_slots-requires-2 c =
    λ t h. omega (arith, c.requires.within)

pub ask_slots-requires-3 : goal.ask_slots-requires-3
unfolding sort_of layout
ask_slots-requires-3 c =
    λ t h. omega (arith, c.requires.fits, (c.opened_in-opened.ensures ∙ ap (λ (u : ℕ). opened_in u (round_of c.args.r)) c.requires.waiting))

pub ask_slots-requires-4 : goal.ask_slots-requires-4
unfolding sort_of layout
ask_slots-requires-4 c =
    λ t h. omega (arith, c.requires.fits, (c.opened_in-opened.ensures ∙ ap (λ (u : ℕ). opened_in u (round_of c.args.r)) c.requires.waiting))

pub returns-in_err-ask_slots-3 : goal.returns-in_err-ask_slots-3
unfolding ask_worked wanted_of sort_of
returns-in_err-ask_slots-3 c =
    rw (← c.requires.waiting, ← c.opened_in-opened.ensures) (search (rules, asked))

pub returns : goal.returns
unfolding ask_worked wanted_of sort_of
returns c =
    rw (← c.requires.waiting, ← c.opened_in-opened.ensures) (search (rules, asked))
