-- What a line of a request comes to, as docs/REPLAY.md has it. What is printed of a fault is not said here.
-- Assumes nothing.
use Rattle.std.specs.Prelude.{ℕ, Bool, cond, ◌||◌, List, [], ◌∷◌, get_or, drop, eqb, ltb, Option, Some, None, Result, Ok, Err}
use Rattle.text.specs.Text as X
use Rattle.text.specs.Text.{alike, numbers_in}
use Rattle.text.specs.declared.Fault.{Fault}
use Rattle.text.specs.declared.Fault.TheVariants.{Unlike, TooLarge, TooMany}
use Rattle.party.specs.declared.Position as At
use Rattle.requests.specs.declared.naming.Entry.{Entry}
use Rattle.requests.specs.declared.naming.Field.TheVariants as F
use Rattle.requests.specs.declared.reading.Step.{Step}
use Rattle.requests.specs.declared.request.Request.{Request}
use Rattle.requests.specs.declared.request.Wanted.{Wanted}
use Rattle.requests.specs.declared.request.Wanted.TheVariants as W
use Rattle.requests.specs.Words.{start_from, end_from, word_from, ends, nth}
use Rattle.requests.specs.Names.{entry_named, stage_named}
use Rattle.requests.specs.Order.{wanted_name, started, moved_on, dropped, with_number, standing, placed}

-- "`parties` and `party` are followed by one number."
unfoldable pub one_of : X.Ending → List ℕ → Result ℕ Fault
one_of X.Whole [] = Err TooMany
one_of X.Whole (n ∷ []) = Ok n
one_of X.Whole (n ∷ m ∷ ns) = Err TooMany
one_of X.Unlike ns = Err Unlike
one_of X.TooLarge ns = Err TooLarge
one_of X.TooMany ns = Err TooMany

-- the number that is all of a text; TooMany where there is not just one
unfoldable pub one_in : List ℕ → Result ℕ Fault
one_in text = one_of (numbers_in 1 text).ending (numbers_in 1 text).numbers

-- "`position` is followed by a gate's number, a stage and the check share held": three words, and no fourth
unfoldable pub position_in : List ℕ → Option At.Position
position_in text =
    cond (ltb (start_from text (ends 3 text)) (end_from text (ends 3 text))) None
    (placed (one_in (nth 0 text)) (stage_named (nth 1 text)) (one_in (nth 2 text)))

-- a request for which a number was wanted, and one for which a position was
abbrev pub with_one : Result ℕ Fault → Request → Request
with_one (Ok n) q = moved_on (with_number q n)
with_one (Err f) q = dropped q

abbrev pub take_number : List ℕ → Request → Request
take_number rest q = with_one (one_in rest) q

abbrev pub with_place : Option At.Position → Request → Request
with_place (Some at) q = moved_on (standing q at)
with_place None q = dropped q

abbrev pub take_position : List ℕ → Request → Request
take_position rest q = with_place (position_in rest) q

-- what a line leads to: the request goes on; or the list that it wants is read later, from a place of the line on
abbrev pub goes : Request → Step
goes q = record { request = q; list = None }

abbrev pub lists : Request → ℕ → Step
lists q place = record { request = q; list = Some place }

-- what follows the name of what is wanted
abbrev pub take_wanted : Wanted → List ℕ → ℕ → Request → Step
take_wanted (W.Field F.Parties) rest place q = goes (take_number rest q)
take_wanted (W.Field F.Party) rest place q = goes (take_number rest q)
take_wanted (W.Field F.Position) rest place q = goes (take_position rest q)
take_wanted wanted rest place q = lists q place

-- "Reading goes on with the next line that begins with an entry's name": others are skipped in a dropped request, and "a line that begins with another word" drops it.
abbrev pub take_at : Wanted → List ℕ → List ℕ → ℕ → Request → Step
take_at W.Lost name rest place q = goes q
take_at wanted name rest place q =
    cond (alike name (wanted_name q.entry wanted)) (take_wanted wanted rest place q) (goes (dropped q))

abbrev pub take_field : List ℕ → List ℕ → ℕ → Request → Step
take_field name rest place q = take_at q.wanted name rest place q

-- "Nothing may follow the name of an entry": bare says that nothing does.
abbrev pub begin : Option Entry → Bool → Request → Request
begin entry bare q = cond bare (started entry (W.Field F.Parties)) (dropped q)

-- whether there is no word at or after a place
unfoldable pub empty : List ℕ → ℕ → Bool
empty line from = eqb (start_from line from) (end_from line from)

-- a line with a word, by the entry that its first word names
abbrev pub take_named : Option Entry → List ℕ → Request → Step
take_named (Some entry) line q = goes (begin (Some entry) (empty line (end_from line 0)) q)
take_named None line q = take_field (word_from line 0) (drop (end_from line 0) line) (end_from line 0) q

-- "A line with no word, or whose first byte is `#`, is skipped, within a request too."
unfoldable pub take_line : List ℕ → Request → Step
take_line line q =
    cond (empty line 0 || eqb (get_or line 0 0) 35) (goes q)
    (take_named (entry_named (word_from line 0)) line q)
