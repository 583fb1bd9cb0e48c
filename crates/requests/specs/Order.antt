-- What comes next in a request, as the table of docs/REPLAY.md has it, and what a request holds then.
-- Assumes nothing.
use Rattle.std.specs.Prelude.{ℕ, ◌+◌, Bool, true, false, List, [], ◌∷◌, get_or, set, drop, Option, Some, None, Result, Ok, Err}
use Rattle.std.specs.List.{find}
use Rattle.circuit.specs.declared.Round.TheVariants.{Own}
use Rattle.protocol.specs.declared.Stage.{Stage}
use Rattle.protocol.specs.declared.Stage.TheVariants.{Send}
use Rattle.requests.specs.declared.request.Request.{Request}
use Rattle.requests.specs.declared.request.Wanted.{Wanted}
use Rattle.requests.specs.declared.request.Wanted.TheVariants as W
use Rattle.requests.specs.declared.naming.Entry.{Entry}
use Rattle.requests.specs.declared.naming.Field.{Field}
use Rattle.party.specs.declared.Position as At
use Rattle.requests.specs.Names.{fields, place, field_name, has}

-- whether a field is wanted
abbrev pub awaits : Wanted → Bool
awaits (W.Field field) = true
awaits W.Complete = false
awaits W.Outside = false
awaits W.Lost = false

-- the name of the field that is wanted; it is empty where none is
abbrev pub wanted_name : Option Entry → Wanted → List ℕ
wanted_name entry (W.Field field) = field_name entry field
wanted_name entry W.Complete = []
wanted_name entry W.Outside = []
wanted_name entry W.Lost = []

-- the first field that an entry is lent, and the first after another; a request is complete where there is none
abbrev pub first : Option Field → Wanted
first None = W.Complete
first (Some field) = W.Field field

unfoldable pub following : Option Entry → Field → Wanted
following entry field = first (find (has entry) (drop (place field + 1) fields))

-- a request of which only the entry is known
abbrev pub started : Option Entry → Wanted → Request
started entry wanted =
    record {
      entry = entry;
      wanted = wanted;
      at = record { gate = 0; stage = Send Own; held = 0 };
      read = 0 ∷ 0 ∷ 0 ∷ 0 ∷ 0 ∷ 0 ∷ 0 ∷ 0 ∷ 0 ∷ 0 ∷ 0 ∷ [];
    }

-- the number that is read of a field
abbrev pub number_of : Request → Field → ℕ
number_of q field = get_or q.read (place field) 0

abbrev pub wanting : Request → Wanted → Request
wanting q wanted = record { entry = q.entry; wanted = wanted; at = q.at; read = q.read }

-- what comes after what was wanted; after no field a request is complete
abbrev pub next : Option Entry → Wanted → Wanted
next entry (W.Field field) = following entry field
next entry W.Complete = W.Complete
next entry W.Outside = W.Complete
next entry W.Lost = W.Complete

abbrev pub moved_on : Request → Request
moved_on q = wanting q (next q.entry q.wanted)

-- "The request is dropped": nothing is wanted until the next begins.
abbrev pub dropped : Request → Request
dropped q = wanting q W.Lost

-- the numbers that are read, with that of what was wanted
abbrev pub with_read : Wanted → List ℕ → ℕ → List ℕ
with_read (W.Field field) read n = set read (place field) n
with_read W.Complete read n = read
with_read W.Outside read n = read
with_read W.Lost read n = read

-- a request with the number that was wanted, or the length of the list that was
abbrev pub with_number : Request → ℕ → Request
with_number q n = record { entry = q.entry; wanted = q.wanted; at = q.at; read = with_read q.wanted q.read n }

-- a request at a position
abbrev pub standing : Request → At.Position → Request
standing q at = record { entry = q.entry; wanted = q.wanted; at = at; read = q.read }

-- a position of a gate, a stage and a check share, where each is read
abbrev pub placed : {E : Type 0} → Result ℕ E → Option Stage → Result ℕ E → Option At.Position
placed (Err a) stage held = None
placed (Ok gate) None held = None
placed (Ok gate) (Some stage) (Err b) = None
placed (Ok gate) (Some stage) (Ok held) = Some (record { gate = gate; stage = stage; held = held })
