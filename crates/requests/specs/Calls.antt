-- What the entry of a request is called on.
-- Assumes nothing.
use Rattle.std.specs.Prelude.{ℕ, List}
use Rattle.protocol.specs.Party.{Party}
use Rattle.requests.specs.declared.request.Request.{Request}
use Rattle.requests.specs.declared.naming.Field.TheVariants as F
use Rattle.requests.specs.Order.{number_of}

-- the party of a request, with the lists that it lends
abbrev pub party_in : Request → List ℕ → List ℕ → List ℕ → Party
party_in q c prep inputs = record { parties = number_of q F.Parties; me = number_of q F.Party; circuit = c; prep = prep; inputs = inputs }
