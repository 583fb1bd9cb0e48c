-- The fields of a request come in the order of docs/REPLAY.md's table.
-- Assumes nothing.
use Rattle.std.specs.Prelude.{ℕ, zero, suc, List, [], ◌∷◌, ◌++◌, Option}
use Prim.Native.String as T
use mathlib.Core.Path.{◌≡◌, refl}
use Rattle.text.specs.Text.{is_space, belongs}
use Rattle.requests.specs.declared.naming.Entry.{Entry}
use Rattle.requests.specs.declared.naming.Field.TheVariants as F
use Rattle.requests.specs.declared.request.Wanted.{Wanted}
use Rattle.requests.specs.declared.request.Wanted.TheVariants as W
use Rattle.requests.specs.Words.{start_from, end_from, word_from, ends, nth}
use Rattle.requests.specs.Names.{bytes, entry_name, entries, entry_named, row, fields, field_name, has}
use Rattle.requests.specs.Order.{wanted_name, following, next}

-- the names of an entry's fields from what is wanted on, at most so many, each before a space
unfoldable pub course : ℕ → Option Entry → Wanted → List ℕ
course zero entry wanted = []
course (suc n) entry W.Complete = []
course (suc n) entry wanted = wanted_name entry wanted ++ (32 ∷ course n entry (next entry wanted))

-- those of the entry of a name
unfoldable pub lent : T.String → List ℕ
lent name = course 11 (entry_named (bytes name)) (W.Field F.Parties)

pub record Table : Type 0 where
  pub opened : lent "open" ≡ bytes "parties party circuit prep inputs scratch "
  pub sent : lent "send" ≡ bytes "parties party circuit prep inputs scratch position coefficients nonce out "
  pub received : lent "receive" ≡ bytes "parties party circuit prep inputs scratch position heard "
  pub joined : lent "joint" ≡ bytes "parties circuit preps inputs scratch coefficients nonces transcript outputs "
  pub shown : lent "show" ≡ lent "joint"
  pub read : lent "read" ≡ bytes "parties text circuit "
  pub written : lent "write" ≡ bytes "parties circuit text "
  pub scored : lent "score" ≡ bytes "parties text preps inputs scratch coefficients nonces transcript outputs "

pub in_order : Table
unfolding is_space belongs start_from end_from word_from ends nth bytes entry_name entries entry_named row fields field_name has following course lent
in_order = record { opened = refl; sent = refl; received = refl; joined = refl; shown = refl; read = refl; written = refl; scored = refl }
