-- The names of entries, fields and stages, as docs/REPLAY.md has them, and which of them a word is.
-- Assumes nothing.
use Rattle.std.specs.Prelude.{ℕ, Bool, not, List, [], ◌∷◌, ◌++◌, Option, Some, None}
use Rattle.std.specs.List.{find}
use Prim.Native.Char.{code}
use Prim.Native.String as T
use Rattle.text.specs.Text.{alike}
use Rattle.circuit.specs.declared.Round.{Round}
use Rattle.circuit.specs.declared.Round.TheVariants.{Own, Open, Commit, Reveal}
use Rattle.circuit.specs.declared.Check.TheVariants.{First, Second}
use Rattle.protocol.specs.declared.Stage.{Stage}
use Rattle.protocol.specs.declared.Stage.TheVariants.{Send, Receive, Finished, Aborted}
use Rattle.requests.specs.declared.naming.Entry.{Entry}
use Rattle.requests.specs.declared.naming.Entry.TheVariants as E
use Rattle.requests.specs.declared.naming.Field.{Field}
use Rattle.requests.specs.declared.naming.Field.TheVariants as F
use Rattle.requests.specs.Words.{nth}

-- a text as its bytes in ASCII
unfoldable pub bytes : T.String → List ℕ
bytes T.[] = []
bytes (T.◌∷◌ c text) = code c ∷ bytes text

unfoldable pub entry_name : Entry → List ℕ
entry_name E.Open = bytes "open"
entry_name E.Send = bytes "send"
entry_name E.Receive = bytes "receive"
entry_name E.Joint = bytes "joint"
entry_name E.Show = bytes "show"
entry_name E.Read = bytes "read"
entry_name E.Write = bytes "write"
entry_name E.Score = bytes "score"

unfoldable pub entries : List Entry
entries = E.Open ∷ E.Send ∷ E.Receive ∷ E.Joint ∷ E.Show ∷ E.Read ∷ E.Write ∷ E.Score ∷ []

-- docs/REPLAY.md's table, a row for each entry: the names of what it is lent, in their order, and `-` for what it is not lent; that of an entry of another name is `joint`'s
unfoldable pub row : Option Entry → List ℕ
row (Some E.Open) = bytes "parties party circuit prep inputs scratch - - - - -"
row (Some E.Send) = bytes "parties party circuit prep inputs scratch position coefficients nonce out -"
row (Some E.Receive) = bytes "parties party circuit prep inputs scratch position heard - - -"
row (Some E.Joint) = bytes "parties - circuit preps inputs scratch - coefficients nonces transcript outputs"
row (Some E.Show) = bytes "parties - circuit preps inputs scratch - coefficients nonces transcript outputs"
row (Some E.Read) = bytes "parties - text - - - - - - circuit -"
row (Some E.Write) = bytes "parties - circuit - - - - - - text -"
row (Some E.Score) = bytes "parties - text preps inputs scratch - coefficients nonces transcript outputs"
row None = bytes "parties - circuit preps inputs scratch - coefficients nonces transcript outputs"

-- all fields, in the order of their names in a row, and the place of each
unfoldable pub fields : List Field
fields = F.Parties ∷ F.Party ∷ F.Circuit ∷ F.Prep ∷ F.Inputs ∷ F.Scratch ∷ F.Position ∷ F.Words ∷ F.Nonces ∷ F.Out ∷ F.Outputs ∷ []

abbrev pub place : Field → ℕ
place F.Parties = 0
place F.Party = 1
place F.Circuit = 2
place F.Prep = 3
place F.Inputs = 4
place F.Scratch = 5
place F.Position = 6
place F.Words = 7
place F.Nonces = 8
place F.Out = 9
place F.Outputs = 10

unfoldable pub field_name : Option Entry → Field → List ℕ
field_name entry field = nth (place field) (row entry)

-- whether an entry is lent a field
unfoldable pub has : Option Entry → Field → Bool
has entry field = not (alike (bytes "-") (field_name entry field))

unfoldable pub round_name : Round → List ℕ
round_name Own = bytes "own"
round_name Open = bytes "show"
round_name (Commit First) = bytes "seal"
round_name (Reveal First) = bytes "reveal"
round_name (Commit Second) = bytes "output-seal"
round_name (Reveal Second) = bytes "output-reveal"

unfoldable pub stage_name : Stage → List ℕ
stage_name (Send r) = bytes "send-" ++ round_name r
stage_name (Receive r) = bytes "receive-" ++ round_name r
stage_name Finished = bytes "finished"
stage_name Aborted = bytes "aborted"

-- all stages, in the order in which their names are tried
unfoldable pub stages : List Stage
stages =
    Send Own ∷ Receive Own ∷ Send Open ∷ Receive Open ∷
    Send (Commit First) ∷ Receive (Commit First) ∷ Send (Reveal First) ∷ Receive (Reveal First) ∷
    Send (Commit Second) ∷ Receive (Commit Second) ∷ Send (Reveal Second) ∷ Receive (Reveal Second) ∷
    Finished ∷ Aborted ∷ []

-- the stage, and the entry, whose name a word is
unfoldable pub stage_named : List ℕ → Option Stage
stage_named word = find (λ stage. alike word (stage_name stage)) stages

unfoldable pub entry_named : List ℕ → Option Entry
entry_named word = find (λ entry. alike word (entry_name entry)) entries
