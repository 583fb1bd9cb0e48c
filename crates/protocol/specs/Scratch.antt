-- A party's scratch: one list of numbers, behind named slots.
-- Assumes nothing.
use Rattle.std.specs.Prelude.{ℕ, ◌+◌, ◌*◌, List, get_or, set, take, drop}
use Rattle.std.proofs.lemmas.List.Edits.{sets}
use Rattle.circuit.specs.Gate.{gates}
use Rattle.circuit.specs.Count.{capacity}
use Rattle.circuit.specs.Round.{commit_words, nonce_words}
use Rattle.protocol.specs.Part.{Part}

-- the share and the MAC share of a gate; an opened value and the party's MAC share of it
pub data Slot : Type 0 where
  Share Mac : ℕ → Slot
  Value ValueMac : ℕ → Slot

-- how many gates there are, and how many opened entries there is room for
pub record Layout : Type 0 where
  pub gates : ℕ
  pub capacity : ℕ

unfoldable pub layout : List ℕ → Layout
layout c = record { gates = gates c; capacity = capacity c }

-- "Scratch is one list, L being the number of lines: L shares, L MAC shares, 2M + 1 opened values, 2M + 1 MAC shares of those." These are the
-- slots
unfoldable pub offset : Layout → Slot → ℕ
offset y (Share j) = j
offset y (Mac j) = y.gates + j
offset y (Value t) = y.gates + y.gates + t
offset y (ValueMac t) = y.gates + y.gates + y.capacity + t

unfoldable pub slots_size : Layout → ℕ
slots_size y = y.gates + y.gates + y.capacity + y.capacity

unfoldable pub read : Layout → List ℕ → Slot → ℕ
read y l s = get_or l (offset y s) 0

unfoldable pub write : Layout → List ℕ → Slot → ℕ → List ℕ
write y l s x = set l (offset y s) x

-- the party's part of value j
unfoldable pub wire : Layout → List ℕ → ℕ → Part
wire y l j = record { share = read y l (Share j); mac = read y l (Mac j) }

unfoldable pub put_wire : Layout → List ℕ → ℕ → Part → List ℕ
put_wire y l j x = write y (write y l (Share j) x.share) (Mac j) x.mac

-- opened entry t: the value v, and the party's MAC share of it
unfoldable pub put_opened : Layout → List ℕ → ℕ → ℕ → ℕ → List ℕ
put_opened y l t v m = write y (write y l (Value t) v) (ValueMac t) m

-- party i's part of a list in which each party has k numbers
unfoldable pub band : ℕ → List ℕ → ℕ → List ℕ
band k xs i = take k (drop (i * k) xs)

-- ws written at k in xs, where there is room
unfoldable pub written_at : ℕ → List ℕ → List ℕ → List ℕ
written_at k ws xs = sets xs k ws

-- "The scratch's end gains eight numbers for the seat's nonce, written at speaking, then eight for each seat's mark, written at hearing": where
-- the nonce and the marks stand
unfoldable pub nonce_at : Layout → ℕ
nonce_at y = slots_size y

unfoldable pub marks_at : Layout → ℕ
marks_at y = nonce_at y + nonce_words

-- how long the scratch of one of n parties is
unfoldable pub scratch_size : ℕ → List ℕ → ℕ
scratch_size n c = marks_at (layout c) + n * commit_words

-- the nonce's words, and the marks of n parties
unfoldable pub nonce_of : Layout → List ℕ → List ℕ
nonce_of y l = take nonce_words (drop (nonce_at y) l)

unfoldable pub marks_of : ℕ → Layout → List ℕ → List ℕ
marks_of n y l = take (n * commit_words) (drop (marks_at y) l)

unfoldable pub put_nonce : Layout → List ℕ → List ℕ → List ℕ
put_nonce y l ws = written_at (nonce_at y) ws l

unfoldable pub put_marks : Layout → List ℕ → List ℕ → List ℕ
put_marks y l ws = written_at (marks_at y) ws l
