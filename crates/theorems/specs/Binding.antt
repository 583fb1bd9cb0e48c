-- What a mark binds to. A reveal that does not hash to the mark heard for its party stops the run and names the party, whatever is heard; a party
-- that keeps to its calls reveals what it committed to; and one that reveals other words, and is not named, has two messages with one hash. Nothing
-- is assumed of the hash.
-- Assumes nothing.
use Rattle.std.specs.Prelude.{ℕ, ◌^◌, ◌<◌, ◌≤◌, ◌≡◌, ◌≢◌, ◌↔◌, ◌⊎◌, cond, List, [], ◌++◌, length, get_or, take}
use Rattle.algebra.specs.Ops.{Ops}
use Rattle.sha256.specs.Sha256.{bytes_of, words_of, sha256}
use Rattle.sha256.specs.Digest.{bytes}
use Rattle.circuit.specs.Verdict.{Accepted}
use Rattle.circuit.specs.Gate.{gate}
use Rattle.circuit.specs.Kind.{seen_by, alone}
use Rattle.circuit.specs.Round.{Check, First, Second, Round, Commit, Reveal, commit_words, nonce_size, reveal_words}
use Rattle.protocol.specs.Scratch.{layout, band, marks_of}
use Rattle.protocol.specs.Position.{Position, Send, Receive, Aborted, holding, follow}
use Rattle.protocol.specs.Party.{Party}
use Rattle.protocol.specs.Send.{revealed, mark, holds}
use Rattle.protocol.specs.Receive.{Nobody, Blames, heard_sum, scored}
use Rattle.protocol.specs.Ask.{ask_send, ask_receive}
use Rattle.protocol.specs.Entry.{Answer, Next, Output, Abort, send_answer, send_out, send_scratch, receive_answer, receive_scratch}

-- a party about to send round r of gate j, about to receive it, and stopped there
abbrev pub sending_at : ℕ → Round → ℕ → Position
sending_at j r held = record { gate = j; stage = Send r; held = held }

abbrev pub receiving_at : ℕ → Round → ℕ → Position
receiving_at j r held = record { gate = j; stage = Receive r; held = held }

abbrev pub stopped_at : ℕ → Position
stopped_at j = record { gate = j; stage = Aborted; held = 0 }

-- n parties, their marks and what is heard of their reveal
module _ (O : Ops) (n : ℕ) (marks heard : List ℕ) where
  -- what party i reveals hashes to its mark
  abbrev pub Fits : ℕ → Type 0
  Fits i = mark (band reveal_words heard i) ≡ band commit_words marks i

  -- "the lowest such seat"
  pub record Lowest (i : ℕ) : Type 0 where
    pub within : i < n
    pub misfits : Fits i → ⊥
    pub earlier : (k : ℕ) → k < i → Fits k

  abbrev pub AllFit : Type 0
  AllFit = (i : ℕ) → i < n → Fits i

  -- the sum of the check shares that are revealed
  abbrev pub check_sum : ℕ
  check_sum = heard_sum O n reveal_words 0 heard

  -- "A reveal whose hash is not the mark written for its seat stops the run before the sum is asked, naming the lowest such seat beside the line;
  -- else the sum alone decides": what is answered, where on is the answer of a check that passes
  pub record Decides (stopped : Position) (on a : Answer) : Type 0 where
    pub named : (i : ℕ) → (a ≡ Abort (Blames i) stopped) ↔ Lowest i
    pub unnamed : (a ≡ Abort Nobody stopped) ↔ (AllFit × (check_sum ≡ 0 → ⊥))
    pub passed : (a ≡ on) ↔ (AllFit × (check_sum ≡ 0))

-- the answer of a check of gate j that passes: the second releases the score, where this party sees it
abbrev pub goes_on : Ops → Party → List ℕ → ℕ → Check → Answer
goes_on O P l j First = Next (holding (follow P.circuit j (Reveal First)) 0)
goes_on O P l j Second =
    cond (seen_by (alone P.me) (gate P.circuit j))
    (Output (scored O P l j) (holding (follow P.circuit j (Reveal Second)) 0))
    (Next (holding (follow P.circuit j (Reveal Second)) 0))

-- a party that hears a reveal: whatever its scratch l holds, and whatever words it hears that no question refuses, it is answered by the marks in
-- its scratch
abbrev pub RevealDecides : Ops → Type 0
RevealDecides O =
    (P : Party) (l : List ℕ) (j held : ℕ) (k : Check) (heard : List ℕ)
    → ask_receive O.size P l (receiving_at j (Reveal k) held) heard ≡ Accepted
    → Decides O P.parties (marks_of P.parties (layout P.circuit) l) heard (stopped_at j) (goes_on O P l j k)
    (receive_answer O P l (receiving_at j (Reveal k) held) heard)

-- three calls of party P, whatever it hears between them: it sends a commitment, hears the words ms of all, and sends its reveal
module _ (O : Ops) (P : Party) (l : List ℕ) (j : ℕ) (k : Check) (coefficients nonce out ms out' : List ℕ) where
  open O use {size}

  -- the check share that it holds then, and its scratch once it sent the commitment and once it heard the marks
  abbrev pub own_share : ℕ
  own_share = holds O P l j (Commit k) coefficients

  abbrev pub noting : List ℕ
  noting = send_scratch O P l (sending_at j (Commit k) 0) coefficients nonce (length out)

  abbrev pub hearing : List ℕ
  hearing = receive_scratch O P noting (receiving_at j (Commit k) own_share) ms

  -- no call is refused
  pub record Speaks : Type 0 where
    pub commits : ask_send size P l (sending_at j (Commit k) 0) coefficients nonce (length out) ≡ Accepted
    pub hears : ask_receive size P noting (receiving_at j (Commit k) own_share) ms ≡ Accepted
    pub reveals : ask_send size P hearing (sending_at j (Reveal k) own_share) [] [] (length out') ≡ Accepted

  -- it reveals what it committed to, so that its reveal fits its mark where both are heard as it sent them
  pub record KeepsTo : Type 0 where
    pub committed : take commit_words (send_out O P l (sending_at j (Commit k) 0) coefficients nonce out) ≡ mark (revealed own_share (words_of nonce))
    pub shown : take reveal_words (send_out O P hearing (sending_at j (Reveal k) own_share) [] [] out') ≡ revealed own_share (words_of nonce)

abbrev pub Keeping : Ops → Type 0
Keeping O =
    (P : Party) (l : List ℕ) (j : ℕ) (k : Check) (coefficients nonce out ms out' : List ℕ)
    → Speaks O P l j k coefficients nonce out ms out'
    → KeepsTo O P l j k coefficients nonce out ms out'

-- two different messages of 36 bytes with one hash
pub record Collides (m m' : List ℕ) : Type 0 where
  pub long : length m ≡ 36
  pub long' : length m' ≡ 36
  pub low : (t : ℕ) → get_or m t 0 < 2 ^ 8
  pub low' : (t : ℕ) → get_or m' t 0 < 2 ^ 8
  pub differ : m ≢ m'
  pub same_hash : sha256 m ≡ sha256 m'

-- the marks ms and the words ws of a reveal, as they are heard of n parties
module _ (n : ℕ) (ms ws : List ℕ) where
  -- party i committed to a check share and a nonce, and its mark is heard so; but its reveal is heard as other words
  pub record Changes (i share : ℕ) (nonce : List ℕ) : Type 0 where
    pub within : i < n
    pub share_low : share < 2 ^ 32
    pub nonce_long : length nonce ≡ nonce_size
    pub nonce_low : (t : ℕ) → get_or nonce t 0 < 2 ^ 8
    pub committed : band commit_words ms i ≡ mark (revealed share (words_of nonce))
    pub heard_low : (t : ℕ) → get_or ws t 0 < 2 ^ 32
    pub other : band reveal_words ws i ≢ revealed share (words_of nonce)

  -- the answer a names it, or a party before it, or the bytes that it committed to and those that are heard of it collide
  abbrev pub FoundOut : Position → Answer → ℕ → ℕ → List ℕ → Type 0
  FoundOut stopped a i share nonce =
      ((h : ℕ) × (h ≤ i) × (a ≡ Abort (Blames h) stopped)) ⊎ Collides (bytes_of 4 share ++ nonce) (bytes (band reveal_words ws i))

-- three calls of party P, which holds a check share at a commitment of gate j: it hears the words ms of the commitment, sends its reveal, and hears
-- the words ws of the reveal. They may be altered on the way
module _ (O : Ops) (P : Party) (l : List ℕ) (j held : ℕ) (k : Check) (room : ℕ) (ms ws : List ℕ) where
  open O use {size}

  -- its scratch once it heard the commitment, and once it sent its reveal
  abbrev pub marked : List ℕ
  marked = receive_scratch O P l (receiving_at j (Commit k) held) ms

  abbrev pub revealing : List ℕ
  revealing = send_scratch O P marked (sending_at j (Reveal k) held) [] [] room

  -- what it is answered at last
  abbrev pub last_answer : Answer
  last_answer = receive_answer O P revealing (receiving_at j (Reveal k) 0) ws

  -- no call is refused
  pub record Unrefused : Type 0 where
    pub hears : ask_receive size P l (receiving_at j (Commit k) held) ms ≡ Accepted
    pub sends : ask_send size P marked (sending_at j (Reveal k) held) [] [] room ≡ Accepted
    pub hears_reveal : ask_receive size P revealing (receiving_at j (Reveal k) 0) ws ≡ Accepted

  -- whatever the words are, the marks that decide are those that it heard
  pub record Altered : Type 0 where
    pub heard_commit : receive_answer O P l (receiving_at j (Commit k) held) ms ≡ Next (sending_at j (Reveal k) held)
    pub sent_reveal : send_answer O P marked (sending_at j (Reveal k) held) [] [] room ≡ Next (receiving_at j (Reveal k) 0)
    pub heard_reveal : Decides O P.parties ms ws (stopped_at j) (goes_on O P l j k) last_answer

abbrev pub Alterable : Ops → Type 0
Alterable O =
    (P : Party) (l : List ℕ) (j held : ℕ) (k : Check) (room : ℕ) (ms ws : List ℕ)
    → Unrefused O P l j held k room ms ws
    → Altered O P l j held k room ms ws

-- "The last dock to speak can cancel the other check words": not once the marks are heard
abbrev pub Binding : Ops → Type 0
Binding O =
    (P : Party) (l : List ℕ) (j held : ℕ) (k : Check) (room : ℕ) (ms ws : List ℕ)
    → Unrefused O P l j held k room ms ws
    → (i share : ℕ) (nonce : List ℕ)
    → Changes P.parties ms ws i share nonce
    → FoundOut P.parties ms ws (stopped_at j) (last_answer O P l j held k room ms ws) i share nonce
