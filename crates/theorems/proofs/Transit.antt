-- Parties apart whose words may be altered in transit: a check is three rounds of calls of one party, and what is proved of these holds there.
-- Assumes nothing.
use Prim.Native.Nat.{ℕ, zero, suc}
use mathlib.Core.Path.{◌≡◌, refl, sym, ap, ap₂, subst, ◌∙◌}
use mathlib.Core.List.{List, [], ◌∷◌, ◌++◌, append_assoc}
use native.Mathlib.Omega.{arith}
use lib.ListN.{length}
use borrow.Author.Tests.{eqb-true}
use Rattle.algebra.specs.Ops.{Ops}
use Rattle.algebra.specs.Field.{Field}
use Rattle.field.specs.Words.{ops}
use Rattle.field.proofs.Laws.{laws}
use Rattle.sha256.specs.Sha256.{words_of}
use Rattle.sha256.proofs.Bytes.{length_words}
use Rattle.circuit.specs.Verdict.{Verdict, Accepted, Refused}
use Rattle.circuit.specs.Round.{Check, Round, Commit, Reveal, nonce_words, coefficients_in, nonce_in}
use Rattle.circuit.proofs.Verdicts.{ask_true, then_left, then_right}
use Rattle.protocol.specs.Scratch.{layout, read, Value}
use Rattle.protocol.specs.Position.{Stage, Send, Receive, Finished, Aborted, when_sending, when_receiving}
use Rattle.protocol.specs.Party.{Party}
use Rattle.protocol.specs.Send.{holds, noted}
use Rattle.protocol.specs.Ask.{ask_lent, ask_send_round, ask_send, ask_receive}
use Rattle.protocol.specs.Entry.{Answer, Refusal, Next, Output, Abort, answer, send_answer, send_scratch, receive_answer, receive_scratch}
use Rattle.protocol.proofs.Accepted.{lends}
use Rattle.protocol.proofs.Tails.{nonce_room, read_nonce}
use Rattle.protocol.proofs.Words.{joined_ext}
use Rattle.theorems.specs.Apart.{Apart, party_in, Local, moved, Unrefused, sends, writes, receives, written, heard_in, round, apart}
use Rattle.theorems.specs.Binding as Binding
use Rattle.theorems.specs.Binding.{sending_at, receiving_at, stopped_at, Decides, last_answer}
use Rattle.theorems.specs.Transit.{transit, hears_in, Commits, share_in, Ruled, InTransit, Unaltered}
use Rattle.theorems.proofs.Holds.{room_one}
use Rattle.theorems.proofs.Calls.{local_at, sends_is}
use Rattle.theorems.proofs.Binding.{goes_on_alike, hears_commit, alterable, binding}

-- Of answers that are no refusals, neither the first are nor the last.
unrefused_front : (xs ys : List Answer) → Unrefused (xs ++ ys) → Unrefused xs
unrefused_front [] ys h = tt
unrefused_front (Refusal number index ∷ xs) ys h = absurd h
unrefused_front (Next x ∷ xs) ys h = unrefused_front xs ys h
unrefused_front (Output v x ∷ xs) ys h = unrefused_front xs ys h
unrefused_front (Abort b x ∷ xs) ys h = unrefused_front xs ys h

unrefused_back : (xs ys : List Answer) → Unrefused (xs ++ ys) → Unrefused ys
unrefused_back [] ys h = h
unrefused_back (Refusal number index ∷ xs) ys h = absurd h
unrefused_back (Next x ∷ xs) ys h = unrefused_back xs ys h
unrefused_back (Output v x ∷ xs) ys h = unrefused_back xs ys h
unrefused_back (Abort b x ∷ xs) ys h = unrefused_back xs ys h

-- What is not refused was accepted.
accepted_of : (v : Verdict) (a : Answer) → Unrefused (answer v a ∷ []) → v ≡ Accepted
unfolding answer
accepted_of Accepted a h = refl
accepted_of (Refused number index) a h = absurd h

-- A call adds its answer to those before.
at_sending : (g : Stage) (s : Local) (f : Round → Local) → ((r : Round) → Unrefused (f r).answers → Unrefused s.answers)
    → Unrefused (when_sending g s f).answers
    → Unrefused s.answers
unfolding when_sending
at_sending (Send r) s f h z = h r z
at_sending (Receive r) s f h z = z
at_sending Finished s f h z = z
at_sending Aborted s f h z = z

at_receiving : (g : Stage) (s : Local) (f : Round → Local) → ((r : Round) → Unrefused (f r).answers → Unrefused s.answers)
    → Unrefused (when_receiving g s f).answers
    → Unrefused s.answers
unfolding when_receiving
at_receiving (Send r) s f h z = z
at_receiving (Receive r) s f h z = h r z
at_receiving Finished s f h z = z
at_receiving Aborted s f h z = z

module _ (O : Ops) (P : Party) (s : Local) where
  sends_keeps : (coefficients nonce out : List ℕ) → Unrefused (sends O P coefficients nonce out s).answers → Unrefused s.answers
  unfolding sends
  sends_keeps coefficients nonce out = at_sending s.position.stage s _ (λ r. unrefused_front s.answers _)

  receives_keeps : (heard : List ℕ) → Unrefused (receives O P heard s).answers → Unrefused s.answers
  unfolding receives
  receives_keeps heard = at_receiving s.position.stage s _ (λ r. unrefused_front s.answers _)

-- A list of no length is empty.
empty_of : (xs : List ℕ) → length xs ≡ 0 → xs ≡ []
empty_of [] e = refl
empty_of (x ∷ xs) e = absurd (omega (arith, e))

module _ (O : Ops) (P : Party) (l : List ℕ) (j held : ℕ) (r : Round) (answers : List Answer) where
  open O use {size}

  -- one call, whatever it is answered
  send_turn : (coefficients nonce out : List ℕ) (a : Answer) → send_answer O P l (sending_at j r held) coefficients nonce (length out) ≡ a
      → sends O P coefficients nonce out (local_at (sending_at j r held) l answers)
      ≡ local_at (moved (sending_at j r held) a) (send_scratch O P l (sending_at j r held) coefficients nonce (length out)) (answers ++ (a ∷ []))
  unfolding sends when_sending
  send_turn coefficients nonce out a e =
      ap (λ (a : Answer). local_at (moved (sending_at j r held) a) (send_scratch O P l (sending_at j r held) coefficients nonce (length out)) (answers ++ (a ∷ []))) e

  receive_turn : (heard : List ℕ) (a : Answer) → receive_answer O P l (receiving_at j r held) heard ≡ a
      → receives O P heard (local_at (receiving_at j r held) l answers)
      ≡ local_at (moved (receiving_at j r held) a) (receive_scratch O P l (receiving_at j r held) heard) (answers ++ (a ∷ []))
  unfolding receives when_receiving
  receive_turn heard a e =
      ap (λ (a : Answer). local_at (moved (receiving_at j r held) a) (receive_scratch O P l (receiving_at j r held) heard) (answers ++ (a ∷ []))) e

  -- one that is not refused
  send_asked : (coefficients nonce out : List ℕ) → Unrefused (sends O P coefficients nonce out (local_at (sending_at j r held) l answers)).answers
      → ask_send size P l (sending_at j r held) coefficients nonce (length out) ≡ Accepted
  unfolding sends when_sending send_answer
  send_asked coefficients nonce out h = accepted_of _ _ (unrefused_back answers _ h)

  receive_asked : (heard : List ℕ) → Unrefused (receives O P heard (local_at (receiving_at j r held) l answers)).answers
      → ask_receive size P l (receiving_at j r held) heard ≡ Accepted
  unfolding receives when_receiving receive_answer
  receive_asked heard h = accepted_of _ _ (unrefused_back answers _ h)

module _ {O : Ops} (F : Field O) (D : Apart) (way : ℕ → ℕ → List ℕ → List ℕ) (k i j held : ℕ) (c : Check) (ok : Commits O D way k i j held c) where
  open O use {size}

  -- the party, its scratch, and what it hears in both rounds
  abbrev P : Party
  P = party_in D i

  abbrev l : List ℕ
  l = (transit O D way k i).scratch

  abbrev before : List Answer
  before = (transit O D way k i).answers

  abbrev ms : List ℕ
  ms = hears_in O D way k i

  abbrev ws : List ℕ
  ws = hears_in O D way (suc k) i

  abbrev share : ℕ
  share = share_in O D way k i j c

  -- the four calls
  abbrev s₁ : Local
  s₁ = sends O P (D.coefficients k i) (D.nonces k i) (D.out k i) (transit O D way k i)

  abbrev s₂ : Local
  s₂ = receives O P ms s₁

  abbrev s₃ : Local
  s₃ = sends O P (D.coefficients (suc k) i) (D.nonces (suc k) i) (D.out (suc k) i) s₂

  abbrev s₄ : Local
  s₄ = receives O P ws s₃

  two_rounds : transit O D way (suc (suc k)) i ≡ s₄
  unfolding transit
  two_rounds = refl

  -- None is refused.
  fourth : Unrefused s₄.answers
  fourth = subst (λ (s : Local). Unrefused s.answers) two_rounds ok.unrefused

  third : Unrefused s₃.answers
  third = receives_keeps O P s₃ ws fourth

  second : Unrefused s₂.answers
  second = sends_keeps O P s₂ _ _ _ third

  first : Unrefused s₁.answers
  first = receives_keeps O P s₁ ms second

  -- It commits ..
  here : transit O D way k i ≡ local_at (sending_at j (Commit c) held) l before
  here = λ t. record { position = ok.stands t; scratch = l; answers = before }

  commit_asked : ask_send size P l (sending_at j (Commit c) held) (D.coefficients k i) (D.nonces k i) (length (D.out k i)) ≡ Accepted
  commit_asked =
      send_asked O P l j held (Commit c) before _ _ _
      (subst (λ (s : Local). Unrefused (sends O P (D.coefficients k i) (D.nonces k i) (D.out k i) s).answers) here first)

  abbrev l₁ : List ℕ
  l₁ = noted O P l (Commit c) (D.nonces k i)

  abbrev as₁ : List Answer
  as₁ = before ++ (Next (receiving_at j (Commit c) share) ∷ [])

  committed : s₁ ≡ local_at (receiving_at j (Commit c) share) l₁ as₁
  committed =
      ap (sends O P (D.coefficients k i) (D.nonces k i) (D.out k i)) here
      ∙ sends_is O P l j held (Commit c) before (D.coefficients k i) (D.nonces k i) (D.out k i) commit_asked

  -- .. hears the marks ..
  marks_asked : ask_receive size P l₁ (receiving_at j (Commit c) share) ms ≡ Accepted
  marks_asked =
      receive_asked O P l₁ j share (Commit c) as₁ ms
      (subst (λ (s : Local). Unrefused (receives O P ms s).answers) committed second)

  abbrev l₂ : List ℕ
  l₂ = receive_scratch O P l₁ (receiving_at j (Commit c) share) ms

  abbrev as₂ : List Answer
  as₂ = as₁ ++ (Next (sending_at j (Reveal c) share) ∷ [])

  heard_marks : s₂ ≡ local_at (sending_at j (Reveal c) share) l₂ as₂
  unfolding moved
  heard_marks =
      ap (receives O P ms) committed
      ∙ receive_turn O P l₁ j share (Commit c) as₁ ms _ (hears_commit O P l₁ j share c ms marks_asked)

  -- .. reveals, with nothing handed over ..
  reveal_handed : ask_send size P l₂ (sending_at j (Reveal c) share) (D.coefficients (suc k) i) (D.nonces (suc k) i) (length (D.out (suc k) i)) ≡ Accepted
  reveal_handed =
      send_asked O P l₂ j share (Reveal c) as₂ _ _ _
      (subst (λ (s : Local). Unrefused (sends O P (D.coefficients (suc k) i) (D.nonces (suc k) i) (D.out (suc k) i) s).answers) heard_marks third)

  no_coefficients : D.coefficients (suc k) i ≡ []
  unfolding ask_send ask_send_round when_sending coefficients_in
  no_coefficients =
      empty_of _
      (eqb-true _ _ (ask_true 16 0 _ (then_left _ _ (then_right _ _ (then_right _ _ (then_right (ask_lent size P l₂) _ reveal_handed))))))

  no_nonce : D.nonces (suc k) i ≡ []
  unfolding ask_send ask_send_round when_sending nonce_in
  no_nonce =
      empty_of _
      (eqb-true _ _
      (ask_true 25 0 _ (then_left _ _ (then_right _ _ (then_right _ _ (then_right _ _ (then_right _ _ (then_right (ask_lent size P l₂) _ reveal_handed))))))))

  abbrev room : ℕ
  room = length (D.out (suc k) i)

  reveal_asked : ask_send size P l₂ (sending_at j (Reveal c) share) [] [] room ≡ Accepted
  reveal_asked =
      ap₂ (λ (xs ys : List ℕ). ask_send size P l₂ (sending_at j (Reveal c) share) xs ys room) (sym no_coefficients) (sym no_nonce) ∙ reveal_handed

  reveal_sent : send_answer O P l₂ (sending_at j (Reveal c) share) [] [] room ≡ Next (receiving_at j (Reveal c) 0)
  unfolding send_answer answer when_sending holds
  reveal_sent = rw reveal_asked

  abbrev l₃ : List ℕ
  l₃ = send_scratch O P l₂ (sending_at j (Reveal c) share) [] [] room

  abbrev as₃ : List Answer
  as₃ = as₂ ++ (Next (receiving_at j (Reveal c) 0) ∷ [])

  revealed : s₃ ≡ local_at (receiving_at j (Reveal c) 0) l₃ as₃
  unfolding moved
  revealed =
      ap₂ (λ (xs ys : List ℕ). sends O P xs ys (D.out (suc k) i) s₂) no_coefficients no_nonce
      ∙ ap (sends O P [] [] (D.out (suc k) i)) heard_marks
      ∙ send_turn O P l₂ j share (Reveal c) as₂ [] [] (D.out (suc k) i) _ reveal_sent

  -- .. and hears the reveal.
  words_asked : ask_receive size P l₃ (receiving_at j (Reveal c) 0) ws ≡ Accepted
  words_asked =
      receive_asked O P l₃ j 0 (Reveal c) as₃ ws
      (subst (λ (s : Local). Unrefused (receives O P ws s).answers) revealed fourth)

  unrefused : Binding.Unrefused O P l₁ j share c room ms ws
  unrefused = record { hears = marks_asked; sends = reveal_asked; hears_reveal = words_asked }

  abbrev last : Answer
  last = last_answer O P l₁ j share c room ms ws

  answered : s₄.answers ≡ as₃ ++ (last ∷ [])
  answered = ap (λ (s : Local). s.answers) (ap (receives O P ws) revealed ∙ receive_turn O P l₃ j 0 (Reveal c) as₃ ws _ refl)

  -- The nonce that it noted is no opened value.
  value_noted : read (layout P.circuit) l₁ (Value 0) ≡ read (layout P.circuit) l (Value 0)
  unfolding noted ask_send ask_send_round when_sending nonce_in
  value_noted =
      read_nonce (layout P.circuit) l (words_of (D.nonces k i))
      (length_words nonce_words (D.nonces k i)
      (eqb-true _ _
      (ask_true 25 0 _ (then_left _ _ (then_right _ _ (then_right _ _ (then_right _ _ (then_right _ _ (then_right (ask_lent size P l) _ commit_asked)))))))))
      (nonce_room P.parties P.circuit (lends (omega (arith, F.one_lt)) P l (then_left (ask_lent size P l) _ commit_asked)).room)
      (Value 0) (unfold layout in room_one P.circuit)

  pub ruled : Ruled O D way k i j c last
  ruled =
      record {
        answers = ap (λ (s : Local). s.answers) two_rounds ∙ answered ∙ joined_up;
        decides =
            subst (λ (on : Answer). Decides O P.parties ms ws (stopped_at j) on last) (goes_on_alike O P l l₁ j c value_noted)
            (alterable F P l₁ j share c room ms ws unrefused).heard_reveal;
        binds = λ t share' nonce changes. binding F P l₁ j share c room ms ws unrefused t share' nonce changes;
      }
    where
      joined_up : as₃ ++ (last ∷ [])
          ≡ before ++ (Next (receiving_at j (Commit c) share) ∷ Next (sending_at j (Reveal c) share) ∷ Next (receiving_at j (Reveal c) 0) ∷ last ∷ [])
      joined_up = simp append_assoc

-- Every check is decided by what the party heard, whatever that is.
pub in_transit : {O : Ops} → Field O → InTransit O
in_transit {O} F D way k i j held c ok = (last F D way k i j held c ok, ruled F D way k i j held c ok)

-- Where nothing is altered these are the parties apart.
pub unaltered : (O : Ops) → Unaltered O
unfolding transit apart round heard_in written
unaltered O D zero i = refl
unaltered O D (suc k) i =
    ap₂ (λ (heard : List ℕ) (s : Local). receives O (party_in D i) heard (sends O (party_in D i) (D.coefficients k i) (D.nonces k i) (D.out k i) s))
    (joined_ext D.parties _ _ (λ t h. ap (writes O (party_in D t) (D.coefficients k t) (D.nonces k t) (D.out k t)) (unaltered O D k t)))
    (unaltered O D k i)

-- The same at the operations that the contracts of the entries cite.
pub in_transit_here : InTransit ops
in_transit_here = in_transit laws

pub unaltered_here : Unaltered ops
unaltered_here = unaltered ops
