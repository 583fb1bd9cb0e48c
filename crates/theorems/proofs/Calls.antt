-- What the calls of one party come to where its questions accept: the words written, the scratch, the position that follows and the answer.
-- Assumes nothing.
use Prim.Native.Nat.{ℕ}
use mathlib.Core.Path.{◌≡◌, refl, sym, ap, ap₂, ◌∙◌}
use mathlib.Core.Bool.{Bool, true, false, cond, ◌&&◌}
use mathlib.Core.List.{List, [], ◌∷◌, ◌++◌}
use native.Mathlib.Omega.{arith}
use lib.ListN.{length, take}
use lib.Seq.{take_at}
use Rattle.algebra.specs.Ops.{Ops}
use Rattle.circuit.specs.Verdict.{Accepted}
use Rattle.circuit.specs.Gate.{gate}
use Rattle.circuit.specs.Kind.{seen_by, alone}
use Rattle.circuit.specs.Round.{Round, words}
use Rattle.protocol.specs.Scratch.{layout, Value, read}
use Rattle.protocol.specs.Position.{Position, Stage, Send, Receive, Finished, Aborted, when_sending, when_receiving}
use Rattle.protocol.specs.Party.{Party}
use Rattle.protocol.specs.Send.{overwrite, sent, holds, noted}
use Rattle.protocol.specs.Receive.{Nobody, Blames, Ruling, Passed, Stopped, passed, score, scored, finds, left}
use Rattle.protocol.specs.Run.{blamed}
use Rattle.protocol.specs.Ask.{ask_send, ask_receive}
use Rattle.protocol.specs.Entry.{Answer, Refusal, Next, Output, Abort, answer, leave, releases, send_answer, send_out, send_scratch, next_position, concludes, outcome, receive_answer, receive_scratch}
use Rattle.theorems.specs.Binding.{sending_at, receiving_at}
use Rattle.theorems.specs.Apart.{Local, moved, unless_refused, sends, writes, receives, told_output, told_at, told, outputs_in, Unrefused}

-- does round r of gate j release a score that party P sees?
abbrev pub releases_to : Party → ℕ → Round → Bool
releases_to P j r = releases r && seen_by (alone P.me) (gate P.circuit j)

-- A score depends on the scratch by the number at opened index 0 alone.
pub scored_alike : (O : Ops) (P : Party) (l l' : List ℕ) (j : ℕ)
    → read (layout P.circuit) l' (Value 0) ≡ read (layout P.circuit) l (Value 0)
    → scored O P l' j ≡ scored O P l j
unfolding scored score
scored_alike O P l l' j e = rw e

-- a party between two calls
abbrev pub local_at : Position → List ℕ → List Answer → Local
local_at at l answers = record { position = at; scratch = l; answers = answers }

module _ (O : Ops) (P : Party) (l : List ℕ) (j held : ℕ) (r : Round) (answers : List Answer) where
  open O use {size}

  module _ (coefficients nonce out : List ℕ) (e : ask_send size P l (sending_at j r held) coefficients nonce (length out) ≡ Accepted) where
    send_answer_lem : send_answer O P l (sending_at j r held) coefficients nonce (length out) ≡ Next (receiving_at j r (holds O P l j r coefficients))
    unfolding send_answer answer when_sending
    send_answer_lem = rw e

    send_out_lem : send_out O P l (sending_at j r held) coefficients nonce out ≡ overwrite (sent O P l j held coefficients nonce r) out
    unfolding send_out leave when_sending
    send_out_lem = rw e

    send_scratch_lem : send_scratch O P l (sending_at j r held) coefficients nonce (length out) ≡ noted O P l r nonce
    unfolding send_scratch leave when_sending
    send_scratch_lem = rw e

    -- Sending leads to the receiving half of the round.
    pub sends_is : sends O P coefficients nonce out (local_at (sending_at j r held) l answers)
        ≡ local_at (receiving_at j r (holds O P l j r coefficients)) (noted O P l r nonce) (answers ++ (Next (receiving_at j r (holds O P l j r coefficients)) ∷ []))
    unfolding sends when_sending moved
    sends_is = ap₂ (λ (a : Answer) (l' : List ℕ). local_at (moved (sending_at j r held) a) l' (answers ++ (a ∷ []))) send_answer_lem send_scratch_lem

    -- The words written are those of the round.
    pub writes_is : length (sent O P l j held coefficients nonce r) ≡ words (gate P.circuit j) r
        → writes O P coefficients nonce out (local_at (sending_at j r held) l answers) ≡ sent O P l j held coefficients nonce r
    unfolding writes when_sending
    writes_is long =
        ap₂ (λ (a : Answer) (ws : List ℕ). unless_refused a (take (words (gate P.circuit j) r) ws)) send_answer_lem send_out_lem
        ∙ (unfold unless_refused overwrite in take_at (sent O P l j held coefficients nonce r) _ _ long)

  module _ (heard : List ℕ) (e : ask_receive size P l (receiving_at j r held) heard ≡ Accepted) where
    -- how the round ends, and the position that follows
    abbrev ending : Ruling
    ending = finds O P l r heard

    abbrev then_at : Position
    then_at = next_position O P j held r ending

    receive_answer_lem : receive_answer O P l (receiving_at j r held) heard ≡ outcome O P l j held heard r
    unfolding receive_answer answer when_receiving
    receive_answer_lem = rw e

    receive_scratch_lem : receive_scratch O P l (receiving_at j r held) heard ≡ left O P ending l j r heard
    unfolding receive_scratch leave when_receiving
    receive_scratch_lem = rw e

    -- Whatever is answered, the position that follows is the next one.
    moved_is : moved (receiving_at j r held) (outcome O P l j held heard r) ≡ then_at
    unfolding outcome
    moved_is = go ending
      where
        on : (z : Bool) (x : Position) → moved (receiving_at j r held) (cond z (Output (scored O P l j) x) (Next x)) ≡ x
        on true x = unfold moved in refl
        on false x = unfold moved in refl

        go : (v : Ruling) → moved (receiving_at j r held) (concludes O P (scored O P l j) j held r v) ≡ next_position O P j held r v
        go Passed = unfold concludes in on (releases_to P j r) (next_position O P j held r Passed)
        go (Stopped b) = unfold concludes moved in refl

    -- Receiving leads there, with the scratch worked out.
    pub receives_is : receives O P heard (local_at (receiving_at j r held) l answers)
        ≡ local_at then_at (left O P ending l j r heard) (answers ++ (outcome O P l j held heard r ∷ []))
    unfolding receives when_receiving
    receives_is =
        ap₂ (λ (a : Answer) (l' : List ℕ). local_at (moved (receiving_at j r held) a) l' (answers ++ (a ∷ []))) receive_answer_lem receive_scratch_lem
        ∙ ap (λ (x : Position). local_at x (left O P ending l j r heard) (answers ++ (outcome O P l j held heard r ∷ []))) moved_is

-- what a round releases, where v is the score that it checked
abbrev pub freed : Bool → Bool → ℕ → List ℕ
freed releases passes v = cond (releases && passes) (v ∷ []) []

-- At a stage of a run that is not aborted a party is told what is released.
told_live : (g : Stage) (outputs : List ℕ) (x : Position) → (g ≡ Aborted → ⊥) → told_at g outputs x ≡ told_output outputs x
unfolding told_at
told_live (Send r) outputs x live = refl
told_live (Receive r) outputs x live = refl
told_live Finished outputs x live = refl
told_live Aborted outputs x live = absurd (live refl)

-- What it releases to those who see it.
pub freed_to : (releases seen passes : Bool) (v : ℕ) → freed (releases && seen) passes v ≡ cond seen (freed releases passes v) []
freed_to true true passes v = refl
freed_to true false passes v = refl
freed_to false true passes v = refl
freed_to false false passes v = refl

-- what a round is answered that ends so and leads to x, where u is the score that it checked
abbrev pub answering : Bool → Ruling → ℕ → Position → Answer
answering releases Passed u x = cond releases (Output u x) (Next x)
answering releases (Stopped b) u x = Abort b x

pub concludes_is : (O : Ops) (P : Party) (u j held : ℕ) (r : Round) (v : Ruling)
    → concludes O P u j held r v ≡ answering (releases_to P j r) v u (next_position O P j held r v)
unfolding concludes
concludes_is O P u j held r Passed = refl
concludes_is O P u j held r (Stopped b) = refl

-- It is what a party is to be told, where nobody is named.
pub outcome_told : (z : Bool) (v : Ruling) (u w : ℕ) (x : Position) → blamed v ≡ Nobody → (z ≡ true → u ≡ w) → (passed v ≡ true → x.stage ≡ Aborted → ⊥) → (passed v ≡ false → x.stage ≡ Aborted)
    → answering z v u x ≡ told (freed z (passed v) w) x
unfolding told
outcome_told true Passed u w x names same live dead =
    ap (λ (k : ℕ). Output k x) (same refl) ∙ sym (told_live x.stage (w ∷ []) x (live refl) ∙ (unfold told_output in refl))
outcome_told false Passed u w x names same live dead = sym (told_live x.stage [] x (live refl) ∙ (unfold told_output in refl))
outcome_told z (Stopped Nobody) u w x names same live dead = sym (ap (λ (g : Stage). told_at g (freed z false w) x) (dead refl) ∙ (unfold told_at in refl))
outcome_told z (Stopped (Blames i)) u w x names same live dead = let e : ◌≡◌ {A = ℕ} 0 1 = cc in absurd (omega arith)

-- Its outputs are what is released.
pub outcome_outputs : (z : Bool) (v : Ruling) (u w : ℕ) (x : Position) → (z ≡ true → u ≡ w)
    → outputs_in (answering z v u x ∷ []) ≡ freed z (passed v) w
unfolding outputs_in
outcome_outputs true Passed u w x same = ap {B = List ℕ} (λ (k : ℕ). k ∷ []) (same refl)
outcome_outputs false Passed u w x same = refl
outcome_outputs true (Stopped b) u w x same = refl
outcome_outputs false (Stopped b) u w x same = refl

-- It is no refusal.
pub outcome_unrefused : (z : Bool) (v : Ruling) (u : ℕ) (x : Position) → Unrefused (answering z v u x ∷ [])
outcome_unrefused true Passed u x = tt
outcome_unrefused false Passed u x = tt
outcome_unrefused z (Stopped b) u x = tt

-- Answers one after another.
pub outputs_append : (xs ys : List Answer) → outputs_in (xs ++ ys) ≡ outputs_in xs ++ outputs_in ys
unfolding outputs_in
outputs_append [] ys = refl
outputs_append (Refusal number index ∷ xs) ys = outputs_append xs ys
outputs_append (Next x ∷ xs) ys = outputs_append xs ys
outputs_append (Output v x ∷ xs) ys = ap {B = List ℕ} (λ (rest : List ℕ). v ∷ rest) (outputs_append xs ys)
outputs_append (Abort b x ∷ xs) ys = outputs_append xs ys

pub unrefused_append : (xs ys : List Answer) → Unrefused xs → Unrefused ys → Unrefused (xs ++ ys)
unrefused_append [] ys h g = g
unrefused_append (Refusal number index ∷ xs) ys h g = absurd h
unrefused_append (Next x ∷ xs) ys h g = unrefused_append xs ys h g
unrefused_append (Output v x ∷ xs) ys h g = unrefused_append xs ys h g
unrefused_append (Abort b x ∷ xs) ys h g = unrefused_append xs ys h g
