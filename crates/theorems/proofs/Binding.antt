-- What a mark binds to: a hearing of a reveal is answered by the marks that stand in the party's own scratch, which are those that it heard at the
-- commitment; and where a party's reveal is another than it committed to, and fits all the same, both hash to one mark.
-- Assumes nothing.
use Prim.Native.Nat.{ℕ, zero, suc, ◌*◌, ◌/◌, ◌^◌, ◌<◌, ◌≤◌}
use mathlib.Core.Path.{◌≡◌, refl, sym, ap, subst, ◌∙◌}
use mathlib.Core.Logic.{inl, inr}
use mathlib.Core.Bool.{Bool, true, false, cond}
use mathlib.Core.List.{List, [], ◌∷◌, ◌++◌, append-nil}
use native.Mathlib.Nat.{mod-lt}
use native.Mathlib.Omega.{arith}
use lib.Pow.{pow_pos}
use lib.Dec.{ltb, eqb}
use lib.ListN.{length, get_or, take}
use lib.Seq.{take_at}
use borrow.Author.Tests.{eqb-true, eqb-false}
use Rattle.algebra.specs.Ops.{Ops}
use Rattle.algebra.specs.Field.{Field}
use Rattle.field.specs.Words.{ops}
use Rattle.field.proofs.Laws.{laws}
use Rattle.sha256.specs.Sha256.{bytes_of, words_of, sha256}
use Rattle.sha256.specs.Digest.{bytes, digest}
use Rattle.sha256.specs.Digest.Laws.{digest_is, digest_long}
use Rattle.sha256.proofs.Bytes.{words_back, length_bytes, length_words, words_low, bytes_back}
use Rattle.circuit.specs.Verdict.{Accepted}
use Rattle.circuit.specs.Gate.{gate, gates}
use Rattle.circuit.specs.Kind.{seen_by, alone}
use Rattle.circuit.specs.Round.{Check, First, Second, Commit, Reveal, commit_words, nonce_words, reveal_words, rounds, among, shape_words, nonce_in}
use Rattle.circuit.proofs.Tests.{both_left, both_right}
use Rattle.circuit.proofs.Verdicts.{ask_true, then_left, then_right}
use Rattle.protocol.specs.Scratch.{Layout, layout, scratch_size, read, Value, band, nonce_of, marks_of, put_nonce, put_marks}
use Rattle.protocol.specs.Position.{Position, Point, Receive, holding, aborted, follow, keep, stage_occurs, may_hold, occurs, when_sending, when_receiving}
use Rattle.protocol.specs.Party.{Party}
use Rattle.protocol.specs.Send.{revealed, mark, overwrite, sent, holds, noted}
use Rattle.protocol.specs.Receive.{Blame, Nobody, Blames, Ruling, Passed, Stopped, misfit, weighs, ruling, next, received, scored, finds, left}
use Rattle.protocol.specs.Ask.{ask_lent, ask_send_round, ask_receive_round, ask_send, ask_receive}
use Rattle.protocol.specs.Entry.{Answer, Next, Output, Abort, answer, leave, send_answer, send_out, send_scratch, next_position, concludes, outcome, receive_answer, receive_scratch}
use Rattle.protocol.proofs.Following.{follow_is}
use Rattle.protocol.proofs.Accepted.{lends}
use Rattle.protocol.proofs.Words.{length_band}
use Rattle.protocol.proofs.Said.{below_part}
use Rattle.protocol.proofs.Tails.{marks_room, nonce_room, nonce_length, nonce_put, nonce_marks, marks_put, read_marks}
use Rattle.theorems.specs.Binding.{sending_at, receiving_at, stopped_at, Fits, check_sum, Decides, goes_on, RevealDecides, Collides, marked, revealing, last_answer, Unrefused, Altered, Changes, FoundOut, Alterable, Binding, own_share, noting, hearing, Speaks, KeepsTo, Keeping}
use Rattle.theorems.proofs.Fitting.{none_found, all_fit, lowest_found, found_lowest}
use Rattle.theorems.proofs.Holds.{room_one}
use Rattle.theorems.proofs.Calls.{scored_alike}

module _ (O : Ops) (n : ℕ) (marks heard : List ℕ) where
  -- how a reveal ends, with what is answered then
  data Ends (x : Position) (on a : Answer) : Type 0 where
    names : (i : ℕ) → misfit n marks heard ≡ Blames i → a ≡ Abort (Blames i) x → Ends x on a
    differs : misfit n marks heard ≡ Nobody → (check_sum O n marks heard ≡ 0 → ⊥) → a ≡ Abort Nobody x → Ends x on a
    agrees : misfit n marks heard ≡ Nobody → check_sum O n marks heard ≡ 0 → a ≡ on → Ends x on a

  -- A party is somebody.
  blames_no : {A : Type 0} {k : ℕ} {x : Position} → Abort (Blames k) x ≡ Abort Nobody x → A
  blames_no e = let z : ◌≡◌ {A = ℕ} 0 1 = cc in absurd (omega arith)

  misfit_no : {A : Type 0} {k : ℕ} → misfit n marks heard ≡ Blames k → misfit n marks heard ≡ Nobody → A
  misfit_no e f = let w : Blames _ ≡ Nobody = sym e ∙ f in let z : ◌≡◌ {A = ℕ} 0 1 = cc in absurd (omega arith)

  -- So it is decided by the lowest party that does not fit, and else by the sum.
  decided : (x : Position) (on a : Answer) → ((b : Blame) → on ≡ Abort b x → ⊥) → Ends x on a → Decides O n marks heard x on a
  decided x on a live (names i m e) =
      record {
        named =
            λ k. (
              λ h. let w : Abort (Blames i) x ≡ Abort (Blames k) x = sym e ∙ h in
                  let same : i ≡ k = cc in
                  found_lowest O marks heard n k (m ∙ ap Blames same),
              λ h. let w : Blames i ≡ Blames k = sym m ∙ lowest_found O marks heard n k h in e ∙ ap (λ (b : Blame). Abort b x) w,
            );
        unnamed = (λ h. blames_no (sym e ∙ h), λ h. misfit_no m (none_found O marks heard n h.0));
        passed = (λ h. absurd (live (Blames i) (sym h ∙ e)), λ h. misfit_no m (none_found O marks heard n h.0));
      }
  decided x on a live (differs m z e) =
      record {
        named =
            λ k. (
              λ h. blames_no (sym h ∙ e),
              λ h. misfit_no (lowest_found O marks heard n k h) m,
            );
        unnamed = (λ h. (all_fit O marks heard n m, z), λ h. e);
        passed = (λ h. absurd (live Nobody (sym h ∙ e)), λ h. absurd (z h.1));
      }
  decided x on a live (agrees m z e) =
      record {
        named =
            λ k. (
              λ h. absurd (live (Blames k) (sym e ∙ h)),
              λ h. misfit_no (lowest_found O marks heard n k h) m,
            );
        unnamed = (λ h. absurd (live Nobody (sym e ∙ h)), λ h. absurd (h.1 z));
        passed = (λ h. (all_fit O marks heard n m, z), λ h. e);
      }

-- A check that passes is no abort.
goes_on_live : (O : Ops) (P : Party) (l : List ℕ) (j : ℕ) (k : Check) (b : Blame) → goes_on O P l j k ≡ Abort b (stopped_at j) → ⊥
goes_on_live O P l j First b e = let z : ◌≡◌ {A = ℕ} 0 1 = cc in omega arith
goes_on_live O P l j Second b e = go (seen_by (alone P.me) (gate P.circuit j)) _ _ e
  where
    go : (seen : Bool) (v : ℕ) (x : Position) → cond seen (Output v x) (Next x) ≡ Abort b (stopped_at j) → ⊥
    go true v x e = let z : ◌≡◌ {A = ℕ} 0 1 = cc in omega arith
    go false v x e = let z : ◌≡◌ {A = ℕ} 0 1 = cc in omega arith

-- Its answer depends on the scratch by the score alone.
pub goes_on_alike : (O : Ops) (P : Party) (l l' : List ℕ) (j : ℕ) (k : Check)
    → read (layout P.circuit) l' (Value 0) ≡ read (layout P.circuit) l (Value 0)
    → goes_on O P l' j k ≡ goes_on O P l j k
goes_on_alike O P l l' j First e = refl
goes_on_alike O P l l' j Second e =
    ap
    (λ (v : ℕ).
    cond (seen_by (alone P.me) (gate P.circuit j)) (Output v (holding (follow P.circuit j (Reveal Second)) 0))
    (Next (holding (follow P.circuit j (Reveal Second)) 0)))
    (scored_alike O P l l' j e)

module _ (O : Ops) (P : Party) (l : List ℕ) (j held : ℕ) (k : Check) where
  -- the answer of a reveal that ends so
  abbrev concluded : Ruling → Answer
  concluded v = concludes O P (scored O P l j) j held (Reveal k) v

  concluded_on : concluded Passed ≡ goes_on O P l j k
  unfolding concludes next_position next keep
  concluded_on = go k
    where
      go : (k : Check) → concludes O P (scored O P l j) j held (Reveal k) Passed ≡ goes_on O P l j k
      go First = refl
      go Second = refl

  concluded_stops : (b : Blame) → concluded (Stopped b) ≡ Abort b (stopped_at j)
  unfolding concludes next_position next keep holding aborted
  concluded_stops b = refl

  module _ (heard : List ℕ) (ok : ask_receive O.size P l (receiving_at j (Reveal k) held) heard ≡ Accepted) where
    -- the marks in the party's scratch
    abbrev marks : List ℕ
    marks = marks_of P.parties (layout P.circuit) l

    answered : receive_answer O P l (receiving_at j (Reveal k) held) heard
        ≡ concluded (weighs (misfit P.parties marks heard) (eqb (check_sum O P.parties marks heard) 0))
    unfolding receive_answer answer when_receiving outcome finds ruling
    answered = rw ok

    ends : Ends O P.parties marks heard (stopped_at j) (goes_on O P l j k) (receive_answer O P l (receiving_at j (Reveal k) held) heard)
    ends = go (misfit P.parties marks heard) refl (eqb (check_sum O P.parties marks heard) 0) refl
      where
        go : (m : Blame) → misfit P.parties marks heard ≡ m → (b : Bool) → eqb (check_sum O P.parties marks heard) 0 ≡ b
            → Ends O P.parties marks heard (stopped_at j) (goes_on O P l j k) (receive_answer O P l (receiving_at j (Reveal k) held) heard)
        go (Blames i) p b q = names i p (answered ∙ rw p (concluded_stops (Blames i)))
        go Nobody p true q = agrees p (eqb-true _ 0 q) (answered ∙ rw (p, q) concluded_on)
        go Nobody p false q = differs p (eqb-false _ 0 q) (answered ∙ rw (p, q) (concluded_stops Nobody))

-- A party that hears a reveal is answered by the marks in its scratch, whatever they are.
pub reveal_decides : (O : Ops) → RevealDecides O
reveal_decides O P l j held k heard ok =
    decided O P.parties _ heard (stopped_at j) (goes_on O P l j k) _ (goes_on_live O P l j k) (ends O P l j held k heard ok)

module _ (O : Ops) (P : Party) (l : List ℕ) (j : ℕ) (k : Check) (coefficients nonce out ms out' : List ℕ) (ok : Speaks O P l j k coefficients nonce out ms out') where
  open O use {size}

  -- the layout, and the nonce's words
  abbrev y : Layout
  y = layout P.circuit

  abbrev ws : List ℕ
  ws = words_of nonce

  keeps_committed : take commit_words (send_out O P l (sending_at j (Commit k) 0) coefficients nonce out) ≡ mark (revealed (own_share O P l j k coefficients nonce out ms out') ws)
  unfolding send_out leave when_sending sent overwrite mark
  keeps_committed = rw ok.commits (take_at (digest (revealed (own_share O P l j k coefficients nonce out ms out') ws)) _ commit_words (digest_long _))

  -- The scratch has the nonce, and then the marks.
  noting_is : noting O P l j k coefficients nonce out ms out' ≡ put_nonce y l ws
  unfolding send_scratch leave when_sending noted
  noting_is = rw ok.commits

  hearing_is : hearing O P l j k coefficients nonce out ms out' ≡ put_marks y (put_nonce y l ws) ms
  unfolding receive_scratch leave when_receiving finds ruling left received
  hearing_is = rw ok.hears (ap (λ (x : List ℕ). put_marks y x ms) noting_is)

  nonce_words_lem : length ws ≡ nonce_words
  unfolding ask_send ask_send_round when_sending nonce_in
  nonce_words_lem =
      length_words nonce_words nonce
      (eqb-true _ _
      (ask_true 25 0 _ (then_left _ _ (then_right _ _ (then_right _ _ (then_right _ _ (then_right _ _ (then_right (ask_lent size P l) _ ok.commits))))))))

  ms_long : length ms ≡ P.parties * commit_words
  unfolding ask_receive ask_receive_round when_receiving shape_words
  ms_long = eqb-true _ _ (ask_true 19 0 _ (then_left _ _ (then_right _ _ (then_right _ _ (then_right (ask_lent size P _) _ ok.hears)))))

  module _ (some : 0 < size) where
    has_room : scratch_size P.parties P.circuit ≤ length l
    unfolding ask_send
    has_room = (lends some P l (then_left (ask_lent size P l) _ ok.commits)).room

    nonce_there : nonce_of y (hearing O P l j k coefficients nonce out ms out') ≡ ws
    nonce_there =
        ap (nonce_of y) hearing_is
        ∙ nonce_marks y (put_nonce y l ws) P.parties ms ms_long (marks_room P.parties P.circuit (rw (nonce_length y l ws) has_room))
        ∙ nonce_put y l ws nonce_words_lem (nonce_room P.parties P.circuit has_room)

    keeps_shown : take reveal_words (send_out O P (hearing O P l j k coefficients nonce out ms out') (sending_at j (Reveal k) (own_share O P l j k coefficients nonce out ms out')) [] [] out')
        ≡ revealed (own_share O P l j k coefficients nonce out ms out') ws
    unfolding send_out leave when_sending sent overwrite
    keeps_shown =
        rw (ok.reveals, nonce_there)
        (take_at (revealed (own_share O P l j k coefficients nonce out ms out') ws) _ reveal_words (ap suc nonce_words_lem))

    pub keeps_to : KeepsTo O P l j k coefficients nonce out ms out'
    keeps_to = record { committed = keeps_committed; shown = keeps_shown }

-- A party that keeps to its calls reveals what it committed to.
pub keeping : {O : Ops} → Field O → Keeping O
keeping {O} F P l j k coefficients nonce out ms out' ok = keeps_to O P l j k coefficients nonce out ms out' ok (omega (arith, F.one_lt))

-- Words that have the same bytes are the same.
same_words : (xs ys : List ℕ) → ((t : ℕ) → get_or xs t 0 < 2 ^ 32) → ((t : ℕ) → get_or ys t 0 < 2 ^ 32) → bytes xs ≡ bytes ys → xs ≡ ys
same_words xs ys hx hy e =
    sym (back xs hx) ∙ ap (λ (b : List ℕ). words_of (b ++ [])) e ∙ back ys hy
  where
    back : (zs : List ℕ) → ((t : ℕ) → get_or zs t 0 < 2 ^ 32) → words_of (bytes zs ++ []) ≡ zs
    back zs h = words_back zs [] h ∙ (unfold words_of in append-nil zs)

-- Bytes are bytes.
word_bytes_low : (n x : ℕ) (bs : List ℕ) → ((t : ℕ) → get_or bs t 0 < 2 ^ 8) → (t : ℕ) → get_or (bytes_of n x ++ bs) t 0 < 2 ^ 8
unfolding bytes_of
word_bytes_low zero x bs h t = h t
word_bytes_low (suc n) x bs h zero = mod-lt (x / 2 ^ (8 * n)) (pow_pos 8)
word_bytes_low (suc n) x bs h (suc t) = word_bytes_low n x bs h t

bytes_low : (ws : List ℕ) (t : ℕ) → get_or (bytes ws) t 0 < 2 ^ 8
unfolding bytes
bytes_low [] t = pow_pos 8
bytes_low (w ∷ ws) t = word_bytes_low 4 w (bytes ws) (bytes_low ws) t

-- A word and words after it.
then_low : (w : ℕ) (ws : List ℕ) → w < 2 ^ 32 → ((t : ℕ) → get_or ws t 0 < 2 ^ 32) → (t : ℕ) → get_or (w ∷ ws) t 0 < 2 ^ 32
then_low w ws h hs zero = h
then_low w ws h hs (suc t) = hs t

module _ (O : Ops) (P : Party) (l : List ℕ) (j held : ℕ) (k : Check) (ms : List ℕ) (hears : ask_receive O.size P l (receiving_at j (Commit k) held) ms ≡ Accepted) where
  open O use {size}

  -- The commitment is a round of the gate ..
  commits : among (Commit k) (rounds P.circuit j) ≡ true
  unfolding ask_receive occurs stage_occurs
  commits =
      both_right (ltb j (gates P.circuit)) (among (Commit k) (rounds P.circuit j))
      (both_left _ (cond (may_hold (Receive (Commit k))) (ltb held size) (eqb held 0))
      (ask_true 13 0 _ (then_left _ _ (then_right (ask_lent size P l) _ hears))))

  -- .. and a reveal follows it.
  pub hears_commit : receive_answer O P l (receiving_at j (Commit k) held) ms ≡ Next (sending_at j (Reveal k) held)
  unfolding receive_answer answer when_receiving outcome finds ruling concludes next_position next keep holding
  hears_commit = rw hears (ap (λ (x : Point). Next (holding x held)) (follow_is P.circuit j (Commit k) commits))

module _ (O : Ops) (P : Party) (l : List ℕ) (j held : ℕ) (k : Check) (room : ℕ) (ms ws : List ℕ) (ok : Unrefused O P l j held k room ms ws) where
  open O use {size}

  -- The marks heard are written ..
  marked_is : marked O P l j held k room ms ws ≡ put_marks (layout P.circuit) l ms
  unfolding receive_scratch leave when_receiving finds ruling left received
  marked_is = rw ok.hears

  sends_reveal : send_answer O P (marked O P l j held k room ms ws) (sending_at j (Reveal k) held) [] [] room ≡ Next (receiving_at j (Reveal k) 0)
  unfolding send_answer answer when_sending holds
  sends_reveal = rw ok.sends

  -- .. and sending writes nothing more.
  revealing_is : revealing O P l j held k room ms ws ≡ put_marks (layout P.circuit) l ms
  unfolding send_scratch leave when_sending noted
  revealing_is = rw ok.sends marked_is

  -- There are marks of all parties, and room for them.
  marks_long : length ms ≡ P.parties * commit_words
  unfolding ask_receive ask_receive_round when_receiving shape_words
  marks_long = eqb-true _ _ (ask_true 19 0 _ (then_left _ _ (then_right _ _ (then_right _ _ (then_right (ask_lent size P l) _ ok.hears)))))

  words_long : length ws ≡ P.parties * reveal_words
  unfolding ask_receive ask_receive_round when_receiving shape_words
  words_long = eqb-true _ _ (ask_true 19 0 _ (then_left _ _ (then_right _ _ (then_right _ _ (then_right (ask_lent size P _) _ ok.hears_reveal)))))

  module _ (some : 0 < size) where
    space : scratch_size P.parties P.circuit ≤ length l
    unfolding ask_receive
    space = (lends some P l (then_left (ask_lent size P l) _ ok.hears)).room

    marks_are : marks_of P.parties (layout P.circuit) (revealing O P l j held k room ms ws) ≡ ms
    marks_are =
        ap (marks_of P.parties (layout P.circuit)) revealing_is
        ∙ marks_put (layout P.circuit) l P.parties ms marks_long (marks_room P.parties P.circuit space)

    value_is : read (layout P.circuit) (revealing O P l j held k room ms ws) (Value 0) ≡ read (layout P.circuit) l (Value 0)
    value_is =
        ap (λ (x : List ℕ). read (layout P.circuit) x (Value 0)) revealing_is
        ∙ read_marks (layout P.circuit) l P.parties ms marks_long (marks_room P.parties P.circuit space) (Value 0)
        (unfold layout in room_one P.circuit)

    hears_reveal : Decides O P.parties ms ws (stopped_at j) (goes_on O P l j k) (last_answer O P l j held k room ms ws)
    hears_reveal =
        subst (λ (on : Answer). Decides O P.parties ms ws (stopped_at j) on (last_answer O P l j held k room ms ws))
        (goes_on_alike O P l _ j k value_is)
        (subst
        (λ (marks : List ℕ). Decides O P.parties marks ws (stopped_at j) (goes_on O P (revealing O P l j held k room ms ws) j k) (last_answer O P l j held k room ms ws))
        marks_are
        (reveal_decides O P (revealing O P l j held k room ms ws) j 0 k ws ok.hears_reveal))

    pub is_altered : Altered O P l j held k room ms ws
    is_altered = record { heard_commit = hears_commit O P l j held k ms ok.hears; sent_reveal = sends_reveal; heard_reveal = hears_reveal }

    module _ (i share : ℕ) (nonce : List ℕ) (c : Changes P.parties ms ws i share nonce) where
      -- what party i committed to, and what is heard of it
      abbrev promised : List ℕ
      promised = revealed share (words_of nonce)

      abbrev shown : List ℕ
      shown = band reveal_words ws i

      promised_low : (t : ℕ) → get_or promised t 0 < 2 ^ 32
      promised_low = then_low share (words_of nonce) c.share_low (words_low nonce c.nonce_low)

      shown_low : (t : ℕ) → get_or shown t 0 < 2 ^ 32
      unfolding band
      shown_low = below_part ws reveal_words (i * reveal_words) c.heard_low

      -- The bytes of the words that are promised are the share's and the nonce.
      promised_bytes : bytes promised ≡ bytes_of 4 share ++ nonce
      unfolding bytes
      promised_bytes = ap (λ (b : List ℕ). bytes_of 4 share ++ b) (bytes_back 8 nonce c.nonce_long c.nonce_low)

      -- Where the reveal fits, both have one hash.
      collides : Fits O P.parties ms ws i → Collides (bytes_of 4 share ++ nonce) (bytes shown)
      unfolding mark
      collides fit =
          record {
            long =
                ap length (sym promised_bytes) ∙ length_bytes promised
                ∙ ap (λ (m : ℕ). 4 * suc m) (length_words 8 nonce c.nonce_long);
            long' = length_bytes shown ∙ ap (λ (m : ℕ). 4 * m) (length_band reveal_words P.parties ws (omega (arith, words_long)) i c.within);
            low = word_bytes_low 4 share nonce c.nonce_low;
            low' = bytes_low shown;
            differ = λ e. c.other (same_words shown promised shown_low promised_low (sym (promised_bytes ∙ e)));
            same_hash =
                ap sha256 (sym promised_bytes) ∙ sym (digest_is promised) ∙ sym (fit ∙ c.committed) ∙ digest_is shown;
          }

      -- So the answer names that party or one before it, or there is a collision.
      pub found_out : FoundOut P.parties ms ws (stopped_at j) (last_answer O P l j held k room ms ws) i share nonce
      found_out = go (misfit (suc i) ms ws) refl
        where
          go : (m : Blame) → misfit (suc i) ms ws ≡ m → FoundOut P.parties ms ws (stopped_at j) (last_answer O P l j held k room ms ws) i share nonce
          go Nobody e = inr (collides (all_fit O ms ws (suc i) e i (omega arith)))
          go (Blames h) e =
              let lowest = found_lowest O ms ws (suc i) h e in
              inl (
                h,
                omega (arith, lowest.within),
                (hears_reveal.named h).1
                    (record { within = omega (arith, lowest.within, c.within); misfits = lowest.misfits; earlier = lowest.earlier }),
              )

-- Whatever words are heard, the marks that decide are those that were heard.
pub alterable : {O : Ops} → Field O → Alterable O
alterable {O} F P l j held k room ms ws ok = is_altered O P l j held k room ms ws ok (omega (arith, F.one_lt))

-- Marks bind.
pub binding : {O : Ops} → Field O → Binding O
binding {O} F P l j held k room ms ws ok i share nonce c = found_out O P l j held k room ms ws ok (omega (arith, F.one_lt)) i share nonce c

-- The same at the operations that the contracts of the entries cite.
pub reveal_decides_here : RevealDecides ops
reveal_decides_here = reveal_decides ops

pub keeping_here : Keeping ops
keeping_here = keeping laws

pub alterable_here : Alterable ops
alterable_here = alterable laws

pub binding_here : Binding ops
binding_here = binding laws
