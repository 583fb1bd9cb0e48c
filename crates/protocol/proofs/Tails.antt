-- The end of a scratch: a nonce and marks that are written are read back, and leave everything else as it was.
-- Assumes nothing.
use Prim.Native.Nat.{ℕ, ◌+◌, ◌*◌, ◌<◌, ◌≤◌}
use mathlib.Core.Path.{◌≡◌, refl, sym, ap, ◌∙◌}
use mathlib.Core.List.{List, ◌++◌, append_assoc}
use native.Mathlib.Omega.{arith}
use lib.ListN.{length, get_or, take, drop, length-append, length-drop, get_or-append}
use lib.Seq.{length-sets, sets-eq, length-take-le, take_at, drop_at, take-take, take-append-le, drop-append-le, get_or-take, take-add}
use Rattle.circuit.specs.Round.{commit_words, nonce_words}
use Rattle.protocol.specs.Scratch.{Layout, layout, Slot, Share, Mac, Value, ValueMac, slots_size, read, wire, written_at, nonce_at, marks_at, scratch_size, nonce_of, marks_of, put_nonce, put_marks}
use Rattle.protocol.specs.Holding.{Within, Worked}
use Rattle.protocol.proofs.Slots.{slot_fits}
use Rattle.protocol.proofs.Writing.{OpenedTo}

-- a part of the front of a list
drop_take : (b a : ℕ) (l : List ℕ) → b + a ≤ length l → drop b (take (b + a) l) ≡ take a (drop b l)
drop_take b a l h = ap (drop b) (take-add b a l) ∙ drop_at (take b l) (take a (drop b l)) b (length-take-le b l (omega arith))

-- words written at a place of a list
pub length_written : (k : ℕ) (ws xs : List ℕ) → length (written_at k ws xs) ≡ length xs
unfolding written_at
length_written k ws xs = length-sets xs k ws

module _ (k : ℕ) (ws xs : List ℕ) (h : k + length ws ≤ length xs) where
  front_long : length (take k xs) ≡ k
  front_long = length-take-le k xs (omega arith)

  pub written_is : written_at k ws xs ≡ take k xs ++ (ws ++ drop (k + length ws) xs)
  unfolding written_at
  written_is = sets-eq ws xs k h ∙ append_assoc (take k xs) ws (drop (k + length ws) xs)

  pub part_written : take (length ws) (drop k (written_at k ws xs)) ≡ ws
  part_written =
      rw written_is
      (ap (take (length ws)) (drop_at (take k xs) (ws ++ drop (k + length ws) xs) k front_long)
      ∙ take_at ws (drop (k + length ws) xs) (length ws) refl)

  pub take_written : (m : ℕ) → m ≤ k → take m (written_at k ws xs) ≡ take m xs
  take_written m l =
      rw written_is
      (take-append-le m (take k xs) (ws ++ drop (k + length ws) xs) (omega (arith, front_long)) ∙ take-take m k xs l)

  pub get_d_written : (i : ℕ) → i < k → get_or (written_at k ws xs) i 0 ≡ get_or xs i 0
  get_d_written i l =
      rw written_is
      (get_or-append (take k xs) (ws ++ drop (k + length ws) xs) 0 i (omega (arith, front_long)) ∙ get_or-take k xs i 0 l)

  -- a part that ends before the place
  pub before_written : (b a : ℕ) → b + a ≤ k → take a (drop b (written_at k ws xs)) ≡ take a (drop b xs)
  before_written b a l =
      sym (drop_take b a (written_at k ws xs) (omega (arith, length_written k ws xs)))
      ∙ ap (drop b) (take_written (b + a) l)
      ∙ drop_take b a xs (omega arith)

-- what lies beyond a list does not matter
pub written_front : (k : ℕ) (ws xs : List ℕ) → k + length ws ≤ length xs → (e : List ℕ) → written_at k ws (xs ++ e) ≡ written_at k ws xs ++ e
written_front k ws xs h e =
    written_is k ws (xs ++ e) (omega (arith, length-append xs e))
    ∙ rw (take-append-le k xs e (omega arith), drop-append-le (k + length ws) xs e h)
    (ap (λ (r : List ℕ). take k xs ++ r) (sym (append_assoc ws (drop (k + length ws) xs) e))
    ∙ sym (append_assoc (take k xs) (ws ++ drop (k + length ws) xs) e)
    ∙ ap (λ (r : List ℕ). r ++ e) (sym (written_is k ws xs h)))

-- a part of a list does not depend on what lies beyond the list
pub part_front : (b a : ℕ) (l e : List ℕ) → b + a ≤ length l → take a (drop b (l ++ e)) ≡ take a (drop b l)
part_front b a l e h = ap (take a) (drop-append-le b l e (omega arith)) ∙ take-append-le a (drop b l) e (omega (arith, length-drop b l))

module _ (y : Layout) (l : List ℕ) where
  -- both are written in place
  pub nonce_length : (ws : List ℕ) → length (put_nonce y l ws) ≡ length l
  unfolding put_nonce
  nonce_length ws = length_written (nonce_at y) ws l

  pub marks_length : (ws : List ℕ) → length (put_marks y l ws) ≡ length l
  unfolding put_marks
  marks_length ws = length_written (marks_at y) ws l

  -- the nonce's words
  module _ (ws : List ℕ) (long : length ws ≡ nonce_words) (room : marks_at y ≤ length l) where
    nonce_fits : nonce_at y + length ws ≤ length l
    unfolding marks_at
    nonce_fits = omega (arith, long, room)

    pub nonce_put : nonce_of y (put_nonce y l ws) ≡ ws
    unfolding nonce_of put_nonce
    nonce_put = ap (λ (n : ℕ). take n (drop (nonce_at y) (written_at (nonce_at y) ws l))) (sym long) ∙ part_written (nonce_at y) ws l nonce_fits

    pub read_nonce : (s : Slot) → Within y s → read y (put_nonce y l ws) s ≡ read y l s
    unfolding read put_nonce nonce_at
    read_nonce s w = get_d_written (slots_size y) ws l (unfold nonce_at in nonce_fits) _ (slot_fits y s (omega arith) w)

  -- and the marks of n parties
  module _ (n : ℕ) (ws : List ℕ) (long : length ws ≡ n * commit_words) (room : marks_at y + n * commit_words ≤ length l) where
    marks_fit : marks_at y + length ws ≤ length l
    marks_fit = omega (arith, long, room)

    pub marks_put : marks_of n y (put_marks y l ws) ≡ ws
    unfolding marks_of put_marks
    marks_put = ap (λ (k : ℕ). take k (drop (marks_at y) (written_at (marks_at y) ws l))) (sym long) ∙ part_written (marks_at y) ws l marks_fit

    pub nonce_marks : nonce_of y (put_marks y l ws) ≡ nonce_of y l
    unfolding nonce_of put_marks
    nonce_marks = before_written (marks_at y) ws l marks_fit (nonce_at y) nonce_words (unfold marks_at in omega arith)

    pub read_marks : (s : Slot) → Within y s → read y (put_marks y l ws) s ≡ read y l s
    unfolding read put_marks
    read_marks s w = get_d_written (marks_at y) ws l marks_fit _ (slot_fits y s (unfold marks_at nonce_at in omega arith) w)

  pub length_nonce : marks_at y ≤ length l → length (nonce_of y l) ≡ nonce_words
  unfolding nonce_of marks_at
  length_nonce h = length-take-le nonce_words (drop (nonce_at y) l) (omega (arith, length-drop (nonce_at y) l))

  -- an excess beyond the scratch does not matter
  module _ (e : List ℕ) where
    pub nonce_front : marks_at y ≤ length l → nonce_of y (l ++ e) ≡ nonce_of y l
    unfolding nonce_of marks_at
    nonce_front h = part_front (nonce_at y) nonce_words l e h

    pub marks_front : (n : ℕ) → marks_at y + n * commit_words ≤ length l → marks_of n y (l ++ e) ≡ marks_of n y l
    unfolding marks_of
    marks_front n h = part_front (marks_at y) (n * commit_words) l e h

    pub put_nonce_front : (ws : List ℕ) → length ws ≡ nonce_words → marks_at y ≤ length l → put_nonce y (l ++ e) ws ≡ put_nonce y l ws ++ e
    unfolding put_nonce marks_at
    put_nonce_front ws long h = written_front (nonce_at y) ws l (omega (arith, long)) e

    pub put_marks_front : (n : ℕ) (ws : List ℕ) → length ws ≡ n * commit_words → marks_at y + n * commit_words ≤ length l → put_marks y (l ++ e) ws ≡ put_marks y l ws ++ e
    unfolding put_marks
    put_marks_front n ws long h = written_front (marks_at y) ws l (omega (arith, long)) e

-- the slots of l' are those of l
abbrev pub SameSlots : Layout → List ℕ → List ℕ → Type 0
SameSlots y l l' = (s : Slot) → Within y s → read y l' s ≡ read y l s

-- so the parts of all gates are the same
pub wire_same : (y : Layout) (l l' : List ℕ) (x : ℕ) → SameSlots y l l' → x < y.gates → wire y l' x ≡ wire y l x
unfolding wire
wire_same y l l' x s h = λ i. record { share = s (Share x) h i; mac = s (Mac x) h i }

-- what is asked of slots is asked of both
pub worked_same : {q : ℕ} (c : List ℕ) {y : Layout} {l l' : List ℕ} (j : ℕ) → SameSlots y l l' → Worked q c y l j → Worked q c y l' j
worked_same c j s w x h v =
    let k = w x h v in
    record { within = k.within; share = rw (s (Share x) k.within) k.share; mac = rw (s (Mac x) k.within) k.mac }

pub opened_same : {q : ℕ} {y : Layout} {l l' : List ℕ} (u : ℕ) → SameSlots y l l' → OpenedTo q y l u → OpenedTo q y l' u
opened_same u s o t h =
    let k = o t h in
    record { within = k.within; value = rw (s (Value t) k.within) k.value; mac = rw (s (ValueMac t) k.within) k.mac }

-- the room of a whole scratch
module _ (n : ℕ) (c : List ℕ) {k : ℕ} (room : scratch_size n c ≤ k) where
  pub marks_room : marks_at (layout c) + n * commit_words ≤ k
  unfolding scratch_size
  marks_room = room

  pub nonce_room : marks_at (layout c) ≤ k
  nonce_room = omega (arith, marks_room)

  pub slots_room : slots_size (layout c) ≤ k
  unfolding marks_at nonce_at
  slots_room = omega (arith, nonce_room)
