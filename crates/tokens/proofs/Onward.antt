-- Reading on by one byte of a text, as the code's proofs use it: the byte is stepped over, or it dies, or it opens or closes too much, or the
-- text ends.
-- Assumes nothing.
use Prim.Native.Nat.{ℕ, suc, ◌+◌, ◌≤◌, ◌<◌}
use mathlib.Core.Path.{◌≡◌, refl}
use mathlib.Core.Bool.{Bool, true, false, ◌&&◌, true≢false}
use mathlib.Core.List.{List, ◌∷◌}
use mathlib.Core.Option.{some, none}
use native.Mathlib.Numerals.{add-one}
use lib.ListN.{length, get_or, drop, drop_of_length-le}
use lib.Seq.{drop-cons}
use lib.Dec.{eqb, ltb}
use borrow.Author.Tests.{lt-ltb, le-ltb, eq-eqb, ltb-true, ltb-false, eqb-true, eqb-false}
use Rattle.circuit.specs.Accept.{most_gates}
use Rattle.circuit.proofs.Tests.{both_left, both_right, both_true}
use Rattle.forms.specs.Refusals.{deepest}
use Rattle.forms.specs.Machine.{State, step, read, ended, too_deep, too_many, open_in, closed_in, No}
use Rattle.tokens.specs.Code.{is_at, Calm}

module _ (top : ℕ) where
  pub read_on : (s t : State) (b : ℕ) (bs : List ℕ) (i : ℕ) → step top s b ≡ some t → Calm t → read top s (b ∷ bs) i ≡ read top t bs (suc i)
  unfolding read
  read_on s t b bs i e c = rw (e, read) (rw (c.shallow, c.few))

  pub read_dies : (s : State) (b : ℕ) (bs : List ℕ) (i : ℕ) → step top s b ≡ none → read top s (b ∷ bs) i ≡ No 22 i
  unfolding read
  read_dies s b bs i e = rw (e, read)

  pub read_deep : (s t : State) (b : ℕ) (bs : List ℕ) (i : ℕ) → step top s b ≡ some t → too_deep t ≡ true → read top s (b ∷ bs) i ≡ No 23 i
  unfolding read
  read_deep s t b bs i e c = rw (e, read) (rw c)

  pub read_many : (s t : State) (b : ℕ) (bs : List ℕ) (i : ℕ) →
      step top s b ≡ some t → too_deep t ≡ false → too_many t ≡ true → read top s (b ∷ bs) i ≡ No 24 i
  unfolding read
  read_many s t b bs i e c m = rw (e, read) (rw (c, m))

-- what the code's `expect` tells
pub at_inside : (text : List ℕ) (i b : ℕ) → is_at text i b ≡ true → i < length text
unfolding is_at
at_inside text i b e = ltb-true i (length text) (both_left (ltb i (length text)) (eqb (get_or text i 0) b) e)

pub at_is : (text : List ℕ) (i b : ℕ) → is_at text i b ≡ true → get_or text i 0 ≡ b
unfolding is_at
at_is text i b e = eqb-true (get_or text i 0) b (both_right (ltb i (length text)) (eqb (get_or text i 0) b) e)

pub is_at_lem : (text : List ℕ) (i b : ℕ) → i < length text → get_or text i 0 ≡ b → is_at text i b ≡ true
unfolding is_at
is_at_lem text i b h e = both_true (lt-ltb i (length text) h) (eq-eqb (get_or text i 0) b e)

-- the byte at a place of a text
module _ (top : ℕ) (text : List ℕ) (i : ℕ) where
  pub on : (s t : State) → i < length text → step top s (get_or text i 0) ≡ some t → Calm t →
      read top s (drop i text) i ≡ read top t (drop (i + 1) text) (i + 1)
  on s t h e c = rw (drop-cons text i 0 h, add-one i) (read_on top s t (get_or text i 0) (drop (suc i) text) i e c)

  pub dies : (s : State) → i < length text → step top s (get_or text i 0) ≡ none → read top s (drop i text) i ≡ No 22 i
  dies s h e = rw (drop-cons text i 0 h) (read_dies top s (get_or text i 0) (drop (suc i) text) i e)

  pub deep : (s t : State) → i < length text → step top s (get_or text i 0) ≡ some t → too_deep t ≡ true → read top s (drop i text) i ≡ No 23 i
  deep s t h e c = rw (drop-cons text i 0 h) (read_deep top s t (get_or text i 0) (drop (suc i) text) i e c)

  pub many : (s t : State) → i < length text → step top s (get_or text i 0) ≡ some t → too_deep t ≡ false → too_many t ≡ true →
      read top s (drop i text) i ≡ No 24 i
  many s t h e c m = rw (drop-cons text i 0 h) (read_many top s t (get_or text i 0) (drop (suc i) text) i e c m)

  pub ends : (s : State) → length text ≤ i → ended s i ≡ No 22 i → read top s (drop i text) i ≡ No 22 i
  unfolding read
  ends s h e = rw (drop_of_length-le text h) e

  pub expected : (b : ℕ) (s t : State) → is_at text i b ≡ true → step top s b ≡ some t → Calm t →
      read top s (drop i text) i ≡ read top t (drop (i + 1) text) (i + 1)
  expected b s t e p c = on s t (at_inside text i b e) (rw (at_is text i b e) p) c

  pub unexpected : (b : ℕ) (s : State) → is_at text i b ≡ false → ((x : ℕ) → (x ≡ b → ⊥) → step top s x ≡ none) → ended s i ≡ No 22 i →
      read top s (drop i text) i ≡ No 22 i
  unfolding is_at
  unexpected b s e d q = go (ltb i (length text)) refl (eqb (get_or text i 0) b) refl e
    where
      go : (x : Bool) → ltb i (length text) ≡ x → (y : Bool) → eqb (get_or text i 0) b ≡ y → (x && y) ≡ false → read top s (drop i text) i ≡ No 22 i
      go false p y r e = ends s (ltb-false i (length text) p) q
      go true p true r e = absurd (true≢false e)
      go true p false r e = dies s (ltb-true i (length text) p) (d (get_or text i 0) (eqb-false (get_or text i 0) b r))

-- depth and count, by their numbers
pub calm : (s : State) → open_in s ≤ deepest → closed_in s ≤ most_gates → Calm s
unfolding too_deep too_many
calm s d l = record { shallow = le-ltb deepest (open_in s) d; few = le-ltb most_gates (closed_in s) l }

pub calm_open : (s : State) → Calm s → open_in s ≤ deepest
unfolding too_deep
calm_open s c = ltb-false deepest (open_in s) c.shallow

pub calm_closed : (s : State) → Calm s → closed_in s ≤ most_gates
unfolding too_many
calm_closed s c = ltb-false most_gates (closed_in s) c.few
