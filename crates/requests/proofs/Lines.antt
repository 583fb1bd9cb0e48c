-- One number, the words of a position, and a line, as the code finds them.
-- Assumes nothing.
use Prim.Native.Nat.{ℕ, suc, ◌+◌, ◌-◌, ◌<◌, ◌≤◌}
use mathlib.Core.Path.{◌≡◌, refl, sym, ◌∙◌}
use mathlib.Core.Logic.{◌≢◌}
use mathlib.Core.List.{List, [], ◌∷◌}
use native.Mathlib.Omega.{arith}
use native.Mathlib.Numerals.{add-one}
use lib.ListN.{length, get_or, take, drop}
use borrow.Author.Tests.{lt-ltb, le-ltb, eq-eqb, ne_eqb}
use Rattle.text.specs.Text as X
use Rattle.text.specs.Text.{numbers_in, at_start, read_into}
use Rattle.text.specs.Code.{Word, told, numbers_told}
use Rattle.text.specs.declared.Span.{Span}
use Rattle.text.specs.declared.Fault.{Fault}
use Rattle.text.specs.declared.Fault.TheVariants.{TooMany}
use lib.Dec.{eqb}
use Rattle.std.specs.Prelude.{Option, None, Some, Result, Ok, Err, OnErr}
use Rattle.std.proofs.lemmas.List.{take_rest}
use Rattle.requests.specs.declared.naming.Entry.{Entry}
use Rattle.requests.specs.declared.request.Request.{Request}
use Rattle.protocol.specs.declared.Stage.{Stage}
use Rattle.party.specs.declared.Position as At
use Rattle.requests.specs.Names.{entry_named, stage_named}
use Rattle.requests.specs.Order.{placed}
use Rattle.requests.specs.Words.{start_from, end_from, word_from, ends, nth}
use Rattle.requests.specs.Lines.{one_of, one_in, position_in, goes, begin, empty, take_field, take_named, take_line}

-- what was told, where there is room for one number
one_told : (e : X.Ending) (ns : List ℕ) → told (length ns) e ≡ Ok 1 → Ok (get_or (at_start ns (0 ∷ [])) 0 0) ≡ one_of e ns
unfolding told one_of at_start
one_told X.Whole [] p = let z : ◌≡◌ {A = ℕ} 0 1 = cc in absurd (omega arith)
one_told X.Whole (m ∷ []) p = refl
one_told X.Whole (m ∷ k ∷ ns) p = let z : suc (suc (length ns)) ≡ 1 = cc in absurd (omega arith)
one_told X.Unlike ns p = absurd cc
one_told X.TooLarge ns p = absurd cc
one_told X.TooMany ns p = absurd cc

other_told : (e : X.Ending) (ns : List ℕ) {n : ℕ} → told (length ns) e ≡ Ok n → n ≢ 1 → Err TooMany ≡ one_of e ns
unfolding told one_of
other_told X.Whole [] p q = refl
other_told X.Whole (m ∷ []) {n} p q = let z : n ≡ 1 = cc in absurd (q z)
other_told X.Whole (m ∷ k ∷ ns) p q = refl
other_told X.Unlike ns p q = absurd cc
other_told X.TooLarge ns p q = absurd cc
other_told X.TooMany ns p q = refl

fault_told : (e : X.Ending) (ns : List ℕ) {f : Fault} → told (length ns) e ≡ Err f → Err f ≡ one_of e ns
unfolding told one_of
fault_told X.Whole ns p = absurd cc
fault_told X.Unlike ns p = sym p
fault_told X.TooLarge ns p = sym p
fault_told X.TooMany ns p = sym p

module _ (text : List ℕ) {read : Result ℕ Fault} (told : read ≡ numbers_told (numbers_in 1 text)) where
  pub one_number : {list : List ℕ} → list ≡ read_into text (0 ∷ []) → read ≡ Ok 1 → Ok (get_or list 0 0) ≡ one_in text
  unfolding one_in numbers_told read_into
  one_number e p = rw e (one_told (numbers_in 1 text).ending (numbers_in 1 text).numbers (sym told ∙ p))

  pub not_one : {n : ℕ} → read ≡ Ok n → n ≢ 1 → Err TooMany ≡ one_in text
  unfolding one_in numbers_told
  not_one p q = other_told (numbers_in 1 text).ending (numbers_in 1 text).numbers (sym told ∙ p) q

  pub faulty : {f : Fault} → read ≡ Err f → Err f ≡ one_in text
  unfolding one_in numbers_told
  faulty p = fault_told (numbers_in 1 text).ending (numbers_in 1 text).numbers (sym told ∙ p)

-- a word that is found is the definition's
module _ {line : List ℕ} {from : ℕ} {w : Span} (found : Word line from w) where
  pub word_start : w.start ≡ start_from line from
  unfolding start_from
  word_start = found.start

  pub word_end : w.end ≡ end_from line from
  unfolding start_from end_from
  word_end = rw (← found.start) found.end

  pub word_text : take (w.end - w.start) (drop w.start line) ≡ word_from line from
  unfolding word_from
  word_text = rw (word_start, word_end)

-- a word that is found by its number
module _ {text : List ℕ} (k : ℕ) {w : Span} (found : Word text (ends k text) w) where
  pub nth_text : take (w.end - w.start) (drop w.start text) ≡ nth k text
  unfolding nth
  nth_text = word_text found

  pub next_word : {v : Span} → Word text w.end v → Word text (ends (k + 1) text) v
  unfolding ends
  next_word next = rw (add-one k, ← word_end found) next

module _ {text : List ℕ} {a b c d : Span} (first : Word text (ends 0 text) a) (second : Word text (ends 1 text) b) (third : Word text (ends 2 text) c) (last : Word text (ends 3 text) d) where
  pub followed : d.start < d.end → None ≡ position_in text
  unfolding position_in
  followed h = rw (← word_start last, ← word_end last, lt-ltb d.start d.end h)

  pub position_read : {g h : Result ℕ Fault} {s : Option Stage} {p : Option At.Position} → d.end ≤ d.start
      → g ≡ one_in (take (a.end - a.start) (drop a.start text))
      → s ≡ stage_named (take (b.end - b.start) (drop b.start text))
      → h ≡ one_in (take (c.end - c.start) (drop c.start text))
      → p ≡ placed g s h → p ≡ position_in text
  unfolding position_in
  position_read n e f k q = rw (q, e, f, k, nth_text 0 first, nth_text 1 second, nth_text 2 third, ← word_start last, ← word_end last, le-ltb d.start d.end n)

-- what holds in any case holds where there is an error
pub whatever : {T E P : Type 0} (r : Result T E) → P → OnErr r P
whatever (Ok x) p = tt
whatever (Err e) p = p

-- what a line comes to, by its first word
module _ (line : List ℕ) (q : Request) {w : Span} (first : Word line 0 w) where
  pub line_empty : w.start ≡ w.end → goes q ≡ take_line line q
  unfolding take_line empty
  line_empty e = rw (← word_start first, ← word_end first, eq-eqb w.start w.end e)

  module _ (some : w.start ≢ w.end) where
    pub line_comment : get_or line 0 0 ≡ 35 → goes q ≡ take_line line q
    unfolding take_line empty
    line_comment e = rw (← word_start first, ← word_end first, ne_eqb w.start w.end some, eq-eqb (get_or line 0 0) 35 e)

    module _ (plain : get_or line 0 0 ≢ 35) {named : Option Entry} (is_named : named ≡ entry_named (take (w.end - w.start) (drop w.start line))) where
      named_line : take_line line q ≡ take_named named line q
      unfolding take_line empty
      named_line = rw (is_named, word_text first, ← word_start first, ← word_end first, ne_eqb w.start w.end some, ne_eqb (get_or line 0 0) 35 plain)

      pub line_entry : {entry : Entry} {v : Span} → named ≡ Some entry → Word line w.end v → goes (begin (Some entry) (eqb v.start v.end) q) ≡ take_line line q
      unfolding empty
      line_entry e after = rw (named_line, e, ← word_end first, ← word_start after, ← word_end after)

      pub line_field : named ≡ None → take_field (take (w.end - w.start) (drop w.start line)) (take (length line - w.end) (drop w.end line)) w.end q ≡ take_line line q
      line_field e = rw (named_line, e, take_rest line w.end, word_text first, ← word_end first)
