-- The loop of `read_numbers`: what it has read so far, and how each byte moves it on.
-- Assumes nothing.
use Rattle.std.proofs.Common.{ℕ, ◌+◌, ◌-◌, ◌<◌, ◌≤◌, ◌≡◌, refl, sym, ◌∙◌, Bool, true, false, cond, ◌||◌, List, length, get_or, take, drop, ltb, Option, None, Some, IsSome, is_some, Result, Ok, Err, ltb-true, arith}
use Rattle.std.proofs.lemmas.List.{drop_more, drop_all, drop-drop, take-append-drop, length-take-le}
use Rattle.text.specs.Text.{is_space, is_digit, whole, more, reads, numbers_in, at_start, read_into, stopped, Begun, Ending, Reading, Whole, Unlike, TooLarge, TooMany, number_end}
use Rattle.text.specs.Code.{begun_of, told, numbers_told, digit_told}
use Rattle.text.specs.declared.Fault.{Fault}
use Rattle.text.specs.declared.Fault.TheVariants as F

-- the bytes before i are read; list₀ is the list as it was
pub record SoFar (text list₀ list : List ℕ) (count : ℕ) (begun : Option ℕ) (i : ℕ) : Type 0 where
  pub fits : count ≤ length list
  pub room : IsSome begun → count < length list
  pub long : length list ≡ length list₀
  pub rest : drop count list ≡ drop count list₀
  pub reading : reads (length list₀) (begun_of (take count list) begun) (drop i text) ≡ numbers_in (length list₀) text

pub starts : (text list : List ℕ) → SoFar text list list 0 None 0
unfolding numbers_in
starts text list = record { fits = omega arith; room = λ e. absurd cc; long = refl; rest = refl; reading = refl }

-- what is the same from a place on is the same from a later place on
drop_later : (n m : ℕ) (xs ys : List ℕ) → n ≤ m → drop n xs ≡ drop n ys → drop m xs ≡ drop m ys
drop_later n m xs ys h e =
    let k : m ≡ n + (m - n) = omega arith in
    rw (k, sym (drop-drop (m - n) n xs), sym (drop-drop (m - n) n ys), e)

-- a list whose first numbers are these, and which is the same as before behind them
at_start_lem : {numbers : List ℕ} (later before : List ℕ) (n : ℕ) → n ≤ length later → take n later ≡ numbers → drop n later ≡ drop n before
    → (length numbers ≡ n) × (later ≡ at_start numbers before)
unfolding at_start
at_start_lem later before n h e r = rw (← e, length-take-le n later h) (refl, sym (take-append-drop n later) ∙ rw r)

-- the end that a fault is
abbrev ending_of : Fault → Ending
ending_of F.Unlike = Unlike
ending_of F.TooLarge = TooLarge
ending_of F.TooMany = TooMany

told_fault : (n : ℕ) (f : Fault) → told n (ending_of f) ≡ Err f
unfolding told
told_fault n F.Unlike = refl
told_fault n F.TooLarge = refl
told_fault n F.TooMany = refl

-- what a text comes to after a byte that is no space
abbrev after : ℕ → Begun → List ℕ → Result ℕ Fault → Reading
after room s rest (Ok value) = reads room (begun_of s.numbers (Some value)) rest
after room s rest (Err fault) = stopped s (ending_of fault)

module _ (room : ℕ) (s : Begun) (text : List ℕ) (i : ℕ) where
  reads_ends : length text ≤ i → reads room s (drop i text) ≡ record { numbers = whole s; ending = Whole }
  unfolding reads
  reads_ends h = rw drop_all

  module _ (h : i < length text) where
    reads_space : is_space (get_or text i 0) ≡ true → reads room s (drop i text) ≡ reads room (begun_of (whole s) None) (drop (i + 1) text)
    unfolding reads
    reads_space e = rw (drop_more text i 0 h, e)

    reads_other : is_space (get_or text i 0) ≡ false
        → reads room s (drop i text)
        ≡ cond (is_digit (get_or text i 0)) (cond (s.within || ltb (length s.numbers) room)
        (cond (ltb (more s (get_or text i 0)) number_end) (reads room (begun_of s.numbers (Some (more s (get_or text i 0)))) (drop (i + 1) text)) (stopped s TooLarge))
        (stopped s TooMany)) (stopped s Unlike)
    unfolding reads
    reads_other e = rw (drop_more text i 0 h, e)

after_tests : (room : ℕ) (s : Begun) (rest : List ℕ) (d f g : Bool) (v : ℕ)
    → cond d (cond f (cond g (reads room (begun_of s.numbers (Some v)) rest) (stopped s TooLarge)) (stopped s TooMany)) (stopped s Unlike)
    ≡ after room s rest (cond d (cond f (cond g (Ok v) (Err F.TooLarge)) (Err F.TooMany)) (Err F.Unlike))
after_tests room s rest false f g v = refl
after_tests room s rest true false g v = refl
after_tests room s rest true true false v = refl
after_tests room s rest true true true v = refl

-- a digit may follow only where there is room
allowed : (u : ℕ) {v : ℕ} (d f g : Bool) → cond d (cond f (cond g (Ok u) (Err F.TooLarge)) (Err F.TooMany)) (Err F.Unlike) ≡ Ok v → f ≡ true
allowed u false f g e = absurd cc
allowed u true false g e = absurd cc
allowed u true true g e = refl

digit_room : {count n : ℕ} (begun : Option ℕ) → (IsSome begun → count < n) → (is_some begun || ltb count n) ≡ true → count < n
digit_room (Some value) r e = r refl
digit_room None r e = ltb-true _ _ e

module _ (text list₀ list : List ℕ) (count : ℕ) (begun : Option ℕ) (i : ℕ) (s : SoFar text list₀ list count begun i) where
  pub rest_after : (later : List ℕ) (n : ℕ) → count ≤ n → drop n later ≡ drop n list → drop n later ≡ drop n list₀
  rest_after later n h e = e ∙ drop_later count n list list₀ h s.rest

  pub ends : (later : List ℕ) (n : ℕ) → length text ≤ i → take n later ≡ whole (begun_of (take count list) begun) → count ≤ n → n ≤ length later → drop n later ≡ drop n list
      → (Ok n ≡ numbers_told (numbers_in (length list₀) text)) × (later ≡ read_into text list₀)
  unfolding numbers_told told read_into
  ends later n h e k f r =
      let (a, b) = at_start_lem later list₀ n f e (rest_after later n k r) in
      rw (sym s.reading, reads_ends _ _ text i h) (rw a, b)

  module _ (h : i < length text) where
    pub spaces : {q : Bool} (later : List ℕ) (n : ℕ) → q ≡ is_space (get_or text i 0) → q ≡ true
        → take n later ≡ whole (begun_of (take count list) begun)
        → count ≤ n → n ≤ length later → length later ≡ length list → drop n later ≡ drop n list
        → SoFar text list₀ later n None (i + 1)
    spaces later n e q t a b l r = record {
      fits = b;
      room = λ x. absurd cc;
      long = l ∙ s.long;
      rest = rest_after later n a r;
      reading = rw t (sym (reads_space _ _ text i h (sym e ∙ q)) ∙ s.reading);
    }

    module _ {q : Bool} (e : q ≡ is_space (get_or text i 0)) (e₀ : q ≡ false) {r : Result ℕ Fault} (d : r ≡ digit_told begun (get_or text i 0) (ltb count (length list))) where
      moved : after (length list₀) (begun_of (take count list) begun) (drop (i + 1) text) r ≡ numbers_in (length list₀) text
      unfolding digit_told more
      moved =
          let asked : ltb count (length list) ≡ ltb (length (take count list)) (length list₀) = rw (length-take-le count list s.fits, s.long) in
          rw (d, ← after_tests _ (begun_of (take count list) begun) (drop (i + 1) text), asked, ← reads_other _ (begun_of (take count list) begun) text i h (sym e ∙ e₀)) s.reading

      pub faulted : {f : Fault} → r ≡ Err f → (Err f ≡ numbers_told (numbers_in (length list₀) text)) × (list ≡ read_into text list₀)
      unfolding numbers_told read_into stopped
      faulted {f} g =
          let (a, b) = at_start_lem list list₀ count s.fits refl s.rest in
          rw (sym moved, g) (sym (told_fault _ f), b)

      pub digits : {v : ℕ} → r ≡ Ok v → SoFar text list₀ list count (Some v) (i + 1)
      unfolding digit_told
      digits {v} g = record {
        fits = s.fits;
        room = λ x. digit_room begun s.room (allowed _ _ _ _ (sym d ∙ g));
        long = s.long;
        rest = s.rest;
        reading = rw g at moved;
      }
