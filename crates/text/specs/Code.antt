-- What the code's types stand for.
-- Assumes nothing.
use Rattle.std.specs.Prelude.{ℕ, ◌+◌, ◌*◌, ◌≤◌, ◌≡◌, Bool, true, false, cond, ◌||◌, List, length, drop, ltb, Option, is_some, unwrap_or, Result, Ok, Err}
use Rattle.text.specs.Text as X
use Rattle.text.specs.Text.{run, is_digit, digit, number_end}
use Rattle.text.specs.declared.Span.{Span}
use Rattle.text.specs.declared.Fault.{Fault}
use Rattle.text.specs.declared.Fault.TheVariants.{Unlike, TooLarge, TooMany}

-- the first word at or after a place
pub record Word (line : List ℕ) (from : ℕ) (w : Span) : Type 0 where
  pub start : w.start ≡ from + run true (drop from line)
  pub end : w.end ≡ w.start + run false (drop w.start line)
  pub ordered : w.start ≤ w.end
  pub inside : w.end ≤ length line

-- the numbers that are whole, and the one that is begun, if one is
abbrev pub begun_of : List ℕ → Option ℕ → X.Begun
begun_of numbers begun = record { numbers = numbers; within = is_some begun; value = unwrap_or begun 0 }

-- how many numbers are read, or what is wrong
unfoldable pub told : ℕ → X.Ending → Result ℕ Fault
told n X.Whole = Ok n
told n X.Unlike = Err Unlike
told n X.TooLarge = Err TooLarge
told n X.TooMany = Err TooMany

unfoldable pub numbers_told : X.Reading → Result ℕ Fault
numbers_told r = told (length r.numbers) r.ending

-- the number that is begun, with one more digit, or what is wrong with that byte
unfoldable pub digit_told : Option ℕ → ℕ → Bool → Result ℕ Fault
digit_told begun b room =
    cond (is_digit b)
    (cond (is_some begun || room)
    (cond (ltb (unwrap_or begun 0 * 10 + digit b) number_end) (Ok (unwrap_or begun 0 * 10 + digit b)) (Err TooLarge))
    (Err TooMany))
    (Err Unlike)
