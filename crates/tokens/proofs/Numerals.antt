-- How the code's number readers keep pace with the machine. Digit by digit: the first, one more, and each way to die. And all at once: the
-- digits of a number that fits are read to it.
-- Assumes nothing.
use Prim.Native.Nat.{ℕ, ◌+◌, ◌*◌, ◌-◌, ◌≤◌, ◌<◌}
use mathlib.Core.Path.{◌≡◌, refl, ◌∙◌}
use mathlib.Core.Bool.{Bool, true, false, cond}
use mathlib.Core.List.{List}
use mathlib.Core.Option.{none}
use native.Mathlib.Omega.{arith}
use lib.ListN.{length, get_or, drop}
use lib.Dec.{leb}
use borrow.Author.Tests.{eq-eqb, ne_eqb}
use Rattle.std.proofs.lemmas.Bool.{false_from_ne_true}
use Rattle.circuit.specs.Accept.{most_gates}
use Rattle.field.specs.Words.{largest}
use Rattle.forms.specs.Form.{Form, named, number_fits, closing, naught, ten}
use Rattle.forms.specs.Machine.{
  Frame,
  Numbered,
  whose,
  at,
  number,
  digit,
  is_digit,
  name_lives,
  number_lives,
  step,
  when,
  read,
  ended,
  open_here,
  open_in,
  closed_here,
  closed_in,
  too_deep,
  too_many,
}
use Rattle.forms.proofs.Decimal.{digit_least, digit_most}
use Rattle.tokens.specs.Code.{Calm, NumberIs, NumberDies, known, lives_as, fits_as, Wanted}
use Rattle.tokens.proofs.Onward.{on, dies, ends, is_at_lem}
use Rattle.tokens.proofs.Naming.{lives_small}

-- the digits so far have this value
pub record Reached (text table : List ℕ) (naming : Bool) (from value i : ℕ) : Type 0 where
  pub reads : (rows : List Form) (stack : List Frame) (p : Numbered) → Wanted table naming rows stack p →
      read largest (at rows stack (number p)) (drop from text) from ≡ read largest (at rows stack (digit p value)) (drop i text) i
  pub small : value ≤ largest
  pub inside : i ≤ length text

-- a byte is a digit of this value
abbrev pub Digit : ℕ → ℕ → Type 0
Digit b d = (is_digit b ≡ true) × (d ≡ b - naught)

pub digit_small : {d : ℕ} (b : ℕ) → Digit b d → d < ten
digit_small {d} b g = omega (arith, digit_least b g.0, digit_most b g.0)

-- a state that holds digits has as many forms open, and as many gates closed, as before them
pub still : (rows : List Form) (stack : List Frame) (p : Numbered) (v : ℕ) → Calm (at rows stack (number p)) → Calm (at rows stack (digit p v))
unfolding too_deep too_many open_in closed_in open_here closed_here
still rows stack p v c = record { shallow = c.shallow; few = c.few }

module _ (text table : List ℕ) (naming : Bool) where
  -- the machine's tests are the table's
  module _ (rows : List Form) (stack : List Frame) (p : Numbered) (w : Wanted table naming rows stack p) where
    pub lives_at : (v : ℕ) → number_lives largest rows (whose p) v ≡ lives_as table naming v
    unfolding number_lives number_fits lives_as
    lives_at v = rw (w.naming_is, w.marked) (go naming)
      where
        go : (c : Bool) → cond c (name_lives (known table) 0 v) (cond c (named (known table) v) (leb v largest))
            ≡ cond c (name_lives (known table) 0 v) (leb v largest)
        go true = refl
        go false = refl

    pub fits_at : (v : ℕ) → number_fits largest rows (whose p) v ≡ fits_as table naming v
    unfolding number_fits fits_as
    fits_at v = rw (w.naming_is, w.marked)

  module _ (from : ℕ) where
    pub empty : length text ≤ from → NumberDies text table naming from from
    empty h = record { dies = λ rows stack p w. ends largest text from (at rows stack (number p)) h (unfold ended in refl) }

    pub no_digit : from < length text → (is_digit (get_or text from 0) ≡ true → ⊥) → NumberDies text table naming from from
    no_digit h e = record {
      dies = λ rows stack p w. dies largest text from (at rows stack (number p)) h (unfold step when in rw (false_from_ne_true (is_digit (get_or text from 0)) e));
    }

    -- the first digit
    module _ {d : ℕ} (h : from < length text) (g : Digit (get_or text from 0) d) where
      pub no_number : lives_as table naming d ≡ false → NumberDies text table naming from from
      no_number m = record {
        dies = λ rows stack p w. dies largest text from (at rows stack (number p)) h
            (unfold step when in rw (g.0, ← g.1, lives_at rows stack p w d, m));
      }

      pub first_digit : length table ≤ most_gates → lives_as table naming d ≡ true → Reached text table naming from d (from + 1)
      first_digit k m = record {
        reads = λ rows stack p w. on largest text from (at rows stack (number p)) (at rows stack (digit p d)) h
            (unfold step when in rw (g.0, ← g.1, lives_at rows stack p w d, m)) (still rows stack p d w.calm);
        small = lives_small table naming d k m;
        inside = omega arith;
      }

    module _ (value i : ℕ) (so_far : Reached text table naming from value i) where
      pub ended_here : length text ≤ i → NumberDies text table naming from (length text)
      ended_here h =
          let e : length text ≡ i = omega (arith, so_far.inside) in
          rw e (record {
            dies = λ rows stack p w. so_far.reads rows stack p w ∙ ends largest text i (at rows stack (digit p value)) h (unfold ended in refl);
          })

      module _ (h : i < length text) where
        pub closes_here : get_or text i 0 ≡ closing → fits_as table naming value ≡ true → NumberIs text table naming from value i
        closes_here e f = record { reads = so_far.reads; fitting = f; closes = is_at_lem text i closing h e }

        -- wherever the machine stops at this byte, so does the code
        stops : ((rows : List Form) (stack : List Frame) (p : Numbered) → Wanted table naming rows stack p →
            step largest (at rows stack (digit p value)) (get_or text i 0) ≡ none) → NumberDies text table naming from i
        stops f = record {
          dies = λ rows stack p w. so_far.reads rows stack p w ∙ dies largest text i (at rows stack (digit p value)) h (f rows stack p w);
        }

        pub unfit : get_or text i 0 ≡ closing → fits_as table naming value ≡ false → NumberDies text table naming from i
        unfit e f = stops (λ rows stack p w. unfold step when in rw (e, fits_at rows stack p w value, f))

        module _ (b : get_or text i 0 ≡ closing → ⊥) where
          pub other : (is_digit (get_or text i 0) ≡ true → ⊥) → NumberDies text table naming from i
          other e =
              stops (λ rows stack p w. unfold step when in
              rw (ne_eqb (get_or text i 0) closing b, false_from_ne_true (is_digit (get_or text i 0)) e))

          module _ {d : ℕ} (g : Digit (get_or text i 0) d) where
            pub leading : value ≡ 0 → NumberDies text table naming from i
            leading z =
                stops (λ rows stack p w. unfold step when in rw (ne_eqb (get_or text i 0) closing b, g.0, eq-eqb value 0 z))

            -- one digit more
            module _ (z : value ≡ 0 → ⊥) where
              pub large : lives_as table naming (value * ten + d) ≡ false → NumberDies text table naming from i
              large m =
                  stops (λ rows stack p w. unfold step when in
                  rw (ne_eqb (get_or text i 0) closing b, g.0, ne_eqb value 0 z, ← g.1, lives_at rows stack p w (value * ten + d), m))

              pub more : length table ≤ most_gates → lives_as table naming (value * ten + d) ≡ true →
                  Reached text table naming from (value * ten + d) (i + 1)
              more k m = record {
                reads = λ rows stack p w. so_far.reads rows stack p w
                    ∙ on largest text i (at rows stack (digit p value)) (at rows stack (digit p (value * ten + d))) h
                    (unfold step when in
                    rw (ne_eqb (get_or text i 0) closing b, g.0, ne_eqb value 0 z, ← g.1, lives_at rows stack p w (value * ten + d), m))
                    (still rows stack p (value * ten + d) w.calm);
                small = lives_small table naming (value * ten + d) k m;
                inside = omega arith;
              }
