-- A part of a text: its first byte, one byte more, how long it is, and what follows it.
-- Assumes nothing.
use Prim.Native.Nat.{ℕ, suc, ◌+◌, ◌-◌, ◌≤◌, ◌<◌}
use mathlib.Core.Path.{◌≡◌, sym, ap, ◌∙◌}
use mathlib.Core.List.{List, [], ◌∷◌, ◌++◌}
use native.Mathlib.Omega.{arith}
use native.Mathlib.Numerals.{add-one}
use lib.ListN.{length, get_or, take, drop, length-take, length-drop, take-append-drop}
use lib.Seq.{drop-cons, drop-drop, take-add, take-suc, get_or-drop}
use Rattle.tokens.specs.Code.{part}

module _ (text : List ℕ) where
  pub part_cons : (i to : ℕ) → i < to → to ≤ length text → part text i to ≡ get_or text i 0 ∷ part text (i + 1) to
  part_cons i to h l =
      let e : to - i ≡ suc (to - (i + 1)) = omega arith in
      rw (e, drop-cons text i 0 (omega arith), add-one i)

  pub part_none : (i to : ℕ) → to ≤ i → part text i to ≡ []
  part_none i to h = let e : to - i ≡ 0 = omega arith in rw e

  pub part_more : (from i : ℕ) → from ≤ i → i < length text → part text from (i + 1) ≡ part text from i ++ (get_or text i 0 ∷ [])
  part_more from i h l =
      let e : i + 1 - from ≡ suc (i - from) = omega arith in
      let q : from + (i - from) ≡ i = omega arith in
      rw (e, take-suc (drop from text) (i - from) 0 (simp length-drop (omega arith)), get_or-drop from text (i - from) 0, q)

  pub length_part : (from to : ℕ) → from ≤ to → to ≤ length text → length (part text from to) ≡ to - from
  length_part from to h l = simp (length-take, length-drop) (omega arith)

  -- what follows a part
  pub part_rest : (from to : ℕ) → from ≤ to → drop from text ≡ part text from to ++ drop to text
  part_rest from to h =
      let q : from + (to - from) ≡ to = omega arith in
      sym (take-append-drop (to - from) (drop from text))
      ∙ ap (λ (l : List ℕ). part text from to ++ l) (drop-drop (to - from) from text ∙ ap (λ (k : ℕ). drop k text) q)

  pub part_join : (from i to : ℕ) → from ≤ i → i ≤ to → to ≤ length text → part text from i ++ part text i to ≡ part text from to
  part_join from i to h d l =
      let e : to - from ≡ (i - from) + (to - i) = omega arith in
      let q : from + (i - from) ≡ i = omega arith in
      sym (ap (λ (n : ℕ). take n (drop from text)) e ∙ take-add (i - from) (to - i) (drop from text)
      ∙ ap (λ (xs : List ℕ). part text from i ++ take (to - i) xs) (drop-drop (i - from) from text ∙ ap (λ (n : ℕ). drop n text) q))
