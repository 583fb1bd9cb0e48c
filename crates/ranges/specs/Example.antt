-- The tool on examples worked by hand, over the field of document 01.
-- Assumes nothing.
use Rattle.std.specs.Prelude.{ℕ, ◌≡◌, List, [], ◌∷◌, ◌++◌, replicate}
use Rattle.circuit.specs.Gate.{gates}
use Rattle.protocol.specs.Plain.{scores}
use Rattle.protocol.specs.Docket as D
use Rattle.ranges.specs.Move.{Change, Nothing, Of}
use Rattle.ranges.specs.Entry.{Query, query_of, Refusal, Leaves, Fits, fit_answer, fit_intervals, fit_moves}
use Rattle.ranges.specs.Whole.{whole_numbers}

-- "p is 2147483647"
abbrev pub p : ℕ
p = 2147483647

-- the docket's circuit, the product of two inputs: the first from 0 to 100, the second from 0 to 1000
abbrev pub product : Change → Query
product change = query_of 2 D.circuit (0 ∷ 100 ∷ 0 ∷ 1000 ∷ []) change

-- and both from 0 to a highest
abbrev pub highest : ℕ → Change → Query
highest h change = query_of 2 D.circuit (0 ∷ h ∷ 0 ∷ h ∷ []) change

-- in, in, plus 7, sub, sq, times 3, give to party 1, out
abbrev pub every : Query
every =
    query_of 2
    ((1 ∷ 0 ∷ 0 ∷ 0 ∷ 1 ∷ 1 ∷ 0 ∷ 0 ∷ 4 ∷ 0 ∷ 0 ∷ 7 ∷ 3 ∷ 2 ∷ 1 ∷ 0 ∷ [])
    ++ (8 ∷ 3 ∷ 0 ∷ 0 ∷ 5 ∷ 4 ∷ 0 ∷ 3 ∷ 9 ∷ 4 ∷ 1 ∷ 0 ∷ 7 ∷ 5 ∷ 0 ∷ 0 ∷ []))
    (10 ∷ 20 ∷ 0 ∷ 5 ∷ []) (Of 1 2)

-- an input less itself, from 3 to a highest
abbrev pub itself : ℕ → Query
itself h = query_of 2 (1 ∷ 0 ∷ 0 ∷ 0 ∷ 3 ∷ 0 ∷ 0 ∷ 0 ∷ 7 ∷ 1 ∷ 0 ∷ 0 ∷ []) (3 ∷ h ∷ []) Nothing

-- an input, an over by 1 that no score depends on, and the input shown
abbrev pub aside : Query
aside = query_of 2 (1 ∷ 0 ∷ 0 ∷ 0 ∷ 10 ∷ 0 ∷ 0 ∷ 1 ∷ 7 ∷ 0 ∷ 0 ∷ 0 ∷ []) (0 ∷ 1 ∷ []) Nothing

-- a list for eight intervals' numbers and one more, and one for a move and one more
abbrev pub wide : List ℕ
wide = replicate 9 9

abbrev pub narrow : List ℕ
narrow = replicate 2 9

pub record Examples : Type 0 where
  -- 100 × 1000 is the highest product; where the first input changes by 5, it moves by 1000 × 5
  pub fits : fit_answer p (product (Of 0 5)) 9 2 ≡ Fits
  pub intervals : fit_intervals p (product (Of 0 5)) wide 2 ≡ 0 ∷ 100 ∷ 0 ∷ 1000 ∷ 0 ∷ 100000 ∷ 0 ∷ 0 ∷ 9 ∷ []
  pub moves : fit_moves p (product (Of 0 5)) 9 narrow ≡ 5000 ∷ 9 ∷ []
  -- without a change the second list is neither asked nor written
  pub unchanged : fit_answer p (product Nothing) 8 0 ≡ Fits
  pub unwritten : fit_moves p (product Nothing) 8 narrow ≡ narrow
  -- each kind, and a score for one party
  pub each_kind : fit_answer p every 16 2 ≡ Fits
  pub each_interval : fit_intervals p every (replicate 16 9) 2
      ≡ (10 ∷ 20 ∷ 0 ∷ 5 ∷ 17 ∷ 27 ∷ 12 ∷ 27 ∷ []) ++ (144 ∷ 729 ∷ 432 ∷ 2187 ∷ 0 ∷ 0 ∷ 0 ∷ 0 ∷ [])
  pub each_move : fit_moves p every 16 narrow ≡ 108 ∷ 324 ∷ []
  -- 46340 × 46340 is below p, 46341 × 46341 is not: the product is named, and nothing is written
  pub just_fits : fit_answer p (highest 46340 Nothing) 8 0 ≡ Fits
  pub leaves : fit_answer p (highest 46341 (Of 0 5)) 9 2 ≡ Leaves 2
  pub intervals_stay : fit_intervals p (highest 46341 (Of 0 5)) wide 2 ≡ wide
  pub moves_stay : fit_moves p (highest 46341 (Of 0 5)) 9 narrow ≡ narrow
  -- a move is at most p − 1
  pub capped : fit_moves p (highest 46340 (Of 0 4294967295)) 8 narrow ≡ 2147483646 ∷ 9 ∷ []
  -- opposite ends are subtracted, though it is one input
  pub one_number : fit_answer p (itself 3) 6 0 ≡ Fits
  pub two_numbers : fit_answer p (itself 4) 6 0 ≡ Leaves 1
  -- an over is named even by 1
  pub over : fit_answer p aside 6 0 ≡ Leaves 1
  -- the ends p − 1 and p, and reversed ends
  pub last_end : fit_answer p (query_of 2 D.circuit (0 ∷ 1 ∷ 0 ∷ 2147483646 ∷ []) Nothing) 8 0 ≡ Fits
  pub past_end : fit_answer p (query_of 2 D.circuit (0 ∷ 1 ∷ 0 ∷ p ∷ []) Nothing) 8 0 ≡ Refusal 26 0
  pub reversed : fit_answer p (query_of 2 D.circuit (1 ∷ 0 ∷ 0 ∷ 1 ∷ []) Nothing) 8 0 ≡ Refusal 26 0
  pub one_short : fit_answer p (query_of 2 D.circuit (0 ∷ 1 ∷ 0 ∷ []) Nothing) 8 0 ≡ Refusal 26 0
  -- the change is of an in gate, and 27 comes after 26 and before 18; 18 before a gate is named
  pub no_in : fit_answer p (product (Of 2 5)) 0 0 ≡ Refusal 27 0
  pub no_gate : fit_answer p (product (Of 4 5)) 0 0 ≡ Refusal 27 0
  pub ranges_first : fit_answer p (highest p (Of 2 5)) 0 0 ≡ Refusal 26 0
  pub no_room : fit_answer p (highest 46341 Nothing) 7 0 ≡ Refusal 18 0
  pub no_place : fit_answer p (product (Of 0 5)) 8 0 ≡ Refusal 18 0
  -- the whole number of the docket's score
  pub whole : scores whole_numbers D.docket (gates D.circuit) ≡ 30 ∷ []
