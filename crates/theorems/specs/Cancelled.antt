-- Binding is not empty: the docket's seat 1 commits to 77, hears seat 0's check share 10, and reveals p − 10, which cancels it. The sum is zero, and
-- seat 1 is named.
-- Assumes nothing.
use Rattle.std.specs.Prelude.{ℕ, ◌-◌, ◌≡◌, List, [], ◌∷◌, ◌++◌}
use Rattle.algebra.specs.Ops.{Ops}
use Rattle.circuit.specs.Round.{First, Commit}
use Rattle.protocol.specs.Send.{mark}
use Rattle.protocol.specs.Receive.{Blames}
use Rattle.protocol.specs.Entry.{Abort, send_scratch}
use Rattle.protocol.specs.Docket.{nonce, shows, mark₁₀, party₀, sending, after₃}
use Rattle.theorems.specs.Binding.{stopped_at, check_sum, last_answer, Unrefused, Changes}

module _ (O : Ops) where
  open O use {size}

  -- seat 0's scratch once it has committed to 10
  abbrev pub committed : List ℕ
  committed = send_scratch O party₀ ((after₃ O).scratch 0) (sending (Commit First) 0) (1 ∷ 2 ∷ []) nonce 8

  -- the marks that it hears, and the words of the reveal
  abbrev pub marks : List ℕ
  marks = mark₁₀ ++ mark (shows 77)

  abbrev pub words : List ℕ
  words = shows 10 ++ shows (size - 10)

  -- of any marks ms, and so of those
  pub record CancelledBy (ms : List ℕ) : Type 0 where
    -- no call is refused
    pub unrefused : Unrefused O party₀ committed 3 10 First 9 ms words
    -- seat 1 reveals other words than it committed to
    pub changes : Changes 2 ms words 1 77 nonce
    -- the sum would pass
    pub cancels : check_sum O 2 ms words ≡ 0
    -- but seat 1 is named
    pub named : last_answer O party₀ committed 3 10 First 9 ms words ≡ Abort (Blames 1) (stopped_at 3)

  abbrev pub Cancelled : Type 0
  Cancelled = CancelledBy marks
