-- Steps write in place: the scratch stays as long as it is.
-- Assumes nothing.
use Prim.Native.Nat.{ℕ, zero, suc}
use mathlib.Core.Path.{◌≡◌, refl, ◌∙◌}
use mathlib.Core.List.{List}
use lib.ListN.{length}
use lib.Dec.{eqb}
use Rattle.algebra.specs.Ops.{Ops}
use Rattle.circuit.specs.Gate.{Kind, Gate, gate}
use Rattle.circuit.specs.Kind.{Class, Local, Owned, Opens, Output, shape, is_linear}
use Rattle.circuit.specs.Round.{First, Second, Round, Own, Open, Commit, Reveal, is_commit}
use Rattle.circuit.proofs.Tests.{by_cases}
use Rattle.protocol.specs.Scratch.{Layout}
use Rattle.protocol.specs.Party.{Party}
use Rattle.protocol.specs.Receive.{after_input, put_differences, after_opening, after_open_output, put_linear, after_linear, Ruling, passed, settle, onward, own_received, check_passed, received, left}
use Rattle.protocol.specs.Send.{noted}
use Rattle.protocol.proofs.Slots.{length_put, length_opened}
use Rattle.protocol.proofs.Tails.{nonce_length, marks_length}

module _ (O : Ops) where
  -- One or two opened entries are written in place.
  pub length_differences : (y : Layout) (l : List ℕ) (x z : ℕ) (m : List ℕ) (k u e d : ℕ) → length (put_differences O y l x z m k u e d) ≡ length l
  unfolding put_differences
  length_differences y l x z m k u e d =
      by_cases (eqb k 2) (λ b. rw b (length_opened y _ _ _ _ ∙ length_opened y l _ _ _)) (λ b. rw b (length_opened y l _ _ _))

  -- A gate that needs no round writes in place ..
  pub length_put_linear : (i key : ℕ) (y : Layout) (l : List ℕ) (j : ℕ) (kind : Kind) (x z k : ℕ) → length (put_linear O i key y l j kind x z k) ≡ length l
  unfolding put_linear
  length_put_linear i key y l j kind x z k = length_put y l j _

  pub length_after_linear : (i key : ℕ) (y : Layout) (l : List ℕ) (j : ℕ) (g : Gate) → length (after_linear O i key y l j g) ≡ length l
  unfolding after_linear
  length_after_linear i key y l j g = length_put_linear i key y l j g.kind g.first g.second _

  -- .. and so do all up to the next stop.
  length_settle : (i key : ℕ) (c : List ℕ) (y : Layout) (left j : ℕ) (l : List ℕ) → length (settle O i key c y left j l) ≡ length l
  unfolding settle
  length_settle i key c y zero j l = refl
  length_settle i key c y (suc left) j l =
      by_cases (is_linear (gate c j))
      (λ b. rw b (length_settle i key c y left (suc j) _ ∙ length_after_linear i key y l j (gate c j)))
      (λ b. rw b)

  module _ (P : Party) where
    -- So do those after a gate.
    length_onward : (j : ℕ) (l : List ℕ) → length (onward O P j l) ≡ length l
    unfolding onward
    length_onward j l = length_settle _ _ _ _ _ _ l

    -- Receiving a gate's own round keeps the length ..
    length_own : (l : List ℕ) (j : ℕ) (heard : List ℕ) (k : Class) → length (own_received O P l j heard k) ≡ length l
    unfolding own_received after_input after_opening
    length_own l j heard Local = refl
    length_own l j heard Owned = length_onward j _ ∙ length_put _ l j _
    length_own l j heard Opens = length_onward j _ ∙ length_put _ _ j _ ∙ length_differences _ l _ _ _ _ _ _ _
    length_own l j heard Output = refl

    -- .. and so does receiving any round.
    pub length_received : (l : List ℕ) (j : ℕ) (r : Round) (heard : List ℕ) → length (received O P l j r heard) ≡ length l
    unfolding received check_passed after_open_output
    length_received l j Own heard = length_own l j heard (shape (gate P.circuit j)).class
    length_received l j Open heard = length_opened _ l _ _ _
    length_received l j (Commit k) heard = marks_length _ l heard
    length_received l j (Reveal First) heard = refl
    length_received l j (Reveal Second) heard = length_onward j l

    -- So does a round, however it ends, and sending.
    pub length_left : (v : Ruling) (l : List ℕ) (j : ℕ) (r : Round) (heard : List ℕ) → length (left O P v l j r heard) ≡ length l
    unfolding left
    length_left v l j r heard = by_cases (passed v) (λ b. rw b (length_received l j r heard)) (λ b. rw b)

    pub length_noted : (l : List ℕ) (r : Round) (nonce : List ℕ) → length (noted O P l r nonce) ≡ length l
    unfolding noted
    length_noted l r nonce = by_cases (is_commit r) (λ b. rw b (nonce_length _ l _)) (λ b. rw b)
