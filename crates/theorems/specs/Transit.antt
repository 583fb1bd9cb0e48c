-- Parties apart whose words may be altered in transit: in each round each party hears what is made of the words of all on the way to it, and two
-- parties need not hear the same. Every check is decided by the marks that the party heard, and these bind whoever committed.
-- Assumes nothing.
use Rattle.std.specs.Prelude.{ℕ, zero, suc, ◌≡◌, List, [], ◌∷◌, ◌++◌}
use Rattle.algebra.specs.Ops.{Ops}
use Rattle.circuit.specs.Round.{Check, Commit, Reveal}
use Rattle.protocol.specs.Send.{holds}
use Rattle.protocol.specs.Entry.{Answer, Next}
use Rattle.theorems.specs.Apart.{Apart, party_in, Local, Unrefused, opens, sends, receives, heard_in, apart}
use Rattle.theorems.specs.Binding.{sending_at, receiving_at, stopped_at, Decides, goes_on, Changes, FoundOut}

-- what party i hears in round k is way k i of the words of all
module _ (O : Ops) (D : Apart) (way : ℕ → ℕ → List ℕ → List ℕ) where
  -- all parties after k rounds, from their own openings on
  unfoldable pub transit : ℕ → ℕ → Local
  transit zero i = opens O (party_in D i) (D.scratch i)
  transit (suc k) i =
      receives O (party_in D i) (way k i (heard_in O D k (transit k)))
      (sends O (party_in D i) (D.coefficients k i) (D.nonces k i) (D.out k i) (transit k i))

  abbrev pub hears_in : ℕ → ℕ → List ℕ
  hears_in k i = way k i (heard_in O D k (transit k))

  -- in round k party i commits to its check share of gate j, and no call of its is refused until it has heard the reveal, in the round after
  pub record Commits (k i j held : ℕ) (c : Check) : Type 0 where
    pub stands : (transit k i).position ≡ sending_at j (Commit c) held
    pub unrefused : Unrefused (transit (suc (suc k)) i).answers

  -- that check share
  abbrev pub share_in : ℕ → ℕ → ℕ → Check → ℕ
  share_in k i j c = holds O (party_in D i) (transit k i).scratch j (Commit c) (D.coefficients k i)

  -- the check's four calls, the last of which is answered a
  pub record Ruled (k i j : ℕ) (c : Check) (a : Answer) : Type 0 where
    pub answers : (transit (suc (suc k)) i).answers
        ≡ (transit k i).answers
        ++ (Next (receiving_at j (Commit c) (share_in k i j c))
        ∷ Next (sending_at j (Reveal c) (share_in k i j c))
        ∷ Next (receiving_at j (Reveal c) 0)
        ∷ a
        ∷ [])
    -- the marks heard in round k and the words heard in the round after decide ..
    pub decides : Decides O D.parties (hears_in k i) (hears_in (suc k) i) (stopped_at j) (goes_on O (party_in D i) (transit k i).scratch j c) a
    -- .. and whoever is heard to reveal something else than it committed to is found out
    pub binds : (t share : ℕ) (nonce : List ℕ)
        → Changes D.parties (hears_in k i) (hears_in (suc k) i) t share nonce
        → FoundOut D.parties (hears_in k i) (hears_in (suc k) i) (stopped_at j) a t share nonce

-- whatever the preprocessing, and whatever is heard in this round or any other
abbrev pub InTransit : Ops → Type 0
InTransit O =
    (D : Apart) (way : ℕ → ℕ → List ℕ → List ℕ) (k i j held : ℕ) (c : Check)
    → Commits O D way k i j held c
    → (a : Answer) × Ruled O D way k i j c a

-- where every word is heard as posted, these are the parties apart
abbrev pub Unaltered : Ops → Type 0
Unaltered O = (D : Apart) (k i : ℕ) → transit O D (λ k i ws. ws) k i ≡ apart O D k i
