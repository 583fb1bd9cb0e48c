-- What a commitment and its reveal ask and send, and what is noted.
-- Assumes nothing.
use Prim.Native.Nat.{ℕ, ◌≤◌}
use mathlib.Core.Path.{◌≡◌, ap, ◌∙◌}
use mathlib.Core.Bool.{false}
use mathlib.Core.List.{List}
use native.Mathlib.Omega.{arith}
use lib.ListN.{length}
use Rattle.algebra.specs.Element.{Is}
use Rattle.field.specs.Words.{size, ops}
use Rattle.sha256.specs.Sha256.{words_of}
use Rattle.sha256.proofs.Bytes.{length_words}
use Rattle.circuit.specs.Round.{Check, Round, Commit, Reveal, is_commit, commit_words, reveal_words, nonce_size, nonce_words, nonce_in, shape_words}
use Rattle.protocol.specs.Scratch.{marks_at, nonce_of, put_nonce}
use Rattle.protocol.specs.Party.{Party}
use Rattle.protocol.specs.Send.{revealed, mark, sent, holds, noted, overwrite}
use Rattle.protocol.specs.Code.{layout_of}
use Rattle.protocol.specs.Ready.{Sends}
use Rattle.protocol.specs.declared.Layout.{Layout}
use Rattle.protocol.specs.declared.Site.{Site}
use Rattle.protocol.proofs.Readiness.{tail_there}
use Rattle.protocol.proofs.Tails.{nonce_put}

module _ (P : Party) (l : List ℕ) (y : Layout) (at : Site) (t : Check) {held room : ℕ} {coefficients nonce : List ℕ} where
  module _ (s : Sends size P l y at (Commit t) held coefficients nonce room) where
    nonce_room : marks_at (layout_of y) ≤ length l
    nonce_room = omega (arith, tail_there P l y at (Commit t) s.ready)

    pub commit_asks : (marks_at (layout_of y) ≤ length l) × (length nonce ≡ nonce_size) × (commit_words ≤ room)
    unfolding nonce_in shape_words
    commit_asks = (nonce_room, s.nonce_long, s.space)

    module _ {l₁ : List ℕ} (e : l₁ ≡ put_nonce (layout_of y) l (words_of nonce)) where
      -- the mark is that of the nonce handed over, which by then stands in the scratch
      pub commit_sent : {share : ℕ} → Is size (holds ops P l at.gate (Commit t) coefficients) share
          → (out : List ℕ) {ws : List ℕ}
          → ws ≡ overwrite (mark (revealed share (nonce_of (layout_of y) l₁))) out
          → ws ≡ overwrite (sent ops P l at.gate held coefficients nonce (Commit t)) out
      unfolding sent
      commit_sent h out f =
          let put = ap (nonce_of (layout_of y)) e ∙ nonce_put (layout_of y) l (words_of nonce) (length_words nonce_words nonce commit_asks.1) nonce_room in
          f ∙ rw (h.is, put)

      pub commit_noted : l₁ ≡ noted ops P l (Commit t) nonce
      unfolding noted
      commit_noted = e ∙ rw s.ready.lay

  module _ (s : Sends size P l y at (Reveal t) held coefficients nonce room) where
    pub reveal_asks : (marks_at (layout_of y) ≤ length l) × (reveal_words ≤ room)
    unfolding shape_words
    reveal_asks = (omega (arith, tail_there P l y at (Reveal t) s.ready), s.space)

    pub reveal_sent : (out : List ℕ) {ws : List ℕ}
        → ws ≡ overwrite (revealed held (nonce_of (layout_of y) l)) out
        → ws ≡ overwrite (sent ops P l at.gate held coefficients nonce (Reveal t)) out
    unfolding sent
    reveal_sent out f = f ∙ rw s.ready.lay

-- no other round notes anything
pub noted_none : (P : Party) (l : List ℕ) (r : Round) (nonce : List ℕ) → is_commit r ≡ false → l ≡ noted ops P l r nonce
unfolding noted
noted_none P l r nonce e = rw e
