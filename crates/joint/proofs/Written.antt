-- Lists that are written to from the front on.
-- Assumes nothing.
use Prim.Native.Nat.{ℕ, ◌+◌, ◌≤◌}
use mathlib.Core.Path.{◌≡◌, sym, ap, ◌∙◌}
use mathlib.Core.List.{List, ◌++◌, append_assoc}
use native.Mathlib.Omega.{arith}
use lib.ListN.{length, drop, length-append, length-drop}
use lib.Seq.{take_at, drop-drop, drop-append-add}
use Rattle.protocol.specs.Scratch.{written_at}
use Rattle.protocol.specs.Send.{overwrite}
use Rattle.protocol.proofs.Tails.{written_is}

-- A list of which ws are the numbers so far, written over xs₀.
pub record Written (xs₀ xs : List ℕ) (k : ℕ) (ws : List ℕ) : Type 0 where
  pub are : xs ≡ ws ++ drop k xs₀
  pub place : k ≡ length ws

-- More is written at the place reached, where there is room.
pub written_more : {xs₀ xs xs' ws : List ℕ} {k k' : ℕ} → Written xs₀ xs k ws → (vs : List ℕ) → k + length vs ≤ length xs → xs' ≡ written_at k vs xs → k' ≡ k + length vs
    → Written xs₀ xs' k' (ws ++ vs)
written_more {xs₀} {xs} {xs'} {ws} {k} {k'} w vs h e f =
    record {
      are =
          e
          ∙ written_is k vs xs h
          ∙ rw (w.are, f, take_at ws (drop k xs₀) k (sym w.place))
          (ap (λ (zs : List ℕ). ws ++ (vs ++ zs)) rest ∙ sym (append_assoc ws vs (drop (k + length vs) xs₀)));
      place = f ∙ rw (length-append, w.place);
    }
  where
    rest : drop (k + length vs) (ws ++ drop k xs₀) ≡ drop (k + length vs) xs₀
    rest = rw (w.place, drop-append-add ws (drop (length ws) xs₀) (length vs), drop-drop (length vs) (length ws) xs₀)

-- No more is written than there is room for.
pub written_le : {xs₀ xs ws : List ℕ} {k : ℕ} → Written xs₀ xs k ws → length xs ≡ length xs₀ → k ≤ length xs
written_le {xs₀} {xs} {ws} {k} w e = omega (arith, w.place, simp (length-append, length-drop) at (ap length w.are))

-- What is written in the end overwrites the list.
pub written_done : {xs₀ xs ws : List ℕ} {k : ℕ} → Written xs₀ xs k ws → xs ≡ overwrite ws xs₀
unfolding overwrite
written_done w = w.are ∙ rw w.place
