-- The docket's seat that cancels another's check share is named, computed.
-- Assumes nothing.
use Prim.Native.Nat.{ℕ, ◌^◌}
use mathlib.Core.Path.{◌≡◌, refl, sym, ap, subst}
use mathlib.Core.Logic.{◌≢◌}
use mathlib.Core.List.{List, ◌++◌}
use native.Mathlib.Omega.{arith}
use lib.ListN.{get_or}
use lib.Pow.{pow_pos}
use borrow.Author.Tests.{eqb-false}
use Rattle.field.specs.Words.{ops}
use Rattle.field.specs.Prime.{modular}
use Rattle.field.specs.Prime.Laws.{prime_is_modular}
use Rattle.sha256.specs.Sha256.{words_of}
use Rattle.circuit.specs.Round.{First, commit_words, reveal_words}
use Rattle.protocol.specs.Scratch.{band}
use Rattle.protocol.specs.Send.{revealed, mark}
use Rattle.protocol.specs.Receive.{Blames}
use Rattle.protocol.specs.Entry.{Abort}
use Rattle.protocol.specs.Docket.{nonce, shows, mark₁₀, party₀}
use Rattle.protocol.proofs.Said.{below_of}
use Rattle.theorems.specs.Binding.{stopped_at, revealing, last_answer, Unrefused}
use Rattle.theorems.specs.Cancelled.{committed, marks, words, CancelledBy, Cancelled}
use Rattle.theorems.proofs.Known.{hashed, hash_of}
use Rattle.theorems.proofs.Hashed.{reveal_is, hashing}
use Rattle.theorems.proofs.Docket.{all_below, below}

-- the marks, with the hash opened
abbrev opened : List ℕ
opened = mark₁₀ ++ hashed (shows 77)

opened_is : marks modular ≡ opened
unfolding mark
opened_is = ap (λ (m : List ℕ). mark₁₀ ++ m) (hash_of (shows 77))

-- Its mark is that of 77.
is_77 : band commit_words opened 1 ≡ mark (revealed 77 (words_of nonce))
unfolding hashing mark
is_77 = sym (hash_of (shows 77))

-- It reveals something else.
other : band reveal_words (words modular) 1 ≢ revealed 77 (words_of nonce)
unfolding hashing modular
other e = eqb-false _ _ refl (ap (λ (l : List ℕ). get_or l 0 0) e)

unrefused : Unrefused modular party₀ (committed modular) 3 10 First 9 opened (words modular)
unfolding hashing modular
unrefused = record { hears = refl; sends = refl; hears_reveal = refl }

named : last_answer modular party₀ (committed modular) 3 10 First 9 opened (words modular) ≡ Abort (Blames 1) (stopped_at 3)
unfolding hashing modular
named = reveal_is modular party₀ (revealing modular party₀ (committed modular) 3 10 First 9 opened (words modular)) 3 0 First (words modular) refl

computed : CancelledBy modular opened
unfolding hashing modular all_below
computed =
    record {
      unrefused = unrefused;
      changes =
          record {
            within = omega arith;
            share_low = omega arith;
            nonce_long = refl;
            nonce_low = below_of nonce (pow_pos 8) (below (2 ^ 8) nonce tt);
            committed = is_77;
            heard_low = below_of (words modular) (pow_pos 32) (below (2 ^ 32) (words modular) tt);
            other = other;
          };
      cancels = refl;
      named = named;
    }

-- at the operations that the contracts cite
pub cancelled : Cancelled ops
cancelled = subst Cancelled (sym prime_is_modular) (subst (CancelledBy modular) (sym opened_is) computed)
