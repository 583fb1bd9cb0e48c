-- The hash of a message of words, as the crates above know it. It is shut: outside this module and the module below it nothing is known
-- of it but what Laws says.
-- Assumes nothing.
use Rattle.std.specs.Prelude.{ℕ, Bool, List, [], ◌∷◌, ◌++◌, bytes_eq}
use Rattle.sha256.specs.Sha256.{bytes_of, sha256}
pub mod Laws

-- words as bytes, four a word, high byte first
unfoldable pub bytes : List ℕ → List ℕ
bytes [] = []
bytes (w ∷ ws) = bytes_of 4 w ++ bytes ws

-- the hash of the bytes of some words
pub digest : List ℕ → List ℕ
digest words = sha256 (bytes words)

-- whether two lists are the same
unfoldable pub same : List ℕ → List ℕ → Bool
same x y = bytes_eq x y
