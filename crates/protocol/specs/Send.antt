-- What a party sends in each round, the check share that it holds and the nonce that it notes.
-- Assumes nothing.
use Rattle.std.specs.Prelude.{ℕ, Bool, cond, List, [], ◌∷◌, ◌++◌, length, drop, get_or, eqb}
use Rattle.algebra.specs.Ops.{Ops}
use Rattle.algebra.specs.Sum.{sum}
use Rattle.circuit.specs.Gate.{gate}
use Rattle.circuit.specs.Kind.{Class, Local, Owned, Opens, Output, shape, is_give, factor}
use Rattle.circuit.specs.Count.{unchecked}
use Rattle.circuit.specs.Round.{Round, Own, Open, Commit, Reveal, is_commit, opened_in}
use Rattle.sha256.specs.Sha256.{words_of}
use Rattle.sha256.specs.Digest.{digest}
use Rattle.protocol.specs.Part.{Part, part_at, minus}
use Rattle.protocol.specs.Scratch.{Layout, layout, Value, ValueMac, read, wire, nonce_of, put_nonce}
use Rattle.protocol.specs.Party.{Party, key, record_of, input_of, mask_at, whole_mask_at, a_at, b_at}

-- what a reveal posts: "the check word and the nonce as eight 32-bit words high byte first"; ws are the nonce's words
abbrev pub revealed : ℕ → List ℕ → List ℕ
revealed share ws = share ∷ ws

-- what the commitment to it posts: "the eight 32-bit words of SHA-256 (FIPS 180-4) over the check word, four bytes high byte first, and a 32-byte
-- nonce", which are the bytes of the words that are revealed
unfoldable pub mark : List ℕ → List ℕ
mark = digest

-- words written at the start of a list. "Longer is allowed and the excess untouched; so with every list written to."
unfoldable pub overwrite : List ℕ → List ℕ → List ℕ
overwrite ws out = ws ++ drop (length ws) out

module _ (O : Ops) where
  open O use {sub, mul}

  -- "the owner posts input − whole mask; others post 0": the word of party i, m starting at the gate's record
  unfoldable pub input_word : ℕ → ℕ → List ℕ → ℕ → ℕ
  input_word i owner m input = cond (eqb i owner) (sub input (get_or m whole_mask_at 0)) 0

  -- the party's part of the difference of gate x and the mask that stands at k in the record m: of E = first − a, and of D = second − b
  unfoldable pub masked : Layout → List ℕ → ℕ → List ℕ → ℕ → Part
  masked y l x m k = minus O (wire y l x) (part_at m k)

  -- "the seat's shares of E = first − a and D = second − b", of D only where k is 2: of a gate that names x and z, m starting at its record
  abbrev pub words_of_opening : Layout → List ℕ → ℕ → ℕ → List ℕ → ℕ → List ℕ
  words_of_opening y l x z m k =
      cond (eqb k 2)
      ((masked y l x m a_at).share ∷ (masked y l z m (b_at k)).share ∷ [])
      ((masked y l x m a_at).share ∷ [])

  -- the party's part of what an output of gate x shows: of an out "show, one word, the seat's share of first"; a give, whose record starts m, "shows
  -- and checks the line less the mask"
  unfoldable pub shown : Layout → List ℕ → Bool → ℕ → List ℕ → Part
  shown y l give x m = cond give (masked y l x m mask_at) (wire y l x)

  -- "v is the sum of draw × opened value; the check word is the sum of draw × MAC share, less key share × v", over the first k entries
  unfoldable pub check_share : Layout → List ℕ → ℕ → ℕ → List ℕ → ℕ
  check_share y l k key coefficients =
      sub (sum O k (λ t. mul (get_or coefficients t 0) (read y l (ValueMac t))))
      (mul key (sum O k (λ t. mul (get_or coefficients t 0) (read y l (Value t)))))

  module _ (P : Party) where
    -- of gate j, which opens k values
    unfoldable pub opening : List ℕ → ℕ → ℕ → List ℕ
    opening l j k =
        words_of_opening (layout P.circuit) l (gate P.circuit j).first (factor (gate P.circuit j)) (record_of P j) k

    -- the words of gate j's own round, by its class
    unfoldable pub own_words : List ℕ → ℕ → Class → List ℕ
    own_words l j Local = []
    own_words l j Owned = input_word P.me (gate P.circuit j).first (record_of P j) (input_of P j) ∷ []
    own_words l j Opens = opening l j (shape (gate P.circuit j)).openings
    own_words l j Output = []

    -- what gate j shows, an output
    unfoldable pub showing : List ℕ → ℕ → Part
    showing l j =
        let g = gate P.circuit j in
        shown (layout P.circuit) l (is_give g) g.first (record_of P j)

    -- the check share held once round r of gate j is sent: made when a commitment is sent, from the coefficients then handed over
    unfoldable pub holds : List ℕ → ℕ → Round → List ℕ → ℕ
    holds l j r coefficients =
        cond (is_commit r)
        (check_share (layout P.circuit) l (opened_in (unchecked P.circuit j) r) (key P) coefficients) 0

    -- the words of round r of gate j, where l is the scratch, held the check share held, and coefficients and nonce are handed over. A reveal posts
    -- the nonce that stands in the scratch
    unfoldable pub sent : List ℕ → ℕ → ℕ → List ℕ → List ℕ → Round → List ℕ
    sent l j held coefficients nonce Own = own_words l j (shape (gate P.circuit j)).class
    sent l j held coefficients nonce Open = (showing l j).share ∷ []
    sent l j held coefficients nonce (Commit k) = mark (revealed (holds l j (Commit k) coefficients) (words_of nonce))
    sent l j held coefficients nonce (Reveal k) = revealed held (nonce_of (layout P.circuit) l)

    -- the scratch once round r is sent: a commitment writes the nonce, "written at speaking"
    unfoldable pub noted : List ℕ → Round → List ℕ → List ℕ
    noted l r nonce = cond (is_commit r) (put_nonce (layout P.circuit) l (words_of nonce)) l
