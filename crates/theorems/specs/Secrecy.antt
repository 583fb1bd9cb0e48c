-- Demand 3: two joint runs side by side.
-- Assumes nothing.
use Rattle.std.specs.Prelude.{ℕ, ◌<◌, ◌≡◌, Bool, true, false, List, length}
use Rattle.algebra.specs.Ops.{Ops}
use Rattle.circuit.specs.Verdict.{Accepted}
use Rattle.circuit.specs.Gate.{gates}
use Rattle.circuit.specs.Count.{prep_size}
use Rattle.protocol.specs.Scratch.{scratch_size, band}
use Rattle.protocol.specs.Joint.{Joint, party}
use Rattle.protocol.specs.Run.{whole}
use Rattle.protocol.specs.JointEntry.{verdict, joint_answer, joint_scratch}
use Rattle.protocol.specs.Plain.{scores, scores_seen}
use Rattle.protocol.specs.Good.{Good}
use Rattle.theorems.specs.Premises.{Accepts, InputsPass}
use Rattle.theorems.specs.Matching.{plainly, rule}

module _ (O : Ops) (n : ℕ) (c : List ℕ) (A : ℕ → Bool) where
  abbrev pub run_of : List ℕ → List ℕ → List ℕ → List ℕ → Joint
  run_of preps inputs coefficients nonces =
      record { parties = n; circuit = c; preps = preps; inputs = inputs; coefficients = coefficients; nonces = nonces }

  -- A party's numbers of A in the joined scratch
  abbrev pub band_of : List ℕ → ℕ → List ℕ
  band_of l i = band (scratch_size n c) l i

  -- what is asked: A leaves out at least one party, and the two sets of inputs agree at A's parties and give equal scores. "equal scores now means
  -- at out lines and at give lines whose receiver is in A"
  pub record Compared (x x' : List ℕ) : Type 0 where
    pub accepts : Accepts O n c
    pub outside : (i : ℕ) × (i < n) × (A i ≡ false)
    pub first : InputsPass O c x
    pub second : InputsPass O c x'
    pub agree : (i : ℕ) → i < n → A i ≡ true → (party (plainly n c x') i).inputs ≡ (party (plainly n c x) i).inputs
    pub equal_scores : scores_seen O (plainly n c x') A (gates c) ≡ scores_seen O (plainly n c x) A (gates c)

  -- two calls of the joint run, alike in coefficients, nonces and starting scratch; t, o and t', o' are their transcript and output lists before
  pub record Alike (J J' : Joint) (scratch t o t' o' : List ℕ) : Type 0 where
    -- "If each of these lists is as long in one run as in the other, both runs get the same refusal and index, or neither gets one"
    pub refusals : length t ≡ length t' → length o ≡ length o' → verdict O J' scratch t' o' ≡ verdict O J scratch t o
    -- two runs that are not refused: "Equal are the number of rounds ..
    pub answers : verdict O J scratch t o ≡ Accepted → verdict O J' scratch t' o' ≡ Accepted → joint_answer O J' scratch t' o' ≡ joint_answer O J scratch t o
    pub rounds : verdict O J scratch t o ≡ Accepted → verdict O J' scratch t' o' ≡ Accepted → (whole O J' scratch).rounds ≡ (whole O J scratch).rounds
    -- .. every word the two runs write into their transcripts ..
    pub words : verdict O J scratch t o ≡ Accepted → verdict O J' scratch t' o' ≡ Accepted → (whole O J' scratch).transcript ≡ (whole O J scratch).transcript
    -- .. and at the end every number in the scratch bands of A's seats."
    pub bands : verdict O J scratch t o ≡ Accepted
        → verdict O J' scratch t' o' ≡ Accepted
        → (i : ℕ)
        → i < n
        → A i ≡ true
        → band_of (joint_scratch O J' scratch t' o') i ≡ band_of (joint_scratch O J scratch t o) i

  -- "one rule matches good material one for one with good material, A's part being the same, so that a joint run on the first inputs with any
  -- good material and one on the second with its match, whatever the draws and starting scratch (alike in both), post the same words"; "secrecy
  -- takes equal nonces"
  pub record Secret (x x' : List ℕ) (there back : List ℕ → List ℕ) : Type 0 where
    pub there_good : (m : List ℕ) → Good O n c m → Good O n c (there m)
    pub back_good : (m : List ℕ) → Good O n c m → Good O n c (back m)
    pub back_there : (m : List ℕ) → Good O n c m → back (there m) ≡ m
    pub there_back : (m : List ℕ) → Good O n c m → there (back m) ≡ m
    pub keeps : (m : List ℕ) → Good O n c m → (i : ℕ) → i < n → A i ≡ true → band (prep_size c) (there m) i ≡ band (prep_size c) m i
    pub alike : (m : List ℕ)
        → Good O n c m
        → (coefficients nonces scratch t o t' o' : List ℕ)
        → Alike (run_of m x coefficients nonces) (run_of (there m) x' coefficients nonces) scratch t o t' o'

  -- what A sees of a run that is not refused: every word, and the numbers in its own bands
  pub record Shows (J : Joint) (scratch t o words : List ℕ) (preps bands : ℕ → List ℕ) : Type 0 where
    pub owns : (i : ℕ) → i < n → A i ≡ true → band (prep_size c) J.preps i ≡ preps i
    pub accepted : verdict O J scratch t o ≡ Accepted
    pub says : (whole O J scratch).transcript ≡ words
    pub leaves : (i : ℕ) → i < n → A i ≡ true → band_of (joint_scratch O J scratch t o) i ≡ bands i

  -- a view tells nothing of the inputs: the good preprocessing that shows it on the first inputs corresponds one for one with that which
  -- shows it on the second
  pub record Blind (x x' : List ℕ) (there back : List ℕ → List ℕ) (coefficients nonces scratch t o words : List ℕ) (preps bands : ℕ → List ℕ) : Type 0 where
    pub there_shows : (m : List ℕ)
        → Good O n c m
        → Shows (run_of m x coefficients nonces) scratch t o words preps bands
        → Good O n c (there m) × Shows (run_of (there m) x' coefficients nonces) scratch t o words preps bands
    pub back_shows : (m : List ℕ)
        → Good O n c m
        → Shows (run_of m x' coefficients nonces) scratch t o words preps bands
        → Good O n c (back m) × Shows (run_of (back m) x coefficients nonces) scratch t o words preps bands
    pub back_there : (m : List ℕ) → Good O n c m → back (there m) ≡ m
    pub there_back : (m : List ℕ) → Good O n c m → there (back m) ≡ m

  -- what A sees tells nothing of a score that is given to a party outside A, "unread by others": where the first inputs have some scores and the
  -- second others, a view goes with the ones as often as with the others
  pub record Unread (x x' : List ℕ) (there back : List ℕ → List ℕ) (coefficients nonces scratch t o words : List ℕ) (preps bands : ℕ → List ℕ) : Type 0 where
    pub blind : Blind x x' there back coefficients nonces scratch t o words preps bands
    pub first_scores : (m : List ℕ)
        → Good O n c m
        → Shows (run_of m x coefficients nonces) scratch t o words preps bands
        → (whole O (run_of m x coefficients nonces) scratch).outputs ≡ scores O (plainly n c x) (gates c)
    pub second_scores : (m : List ℕ)
        → Good O n c m
        → Shows (run_of m x' coefficients nonces) scratch t o words preps bands
        → (whole O (run_of m x' coefficients nonces) scratch).outputs ≡ scores O (plainly n c x') (gates c)

-- demand 3, of a field O
abbrev pub Secrecy : Ops → Type 0
Secrecy O =
    (n : ℕ) (c : List ℕ) (A : ℕ → Bool) (x x' : List ℕ)
    → Compared O n c A x x'
    → Secret O n c A x x' (rule O n c A x x') (rule O n c A x' x)

-- for every view of A, and whatever the coefficients, the nonces and the starting scratch
abbrev pub Blindness : Ops → Type 0
Blindness O =
    (n : ℕ) (c : List ℕ) (A : ℕ → Bool) (x x' : List ℕ)
    → Compared O n c A x x'
    → (coefficients nonces scratch t o words : List ℕ) (preps bands : ℕ → List ℕ)
    → Blind O n c A x x' (rule O n c A x x') (rule O n c A x' x) coefficients nonces scratch t o words preps bands

-- and of a score that is given to a party outside A
abbrev pub UnreadByOthers : Ops → Type 0
UnreadByOthers O =
    (n : ℕ) (c : List ℕ) (A : ℕ → Bool) (x x' : List ℕ)
    → Compared O n c A x x'
    → (coefficients nonces scratch t o words : List ℕ) (preps bands : ℕ → List ℕ)
    → Unread O n c A x x' (rule O n c A x x') (rule O n c A x' x) coefficients nonces scratch t o words preps bands
