-- Facts of the table of words, each by one computed test of its rows: no word has a space, none has another's letters, a name is a leaf.
-- Assumes nothing.
use Prim.Native.Nat.{ℕ}
use mathlib.Core.Path.{◌≡◌, refl, sym, ap, ◌∙◌}
use mathlib.Core.Bool.{Bool, true, false, not, ◌&&◌, ◌||◌, false≢true}
use mathlib.Core.List.{List, [], ◌∷◌}
use lib.Dec.{eqb}
use borrow.Author.Tests.{eqb-true, not-true}
use Rattle.circuit.proofs.Tests.{both_left, both_right}
use Rattle.forms.specs.Words.{Head, In, Add, Sub, Plus, Times, Mul, Out, Line, Sq, Give, Over, Sort, Leaf, One, Two, Scaled, heads, letters, sort, kind, names}
use Rattle.forms.specs.Form.{space}
use Rattle.forms.specs.Machine.{starts, same}
use Rattle.forms.specs.Entry.{picked, head_of}
use Rattle.forms.proofs.Choices.{or_elim}

-- every word is listed --------------------------------------------------------------------------------------------------

pub data Listed (h : Head) : List Head → Type 0 where
  here : {hs : List Head} → Listed h (h ∷ hs)
  there : {k : Head} {hs : List Head} → Listed h hs → Listed h (k ∷ hs)

pub listed : (h : Head) → Listed h heads
listed In = here
listed Add = there here
listed Sub = there (there here)
listed Plus = there (there (there here))
listed Times = there (there (there (there here)))
listed Mul = there (there (there (there (there here))))
listed Out = there (there (there (there (there (there here)))))
listed Line = there (there (there (there (there (there (there here))))))
listed Sq = there (there (there (there (there (there (there (there here)))))))
listed Give = there (there (there (there (there (there (there (there (there here))))))))
listed Over = there (there (there (there (there (there (there (there (there (there here)))))))))

unfoldable pub all_of : (Head → Bool) → List Head → Bool
all_of p [] = true
all_of p (h ∷ hs) = p h && all_of p hs

all_listed : (p : Head → Bool) (h : Head) (hs : List Head) → Listed h hs → all_of p hs ≡ true → p h ≡ true
unfolding all_of
all_listed p h hs (here {hs = ks}) e = both_left (p h) (all_of p ks) e
all_listed p h hs (there {k = k} {hs = ks} l) e = all_listed p h ks l (both_right (p k) (all_of p ks) e)

-- what a test finds of the table holds of every word
pub of_table : (p : Head → Bool) → all_of p heads ≡ true → (h : Head) → p h ≡ true
of_table p e h = all_listed p h heads (listed h) e

-- letters ---------------------------------------------------------------------------------------------------------------

unfoldable pub spaceless : List ℕ → Bool
spaceless [] = true
spaceless (b ∷ bs) = not (eqb b space) && spaceless bs

pub letters_spaceless : (h : Head) → spaceless (letters h) ≡ true
letters_spaceless h = of_table (λ h. spaceless (letters h)) (unfold all_of spaceless in refl) h

-- the word of a kind is the one word of that kind
pub head_back : (h : Head) → head_of (kind h) ≡ h
unfolding head_of picked
head_back In = refl
head_back Add = refl
head_back Sub = refl
head_back Plus = refl
head_back Times = refl
head_back Mul = refl
head_back Out = refl
head_back Line = refl
head_back Sq = refl
head_back Give = refl
head_back Over = refl

pub kind_tells : (h k : Head) → eqb (kind h) (kind k) ≡ true → h ≡ k
kind_tells h k e = sym (head_back h) ∙ (ap head_of (eqb-true (kind h) (kind k) e) ∙ head_back k)

pub letters_tell : (h k : Head) → same (letters h) (letters k) ≡ true → h ≡ k
letters_tell h k e =
    or_elim (not (same (letters h) (letters k))) (eqb (kind h) (kind k)) (apart h k)
    (λ q. absurd (false≢true (sym (not-true (same (letters h) (letters k)) q) ∙ e)))
    (λ q. kind_tells h k q)
  where
    apart : (h k : Head) → (not (same (letters h) (letters k)) || eqb (kind h) (kind k)) ≡ true
    apart h k =
        of_table (λ k. not (same (letters h) (letters k)) || eqb (kind h) (kind k))
        (of_table (λ h. all_of (λ k. not (same (letters h) (letters k)) || eqb (kind h) (kind k)) heads) (unfold all_of same starts in refl) h) k

-- sorts -----------------------------------------------------------------------------------------------------------------

-- does a form of this sort begin with an operand?
abbrev pub holds : Sort → Bool
holds Leaf = false
holds One = true
holds Two = true
holds Scaled = true

pub holder_names_none : (h : Head) → holds (sort h) ≡ true → names h ≡ false
holder_names_none h e =
    or_elim (not (holds (sort h))) (not (names h)) (of_table (λ h. not (holds (sort h)) || not (names h)) (unfold all_of in refl) h)
    (λ q. absurd (false≢true (sym (not-true (holds (sort h)) q) ∙ e)))
    (λ q. not-true (names h) q)
