-- States that are the same to all parties: what is said, released and left by a round is the same.
-- Assumes nothing.
use Prim.Native.Nat.{ℕ, zero, suc, ◌<◌}
use mathlib.Core.Path.{◌≡◌, refl, ap, ap₂, ◌∙◌}
use native.Mathlib.Omega.{arith}
use Rattle.algebra.specs.Ops.{Ops}
use Rattle.circuit.specs.Gate.{gate}
use Rattle.circuit.specs.Kind.{receiver}
use Rattle.circuit.specs.Round.{Round}
use Rattle.protocol.specs.Scratch.{layout, marks_of}
use Rattle.protocol.specs.Receive.{Ruling, finds}
use Rattle.protocol.specs.Joint.{Joint, party}
use Rattle.protocol.specs.Run.{State, first_ruling, lowest, blamed, takes, taken, said, notes, ends, step, released}
use Rattle.joint.specs.Code.{Alike, said_by}
use Rattle.protocol.proofs.Words.{joined_ext}
use Rattle.protocol.proofs.Marks.{Sealed}

-- how a round ends is what each party finds
lowest_ext : (n : ℕ) (f g : ℕ → Ruling) → ((i : ℕ) → i < n → f i ≡ g i) → lowest n f ≡ lowest n g
unfolding lowest
lowest_ext zero f g e = refl
lowest_ext (suc n) f g e = ap₂ {C = Ruling} (λ x y. first_ruling x y) (lowest_ext n f g (λ i l. e i (omega arith))) (e n (omega arith))

module _ (O : Ops) (J : Joint) (s s' : State) (r : Round) (a : Alike J.parties s s') where
  pub said_alike : said O J s r ≡ said O J s' r
  unfolding said taken takes
  said_alike = joined_ext J.parties (said_by O J s r) (said_by O J s' r) (λ i l. rw (a.point, a.held i l, a.scratch i l, a.used, a.checks))

  notes_alike : (i : ℕ) → i < J.parties → notes O J s r i ≡ notes O J s' r i
  unfolding notes
  notes_alike i l = rw (a.scratch i l, a.checks)

  ends_alike : ends O J s r ≡ ends O J s' r
  unfolding ends
  ends_alike =
      lowest_ext J.parties (λ i. finds O (party J i) (notes O J s r i) r (said O J s r)) (λ i. finds O (party J i) (notes O J s' r i) r (said O J s' r))
      (λ i l. rw (said_alike, notes_alike i l))

  pub released_alike : receiver (gate J.circuit s.point.gate) < J.parties → released O J s r ≡ released O J s' r
  unfolding released
  released_alike h = rw (ends_alike, a.scratch (receiver (gate J.circuit s.point.gate)) h, a.point)

  pub step_alike : Alike J.parties (step O J s r) (step O J s' r)
  unfolding step takes taken
  step_alike =
      record {
        point = rw (ends_alike, a.point);
        held = λ i l. rw (a.point, a.scratch i l, a.used);
        scratch = λ i l. rw (said_alike, ends_alike, notes_alike i l, a.point);
        used = rw (a.point, a.used);
        checks = rw a.checks;
        blame = ap blamed ends_alike;
      }

-- and the marks that all have stay the marks of what is held and noted
pub sealed_alike : (O : Ops) (J : Joint) (s s' : State) → Alike J.parties s s' → Sealed O J s' → Sealed O J s
sealed_alike O J s s' a z =
    record {
      marks = λ i l.
          ap (marks_of J.parties (layout J.circuit)) (a.scratch i l)
          ∙ z.marks i l
          ∙ joined_ext J.parties _ _ (λ t h. rw (a.held t h, a.scratch t h));
      long = λ i l. rw (a.scratch i l) (z.long i l);
    }

-- what is the same as the same thing is the same
pub alike_then : (n : ℕ) (s s' s'' : State) → Alike n s s' → Alike n s' s'' → Alike n s s''
alike_then n s s' s'' a b =
    record {
      point = a.point ∙ b.point;
      held = λ i l. a.held i l ∙ b.held i l;
      scratch = λ i l. a.scratch i l ∙ b.scratch i l;
      used = a.used ∙ b.used;
      checks = a.checks ∙ b.checks;
      blame = a.blame ∙ b.blame;
    }
