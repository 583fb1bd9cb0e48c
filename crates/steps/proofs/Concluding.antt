-- What receiving asks and leaves, round by round.
-- Assumes nothing.
use Prim.Native.Nat.{ℕ, ◌+◌, ◌-◌, ◌*◌, ◌<◌, ◌≤◌}
use mathlib.Core.Path.{◌≡◌, sym, ap, ◌∙◌}
use mathlib.Core.Bool.{Bool, true, false}
use mathlib.Core.List.{List}
use native.Mathlib.Omega.{arith}
use Rattle.std.specs.Prelude.{Option, Ok, Err}
use lib.ListN.{length, get_or, take, drop}
use lib.Dec.{eqb}
use borrow.Rule.Slice.PartMut.{mid_len}
use Rattle.algebra.specs.Element.{Is}
use Rattle.field.specs.Words.{size, ops}
use Rattle.circuit.specs.Gate.{Kind, In, Add, Sub, Plus, Times, Mul, Out, Sq, Give, Over, gate, gate_of}
use Rattle.circuit.specs.Kind.{Local, kind_shape, is_class, is_give}
use Rattle.circuit.proofs.Tests.{false_no}
use Rattle.circuit.specs.Round.{Check, Round, Open, Commit, Reveal, is_reveal, commit_words, reveal_words, shape_words, words, rounds, among}
use Rattle.protocol.specs.Scratch as S
use Rattle.protocol.specs.Scratch.{marks_at, marks_of}
use Rattle.protocol.specs.Holding.{Held, Reads}
use Rattle.protocol.specs.Position.{aborted}
use Rattle.protocol.specs.Party.{Party}
use Rattle.protocol.specs.Send.{shown}
use Rattle.protocol.specs.Receive as R
use Rattle.protocol.specs.Receive.{passed, heard_sum, after_open_output, misfit, weighs, ruling, received, finds}
use Rattle.protocol.specs.Code.{layout_of, point_of, ruling_of}
use Rattle.protocol.specs.Ready.{Receives}
use Rattle.protocol.specs.declared.Layout.{Layout}
use Rattle.protocol.specs.declared.Site.{Site}
use Rattle.protocol.proofs.Following.{followed, ruling_other, next_follows, next_stops}
use Rattle.protocol.proofs.Readiness.{class_of, output_words, tail_there}
use Rattle.protocol.proofs.HeardWords.{output_heard}
use Rattle.protocol.proofs.Received.{output_received, left_passed, left_stopped}
use Rattle.steps.specs.declared.Conclusion.{Conclusion}
use Rattle.steps.specs.Code.{Concludes}

-- an output is shown by one word of each party
module _ (P : Party) (l : List ℕ) (y : Layout) (at : Site) {heard : List ℕ} (s : Receives size P l y at Open heard) where
  shown_words : words (gate P.circuit at.gate) Open ≡ 1
  shown_words = output_words (gate P.circuit at.gate) (class_of P l y at Open s.ready)

  pub shown_asks : (0 < 1) × (P.parties * 1 ≤ length heard) × ((i : ℕ) → i < P.parties → get_or heard (i * 1 + 0) 0 < size)
  shown_asks =
      let e : length heard ≡ P.parties * 1 = s.whole ∙ rw shown_words in
      (omega arith, omega arith, λ i h. s.heard_low (i * 1 + 0))

  pub shown_received : {x : ℕ} {give : Bool} {m : List ℕ} {e : ℕ} {l₁ : List ℕ}
      → x ≡ (gate P.circuit at.gate).first
      → give ≡ is_give (gate P.circuit at.gate)
      → m ≡ drop at.prep P.prep
      → Is size (heard_sum ops P.parties 1 0 heard) e
      → l₁ ≡ after_open_output ops (layout_of y) l (shown ops (layout_of y) l give x m) e
      → l₁ ≡ received ops P l at.gate Open heard
  shown_received ex eg em ee e =
      output_received ops P l y at heard s.ready ex eg em
      (ee.is ∙ sym (output_heard ops P.parties heard Open (gate P.circuit at.gate) (class_of P l y at Open s.ready) ∙ rw shown_words)) e

-- a commitment's marks fit the scratch
pub marks_ask : (P : Party) (l : List ℕ) (y : Layout) (at : Site) (t : Check) {heard : List ℕ} → Receives size P l y at (Commit t) heard
    → marks_at (layout_of y) + length heard ≤ length l
unfolding shape_words
marks_ask P l y at t s = omega (arith, s.whole, tail_there P l y at (Commit t) s.ready)

-- a reveal is judged by the marks that stand in the scratch
module _ (P : Party) (l : List ℕ) (y : Layout) (at : Site) (t : Check) {heard : List ℕ} (s : Receives size P l y at (Reveal t) heard) where
  module _ {k : ℕ} (e : k ≡ marks_at (layout_of y)) where
    pub judge_asks : (P.parties * commit_words ≤ length (take (k + P.parties * commit_words - k) (drop k l)))
        × (P.parties * reveal_words ≤ length heard)
        × ((i : ℕ) → i < P.parties → get_or heard (i * reveal_words) 0 < size)
    unfolding shape_words
    judge_asks =
        (omega (arith, mid_len k (k + P.parties * commit_words) l (omega (arith, e, tail_there P l y at (Reveal t) s.ready))), omega (arith, s.whole), s.heard_low)

    pub judged : {v : R.Ruling}
        → v ≡ weighs (misfit P.parties (take (k + P.parties * commit_words - k) (drop k l)) heard) (eqb (heard_sum ops P.parties reveal_words 0 heard) 0)
        → v ≡ finds ops P l (Reveal t) heard
    unfolding finds ruling marks_of
    judged f =
        let n : k + P.parties * commit_words - k ≡ P.parties * commit_words = omega arith in
        f ∙ rw (n, e, s.ready.lay)

-- no other round stops a run
pub found_other : (P : Party) (l : List ℕ) (r : Round) (heard : List ℕ) → is_reveal r ≡ false → ruling_of (Ok tt) ≡ finds ops P l r heard
unfolding finds ruling_of
found_other P l r heard e = sym (ruling_other ops P.parties _ heard r e)

-- what a round comes to, by how it ends
module _ (P : Party) (l : List ℕ) (j : ℕ) (r : Round) (heard : List ℕ) {x : Conclusion} (e : ruling_of x.ruling ≡ finds ops P l r heard) where
  pub concludes_passed : x.ruling ≡ Ok tt → among r (rounds P.circuit j) ≡ true → point_of x.point ≡ followed P.circuit j r
      → {l' : List ℕ} → l' ≡ received ops P l j r heard → Concludes P l j r heard x l'
  unfolding ruling_of
  concludes_passed p has f g =
      let v : passed (finds ops P l r heard) ≡ true = sym (ap passed e) ∙ rw p in
      record { ruling = e; point = next_follows P.circuit j _ r has v f; scratch = left_passed ops P l j heard _ r v g }

  pub concludes_stopped : {b : Option ℕ} → x.ruling ≡ Err b → point_of x.point ≡ aborted j → Concludes P l j r heard x l
  unfolding ruling_of
  concludes_stopped p f =
      let v : passed (finds ops P l r heard) ≡ false = sym (ap passed e) ∙ rw p in
      record { ruling = e; point = next_stops P.circuit j _ r v f; scratch = left_stopped ops P l j heard _ r v }

-- a gate of a local kind reads the gate that it names first
pub local_first : {y : S.Layout} {l : List ℕ} {x z n : ℕ} (k : Kind) → is_class Local (kind_shape k).class ≡ true → Reads size y l (gate_of k x z n) → Held size y l x
unfolding kind_shape is_class
local_first In h r = false_no h
local_first Add h r = r.first
local_first Sub h r = r.first
local_first Plus h r = r.first
local_first Times h r = r.first
local_first Mul h r = false_no h
local_first Out h r = false_no h
local_first Sq h r = false_no h
local_first Give h r = false_no h
local_first Over h r = r.first
