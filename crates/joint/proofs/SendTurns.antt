-- All parties send: the words of each sort of round, what they ask, and that they are what is defined.
-- Assumes nothing.
use Prim.Native.Nat.{ℕ, suc, ◌+◌, ◌*◌, ◌<◌, ◌≤◌}
use mathlib.Core.Path.{◌≡◌, sym, ap, ◌∙◌}
use mathlib.Core.Bool.{Bool, true, false}
use mathlib.Core.List.{List, [], ◌∷◌}
use native.Mathlib.Nat.{add-sub_cancel_left}
use native.Mathlib.Decide.{ℕ_discrete}
use native.Mathlib.Omega.{arith}
use lib.Dec.{eqb}
use lib.ListN.{length, get_or, drop, length-drop}
use lib.Seq.{length-take-le, get_or-take, get_or-drop}
use borrow.Author.Tests.{ne_eqb, eqb-true, eqb-false}
use Rattle.algebra.specs.Ops.{Ops}
use Rattle.algebra.specs.Element.{Is}
use Rattle.algebra.specs.Sum.{sum}
use Rattle.field.specs.Words.{ops, size}
use Rattle.field.proofs.Laws.{laws}
use Rattle.circuit.specs.Gate.{gate}
use Rattle.circuit.specs.Kind.{Owned, Opens, mask_size, shape, is_give}
use Rattle.circuit.specs.Count.{input_at, input_count, unchecked}
use Rattle.circuit.specs.Round.{Round, Own, Open, is_commit, commit_words, reveal_words, words, opened_in, coefficients_in}
use Rattle.circuit.proofs.Counts.{input_within}
use Rattle.circuit.proofs.KindLaws.{class_is, owned_facts, opens_facts, give_prep}
use Rattle.circuit.proofs.RoundLaws.{class_at_round}
use Rattle.circuit.proofs.Tests.{by_cases}
use Rattle.protocol.specs.Scratch.{Layout, band}
use Rattle.protocol.specs.Position.{keep}
use Rattle.protocol.specs.Party.{key, record_in, record_of, input_of}
use Rattle.protocol.specs.Send.{mark, input_word, words_of_opening, opening, own_words, shown, showing, sent, holds}
use Rattle.protocol.specs.Holding.{Below, Held, Opened}
use Rattle.protocol.specs.Code.{layout_of}
use Rattle.protocol.specs.Ready.{Named}
use Rattle.protocol.specs.Ask.{most_parties}
use Rattle.protocol.proofs.Readiness.{input_words, opening_words, output_words, opened_there, opening_held, output_held}
use Rattle.protocol.specs.Joint.{Joint, joined, inputs_at, party}
use Rattle.protocol.specs.Run.{takes, taken, said, step}
use Rattle.joint.specs.declared.Frame.{Frame}
use Rattle.joint.specs.Code.{Course, Placed, joint_of, site_of, state_of, part, prep_from, key_in, Prepared, Banded, EachBand, Going, said_by, share_in, revealed_by}
use Rattle.protocol.specs.Receive.{heard_sum}
use Rattle.sha256.specs.Digest.Laws.{digest_long}
use Rattle.protocol.proofs.Summing.{Running}
use Rattle.protocol.proofs.Tails.{length_nonce}
use Rattle.protocol.proofs.Words.{joined_ext, heard_sum_lem}
use Rattle.joint.proofs.Cutting.{band_tail}
use Rattle.joint.proofs.Parties.{lent_prepared, lent_key, lent_banded, lent_keyed, lent_record, lent_record_is}
use Rattle.joint.proofs.Going.{within, occurs}

-- a part of a list is as long as its ends say
pub part_enough : (u k : ℕ) (xs : List ℕ) → u + k ≤ length xs → k ≤ length (part u (u + k) xs)
part_enough u k xs h = rw (add-sub_cancel_left u k) (omega (arith, length-take-le k (drop u xs) (simp length-drop (omega arith))))

-- the words of party i at a gate that opens k values and names x and z
abbrev pub opened_words : Frame → List ℕ → List ℕ → ℕ → ℕ → ℕ → ℕ → ℕ → List ℕ
opened_words f preps l a x z k i = words_of_opening ops (layout_of f.layout) (band f.scratch l i) x z (prep_from f preps a i) k

-- they are k
pub opened_words_lem : (O : Ops) (y : Layout) (l : List ℕ) (x z : ℕ) (m : List ℕ) (k : ℕ) → 1 ≤ k → k ≤ 2 → length (words_of_opening O y l x z m k) ≡ k
opened_words_lem O y l x z m k some few =
    by_cases (eqb k 2) (λ e. rw e (omega (arith, eqb-true k 2 e))) (λ e. rw e (omega (arith, eqb-false k 2 e)))

-- a mark, and what it is of
pub mark_long : (ws : List ℕ) → length (mark ws) ≡ commit_words
unfolding mark
mark_long ws = digest_long ws

pub reveal_long : {f : Frame} {l : List ℕ} → Banded f l → (held : List ℕ) (i : ℕ) → i < f.parties → length (revealed_by f held l i) ≡ reveal_words
reveal_long {f} {l} b held i h = ap suc (length_nonce (layout_of f.layout) (band f.scratch l i) (omega (arith, band_tail b i h)))

-- word t of each of i parties is added up in a running sum; where these are all, its element is what is heard of the words of all
module _ (n k t : ℕ) (F : ℕ → List ℕ) (each : (i : ℕ) → i < n → length (F i) ≡ k) (within : t < k) where
  pub words_heard : {out : List ℕ} → out ≡ joined n F → {most i acc e : ℕ} → i ≤ n → n ≤ i → Running ops most (λ z. get_or (F z) t 0) i acc
      → Is size (ops.norm acc) e
      → Is size (heard_sum ops n k t out) e
  words_heard d {i = i} upto done a ee =
      let q : i ≡ n = omega arith in
      record {
        is =
            ee.is
            ∙ a.added.is
            ∙ ap (λ (m : ℕ). sum ops m (λ z. get_or (F z) t 0)) q
            ∙ sym (heard_sum_lem laws n k t F each within)
            ∙ ap (heard_sum ops n k t) (sym d);
        below = ee.below;
      }

-- an input matters to its owner only
input_same : (O : Ops) (i owner : ℕ) (m : List ℕ) (u v : ℕ) → (i ≡ owner → u ≡ v) → input_word O i owner m u ≡ input_word O i owner m v
unfolding input_word
input_same O i owner m u v h = go (ℕ_discrete i owner)
  where
    go : Dec (i ≡ owner) → input_word O i owner m u ≡ input_word O i owner m v
    go (yes e) = rw (h e)
    go (no e) = rw (ne_eqb i owner e)

-- what all are lent, by the frame
abbrev pub lent_all : Frame → List ℕ → List ℕ → List ℕ → List ℕ → List ℕ → Joint
lent_all f c preps inputs coefficients nonces = joint_of f.parties c preps inputs coefficients nonces

module _ {f : Frame} {s : Course} {c preps inputs coefficients nonces held l : List ℕ} where
  module _ {r : Round} (g : Going (lent_all f c preps inputs coefficients nonces) f s r held l) where
    pub record_end : s.prep + (shape (gate c s.point.gate)).prep ≤ f.prep
    record_end = lent_record g.lent g.prep_is (within (lent_all f c preps inputs coefficients nonces) f s r held l g)

    -- what is cut out is what the definitions read
    record_is : (i : ℕ) → prep_from f preps s.prep i ≡ record_of (party (lent_all f c preps inputs coefficients nonces) i) s.point.gate
    unfolding record_of record_in party
    record_is i =
        lent_record_is g.lent g.prep_is (within (lent_all f c preps inputs coefficients nonces) f s r held l g) i
        ∙ ap (λ (a : ℕ). drop a (party (lent_all f c preps inputs coefficients nonces) i).prep) g.prep_is

    key_of : (i : ℕ) → key_in f preps i ≡ key (party (lent_all f c preps inputs coefficients nonces) i)
    unfolding key
    key_of i = lent_keyed g.lent i

    -- one word a party
    pub put_asks : (out : List ℕ) → length out ≡ f.parties * words (gate c s.point.gate) r → words (gate c s.point.gate) r ≡ 1 → (f.parties ≤ most_parties) × (length out ≡ f.parties)
    put_asks out e w = (g.lent.few, e ∙ rw w (omega arith))

    -- no check share is held after a round that is no commitment
    pub held_zero : is_commit r ≡ false → (i : ℕ) {x : ℕ} → x ≡ 0 → Is size ((step ops (lent_all f c preps inputs coefficients nonces) (state_of f s held l) r).held i) x
    unfolding step keep
    held_zero e i z = record { is = z ∙ rw e; below = rw z (omega arith) }

    module _ (e : is_commit r ≡ true) {k : ℕ} (opened_is : k ≡ opened_in (unchecked c s.point.gate) r) where
      pub takes_are : k ≡ takes ops (lent_all f c preps inputs coefficients nonces) (state_of f s held l) r
      unfolding takes state_of coefficients_in
      takes_are = opened_is ∙ rw e

      pub check_asks : (f.parties ≤ most_parties)
          × Prepared f preps 0 1
          × Banded f l
          × (s.used + k ≤ length coefficients)
          × Below size coefficients
          × EachBand f l (λ i m. (t : ℕ) → t < k → Opened size (layout_of f.layout) m t)
      unfolding coefficients_in site_of party
      check_asks = (
        g.lent.few,
        lent_key g.lent,
        lent_banded g.lent g.room,
        rw opened_is (rw e at g.has_coefficient_count),
        g.coefficients_low,
        λ i h. rw opened_is (opened_there (party (lent_all f c preps inputs coefficients nonces) i) (band f.scratch l i) f.layout (site_of c s i) r (g.ready i h)),
      )

      -- the check share that each holds, which is made when the commitment is sent
      pub holds_is : (i : ℕ) → share_in f preps l k s.used coefficients i
          ≡ holds ops (party (lent_all f c preps inputs coefficients nonces) i) (band f.scratch l i) s.point.gate r (taken ops (lent_all f c preps inputs coefficients nonces) (state_of f s held l) r)
      unfolding state_of holds party taken
      holds_is i = rw (e, ← opened_is, ← takes_are, g.lent.framed.lay, key_of i, add-sub_cancel_left s.used k)

      pub checked_is : (i : ℕ) → share_in f preps l k s.used coefficients i
          ≡ (step ops (lent_all f c preps inputs coefficients nonces) (state_of f s held l) r).held i
      unfolding step state_of keep
      checked_is i = rw e (holds_is i)

    -- the words are those of the definition, if each party's are
    pub said_by_lem : (F : ℕ → List ℕ) → ((i : ℕ) → i < f.parties → F i ≡ said_by ops (lent_all f c preps inputs coefficients nonces) (state_of f s held l) r i) → {out : List ℕ} → out ≡ joined f.parties F → out ≡ said ops (lent_all f c preps inputs coefficients nonces) (state_of f s held l) r
    unfolding said
    said_by_lem F e d = d ∙ joined_ext f.parties F (said_by ops (lent_all f c preps inputs coefficients nonces) (state_of f s held l) r) e

  -- a gate's own round
  module _ (g : Going (lent_all f c preps inputs coefficients nonces) f s Own held l) where
    some : 0 < f.parties
    some = omega (arith, g.lent.some)

    -- in gates
    module _ (cl : (shape (gate c s.point.gate)).class ≡ Owned) {places : List ℕ} (placed : Placed f.parties c s.point.gate places) where
      pub input_asks : (out : List ℕ) → length out ≡ f.parties * words (gate c s.point.gate) Own
          → (f.parties ≤ most_parties) × Prepared f preps s.prep 3 × Below size inputs × (f.parties ≤ length places) × (length out ≡ f.parties)
      input_asks out e = (
        g.lent.few,
        lent_prepared g.lent s.prep 3 (omega (arith, record_end g, (owned_facts (gate c s.point.gate) cl).prep)),
        g.lent.inputs_low,
        omega (arith, g.lent.few, placed.eight),
        (put_asks g out e (input_words (gate c s.point.gate) cl)).1,
      )

      own_input : (i : ℕ) → i < f.parties → i ≡ (gate c s.point.gate).first → get_or inputs (get_or places i 0) 0 ≡ input_of (party (lent_all f c preps inputs coefficients nonces) i) s.point.gate
      unfolding input_of party
      own_input i h e =
          ap (λ (z : ℕ). get_or inputs z 0) (placed.each i h)
          ∙ sym (get_or-take (input_count c i) (drop (inputs_at c i) inputs) (input_at c i s.point.gate) 0 (input_within c i s.point.gate (class_is cl) (sym e) (within (lent_all f c preps inputs coefficients nonces) f s Own held l g)) ∙ get_or-drop (inputs_at c i) inputs (input_at c i s.point.gate) 0)

      pub said_input : {x : ℕ} → x ≡ (gate c s.point.gate).first → {out : List ℕ}
          → out ≡ joined f.parties (λ i. input_word ops i x (prep_from f preps s.prep i) (get_or inputs (get_or places i 0) 0) ∷ [])
          → out ≡ said ops (lent_all f c preps inputs coefficients nonces) (state_of f s held l) Own
      unfolding sent own_words state_of party
      said_input {x} ex d =
          said_by_lem g _
          (λ i h.
          rw (cl, ex, record_is g i)
          (ap (λ (z : ℕ). z ∷ []) (input_same ops i (gate c s.point.gate).first (record_of (party (lent_all f c preps inputs coefficients nonces) i) s.point.gate) _ _ (own_input i h))))
          d

    -- gates that open values
    module _ (cl : (shape (gate c s.point.gate)).class ≡ Opens) {x z k : ℕ} (n : Named (gate c s.point.gate) x z k) where
      pub opening_asks : (out : List ℕ) → length out ≡ f.parties * words (gate c s.point.gate) Own
          → (1 ≤ k)
          × (k ≤ 2)
          × Prepared f preps s.prep (2 * k + 2)
          × Banded f l
          × EachBand f l (λ i m. Held size (layout_of f.layout) m x × Held size (layout_of f.layout) m z)
          × (length out ≡ f.parties * k)
          × (f.parties ≤ most_parties)
      unfolding site_of party
      opening_asks out e =
          let o = opens_facts (gate c s.point.gate) cl in (
            omega (arith, n.openings, o.some),
            omega (arith, n.openings, o.few),
            lent_prepared g.lent s.prep (2 * k + 2) (omega (arith, record_end g, n.openings, o.prep)),
            lent_banded g.lent g.room,
            λ i h. rw (n.first, n.second) (opening_held (party (lent_all f c preps inputs coefficients nonces) i) (band f.scratch l i) f.layout (site_of c s i) (g.ready i h) cl),
            e ∙ ap (λ (m : ℕ). f.parties * m) (opening_words (gate c s.point.gate) cl ∙ sym n.openings),
            g.lent.few,
          )

      pub said_opening : {out : List ℕ} → out ≡ joined f.parties (opened_words f preps l s.prep x z k) → out ≡ said ops (lent_all f c preps inputs coefficients nonces) (state_of f s held l) Own
      unfolding sent own_words opening state_of party
      said_opening d =
          said_by_lem g (opened_words f preps l s.prep x z k)
          (λ i h. rw (cl, n.first, n.second, n.openings, record_is g i, g.lent.framed.lay)) d

  -- opened outputs
  module _ (g : Going (lent_all f c preps inputs coefficients nonces) f s Open held l) {x : ℕ} (ex : x ≡ (gate c s.point.gate).first)
      {give : Bool} (eg : give ≡ is_give (gate c s.point.gate)) where
    pub output_asks : (out : List ℕ) → length out ≡ f.parties * words (gate c s.point.gate) Open
        → (f.parties ≤ most_parties)
        × Prepared f preps s.prep 0
        × (give ≡ true → s.prep + mask_size ≤ f.prep)
        × Banded f l
        × EachBand f l (λ i m. Held size (layout_of f.layout) m x)
        × (length out ≡ f.parties)
    unfolding site_of party
    output_asks out e = (
      g.lent.few,
      lent_prepared g.lent s.prep 0 (omega (arith, record_end g)),
      (λ b. omega (arith, record_end g, give_prep (gate c s.point.gate) (sym eg ∙ b))),
      lent_banded g.lent g.room,
      λ i h. rw ex (output_held (party (lent_all f c preps inputs coefficients nonces) i) (band f.scratch l i) f.layout (site_of c s i) (g.ready i h)),
      (put_asks g out e (output_words (gate c s.point.gate) (class_at_round c s.point.gate Open (occurs (lent_all f c preps inputs coefficients nonces) f s Open held l g)))).1,
    )

    pub said_output : {out : List ℕ} → out ≡ joined f.parties (λ i. (shown ops (layout_of f.layout) (band f.scratch l i) give x (prep_from f preps s.prep i)).share ∷ [])
        → out ≡ said ops (lent_all f c preps inputs coefficients nonces) (state_of f s held l) Open
    unfolding sent showing state_of party
    said_output d = said_by_lem g _ (λ i h. rw (ex, eg, record_is g i, g.lent.framed.lay)) d
