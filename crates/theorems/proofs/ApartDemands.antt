-- Demands 2 and 3 of parties apart: since they are the joint run, they release its scores, and A sees of them what it sees of the joint run.
-- Assumes nothing.
use Prim.Native.Nat.{ℕ, zero, suc, ◌*◌, ◌<◌}
use mathlib.Core.Path.{◌≡◌, refl, sym, ap, ap₂, subst, ◌∙◌}
use mathlib.Core.Bool.{Bool, true}
use mathlib.Core.List.{List, ◌++◌, append-nil}
use native.Mathlib.Omega.{arith}
use lib.ListN.{length, take, drop, drop_of_length-le}
use lib.Seq.{drop-append_seam}
use borrow.Author.Tests.{eq-eqb}
use Rattle.algebra.specs.Ops.{Ops}
use Rattle.algebra.specs.Field.{Field}
use Rattle.field.specs.Words.{ops}
use Rattle.field.proofs.Laws.{laws}
use Rattle.circuit.specs.Verdict.{Accepted}
use Rattle.circuit.specs.Kind.{alone}
use Rattle.circuit.specs.Count.{prep_size, input_count}
use Rattle.circuit.proofs.Verdicts.{ask_yes, then_right, then_both, elements_below, elements_all}
use Rattle.protocol.specs.Position.{Point, finished, holding, may_hold}
use Rattle.protocol.specs.Party.{Party}
use Rattle.protocol.specs.Holding.{Below}
use Rattle.protocol.specs.Ask.{ask_lent}
use Rattle.protocol.proofs.Passing.{lent_passes}
use Rattle.protocol.specs.Scratch.{band}
use Rattle.protocol.specs.Joint.{Joint, joined, inputs_at, party, nonce_for}
use Rattle.protocol.specs.Run.{State, Run, takes, taken}
use Rattle.protocol.specs.Good.{Good}
use Rattle.protocol.specs.Formula.{round_formula}
use Rattle.protocol.proofs.Inputs.{inputs_all}
use Rattle.protocol.proofs.Words.{length_band}
use Rattle.protocol.proofs.Bands.{band_joined, joined_bands}
use Rattle.protocol.proofs.Said.{below_of, below_part, below_joined}
use Rattle.theorems.specs.Premises.{Accepts, InputsPass, Honest, after}
use Rattle.theorems.specs.Accuracy.{Accurate}
use Rattle.theorems.specs.Matching.{plainly, rule}
use Rattle.theorems.specs.Secrecy.{Secret}
use Rattle.theorems.specs.Apart.{Apart, party_in, Local, opens, sends, receives, heard_in, round, apart, spoken, jointly, bands, Meets}
use Rattle.theorems.specs.ApartDemands.{Scored, GoodApart, Scores, matched, ComparedApart, AlikeApart, SecrecyApart}
use Rattle.theorems.proofs.Runs.{first, last_first}
use Rattle.theorems.proofs.Abort.{whole_first}
use Rattle.theorems.proofs.Accuracy.{seen_are, accuracy}
use Rattle.theorems.proofs.Secrecy.{SameFirst, same_first, secrecy}
use Rattle.theorems.proofs.Joined.{length_inputs, inputs_joined, passed, circuit_accepted, parties_accepted, circuit_valid, prep_long, inputs_long, scratch_long}
use Rattle.theorems.proofs.Apart.{enough, held_free, together}

module _ {O : Ops} (F : Field O) (D : Apart) (cs ns : List ℕ) (ok : Meets O D cs ns) where
  open O use {size}

  -- the joint run
  abbrev J : Joint
  J = jointly D cs ns

  -- Its number of parties and its circuit are accepted.
  accepts : Accepts O D.parties D.circuit
  accepts =
      record { parties = parties_accepted F D cs ns ok.some ok.lent; circuit = circuit_accepted F D cs ns ok.some ok.lent }

  -- The parties' inputs, joined, pass.
  inputs_pass : InputsPass O D.circuit (joined D.parties D.inputs)
  inputs_pass =
      then_both
      (ask_yes 10 0
      (eq-eqb _ _
      (length_inputs D.circuit D.inputs D.parties (inputs_long F D cs ns ok.some ok.lent)
      ∙ inputs_all (circuit_valid F D cs ns ok.some ok.lent))))
      (elements_all 11 size _
      (below_joined (omega (arith, F.one_lt)) D.parties D.inputs (λ i h. (passed F D cs ns ok.some ok.lent i h).inputs_low)))

  module _ (good : GoodApart O D) where
    honest : Honest O J (bands D)
    honest = record { accepts = accepts; good = good; inputs = inputs_pass; enough = enough F D cs ns ok }

    accurate : Accurate O J (bands D)
    accurate = accuracy F J (bands D) honest

    -- After the rounds of the formula the joint run is finished.
    finished_then : (after O J (bands D) (round_formula D.circuit)).point ≡ finished D.circuit
    finished_then =
        ap (λ (s : State). s.point) (sym (last_first O J (bands D) (round_formula D.circuit)))
        ∙ ap (λ (R : Run). R.last.point) (sym (whole_first O J (bands D) accepts))
        ∙ accurate.finishes

    -- So every party is finished, and its outputs are the scores that it sees.
    scored : Scored O D cs ns
    scored =
        record {
          finishes =
              λ i h. (together F D cs ns ok).position (round_formula D.circuit) i h
              ∙ ap₂ holding finished_then (held_free F D cs ns ok (round_formula D.circuit) i h (rw finished_then (unfold may_hold finished in refl)));
          outputs =
              λ i h. (together F D cs ns ok).outputs (round_formula D.circuit) i h
              ∙ seen_are F J (bands D) honest (alone i) (round_formula D.circuit) finished_then;
        }

    module _ (A : ℕ → Bool) (inputs' : ℕ → List ℕ) (is : ComparedApart O D A inputs') where
      -- the joined lists of both runs
      abbrev n : ℕ
      n = D.parties

      abbrev c : List ℕ
      c = D.circuit

      abbrev x : List ℕ
      x = joined n D.inputs

      abbrev x' : List ℕ
      x' = joined n inputs'

      abbrev m : List ℕ
      m = joined n D.prep

      abbrev m' : List ℕ
      m' = rule O n c A x x' m

      -- the second run's parties
      abbrev D' : Apart
      D' = matched O D A inputs'

      secret : Secret O n c A x x' (rule O n c A x x') (rule O n c A x' x)
      secret = secrecy F n c A x x' is.compared

      good' : Good O n c m'
      good' = secret.there_good m good

      -- Each party's parts of the matched preprocessing and of the second inputs pass.
      low' : Below size m'
      low' = below_of m' (omega (arith, F.one_lt)) good'.elements

      inputs_low' : Below size x'
      inputs_low' = elements_below 11 size x' (omega (arith, F.one_lt)) (then_right _ _ is.compared.second)

      own' : (i : ℕ) → i < n → take (input_count c i) (drop (inputs_at c i) x') ≡ inputs' i
      own' = inputs_joined c inputs' n is.counts

      lent' : (i : ℕ) → i < n → ask_lent size (party_in D' i) (D.scratch i) ≡ Accepted
      unfolding matched band
      lent' i h =
          lent_passes (party_in D' i) (D.scratch i) accepts.parties h accepts.circuit
          (length_band (prep_size c) n m' (omega (arith, good'.long)) i h)
          (below_part m' (prep_size c) (i * prep_size c) low')
          (is.counts i h)
          (subst (Below size) (own' i h) (below_part x' (input_count c i) (inputs_at c i) inputs_low'))
          (scratch_long F D cs ns ok.some ok.lent i h)

      -- The joint run of the second parties is the one that secrecy speaks of.
      preps_are : joined n (band (prep_size c) m') ≡ m'
      preps_are =
          sym (append-nil (joined n (band (prep_size c) m')))
          ∙ ap (λ (ys : List ℕ). joined n (band (prep_size c) m') ++ ys) (sym (drop_of_length-le m' {i = n * prep_size c} (omega (arith, good'.long))))
          ∙ joined_bands n (prep_size c) m' (omega (arith, good'.long))

      same : (k : ℕ) → SameFirst O J (jointly D' cs ns) (bands D) k
      unfolding matched rule
      same k =
          subst (λ (p : List ℕ). SameFirst O J (record { parties = n; circuit = c; preps = p; inputs = x'; coefficients = cs; nonces = ns }) (bands D) k) (sym preps_are)
          (same_first F n c A x x' is.compared m good cs ns (bands D) (enough F D cs ns ok) k)

      -- So the second parties are not refused either.
      bands_are : bands D' ≡ bands D
      unfolding bands matched
      bands_are = refl

      point_is : (k : ℕ) → (after O (jointly D' cs ns) (bands D') k).point ≡ (after O J (bands D) k).point
      point_is k = ap (λ (l : List ℕ). (after O (jointly D' cs ns) l k).point) bands_are ∙ (same k).point

      used_is : (k : ℕ) → (after O (jointly D' cs ns) (bands D') k).used ≡ (after O J (bands D) k).used
      used_is k = ap (λ (l : List ℕ). (after O (jointly D' cs ns) l k).used) bands_are ∙ (same k).used

      checks_is : (k : ℕ) → (after O (jointly D' cs ns) (bands D') k).checks ≡ (after O J (bands D) k).checks
      checks_is k = ap (λ (l : List ℕ). (after O (jointly D' cs ns) l k).checks) bands_are ∙ (same k).checks

      meets : Meets O D' cs ns
      unfolding matched
      meets =
          record {
            some = ok.some;
            lent = lent';
            enough = ok.enough;
            handed =
                λ k i r h e.
                ok.handed k i r h (ap (λ (p : Point). p.stage) (sym (point_is k)) ∙ e)
                ∙ (unfold taken takes in rw (point_is k, used_is k));
            noncing =
                λ k i r h e.
                ok.noncing k i r h (ap (λ (p : Point). p.stage) (sym (point_is k)) ∙ e)
                ∙ (unfold nonce_for in rw (checks_is k));
            room =
                λ k i r h e. rw (point_is k) (ok.room k i r h (ap (λ (p : Point). p.stage) (sym (point_is k)) ∙ e));
          }

      -- A's parties lend the same lists.
      parties_are : (i : ℕ) → i < n → A i ≡ true → party_in D' i ≡ party_in D i
      unfolding matched party plainly
      parties_are i h a =
          λ t.
          record {
            parties = n;
            me = i;
            circuit = c;
            prep = (secret.keeps m good i h a ∙ band_joined (prep_size c) n D.prep (prep_long F D cs ns ok.some ok.lent) i h) t;
            inputs =
                (sym (own' i h)
                ∙ is.compared.agree i h a
                ∙ inputs_joined c D.inputs n (inputs_long F D cs ns ok.some ok.lent) i h) t;
          }

      -- All words are the same ..
      spoken_are : (k : ℕ) → spoken O D' k ≡ spoken O D k
      spoken_are k =
          (together F D' cs ns meets).transcript k
          ∙ ap (λ (l : List ℕ). (first O (jointly D' cs ns) l k).transcript) bands_are
          ∙ (same k).transcript
          ∙ sym ((together F D cs ns ok).transcript k)

      -- .. round by round ..
      words_are : (k : ℕ) → heard_in O D' k (apart O D' k) ≡ heard_in O D k (apart O D k)
      unfolding spoken
      words_are k =
          sym (drop-append_seam (spoken O D' k) (heard_in O D' k (apart O D' k)))
          ∙ ap₂ (λ (a b : List ℕ). drop (length a) b) (spoken_are k) (spoken_are (suc k))
          ∙ drop-append_seam (spoken O D k) (heard_in O D k (apart O D k))

      -- .. and so is all that A's parties have.
      locals_are : (k i : ℕ) → i < n → A i ≡ true → apart O D' k i ≡ apart O D k i
      unfolding apart round matched
      locals_are zero i h a = ap (λ (P : Party). opens O P (D.scratch i)) (parties_are i h a)
      locals_are (suc k) i h a =
          ap₂ (λ (P : Party) (s : Local). receives O P (heard_in O D' k (apart O D' k)) (sends O P (D.coefficients k i) (D.nonces k i) (D.out k i) s))
          (parties_are i h a) (locals_are k i h a)
          ∙ ap (λ (ws : List ℕ). receives O (party_in D i) ws (sends O (party_in D i) (D.coefficients k i) (D.nonces k i) (D.out k i) (apart O D k i))) (words_are k)

      alike_apart : AlikeApart O D D' A cs ns
      alike_apart = record { meets = meets; parties = parties_are; words = words_are; locals = locals_are }

-- With good preprocessing every party releases the scores on plain inputs.
pub scores_apart : {O : Ops} → Field O → Scores O
scores_apart F D cs ns ok good = scored F D cs ns ok good

-- Demand 3 of parties apart, over every field.
pub secrecy_apart : {O : Ops} → Field O → SecrecyApart O
secrecy_apart F D cs ns A inputs' ok good is = alike_apart F D cs ns ok good A inputs' is

-- Both at the operations that the contracts cite.
pub scores_apart_here : Scores ops
scores_apart_here = scores_apart laws

pub secrecy_apart_here : SecrecyApart ops
secrecy_apart_here = secrecy_apart laws
