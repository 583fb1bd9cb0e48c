-- The docket by two parties apart: its lists meet what `together` asks, so that its two parties send the docket's words and release its score.
-- Party 0 lends a scratch that is longer than its layout.
-- Assumes nothing.
use Prim.Native.Nat.{ℕ, zero, suc, ◌-◌, ◌<◌, ◌≤◌}
use mathlib.Core.Path.{◌≡◌, refl, sym, ap, subst, ◌∙◌}
use mathlib.Core.Bool.{cond}
use mathlib.Core.List.{List, [], ◌∷◌}
use native.Mathlib.Decide.{dec_lt}
use native.Mathlib.Omega.{arith}
use lib.ListN.{replicate}
use borrow.Author.Tests.{leb-true}
use Rattle.algebra.specs.Ops.{Ops}
use Rattle.field.specs.Words.{ops}
use Rattle.field.specs.Prime.{modular}
use Rattle.field.specs.Prime.Laws.{prime_is_modular}
use Rattle.circuit.specs.Verdict.{Accepted}
use Rattle.circuit.specs.Gate.{gate}
use Rattle.circuit.specs.Kind.{alone}
use Rattle.circuit.specs.Round.{First, Second, Round, Own, Open, Commit, Reveal, is_commit, words, commits_in, check_count}
use Rattle.protocol.specs.Position.{Stage, Send, Finished}
use Rattle.protocol.specs.Ask.{ask_lent}
use Rattle.protocol.specs.Joint.{Joint, nonce_for}
use Rattle.protocol.specs.Run.{State, Run, begun, taken, run}
use Rattle.protocol.specs.Plain.{scores_seen}
use Rattle.protocol.specs.Docket.{circuit, prep₀, prep₁, docket, room, nonce, docket_words}
use Rattle.protocol.proofs.Computing.{computing}
use Rattle.theorems.specs.Premises.{Accepts, Enough, after}
use Rattle.theorems.specs.Apart.{Apart, party_in, outputs_in, apart, spoken, jointly, bands, Meets}
use Rattle.theorems.proofs.Runs.{Idle, after_idle}
use Rattle.theorems.proofs.Known.{hashed}
use Rattle.theorems.proofs.Hashed.{runs, first_is, state_is, hashing}
use Rattle.theorems.proofs.Docket.{accepts, docket_table}
use Rattle.theorems.proofs.Apart.{together_here}
use Rattle.theorems.proofs.ApartDemands.{scores_apart_here}

-- one thing for party 0 and another for party 1
abbrev either : List ℕ → List ℕ → ℕ → List ℕ
either x y zero = x
either x y (suc i) = y

-- "Draws 1 2 5.": two at the first commitment, which is round 3, and one at the second, round 6
abbrev drawn : ℕ → List ℕ
drawn zero = []
drawn (suc zero) = []
drawn (suc (suc zero)) = []
drawn (suc (suc (suc zero))) = 1 ∷ 2 ∷ []
drawn (suc (suc (suc (suc zero)))) = []
drawn (suc (suc (suc (suc (suc zero))))) = []
drawn (suc (suc (suc (suc (suc (suc zero)))))) = 5 ∷ []
drawn (suc (suc (suc (suc (suc (suc (suc k))))))) = []

-- "The docket's nonce bytes are all 0.": a nonce at each commitment, and none elsewhere
abbrev nonced : ℕ → List ℕ
nonced zero = []
nonced (suc zero) = []
nonced (suc (suc zero)) = []
nonced (suc (suc (suc zero))) = nonce
nonced (suc (suc (suc (suc zero)))) = []
nonced (suc (suc (suc (suc (suc zero))))) = []
nonced (suc (suc (suc (suc (suc (suc zero)))))) = nonce
nonced (suc (suc (suc (suc (suc (suc (suc k))))))) = []

abbrev pub docket_apart : Apart
docket_apart =
    record {
      parties = 2;
      circuit = circuit;
      prep = either prep₀ prep₁;
      inputs = either (5 ∷ []) (6 ∷ []);
      scratch = either (replicate 40 9) room;
      coefficients = λ k i. drawn k;
      nonces = λ k i. nonced k;
      out = λ k i. replicate 10 7;
    }

-- the joint run
abbrev the_docket : Joint
the_docket = jointly docket_apart docket.coefficients docket.nonces

module _ (O : Ops) where
  -- what is asked of round r after k rounds, where s is the state then
  abbrev Handed : State → ℕ → Round → Type 0
  Handed s k r =
      (drawn k ≡ taken O the_docket s r)
      × ((i : ℕ) → i < 2 → nonced k ≡ cond (is_commit r) (nonce_for the_docket s.checks i) [])
      × (words (gate circuit s.point.gate) r ≤ 10)

-- The same nonce is handed to both.
for_both : (nonce : List ℕ) (f : ℕ → List ℕ) → nonce ≡ f 0 → nonce ≡ f 1 → (i : ℕ) → i < 2 → nonce ≡ f i
for_both nonce f x y zero h = x
for_both nonce f x y (suc zero) h = y
for_both nonce f x y (suc (suc i)) h = absurd (omega arith)

-- A stage is that of one round.
at_stage : (A : Round → Type 0) {g : Stage} (r : Round) → g ≡ Send r → A r → (t : Round) → g ≡ Send t → A t
at_stage A r e a t q = let z : Send r ≡ Send t = sym e ∙ q in let w : r ≡ t = cc in subst A w a

accepted : Accepts modular 2 circuit
accepted = accepts

has_enough : Enough the_docket (bands docket_apart)
unfolding computing check_count commits_in bands
has_enough = record { nonces = leb-true _ _ refl; room = leb-true _ _ refl }

-- the state after k rounds, computed
abbrev state_of : ℕ → State
state_of k = (runs hashed modular the_docket k (begun modular the_docket (bands docket_apart))).last

state : (k : ℕ) → after modular the_docket (bands docket_apart) k ≡ state_of k
state = state_is modular the_docket (bands docket_apart) accepted has_enough

-- After the eighth round nothing is sent.
rests : (m : ℕ) → (after modular the_docket (bands docket_apart) (suc (suc (suc (suc (suc (suc (suc (suc m))))))))).point.stage ≡ Finished
rests zero = ap (λ (s : State). s.point.stage) (state 8) ∙ ended
  where
    ended : (state_of 8).point.stage ≡ Finished
    ended = unfold hashing modular bands in refl
rests (suc m) =
    ap (λ (s : State). s.point.stage)
    (after_idle modular the_docket (bands docket_apart) (suc (suc (suc (suc (suc (suc (suc (suc m))))))))
    (subst Idle (sym (rests m)) tt))
    ∙ rests m

-- what is handed over in the first eight rounds
computed_handed : (k : ℕ) → k < 8 → (r : Round) → (state_of k).point.stage ≡ Send r → Handed modular (state_of k) k r
unfolding hashing modular bands
computed_handed zero h = at_stage (Handed modular (state_of 0) 0) Own refl (refl, for_both _ _ refl refl, leb-true _ _ refl)
computed_handed (suc zero) h = at_stage (Handed modular (state_of 1) 1) Own refl (refl, for_both _ _ refl refl, leb-true _ _ refl)
computed_handed (suc (suc zero)) h = at_stage (Handed modular (state_of 2) 2) Own refl (refl, for_both _ _ refl refl, leb-true _ _ refl)
computed_handed (suc (suc (suc zero))) h = at_stage (Handed modular (state_of 3) 3) (Commit First) refl (refl, for_both _ _ refl refl, leb-true _ _ refl)
computed_handed (suc (suc (suc (suc zero)))) h = at_stage (Handed modular (state_of 4) 4) (Reveal First) refl (refl, for_both _ _ refl refl, leb-true _ _ refl)
computed_handed (suc (suc (suc (suc (suc zero))))) h = at_stage (Handed modular (state_of 5) 5) Open refl (refl, for_both _ _ refl refl, leb-true _ _ refl)
computed_handed (suc (suc (suc (suc (suc (suc zero)))))) h = at_stage (Handed modular (state_of 6) 6) (Commit Second) refl (refl, for_both _ _ refl refl, leb-true _ _ refl)
computed_handed (suc (suc (suc (suc (suc (suc (suc zero))))))) h = at_stage (Handed modular (state_of 7) 7) (Reveal Second) refl (refl, for_both _ _ refl refl, leb-true _ _ refl)
computed_handed (suc (suc (suc (suc (suc (suc (suc (suc m)))))))) h = absurd (omega arith)

handed : (k : ℕ) (r : Round) → (after modular the_docket (bands docket_apart) k).point.stage ≡ Send r → Handed modular (after modular the_docket (bands docket_apart) k) k r
handed k = go (dec_lt k 8)
  where
    go : Dec (k < 8) → (r : Round) → (after modular the_docket (bands docket_apart) k).point.stage ≡ Send r → Handed modular (after modular the_docket (bands docket_apart) k) k r
    go (yes h) = subst (λ (s : State). (r : Round) → s.point.stage ≡ Send r → Handed modular s k r) (sym (state k)) (computed_handed k h)
    go (no h) =
        λ r e. let m : k ≡ suc (suc (suc (suc (suc (suc (suc (suc (k - 8)))))))) = omega arith in
        absurd (subst Idle (sym (ap (λ (n : ℕ). (after modular the_docket (bands docket_apart) n).point.stage) m ∙ rests (k - 8)) ∙ e) tt)

lent : (i : ℕ) → i < 2 → ask_lent 2147483647 (party_in docket_apart i) (docket_apart.scratch i) ≡ Accepted
unfolding computing modular
lent zero h = refl
lent (suc zero) h = refl
lent (suc (suc i)) h = absurd (omega arith)

computed : Meets modular docket_apart docket.coefficients docket.nonces
unfolding computing modular check_count commits_in
computed =
    record {
      some = omega arith;
      lent = lent;
      enough = refl;
      handed = λ k i r h e. (handed k r e).0;
      noncing = λ k i r h e. (handed k r e).1 i h;
      room = λ k i r h e. (handed k r e).2;
    }

-- The docket's lists meet what is asked of parties apart.
pub docket_meets : Meets ops docket_apart docket.coefficients docket.nonces
docket_meets = subst (λ (O : Ops). Meets O docket_apart docket.coefficients docket.nonces) (sym prime_is_modular) computed

-- the joint run of eight rounds
abbrev eight : Ops → Run
eight O = run O the_docket 8 (begun O the_docket (bands docket_apart))

eight_computed : (eight modular).transcript ≡ docket_words
unfolding hashing modular bands
eight_computed = ap (λ (R : Run). R.transcript) (first_is modular the_docket (bands docket_apart) accepted has_enough 8)

eight_is : (eight ops).transcript ≡ docket_words
eight_is = subst (λ (O : Ops). (eight O).transcript ≡ docket_words) (sym prime_is_modular) eight_computed

-- So the two parties write the docket's words ..
pub docket_words_lem : spoken ops docket_apart 8 ≡ docket_words
docket_words_lem = (together_here docket_apart docket.coefficients docket.nonces docket_meets).transcript 8 ∙ eight_is

-- the scores that party i sees
seen_computed : (i : ℕ) → i < 2 → scores_seen modular the_docket (alone i) 4 ≡ 30 ∷ []
unfolding computing modular
seen_computed zero h = refl
seen_computed (suc zero) h = refl
seen_computed (suc (suc i)) h = absurd (omega arith)

seen_is : (i : ℕ) → i < 2 → scores_seen ops the_docket (alone i) 4 ≡ 30 ∷ []
seen_is i h = subst (λ (O : Ops). scores_seen O the_docket (alone i) 4 ≡ 30 ∷ []) (sym prime_is_modular) (seen_computed i h)

-- .. and each is told its score.
pub docket_scores : (i : ℕ) → i < 2 → outputs_in (apart ops docket_apart 8 i).answers ≡ 30 ∷ []
unfolding computing
docket_scores i h =
    (scores_apart_here docket_apart docket.coefficients docket.nonces docket_meets docket_table.good).outputs i h ∙ seen_is i h
