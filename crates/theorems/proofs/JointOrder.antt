-- The joint run asks its questions in document 01's order, and the first no decides: a request in which everything is wrong, mended one
-- fault at a time, is refused by each question in turn and at last accepted. Computed.
-- Assumes nothing.
use Prim.Native.Nat.{ℕ}
use mathlib.Core.Path.{◌≡◌, refl, sym, ap₂, subst}
use mathlib.Core.List.{List, [], ◌∷◌, ◌++◌}
use borrow.Author.Tests.{leb-true}
use lib.ListN.{set, replicate}
use Rattle.algebra.specs.Ops.{Ops}
use Rattle.field.specs.Words.{size, ops}
use Rattle.field.specs.Prime.{modular}
use Rattle.field.specs.Prime.Laws.{prime_is_modular}
use Rattle.circuit.specs.Round.{commits_in, check_count}
use Rattle.theorems.proofs.Hashed.{answer_is, hashing}
use Rattle.theorems.proofs.PartyOrder.{mended, up_to}
use Rattle.protocol.specs.Joint.{Joint}
use Rattle.protocol.specs.JointEntry.{JointAnswer, Refusal, Done, joint_answer}
use Rattle.protocol.specs.Docket.{prep₀, prep₁}
use Rattle.protocol.proofs.Computing.{computing}

-- fault 1: too many parties. Fault 2: a number too many. Faults 3 to 5: gate 1 has no kind, then an owner that is no party, then an unused
-- number. Fault 6: the last gate is no out. Faults 7 to 10: a number too many and then a number that is no element in the preprocessing
-- and in the inputs. Faults 12 and 13: the same in the coefficients. Fault 14: a byte too many in the nonces
joint_at : ℕ → Joint
joint_at k =
    record {
      parties = mended k 1 2 9;
      circuit =
          (1 ∷ 0 ∷ 0 ∷ 0 ∷ [])
          ++ (mended k 3 1 0 ∷ mended k 4 1 9 ∷ mended k 5 0 1 ∷ 0 ∷ [])
          ++ (6 ∷ 0 ∷ 1 ∷ 0 ∷ [])
          ++ mended k 6 (7 ∷ 2 ∷ 0 ∷ 0 ∷ []) (2 ∷ 0 ∷ 0 ∷ 0 ∷ [])
          ++ mended k 2 [] (0 ∷ []);
      preps = set (prep₀ ++ prep₁) 25 (mended k 8 40 size) ++ mended k 7 [] (0 ∷ []);
      inputs = (5 ∷ mended k 10 6 size ∷ []) ++ mended k 9 [] (0 ∷ []);
      coefficients = (1 ∷ 2 ∷ mended k 13 5 size ∷ []) ++ mended k 12 [] (0 ∷ []);
      nonces = replicate (mended k 14 128 129) 0;
    }

-- fault 11: the scratch is too short. Faults 15 and 16: the transcript and then the list of outputs
pub asks : Ops → ℕ → JointAnswer
asks O k =
    joint_answer O (joint_at k) (replicate (mended k 11 76 75) size) (replicate (mended k 15 78 77) 0) (replicate (mended k 16 1 0) 0)

pub record InOrder (O : Ops) : Type 0 where
  pub joint :
      up_to 17 (asks O)
      ≡ Refusal 1 0 ∷ Refusal 3 0 ∷ Refusal 4 1 ∷ Refusal 5 1 ∷ Refusal 6 1 ∷ Refusal 7 0 ∷ Refusal 8 0 ∷ Refusal 9 25 ∷ Refusal 10 0
      ∷ Refusal 11 1
      ∷ Refusal 12 0
      ∷ Refusal 16 0
      ∷ Refusal 17 2
      ∷ Refusal 25 0
      ∷ Refusal 18 0
      ∷ Refusal 18 0
      ∷ Done 8
      ∷ []

-- what is asked is asked of the docket at last
asked_last : asks modular 16 ≡ Done 8
unfolding hashing modular joint_at asks
asked_last =
    answer_is modular (joint_at 16) (replicate 76 size) (replicate 78 0) (0 ∷ []) (record { parties = refl; circuit = refl })
    (record { nonces = leb-true _ _ refl; room = leb-true _ _ refl })

asked_first : up_to 16 (asks modular)
    ≡ Refusal 1 0 ∷ Refusal 3 0 ∷ Refusal 4 1 ∷ Refusal 5 1 ∷ Refusal 6 1 ∷ Refusal 7 0 ∷ Refusal 8 0 ∷ Refusal 9 25 ∷ Refusal 10 0 ∷ Refusal 11 1
    ∷ Refusal 12 0
    ∷ Refusal 16 0
    ∷ Refusal 17 2
    ∷ Refusal 25 0
    ∷ Refusal 18 0
    ∷ Refusal 18 0
    ∷ []
unfolding computing check_count commits_in modular joint_at asks up_to
asked_first = refl

computed : InOrder modular
unfolding up_to
computed = record { joint = ap₂ {C = List JointAnswer} (λ (some : List JointAnswer) (a : JointAnswer). some ++ (a ∷ [])) asked_first asked_last }

pub in_order : InOrder ops
in_order = subst InOrder (sym prime_is_modular) computed
