-- The questions are asked in document 01's order, and the first no decides: requests in which everything is wrong, mended one fault at a
-- time, are refused by each question in turn and at last accepted. Computed.
-- Assumes nothing.
use Prim.Native.Nat.{ℕ, zero, suc}
use mathlib.Core.Path.{◌≡◌, refl, sym, ap₂, subst}
use mathlib.Core.Bool.{cond}
use mathlib.Core.List.{List, [], ◌∷◌, ◌++◌}
use lib.Dec.{leb}
use lib.ListN.{set, replicate}
use Rattle.algebra.specs.Ops.{Ops}
use Rattle.field.specs.Words.{size, ops}
use Rattle.field.specs.Prime.{modular}
use Rattle.field.specs.Prime.Laws.{prime_is_modular}
use Rattle.circuit.specs.Round.{First, Commit, Reveal, nonce_in}
use Rattle.protocol.specs.Position.{Position, Send, Receive, Aborted}
use Rattle.protocol.specs.Party.{Party}
use Rattle.protocol.specs.Receive.{Blames}
use Rattle.protocol.specs.Entry.{Answer, Refusal, Next, Abort, send_answer, receive_answer}
use Rattle.protocol.proofs.Computing.{computing}
use Rattle.theorems.proofs.Hashed.{reveal_is, hashing}

-- the right thing once fault t is mended, where the first k faults are
abbrev pub mended : {A : Type 0} → ℕ → ℕ → A → A → A
mended k t right wrong = cond (leb t k) right wrong

-- faults 1 and 2: too many parties, and no such party. Fault 3: a number too many. Faults 4 to 6: gate 1 has no kind, then an owner that is
-- no party, then an unused number. Fault 7: gate 2 has no kind. Fault 8: the last gate is no out. Faults 9 to 12: a number too many
-- and then a number that is no element in the preprocessing and in the inputs. Fault 13: the scratch is too short
circuit_of : ℕ → List ℕ
circuit_of k =
    (1 ∷ 0 ∷ 0 ∷ 0 ∷ [])
    ++ (mended k 4 1 0 ∷ mended k 5 0 9 ∷ mended k 6 0 1 ∷ 0 ∷ [])
    ++ (mended k 7 6 0 ∷ 0 ∷ 1 ∷ 0 ∷ [])
    ++ mended k 8 (7 ∷ 2 ∷ 0 ∷ 0 ∷ []) (2 ∷ 0 ∷ 0 ∷ 0 ∷ [])
    ++ mended k 3 [] (0 ∷ [])

party_at : ℕ → Party
party_at k =
    record {
      parties = mended k 1 2 9;
      me = mended k 2 0 9;
      circuit = circuit_of k;
      prep = set (replicate 13 1) 2 (mended k 10 1 size) ++ mended k 9 [] (0 ∷ []);
      inputs = (5 ∷ mended k 12 6 size ∷ []) ++ mended k 11 [] (0 ∷ []);
    }

-- fault 16: the MAC share of gate 2 is no element
scratch_at : ℕ → List ℕ
scratch_at k = set (replicate (mended k 13 38 37) 1) 6 (mended k 16 1 size)

-- fault 14: a gate past the end. Fault 15: the other half
sending_at : ℕ → Position
sending_at k = record { gate = mended k 14 3 4; stage = mended k 15 (Send (Commit First)) (Receive (Commit First)); held = 0 }

receiving_at : ℕ → Position
receiving_at k = record { gate = mended k 14 3 4; stage = mended k 15 (Receive (Commit First)) (Send (Commit First)); held = 0 }

-- faults 17 and 18: a coefficient too many, and one that is no element. Fault 19: a byte too few in the nonce. Fault 20: no room for the words
pub sends : Ops → ℕ → Answer
sends O k =
    send_answer O (party_at k) (scratch_at k) (sending_at k) ((1 ∷ mended k 18 2 size ∷ []) ++ mended k 17 [] (0 ∷ [])) (replicate (mended k 19 32 31) 0)
    (mended k 20 8 7)

-- fault 17: a word too many. Words of a commitment are any numbers
pub receives : Ops → ℕ → Answer
receives O k = receive_answer O (party_at k) (scratch_at k) (receiving_at k) (replicate 16 4294967295 ++ mended k 17 [] (0 ∷ []))

-- the reveal: faults 14 and 15 as before, and of its words fault 17, one too many, and fault 18, a check share that is no element. Nonce words are any
-- numbers. Both reveals fit no mark, of which the lowest is told
revealing_at : ℕ → Position
revealing_at k = record { gate = mended k 14 3 4; stage = mended k 15 (Receive (Reveal First)) (Send (Reveal First)); held = 0 }

pub reveals : Ops → ℕ → Answer
reveals O k =
    receive_answer O (party_at k) (scratch_at k) (revealing_at k)
    ((1 ∷ replicate 8 4294967295) ++ (mended k 18 1 size ∷ replicate 8 4294967295) ++ mended k 17 [] (0 ∷ []))

-- f 0, .., f (n - 1)
unfoldable pub up_to : {A : Type 0} → ℕ → (ℕ → A) → List A
up_to zero f = []
up_to (suc n) f = up_to n f ++ (f n ∷ [])

-- what 1 to 12 answer, and then 13 to 15
pub first_refusals : List Answer
first_refusals =
    Refusal 1 0 ∷ Refusal 2 0 ∷ Refusal 3 0 ∷ Refusal 4 1 ∷ Refusal 5 1 ∷ Refusal 6 1 ∷ Refusal 4 2 ∷ Refusal 7 0 ∷ Refusal 8 0
    ∷ Refusal 9 2
    ∷ Refusal 10 0
    ∷ Refusal 11 1
    ∷ Refusal 12 0
    ∷ Refusal 13 0
    ∷ Refusal 14 0
    ∷ Refusal 15 6
    ∷ []

pub record InOrder (O : Ops) : Type 0 where
  pub sending :
      up_to 21 (sends O)
      ≡ first_refusals
      ++ (Refusal 16 0 ∷ Refusal 17 1 ∷ Refusal 25 0 ∷ Refusal 18 0
      ∷ Next (record { gate = 3; stage = Receive (Commit First); held = 0 })
      ∷ [])
  pub receiving :
      up_to 18 (receives O)
      ≡ first_refusals
      ++ (Refusal 19 0 ∷ Next (record { gate = 3; stage = Send (Reveal First); held = 0 }) ∷ [])
  pub revealing :
      up_to 19 (reveals O)
      ≡ first_refusals
      ++ (Refusal 19 0 ∷ Refusal 20 9 ∷ Abort (Blames 0) (record { gate = 3; stage = Aborted; held = 0 }) ∷ [])

-- the last reveal, which fits no mark
reveals_last : reveals modular 18 ≡ Abort (Blames 0) (record { gate = 3; stage = Aborted; held = 0 })
unfolding hashing modular circuit_of party_at scratch_at revealing_at reveals
reveals_last = reveal_is modular (party_at 18) (scratch_at 18) 3 0 First ((1 ∷ replicate 8 4294967295) ++ (1 ∷ replicate 8 4294967295)) refl

-- all before it
reveals_first : up_to 18 (reveals modular) ≡ first_refusals ++ (Refusal 19 0 ∷ Refusal 20 9 ∷ [])
unfolding computing nonce_in modular circuit_of party_at scratch_at revealing_at reveals up_to first_refusals
reveals_first = refl

computed : InOrder modular
unfolding computing nonce_in modular circuit_of party_at scratch_at sending_at receiving_at sends receives up_to first_refusals
computed =
    record {
      sending = refl;
      receiving = refl;
      revealing = ap₂ {C = List Answer} (λ (some : List Answer) (a : Answer). some ++ (a ∷ [])) reveals_first reveals_last;
    }

pub in_order : InOrder ops
in_order = subst InOrder (sym prime_is_modular) computed
