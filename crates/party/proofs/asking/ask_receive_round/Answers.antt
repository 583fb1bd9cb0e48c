-- `party::asking::ask_receive_round` meets its contract: it asks 15, 19 and 20 in turn.
-- Assumes nothing.
use Prim.Native.Nat.{ℕ, ◌*◌}
use mathlib.Core.Path.{sym, ap, ◌∙◌}
use native.Mathlib.Omega.{arith}
use native.Mathlib.Nat.{mul-le-mul}
use borrow.Author.Tests.{eqb-true}
use Rattle.circuit.specs.Question.{verdict_of}
use Rattle.circuit.proofs.Verdicts.{ask_true}
use Rattle.circuit.proofs.RoundLaws.{few_words, reveal_words_lem}
use Rattle.party.proofs.asking.ask_receive_round.Goals as goal

pub overflow_mul-parties : goal.overflow_mul-parties
overflow_mul-parties c =
    omega (
      arith,
      mul-le-mul {n₁ = c.args.parties} {m₁ = c.words_in-words.result} {n₂ = 8} {m₂ = 9} c.requires.1
          (rw (c.words_in-words.ensures, c.shape_at.ensures) (few_words _ _)),
    )

pub ask_heard-requires : goal.ask_heard-requires
ask_heard-requires c =
    let long = eqb-true _ _ (ask_true 19 0 _ (sym c.ask.ensures ∙ ap verdict_of c.in_ok-ask.was)) in
    λ e. omega (arith, long ∙ ap (λ (w : ℕ). c.args.parties * w) (c.words_in-words.ensures ∙ reveal_words_lem _ _ e))
