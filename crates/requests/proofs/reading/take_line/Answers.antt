-- `requests::reading::take_line` meets its contract: one law for each answer.
-- Assumes nothing.
use Rattle.std.proofs.Common.{sym, ap, ◌∙◌, inl, inr, ⊎_elim}
use Rattle.std.proofs.lemmas.Result.{on_err_weaker}
use Rattle.requests.specs.Lines.{goes}
use Rattle.requests.proofs.Lines.{whatever, line_empty, line_comment, line_entry, line_field}
use Rattle.requests.proofs.reading.take_line.Goals as goal
use Rattle.requests.proofs.reading.take_line.Goals.{then-word-via-then-word, then-word-via-else-word+then-line-eq-HASH}

pub returns-then-word-clause-told : goal.returns-then-word-clause-told
returns-then-word-clause-told g c =
    c.goes.ensures ∙ (elim c.then-word.branch [
      | then-word-via-then-word w ↦ line_empty _ _ c.word_from-word.ensures w.if-word.true
      | then-word-via-else-word+then-line-eq-HASH w ↦ line_comment _ _ c.word_from-word.ensures w.if-word.false w.if-line-eq-HASH.true
    ])

pub returns-in_err-begin-in-Some-clause-err : goal.returns-in_err-begin-in-Some-clause-err
returns-in_err-begin-in-Some-clause-err g c =
    let fault = rw c.in_err-begin-in-Some.was at c.begin.ensures in
    let line = line_entry _ _ c.word_from-word.ensures c.if-word.false c.if-line-eq-HASH.false c.entry_named.ensures c.in-Some.is c.word_from-after.ensures in
    whatever c.from_residual.result (⊎_elim inl (λ e. inr (sym line ∙ ap goes e)) fault.err)

pub returns-in_ok-begin-in-Some-clause-told : goal.returns-in_ok-begin-in-Some-clause-told
returns-in_ok-begin-in-Some-clause-told g c =
    let begun = rw c.in_ok-begin-in-Some.was at c.begin.ensures in
    let line = line_entry _ _ c.word_from-word.ensures c.if-word.false c.if-line-eq-HASH.false c.entry_named.ensures c.in-Some.is c.word_from-after.ensures in
    c.goes-in-Some.ensures ∙ ap goes begun.told ∙ line

pub returns-in-None-clause-told : goal.returns-in-None-clause-told
returns-in-None-clause-told g c =
    let line = line_field c.args.line.now c.args.request c.word_from-word.ensures c.if-word.false c.if-line-eq-HASH.false c.entry_named.ensures c.in-None.is in
    rw (← line) c.take_field.ensures.told

pub returns-in-None-clause-err : goal.returns-in-None-clause-err
returns-in-None-clause-err g c =
    let line = line_field c.args.line.now c.args.request c.word_from-word.ensures c.if-word.false c.if-line-eq-HASH.false c.entry_named.ensures c.in-None.is in
    on_err_weaker c.take_field.result (λ e. inr (sym line ∙ e)) c.take_field.ensures.err
