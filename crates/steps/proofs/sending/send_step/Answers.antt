-- `steps::sending::send_step` meets its contract: each arm is the definition's at its round.
-- Assumes nothing.
use mathlib.Core.Path.{refl, ◌∙◌}
use native.Mathlib.Omega.{arith}
use Rattle.field.specs.Words.{ops}
use Rattle.circuit.specs.Round.{Own, Open, Commit, Reveal}
use Rattle.protocol.specs.Send.{sent}
use Rattle.protocol.specs.Code.{layout_of}
use Rattle.protocol.proofs.Sent.{sends_output, sends_check, holds_check, holds_none, sent_output}
use Rattle.protocol.proofs.Readiness.{prep_some, capacity_some}
use Rattle.steps.proofs.Committing.{commit_asks, commit_sent, commit_noted, reveal_asks, reveal_sent, noted_none}
use Rattle.steps.proofs.sending.send_step.Goals as goal

pub send_output-requires : goal.send_output-requires
send_output-requires c =
    sends_output _ _ _ _ _ _ _ _ (rw c.in-Open.is at c.requires)

pub bounds-prep-0 : goal.bounds-prep-0
bounds-prep-0 c =
    prep_some _ _ _ _ _ c.requires.ready

pub check_share-share-requires : goal.check_share-share-requires
unfolding layout_of
check_share-share-requires c =
    let asked = c.requires in
    let q = sends_check _ _ _ _ _ _ _ _ _ asked (rw c.in-Commit.is) (c.opened_in-k.ensures ∙ rw asked.ready.sited.unchecked) in
    (q.0, capacity_some _ _ _ _ _ asked.ready, q.1, q.2, q.3, q.4)

pub put_nonce-requires : goal.put_nonce-requires
put_nonce-requires c =
    let q = commit_asks _ _ _ _ _ (rw c.in-Commit.is at c.requires) in (q.0, q.1)

pub commit_words-requires : goal.commit_words-requires
commit_words-requires c =
    let q = commit_asks _ _ _ _ _ (rw c.in-Commit.is at c.requires) in (omega (arith, q.0), q.2)

pub reveal_words-requires : goal.reveal_words-requires
reveal_words-requires c =
    reveal_asks _ _ _ _ _ (rw c.in-Reveal.is at c.requires)

pub returns-in-Own : goal.returns-in-Own
unfolding sent
returns-in-Own c =
    let s = (rw c.in-Own.is at c.requires) in
    record { held = rw c.in-Own.is (holds_none ops _ _ _ _ Own s.ready _ refl); out = rw c.in-Own.is (c.send_own.ensures); scratch = rw c.in-Own.is (noted_none _ _ Own _ refl) }

pub returns-in-Open : goal.returns-in-Open
returns-in-Open c =
    let s = (rw c.in-Open.is at c.requires) in
    record { held = rw c.in-Open.is (holds_none ops _ _ _ _ Open s.ready _ refl); out = rw c.in-Open.is (sent_output ops _ _ _ _ _ _ _ _ s.ready c.send_output.ensures); scratch = rw c.in-Open.is (noted_none _ _ Open _ refl) }

pub returns-in-Commit : goal.returns-in-Commit
returns-in-Commit c =
    let s = (rw c.in-Commit.is at c.requires) in
    let held =
    holds_check ops _ _ _ _ (Commit _) s.ready _ refl (rw (c.in-Commit.is, c.requires.ready.sited.unchecked) at c.opened_in-k.ensures) c.check_share-share.ensures in
    record { held = rw c.in-Commit.is (held); out = rw c.in-Commit.is (commit_sent _ _ _ _ _ s c.put_nonce.ensures held _ c.commit_words.ensures); scratch = rw c.in-Commit.is (commit_noted _ _ _ _ _ s c.put_nonce.ensures) }

pub returns-in-Reveal : goal.returns-in-Reveal
returns-in-Reveal c =
    let s = (rw c.in-Reveal.is at c.requires) in
    record { held = rw c.in-Reveal.is (holds_none ops _ _ _ _ (Reveal _) s.ready _ refl); out = rw c.in-Reveal.is (reveal_sent _ _ _ _ _ s _ c.reveal_words.ensures); scratch = rw c.in-Reveal.is (noted_none _ _ (Reveal _) _ refl) }
