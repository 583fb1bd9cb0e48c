-- What an answer of an entry tells, at the operations that the entries' contracts cite.
-- Assumes nothing.
use Prim.Native.Nat.{ℕ}
use mathlib.Core.Path.{◌≡◌}
use mathlib.Core.Bool.{true}
use mathlib.Core.Logic.{◌↔◌}
use mathlib.Core.List.{List}
use Rattle.field.specs.Words.{ops}
use Rattle.field.proofs.Laws.{laws}
use Rattle.circuit.specs.Verdict.{Accepted, ask, ◌then◌}
use Rattle.protocol.specs.Position.{Position, occurs}
use Rattle.protocol.specs.Party.{Party}
use Rattle.protocol.specs.Receive.{Blame}
use Rattle.protocol.specs.Ask.{ask_lent}
use Rattle.protocol.specs.Entry.{Refusal, Next, Output, Abort, send_answer, receive_answer}
use Rattle.protocol.proofs.Answers.{Ended, Releases, Stops, ended_send_refused, ended_receive_refused, output_exactly, abort_exactly}
use Rattle.protocol.proofs.Returned.{Yields, sent_position_occurs, received_position_occurs}

module _ (P : Party) (l : List ℕ) (at : Position) where
  pub ended_send_refused_here : Ended at.stage → (ask_lent ops.size P l then ask 13 0 (occurs ops.size P.circuit at)) ≡ Accepted
      → (coefficients nonce : List ℕ) (room : ℕ) → send_answer ops P l at coefficients nonce room ≡ Refusal 14 0
  ended_send_refused_here = ended_send_refused ops P l at

  pub ended_receive_refused_here : Ended at.stage → (ask_lent ops.size P l then ask 13 0 (occurs ops.size P.circuit at)) ≡ Accepted
      → (heard : List ℕ) → receive_answer ops P l at heard ≡ Refusal 14 0
  ended_receive_refused_here = ended_receive_refused ops P l at

  pub output_exactly_here : (heard : List ℕ) (v : ℕ) (x : Position) → (receive_answer ops P l at heard ≡ Output v x) ↔ Releases ops P l at heard v x
  output_exactly_here = output_exactly ops P l at

  pub abort_exactly_here : (heard : List ℕ) (b : Blame) (x : Position) → (receive_answer ops P l at heard ≡ Abort b x) ↔ Stops ops P l at heard b x
  abort_exactly_here = abort_exactly ops P l at

  pub sent_position_occurs_here : (coefficients nonce : List ℕ) (room : ℕ) {x : Position} → send_answer ops P l at coefficients nonce room ≡ Next x → occurs ops.size P.circuit x ≡ true
  sent_position_occurs_here = sent_position_occurs laws P l at

  pub received_position_occurs_here : (heard : List ℕ) (x : Position) → Yields x (receive_answer ops P l at heard) → occurs ops.size P.circuit x ≡ true
  received_position_occurs_here = received_position_occurs laws P l at
