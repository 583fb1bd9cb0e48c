-- What the code's types stand for, and what its questions ask.
-- Assumes nothing.
use Rattle.std.specs.Prelude.{ℕ, ◌*◌, ◌<◌, ◌≤◌, ◌≡◌, Bool, true, List, length, Option, Result, Ok, Err}
use Rattle.std.specs.Option.{option_map_or}
use Rattle.field.specs.Words.{size}
use Rattle.circuit.specs.Verdict as Q
use Rattle.circuit.specs.Verdict.{◌then◌}
use Rattle.circuit.specs.Gate.{gate_size, gate, gates}
use Rattle.circuit.specs.Kind.{has_value}
use Rattle.circuit.specs.Count.{capacity, unchecked}
use Rattle.circuit.specs.Round.{Round, opened_in}
use Rattle.circuit.specs.Accept.{most_gates}
use Rattle.circuit.specs.Question.{number_of}
use Rattle.circuit.specs.declared.questions.Refusal.{Refusal}
use Rattle.protocol.specs.Scratch as S
use Rattle.protocol.specs.Position as At
use Rattle.protocol.specs.Party.{Party}
use Rattle.protocol.specs.Receive as R
use Rattle.protocol.specs.Code.{layout_of, stage_of, blame_of, Sited}
use Rattle.protocol.specs.Ready.{Sends, Receives}
use Rattle.protocol.specs.declared.Layout.{Layout}
use Rattle.protocol.specs.declared.Site.{Site}
use Rattle.protocol.specs.Ask.{ask_lent}
use Rattle.protocol.specs.Entry as E
use Rattle.party.specs.declared.Sort.{Sort}
use Rattle.party.specs.declared.Sort.TheVariants.{Shares, Macs, Values, ValueMacs}
use Rattle.party.specs.declared.Position.{Position}
use Rattle.party.specs.declared.Outcome.{Outcome}
use Rattle.party.specs.declared.Outcome.TheVariants.{Next, Output, Abort}

-- the slots of a sort, by number, and which of them question 15 wants
unfoldable pub sort_of : Sort → ℕ → S.Slot
sort_of Shares j = S.Share j
sort_of Macs j = S.Mac j
sort_of Values t = S.Value t
sort_of ValueMacs t = S.ValueMac t

unfoldable pub wanted_of : List ℕ → Sort → ℕ → Bool
wanted_of c Shares j = has_value (gate c j)
wanted_of c Macs j = has_value (gate c j)
wanted_of c Values t = true
wanted_of c ValueMacs t = true

unfoldable pub position_of : Position → At.Position
position_of x = record { gate = x.gate; stage = stage_of x.stage; held = x.held }

-- the next position, an output with it, an abort with it
unfoldable pub outcome_is : Outcome → E.Answer
outcome_is (Next at) = E.Next (position_of at)
outcome_is (Output v at) = E.Output v (position_of at)
outcome_is (Abort b at) = E.Abort (blame_of b) (position_of at)

-- that, or a refusal's number and index
unfoldable pub answer_of : Result Outcome Refusal → E.Answer
answer_of (Ok x) = outcome_is x
answer_of (Err r) = E.Refusal (number_of r.question) r.index

-- the answer by how round r ended and the point that follows: an abort, or else that point, with the output where one is told
unfoldable pub leads_to : Round → ℕ → Option ℕ → R.Ruling → At.Point → E.Answer
leads_to r held output R.Passed x = option_map_or (λ v. E.Output v (At.holding x (At.keep r held))) output (E.Next (At.holding x (At.keep r held)))
leads_to r held output (R.Stopped b) x = E.Abort b (At.holding x (At.keep r held))

-- what a question about the scratch asks: the layout is the circuit's, and the scratch holds it
pub record Laid (c l : List ℕ) (y : Layout) : Type 0 where
  pub whole : length c ≡ gate_size * gates c
  pub few : gates c ≤ most_gates
  pub lay : layout_of y ≡ S.layout c
  pub room : S.slots_size (S.layout c) ≤ length l

-- and of a round's questions: the site is the gate's, and the opened entries fit
pub record Posed (c : List ℕ) (at : Site) (r : Round) : Type 0 where
  pub within : at.gate < gates c
  pub waiting : at.unchecked ≡ unchecked c at.gate
  pub fits : opened_in (unchecked c at.gate) r ≤ capacity c

-- questions 1 to 13
unfoldable pub place_of : Party → List ℕ → At.Position → Q.Verdict
place_of P l at = ask_lent size P l then Q.ask 13 0 (At.occurs size P.circuit at)

-- what a call has once 1 to 12 accept: the layout, and the site of the position's gate if there is such a gate
pub record LentTo (P : Party) (l : List ℕ) (y : Layout) (site : Site) (gate : ℕ) : Type 0 where
  pub accepted : ask_lent size P l ≡ Q.Accepted
  pub lay : layout_of y ≡ S.layout P.circuit
  pub here : site.gate ≡ gate
  pub sited : gate < gates P.circuit → Sited P.circuit P.me site

-- and once the position can occur
pub record RoundAt (P : Party) (l : List ℕ) (y : Layout) (site : Site) (at : Position) : Type 0 where
  pub lent : LentTo P l y site at.gate
  pub can : At.occurs size P.circuit (position_of at) ≡ true

-- where all questions of a sending or a receiving accept: the round of the position, and what its step asks
pub record Sendable (P : Party) (l : List ℕ) (at : Position) (coefficients nonce : List ℕ) (room : ℕ) (y : Layout) (site : Site) (r : Round) : Type 0 where
  pub here : site.gate ≡ at.gate
  pub half : stage_of at.stage ≡ At.Send r
  pub sends : Sends size P l y site r at.held coefficients nonce room

pub record Receivable (P : Party) (l : List ℕ) (at : Position) (heard : List ℕ) (y : Layout) (site : Site) (r : Round) : Type 0 where
  pub here : site.gate ≡ at.gate
  pub half : stage_of at.stage ≡ At.Receive r
  pub receives : Receives size P l y site r heard
