-- `steps::receiving::receive_gate` meets its contract: the words are summed, and what follows is made of the sums.
-- Assumes nothing.
use Rattle.field.specs.Words.{ops}
use Rattle.circuit.specs.Round.{shape_words}
use Rattle.protocol.proofs.Readiness.{gate_there}
use Rattle.protocol.proofs.HeardWords.{first_asks, second_asks, first_found, second_found}
use Rattle.protocol.proofs.Received.{hears, reach_asks, stands}
use Rattle.circuit.proofs.KindLaws.{shape_class, shape_openings, shape_words_lem}
use Rattle.steps.proofs.receiving.receive_gate.Goals as goal

pub factor_at-z-requires : goal.factor_at-z-requires
factor_at-z-requires c =
    (gate_there _ _ _ _ _ c.requires.ready, shape_openings _ _ c.shape_at-s.ensures)

pub heard_first-e-requires : goal.heard_first-e-requires
unfolding shape_words
heard_first-e-requires c =
    let is = c.shape_at-s.ensures in
    first_asks (hears _ _ _ _ c.requires c.requires.heard_low) (shape_class _ _ is) (shape_words_lem _ _ is) c.first_at-x.ensures

pub heard_second-d-requires : goal.heard_second-d-requires
unfolding shape_words
heard_second-d-requires c =
    let is = c.shape_at-s.ensures in
    second_asks (hears _ _ _ _ c.requires c.requires.heard_low) (shape_class _ _ is) (shape_words_lem _ _ is) (shape_openings _ _ is)

pub reach-stop-requires : goal.reach-stop-requires
reach-stop-requires c =
    reach_asks _ _ _ _ c.requires.ready

pub receive_own-requires : goal.receive_own-requires
unfolding shape_words
receive_own-requires c =
    let asked = c.requires in
    let is = c.shape_at-s.ensures in
    let long = shape_words_lem _ _ is in
    let sums = hears _ _ _ _ asked asked.heard_low in (
      asked,
      c.reach-stop.ensures,
      shape_class _ _ is,
      record { first = c.first_at-x.ensures; second = c.factor_at-z.ensures; openings = shape_openings _ _ is },
      record {
        first = first_found sums (shape_class _ _ is) long ops c.first_at-x.ensures c.heard_first-e.ensures;
        second = second_found sums (shape_class _ _ is) long ops (shape_openings _ _ is) c.heard_second-d.ensures;
      },
    )

pub resume-requires : goal.resume-requires
resume-requires c =
    stands _ _ _ _ c.requires.ready c.reach-stop.ensures
