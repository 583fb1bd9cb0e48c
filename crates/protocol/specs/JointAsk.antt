-- The questions of the joint run.
-- Assumes nothing.
use Rattle.std.specs.Prelude.{ℕ, ◌*◌, ◌&&◌, List, length, leb, eqb}
use Rattle.circuit.specs.Verdict.{Verdict, ask, ◌then◌, elements}
use Rattle.circuit.specs.Count.{prep_size, in_count, out_count}
use Rattle.circuit.specs.Round.{nonce_size, word_count, coefficient_count, check_count}
use Rattle.circuit.specs.Accept.{ask_circuit}
use Rattle.protocol.specs.Scratch.{scratch_size}
use Rattle.protocol.specs.Ask.{ask_parties}
use Rattle.protocol.specs.Joint.{Joint}

-- "The joint run asks 1, 3 to 7, 8 and 10 to 12 of totals, 9 after 8, then 16, 17, and 18 of transcript and score lists (a full run's length)."; of the
-- nonces 25 "asked after 17": a nonce for each check and party
-- q is the size of the field
unfoldable pub ask_joint : ℕ → Joint → List ℕ → ℕ → ℕ → Verdict
ask_joint q J scratch transcript_room output_room =
    ask_parties J.parties
    then ask_circuit J.parties q J.circuit
    then ask 8 0 (eqb (length J.preps) (J.parties * prep_size J.circuit))
    then elements 9 q J.preps
    then ask 10 0 (eqb (length J.inputs) (in_count J.circuit))
    then elements 11 q J.inputs
    then ask 12 0 (leb (J.parties * scratch_size J.parties J.circuit) (length scratch))
    then ask 16 0 (eqb (length J.coefficients) (coefficient_count J.circuit))
    then elements 17 q J.coefficients
    then ask 25 0 (eqb (length J.nonces) (nonce_size * (J.parties * check_count J.circuit)))
    then ask 18 0 (leb (J.parties * word_count J.circuit) transcript_room && leb (out_count J.circuit) output_room)
