-- To unfold this name is to unfold every definition of this crate, so that a closed term computes.
-- Assumes nothing.
use Rattle.circuit.specs.Verdict.{ask, ◌then◌, each, elements}
use Rattle.circuit.specs.Gate.{decode, entry, gate, gates}
use Rattle.circuit.specs.Kind.{kind_shape, is_class, is_give, seen_by, receiver, owned_by, role, factor}
use Rattle.circuit.specs.Count.{total, count, prep_at, prep_size, capacity, input_at, input_count, in_count, out_count, unchecked_after, unchecked}
use Rattle.circuit.specs.Round.{round_number, check_rounds, class_rounds, rounds, among, following, shape_words, coefficients_in, commits_in, nonce_in, over_rounds, over_run, round_count, word_count, coefficient_count, check_count}
use Rattle.circuit.specs.Accept.{is_kind, may_name, name_ok, rest_ok, ask_name, ask_rest, ask_gate, ask_size, ask_last, ask_circuit}

unfoldable pub computing : Unit {0}
unfolding ask ◌then◌ each elements decode entry gate gates kind_shape is_class is_give seen_by receiver owned_by role factor total count prep_at prep_size capacity input_at input_count in_count out_count unchecked_after unchecked round_number check_rounds class_rounds rounds among following shape_words coefficients_in commits_in nonce_in over_rounds over_run round_count word_count coefficient_count check_count is_kind may_name name_ok rest_ok ask_name ask_rest ask_gate ask_size ask_last ask_circuit
computing = tt
