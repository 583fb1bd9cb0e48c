-- To unfold this name is to unfold every definition of this crate and of those below it, so that a closed term computes.
-- Assumes nothing.
use Rattle.algebra.specs.Sum.{sum}
use Rattle.circuit.proofs.Computing.{computing as below}
use Rattle.protocol.specs.Part.{part_at, plus, minus, scale, known, shift, product}
use Rattle.protocol.specs.Scratch.{layout, offset, slots_size, read, write, wire, put_wire, put_opened, band, written_at, nonce_at, marks_at, scratch_size, nonce_of, marks_of, put_nonce, put_marks}
use Rattle.protocol.specs.Position.{holding, finished, aborted, begin, reach, enter, resume, start, proceed, follow, keep, when_sending, when_receiving, stage_occurs, may_hold, occurs}
use Rattle.protocol.specs.Party.{key, record_in, record_of, input_of}
use Rattle.protocol.specs.Send.{overwrite, input_word, masked, shown, check_share, opening, own_words, showing, sent, holds, mark, noted}
use Rattle.protocol.specs.Receive.{heard_sum, after_input, put_differences, after_opening, after_open_output, score, operand, linear, put_linear, after_linear, settle, fits, misfit, ruling, next, onward, own_received, check_passed, received, scored, finds, left}
use Rattle.protocol.specs.Ask.{ask_parties, ask_lent, slot_question, ask_slots, ask_worked, ask_send_round, ask_receive_round, ask_send, ask_receive}
use Rattle.protocol.specs.Entry.{answer, leave, open_answer, send_answer, send_out, send_scratch, next_position, concludes, outcome, receive_answer, receive_scratch}
use Rattle.protocol.specs.Joint.{joined, inputs_at, party, nonce_for}
use Rattle.protocol.specs.Run.{lowest, begun, takes, taken, said, notes, ends, step, released, still, ahead, run, whole}
use Rattle.protocol.specs.JointAsk.{ask_joint}
use Rattle.protocol.specs.JointEntry.{ended, jointly, verdict, joint_answer, joint_scratch, joint_transcript, joint_outputs}
use Rattle.protocol.specs.Plain.{kind_value, value_of, plain_input, values, value, score_of, scores_seen}
use Rattle.protocol.specs.Good.{record_at, whole_key, share_sum, mac_sum}
use Rattle.protocol.specs.Formula.{mul_count, square_count, give_count, bare_outs, round_formula}
use Rattle.protocol.specs.Docket.{doubles, after₁, after₂, after₃, after₄, after₅, misheard}

unfoldable pub computing : Unit {0}
unfolding sum below part_at plus minus scale known shift product layout offset slots_size read write wire put_wire put_opened written_at nonce_at marks_at scratch_size nonce_of marks_of put_nonce put_marks holding finished aborted begin reach enter resume start proceed follow keep when_sending when_receiving stage_occurs may_hold occurs key record_in record_of input_of overwrite input_word masked shown check_share opening own_words showing mark sent holds noted heard_sum after_input put_differences after_opening after_open_output score operand linear put_linear after_linear settle fits misfit ruling next onward own_received check_passed received scored finds left ask_parties ask_lent slot_question ask_slots ask_worked ask_send_round ask_receive_round ask_send ask_receive answer leave open_answer send_answer send_out send_scratch next_position concludes outcome receive_answer receive_scratch joined band inputs_at party nonce_for lowest begun takes taken said notes ends step released still ahead run whole ask_joint ended jointly verdict joint_answer joint_scratch joint_transcript joint_outputs kind_value value_of plain_input values value score_of scores_seen record_at whole_key share_sum mac_sum mul_count square_count give_count bare_outs round_formula doubles after₁ after₂ after₃ after₄ after₅ misheard
computing = tt
