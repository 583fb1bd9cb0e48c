-- To unfold this name is to unfold every definition of this crate and of those below it, so that a closed term computes.
-- Assumes nothing.
use Rattle.circuit.proofs.Computing.{computing as below}
use Rattle.protocol.specs.Ask.{ask_parties}
use Rattle.protocol.specs.Send.{overwrite}
use Rattle.protocol.specs.Entry.{leave}
use Rattle.forms.specs.Words.{valued, outer, inner, stands, placed, line}
use Rattle.forms.specs.Form.{
  head,
  digits,
  decimal,
  begin,
  print,
  print_rows,
  larger,
  depth,
  depth_of_all,
  marks,
  named,
  number_fits,
  gates_in,
  gates_in_all,
  wire_of,
  flat,
  circuit_from,
  circuit_of,
}
use Rattle.forms.specs.Machine.{
  is_nil,
  when,
  starts,
  same,
  any_named,
  may,
  word_lives,
  word_is,
  is_digit,
  begins,
  name_lives,
  whose,
  closed,
  open_here,
  open_in,
  closed_frames,
  closed_numbered,
  closed_here,
  closed_in,
  too_deep,
  too_many,
  begun,
  begun_as,
  operand,
  handed,
  ended,
  number_lives,
  step,
  steps,
  read,
  reading,
}
use Rattle.forms.specs.Entry.{
  answer,
  ask_shape,
  rows_in,
  circuit_in,
  ask_read,
  read_answer,
  read_circuit,
  picked,
  head_of,
  counted,
  number_of,
  name,
  form_of,
  row_for,
  row_of,
  rows_up_to,
  rows_of,
  sheet_of,
  ask_write,
  write_answer,
  write_text,
}
use Rattle.forms.specs.Example.{bytes, times, reads, refused, becomes, writes, table, stops, long_table}

unfoldable pub computing : Unit {0}
unfolding below ask_parties overwrite leave valued outer inner stands placed line head digits decimal begin print print_rows larger depth depth_of_all marks named number_fits gates_in gates_in_all wire_of flat circuit_from circuit_of is_nil when starts same any_named may word_lives word_is is_digit begins name_lives whose closed open_here open_in closed_frames closed_numbered closed_here closed_in too_deep too_many begun begun_as operand handed ended number_lives step steps read reading answer ask_shape rows_in circuit_in ask_read read_answer read_circuit picked head_of counted number_of name form_of row_for row_of rows_up_to rows_of sheet_of ask_write write_answer write_text bytes times reads refused becomes writes table stops long_table
computing = tt
