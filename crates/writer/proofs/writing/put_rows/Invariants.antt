use Rattle.writer.proofs.Sheets.{Rowed}
use Rattle.writer.proofs.writing.put_rows.Given as goal

abbrev pub invariant-loop-j : goal.invariant-loop-j
invariant-loop-j l = Rowed l.c l.count l.initial.text l.text l.j l.at
