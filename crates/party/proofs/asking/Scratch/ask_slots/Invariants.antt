use Rattle.field.specs.Words.{size}
use Rattle.protocol.specs.Ask.{slot_question}
use Rattle.party.specs.Code.{sort_of, wanted_of}
use Rattle.circuit.proofs.Loops.{Asking}
use Rattle.party.proofs.asking.Scratch.ask_slots.Given as goal

abbrev pub invariant-loop-t : goal.invariant-loop-t
invariant-loop-t l = Asking (λ t. slot_question size l.self.circuit.now l.self.words.now (wanted_of l.self.circuit.now l.sort t) (sort_of l.sort t)) l.k l.t
