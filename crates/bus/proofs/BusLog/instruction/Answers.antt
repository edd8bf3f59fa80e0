use Rattle.bus.proofs.Notes.{grows_none, grows_then}
use Rattle.execution.proofs.OpcodeRead.{fetch_answer}
use Rattle.execution.specs.Code.Shapes.{instruction_accesses}
use Rattle.bus.proofs.BusLog.instruction.Goals as goal

pub returns-in-None : goal.returns-in-None
unfolding instruction_accesses
returns-in-None c = rw (← fetch_answer _ _, ← c.fetch-o.ensures.value, ← c.shape_of.ensures, c.in-None.is) grows_none

pub returns-in-Some : goal.returns-in-Some
unfolding instruction_accesses
returns-in-Some c =
    rw (← fetch_answer _ _, ← c.fetch-o.ensures.value, ← c.shape_of.ensures, c.in-Some.is, ← c.with_p.ensures)
    (grows_then c.opcode.ensures c.shape.ensures)
