use Rattle.pages.proofs.Does.{does_then, does_done, does_gives}
use Rattle.execution.specs.Instructions.{memory_of}
use Rattle.execution.proofs.operations.memory.Goals as goal

pub returns : goal.returns
unfolding memory_of
returns c =
    does_then _ (does_gives c.view.ensures c.locate-l.ensures)
    (does_then _ (does_gives c.view-2.ensures c.cpu_readop-imm.ensures)
    (does_then _ (does_gives c.view-3.ensures c.read_byte-b.ensures)
    (does_then _ (rw c.changed-s.ensures at c.write_byte.ensures)
    (does_done (rw (c.with_t.ensures, c.with_p.ensures, c.changed-s.ensures))))))
