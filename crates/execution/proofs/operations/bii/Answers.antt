use Rattle.pages.proofs.Does.{gives_then, gives_done}
use Rattle.execution.specs.Instructions.{bii_of}
use Rattle.execution.proofs.operations.bii.Goals as goal

pub returns : goal.returns
unfolding bii_of
returns c =
    gives_then _ c.locate-l.ensures
    (gives_then _ c.read_byte-b.ensures
    (gives_then _ c.cpu_readop-imm.ensures
    (gives_done (rw (c.bit.ensures, c.with_p.ensures)))))
