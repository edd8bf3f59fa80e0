use Rattle.pages.proofs.Does.{gives_then, gives_done}
use Rattle.execution.specs.Instructions.{alu_of}
use Rattle.execution.proofs.operations.alu.Goals as goal

pub returns : goal.returns
unfolding alu_of
returns c =
    gives_then _ c.operand-f.ensures
    (gives_done (rw (c.operate.ensures, c.with_p.ensures)))
