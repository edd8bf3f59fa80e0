use Rattle.pages.proofs.Does.{gives_then, gives_done}
use Rattle.execution.specs.Instructions.{jmp_of}
use Rattle.execution.proofs.flow.jmp.Goals as goal

pub returns : goal.returns
unfolding jmp_of
returns c = gives_then _ c.readop_word-w.ensures (gives_done c.with_p.ensures)
