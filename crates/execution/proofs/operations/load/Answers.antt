use Rattle.pages.proofs.Does.{gives_then, gives_done}
use Rattle.execution.specs.Instructions.{load_of}
use Rattle.execution.proofs.operations.load.Goals as goal

pub returns : goal.returns
unfolding load_of
returns c = gives_then _ c.cpu_readop-f.ensures (gives_done (rw (c.set_half.ensures, c.with_p.ensures)))
