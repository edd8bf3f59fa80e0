use Rattle.pages.proofs.Does.{gives_then, gives_done}
use Rattle.execution.specs.Instructions.{compare_of}
use Rattle.execution.proofs.operations.compare.Goals as goal

pub returns : goal.returns
unfolding compare_of
returns c = gives_then _ c.cpu_readop-f.ensures (gives_done (rw (c.cpa.ensures, c.with_p.ensures, c.get_half-left.ensures)))
