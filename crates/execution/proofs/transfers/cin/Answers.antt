use Rattle.pages.proofs.Does.{gives_then, gives_done}
use Rattle.execution.specs.Instructions.{cin_of}
use Rattle.execution.proofs.transfers.cin.Goals as goal

pub returns : goal.returns
unfolding cin_of
returns c = gives_then _ (rw c.from.ensures at c.read_byte-b.ensures) (gives_done (rw (c.cpa.ensures, c.with_x.ensures)))
