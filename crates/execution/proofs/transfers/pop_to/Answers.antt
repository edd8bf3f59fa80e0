use Rattle.pages.proofs.Does.{gives_then, gives_done}
use Rattle.execution.specs.Instructions.{pop_to_of}
use Rattle.execution.proofs.transfers.pop_to.Goals as goal

pub returns : goal.returns
unfolding pop_to_of
returns c = gives_then _ c.pop_word-w.ensures (gives_done (rw (c.set_word.ensures, c.with_s.ensures)))
