use Rattle.pages.proofs.Does.{gives_then, gives_done}
use Rattle.execution.specs.Instructions.{rtn_of}
use Rattle.execution.proofs.flow.rtn.Goals as goal

pub returns : goal.returns
unfolding rtn_of
returns c = gives_then _ c.pop_word-w.ensures (gives_done (rw (c.with_s.ensures, c.with_p.ensures)))
