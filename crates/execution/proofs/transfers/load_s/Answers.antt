use Rattle.pages.proofs.Does.{gives_then, gives_done}
use Rattle.execution.specs.Instructions.{load_sOf}
use Rattle.execution.proofs.transfers.load_s.Goals as goal

pub returns : goal.returns
unfolding load_sOf
returns c = gives_then _ c.readop_word-w.ensures (gives_done (rw (c.with_p.ensures, c.with_s.ensures)))
