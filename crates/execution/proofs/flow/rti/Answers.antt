use Rattle.pages.proofs.Does.{gives_then, gives_done}
use Rattle.execution.specs.Instructions.{rti_of}
use Rattle.execution.proofs.flow.rti.Goals as goal

pub returns : goal.returns
unfolding rti_of
returns c =
    gives_then _ c.pop_word-w.ensures
    (gives_then _ (rw c.from.ensures at c.read_byte-t.ensures)
    (gives_done (rw (c.with_t.ensures, c.with_s.ensures, c.with_p.ensures))))
