use Rattle.pages.specs.Stack.{mem16_of}
use Rattle.pages.proofs.Does.{gives_then, gives_done}
use Rattle.pages.proofs.View.get_mem16.Goals as goal

pub returns : goal.returns
unfolding mem16_of
returns c =
    gives_then _ (rw c.from.ensures at c.read_byte-hi.ensures)
    (gives_then _ (rw c.from-2.ensures at c.read_byte-lo.ensures) (gives_done c.word.ensures))
