use Rattle.pages.specs.Stack.{pop_word_of}
use Rattle.pages.proofs.Does.{gives_then, gives_done}
use Rattle.pages.proofs.pop_word.Goals as goal

pub returns : goal.returns
unfolding pop_word_of
returns c =
    gives_then _ (rw c.from.ensures at c.read_byte-hi.ensures)
    (gives_then _ (rw c.from-2.ensures at c.read_byte-lo.ensures) (gives_done (rw c.word-w.ensures)))
