use Rattle.pages.specs.Stack.{pop_of}
use Rattle.pages.proofs.Does.{gives_then, gives_done}
use Rattle.pages.proofs.pop.Goals as goal

pub returns : goal.returns
unfolding pop_of
returns c = gives_then _ (rw c.from.ensures at c.read_byte-b.ensures) (gives_done (rw (c.lda.ensures, c.with_s.ensures)))
