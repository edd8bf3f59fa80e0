use Rattle.pages.specs.Stack.{push_of}
use Rattle.pages.proofs.Does.{does_then, does_done}
use Rattle.pages.proofs.push.Goals as goal

pub returns : goal.returns
unfolding push_of
returns c = does_then _ (rw c.from.ensures at c.write_byte.ensures) (does_done c.with_s.ensures)
