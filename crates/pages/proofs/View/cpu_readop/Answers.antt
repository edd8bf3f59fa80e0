use Rattle.pages.specs.Stack.{readop_of}
use Rattle.pages.proofs.Does.{gives_then, gives_done}
use Rattle.std.proofs.Common.{refl}
use Rattle.pages.proofs.View.cpu_readop.Goals as goal

pub returns : goal.returns
unfolding readop_of
returns c = gives_then _ (rw c.from.ensures at c.read_byte-value.ensures) (gives_done refl)
