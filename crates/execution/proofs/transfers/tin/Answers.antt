use Rattle.pages.proofs.Does.{does_then, does_done, does_gives}
use Rattle.execution.specs.Instructions.{tin_of}
use Rattle.execution.proofs.transfers.tin.Goals as goal

pub returns : goal.returns
unfolding tin_of
returns c =
    does_then _ (does_gives c.view.ensures (rw c.from.ensures at c.read_byte-b.ensures))
    (does_then _ (rw c.from-2.ensures at c.write_byte.ensures)
    (does_done (rw (c.with_y.ensures, c.with_x.ensures))))
