use Rattle.pages.proofs.Does.{does_then, does_done, does_gives}
use Rattle.execution.specs.Instructions.{store_of}
use Rattle.execution.proofs.operations.store.Goals as goal

pub returns : goal.returns
unfolding store_of
returns c =
    does_then _ (does_gives c.view.ensures c.locate-l.ensures)
    (does_then _ c.write_byte.ensures (does_done c.with_p.ensures))
