use Rattle.pages.proofs.Does.{does_then, does_done, does_gives}
use Rattle.execution.specs.Instructions.{vector_of}
use Rattle.execution.proofs.flow.vector.Goals as goal

pub returns : goal.returns
unfolding vector_of
returns c =
    does_then _ c.push_word-pushed.ensures
    (does_then _ (does_gives c.view.ensures (rw c.from.ensures at c.get_mem16-at.ensures))
    (does_done (rw (c.add_state.ensures, c.with_t.ensures, c.with_p.ensures, c.set_flag-t.ensures))))
