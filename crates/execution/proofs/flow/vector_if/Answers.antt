use Rattle.pages.proofs.Does.{does_then, does_done, does_gives}
use Rattle.std.proofs.Common.{sym, ◌∙◌}
use Rattle.execution.specs.Instructions.{vector_if_of}
use Rattle.execution.proofs.flow.vector_if.Goals as goal

pub returns-then-holds : goal.returns-then-holds
unfolding vector_if_of
returns-then-holds c =
    does_then _ (does_gives c.view.ensures c.cpu_readop-f.ensures)
    (rw (sym c.holds.ensures ∙ c.if-holds.true)
    (rw c.with_p-next.ensures at c.vector.ensures))

pub returns-else-holds : goal.returns-else-holds
unfolding vector_if_of
returns-else-holds c =
    does_then _ (does_gives c.view.ensures c.cpu_readop-f.ensures)
    (rw (sym c.holds.ensures ∙ c.if-holds.false) (does_done c.with_p-next.ensures))
