use Rattle.pages.proofs.Does.{gives_then, gives_done}
use Rattle.std.proofs.Common.{sym, ◌∙◌}
use Rattle.execution.specs.Instructions.{branch_of}
use Rattle.execution.proofs.flow.branch.Goals as goal

pub returns-then-holds : goal.returns-then-holds
unfolding branch_of
returns-then-holds c = gives_then _ c.cpu_readop-f.ensures (gives_done (rw (sym c.holds.ensures ∙ c.if-holds.true) c.branched.ensures))

pub returns-else-holds : goal.returns-else-holds
unfolding branch_of
returns-else-holds c = gives_then _ c.cpu_readop-f.ensures (gives_done (rw (sym c.holds.ensures ∙ c.if-holds.false) c.with_p.ensures))
