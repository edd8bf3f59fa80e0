use Rattle.pages.proofs.Does.{gives_then, gives_done}
use Rattle.execution.specs.Instructions.{lop_of}
use Rattle.execution.proofs.Order.{loop_end}
use Rattle.execution.proofs.flow.lop.Goals as goal

pub returns-then-l : goal.returns-then-l
unfolding lop_of
returns-then-l c =
    gives_then _ c.cpu_readop-f.ensures
    (gives_done (loop_end _ _ _ c.lop-l.ensures (rw (c.if-l.true, c.branched.ensures, c.with_u-counted.ensures))))

pub returns-else-l : goal.returns-else-l
unfolding lop_of
returns-else-l c =
    gives_then _ c.cpu_readop-f.ensures
    (gives_done (loop_end _ _ _ c.lop-l.ensures (rw (c.if-l.false, c.with_p.ensures, c.with_u-counted.ensures))))
