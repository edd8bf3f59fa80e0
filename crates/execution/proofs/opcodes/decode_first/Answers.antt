use Rattle.execution.specs.Opcodes.{decoded}
use Rattle.execution.proofs.opcodes.decode_first.Goals as goal

pub returns-in-8 : goal.returns-in-8
unfolding decoded
returns-in-8 c = rw (c.in-8.is, c.branches.ensures, c.listed.ensures, c.listed-in-8.ensures)

pub returns-in-9 : goal.returns-in-9
unfolding decoded
returns-in-9 c = rw (c.in-9.is, c.branches-in-9.ensures, c.listed-in-9.ensures)
